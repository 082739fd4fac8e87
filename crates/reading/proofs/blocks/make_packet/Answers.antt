use Rattle.std.proofs.Common.{◌≡◌, ℕ, ◌+◌, ◌++◌, ◌-◌, List, ◌∷◌, length, slice_range, arith, ap, subst, sym, refl, ◌∙◌}
use Rattle.std.proofs.lemmas.List.{nil_from_length}
use Rattle.std.proofs.lemmas.List.Sums.{sum_by-cons}
use Rattle.raw_block.specs.Views.{SoleState}
use Rattle.frags.specs.PieceList.{size_of}
use Rattle.skb.specs.SkbState.{SkbState, buffer_bytes, weighed_in}
use Rattle.reading.specs.Bodies.{IsPacketOf}
use Rattle.reading.specs.Data.{data_of}
use Rattle.reading.specs.Laid.{WholeFrom}
use Rattle.reading.proofs.Filling.{data_alone, data_behind}
use Rattle.reading.proofs.Laying.{of_new, weighed_none}
use Rattle.reading.proofs.blocks.make_packet.Goals as goal

pub returns-clause-made : goal.returns-clause-made
returns-clause-made c =
    let s = c.args.block in
    let ss : List SoleState = c.args.hold.now.items in
    let len = c.args.len in
    let k : ℕ = c.min-in_head.result in
    let rest = c.build_pieces-rest in
    let least = c.min-in_head.ensures in
    let same = c.new-skb.ensures.same in
    let from = ap (λ (x : SkbState). x.from) same in
    let to = ap (λ (x : SkbState). x.to) same in
    let size = ap (λ (x : SkbState). size_of x.rest) same in
    let none : length rest.new.hold.items ≡ 0 = omega (arith, rest.ensures.rest, rest.ensures.count, c.requires.count, c.requires.len, least) in
    record {
      one = (_, c.push_packet.ensures.items);
      room = c.push_packet.ensures.room;
      is = of_new c.args.packets.now c.push_packet.new.packets _ (IsPacketOf c.args.first len c.args.head.now (s ∷ ss)) c.push_packet.ensures.items (record {
        laid = record {
          head = (s, ap (λ (x : SkbState). x.head) same, c.requires.mark);
          rest = subst (WholeFrom (c.args.first + 1)) (sym (ap (λ (x : SkbState). x.rest) same)) rest.ensures.whole;
        };
        count = omega (arith, ap (λ (x : SkbState). length x.rest) same, rest.ensures.count, c.requires.len, least);
        named = λ h. omega (arith, ap (weighed_in h) same, rest.ensures.named h, weighed_none h rest.new.hold.items none, sum_by-cons (λ (x : SoleState). h x.block) s ss);
        read = record {
          size = c.push_packet.ensures.size;
          front = omega (arith, from, to, size, rest.ensures.size, least);
          short = omega (arith, c.push_packet.ensures.size, from, to, size, rest.ensures.size, least, c.requires.len);
          headroom = from;
          original = c.requires.original;
        };
        range = c.push_packet.ensures.range;
        bytes =
            ap buffer_bytes same
            ∙ ap (λ (z : List ℕ). slice_range s.bytes 64 (64 + k) ++ z) rest.ensures.bytes
            ∙ ap (λ (z : List ℕ). z ++ data_of 0 (len - k) ss) (sym (data_alone k s (omega (arith, least))))
            ∙ sym (data_behind len k s ss (omega (arith, least)));
        fields = (refl, refl, refl, refl);
      });
    }

pub returns-clause-none : goal.returns-clause-none
returns-clause-none c =
    let rest = c.build_pieces-rest in
    nil_from_length rest.new.hold.items (omega (arith, rest.ensures.rest, rest.ensures.count, c.requires.count, c.requires.len, c.min-in_head.ensures))
