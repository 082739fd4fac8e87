use Rattle.std.proofs.Common.{◌≡◌, ℕ, ◌+◌, ◌-◌, ◌++◌, List, [], ◌∷◌, length, min, slice_range, arith, ap, subst, sym, refl, ◌∙◌}
use Rattle.std.specs.List.{sum_by}
use Rattle.std.proofs.lemmas.List.Sums.{sum_by-cons}
use Rattle.raw_block.specs.Views.{SoleState}
use Rattle.frags.specs.PieceList.{bytes_of, size_of}
use Rattle.skb.specs.SkbState.{SkbState, buffer_bytes, weighed_in}
use Rattle.frags.specs.declared.pieces.Piece.{Piece}
use Rattle.reading.specs.Bodies.{IsPacketOf}
use Rattle.reading.specs.Laid.{WholeFrom}
use Rattle.reading.proofs.Laying.{of_new}
use Rattle.reading.proofs.blocks.make_short.Goals as goal

pub returns : goal.returns
returns c =
    let s = c.args.block in
    let len = c.args.len in
    let same = c.new-skb.ensures.same in
    let empty = c.new-none.ensures.empty in
    let none = ap (λ (x : SkbState). x.rest) same ∙ empty in
    let from = ap (λ (x : SkbState). x.from) same in
    let to = ap (λ (x : SkbState). x.to) same in
    let size = ap size_of none in
    let all : len ≡ min len (2048 - 64) = omega (arith, c.requires.short) in
    record {
      made = record {
        one = (_, c.push_packet.ensures.items);
        room = c.push_packet.ensures.room;
        is = of_new c.args.packets.now c.push_packet.new.packets _ (IsPacketOf s.mark len c.args.head.now (s ∷ [])) c.push_packet.ensures.items (record {
          laid = record {
            head = (s, ap (λ (x : SkbState). x.head) same, refl);
            rest = subst (WholeFrom (s.mark + 1)) (sym none) tt;
          };
          count = omega (arith, ap length none, c.requires.short);
          named = λ h.
              omega (arith, ap (weighed_in h) same, ap (sum_by (λ (p : Piece). h p.part.life.block)) empty, sum_by-cons (λ (x : SoleState). h x.block) s []);
          read = record {
            size = c.push_packet.ensures.size;
            front = omega (arith, from, to, size, c.requires.short);
            short = omega (arith, c.push_packet.ensures.size, from, to, size, c.requires.short);
            headroom = from;
            original = c.requires.original;
          };
          range = c.push_packet.ensures.range;
          bytes =
              ap buffer_bytes same
              ∙ ap (λ (ps : List Piece). slice_range s.bytes 64 (64 + len) ++ bytes_of ps) empty
              ∙ ap (λ (k : ℕ). slice_range s.bytes 64 (64 + k) ++ []) all;
          fields = (refl, refl, refl, refl);
        });
      };
    }
