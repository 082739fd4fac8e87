use Rattle.std.proofs.Common.{◌≤◌, ℕ, [], length, drop, ap, subst, arith, ◌∙◌}
use Rattle.frags.specs.declared.pieces.Piece.{Piece}
use Rattle.skb.specs.Checksum.{AreBytes}
use Rattle.gso.specs.Sums.{AreSumsOf}
use Rattle.skb.proofs.Summing.{all_behind}
use Rattle.gso.proofs.BufferSums.{parts_all, parts_front, parts_more, parts_few}
use Rattle.gso.proofs.judging.sums_of.Goals as goal

none : Piece
none = record { part = record { life = record { names = (0, 0); block = 0 }; weight = 0; bytes = []; mark = 0 }; from = 0; to = 0 }

pub loop-i-init : goal.loop-i-init
loop-i-init c =
    let front = all_behind c.head.result.now c.args.from ∙ ap (drop c.args.from) c.head.ensures.bytes in
    let sums = c.add.new.sums in
    record {
      end = omega (arith, c.count-n.ensures.value);
      summed = parts_front c.args.skb.now c.args.m c.args.from sums c.requires.inside
          (subst (AreSumsOf c.args.m sums) front (c.add.ensures.sums [] (c.new-sums.ensures.none c.args.m)))
          (subst AreBytes front c.add.ensures.in_bytes) c.add.ensures.room
          (omega (arith, c.add.ensures.len, c.new-sums.ensures.len, ap length front));
      within = omega arith;
    }

pub add-requires-in-loop-i-clause-few : goal.add-requires-in-loop-i-clause-few
add-requires-in-loop-i-clause-few c =
    parts_few c.args.skb.now c.args.m c.args.from c.loop-i.i none c.loop-i.sums c.slice.result.now (omega (arith, c.loop-i.invariant.end, c.loop-i-test.true)) c.loop-i.invariant.summed
    (c.slice.ensures.bytes none) (omega (arith, c.len.ensures.bytes, c.len.ensures.small))

pub loop-i-preserved : goal.loop-i-preserved
loop-i-preserved c =
    let i = c.loop-i.invariant in
    let a = c.add-in-loop-i in
    record {
      end = i.end;
      summed = parts_more c.args.skb.now c.args.m c.args.from c.loop-i.i none c.loop-i.sums c.slice.result.now (omega (arith, i.end, c.loop-i-test.true)) i.summed
          (c.slice.ensures.bytes none) a.new.sums
          (a.ensures.sums i.summed.done i.summed.known) a.ensures.in_bytes a.ensures.room a.ensures.len;
      within = omega (arith, c.loop-i-test.true);
    }

pub returns-clause-in_bytes : goal.returns-clause-in_bytes
returns-clause-in_bytes c =
    parts_all c.args.skb.now c.args.m c.args.from c.loop-i.i c.loop-i.sums c.loop-i.invariant.summed
    (subst (λ (n : ℕ). n ≤ c.loop-i.i) c.loop-i.invariant.end c.loop-i-test.false)
