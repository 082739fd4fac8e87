use Rattle.std.proofs.Common.{◌-◌, [], ◌∷◌, map, ap, sym, subst, ◌∙◌, arith}
use Rattle.std.proofs.lemmas.List.{reverse-append}
use Rattle.std.specs.Prelude.{reverse}
use Rattle.gro.specs.Slots.{packet_of, counts_of, AreAlone, AreHeld, WeighAtLeast}
use Rattle.lanes.specs.Clones.{weight_after}
use Rattle.lanes.specs.Packets.{RiseFrom}
use Rattle.engine_tests.proofs.rounds_in_turn.working.packets.unshared.Goals as goal

pub loop-number-preserved : goal.loop-number-preserved
loop-number-preserved g c =
    let l = c.loop-number in
    let i = l.invariant in
    let p = c.packet.result in
    let e = c.packet.ensures in
    let more = ap reverse c.push.ensures.items ∙ reverse-append l.packets.items (p ∷ []) in
    record {
      held = subst AreHeld (sym more) (e.held, i.held);
      alone = subst AreAlone (sym more) (e.alone, i.alone);
      weighs = subst (WeighAtLeast (weight_after 1)) (sym more) (e.weighs, i.weighs);
      rising = subst (λ z. RiseFrom (l.number - 1) (map packet_of z)) (sym more) (omega (arith, e.number), subst (λ z. RiseFrom z (map packet_of (reverse l.packets.items))) (omega (arith, e.number, c.loop-number-test.true)) i.rising);
      few = omega (arith, ap counts_of more, e.count, i.few, c.loop-number-test.true);
      most = omega (arith, i.most);
      room = omega (arith, c.push.ensures.room, i.room, c.loop-number-test.true);
    }
