use Rattle.std.proofs.Common.{List, [], ◌∷◌, sym, subst, arith}
use Rattle.block_weight.specs.WeightRule.{full_weight}
use Rattle.pcap_io.specs.Capture.{Packet}
use Rattle.gro.specs.declared.slot.Slot.{Slot}
use Rattle.gro.specs.Slots.{WeighAtLeast}
use Rattle.gro.proofs.Lying.{lent_counts, lent_held, lent_shared, lent_weigh}
use Rattle.lanes.specs.Clones.{weight_after}
use Rattle.lanes.specs.Packets.{RiseFrom}
use Rattle.engine_tests.proofs.rounds_in_turn.working.packets.in_turn.Goals as goal

lighter : (ps : List Slot) → WeighAtLeast full_weight ps → WeighAtLeast (weight_after 1) ps
lighter [] h = tt
lighter (p ∷ ps) h = (omega (arith, h.0), lighter ps h.1)

pub returns-clause-held : goal.returns-clause-held
returns-clause-held g c = lent_held c.unshared-packets.result.items c.share_heads.new.self.items c.share_heads.ensures.lent c.unshared-packets.ensures.held

pub returns-clause-shared : goal.returns-clause-shared
returns-clause-shared g c = lent_shared c.unshared-packets.result.items c.share_heads.new.self.items c.share_heads.ensures.lent

pub returns-clause-whole : goal.returns-clause-whole
returns-clause-whole g c = lent_weigh c.unshared-packets.result.items c.share_heads.new.self.items c.share_heads.ensures.lent c.unshared-packets.ensures.alone

pub returns-clause-weighs : goal.returns-clause-weighs
returns-clause-weighs g c = lighter c.share_heads.new.self.items (lent_weigh c.unshared-packets.result.items c.share_heads.new.self.items c.share_heads.ensures.lent c.unshared-packets.ensures.alone)

pub returns-clause-rising : goal.returns-clause-rising
returns-clause-rising g c = subst (λ (z : List Packet). RiseFrom 0 z) (sym c.share_heads.ensures.packets) c.unshared-packets.ensures.rising

pub returns-clause-few : goal.returns-clause-few
returns-clause-few g c = omega (arith, lent_counts c.unshared-packets.result.items c.share_heads.new.self.items c.share_heads.ensures.lent, c.unshared-packets.ensures.few)
