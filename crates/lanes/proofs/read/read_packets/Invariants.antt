use Rattle.std.proofs.Common.{◌≡◌, map, take}
use Rattle.std.specs.Prelude.{option_map}
use Rattle.taps.specs.Texts.{texts_of}
use Rattle.lanes.specs.Taps.{shown_slot}
use Rattle.lanes.proofs.read.read_packets.Given as goal

abbrev pub invariant-loop-slot : goal.invariant-loop-slot
invariant-loop-slot l = l.texts ≡ texts_of l.snap l.tap (map (shown_slot (option_map (λ p. p.now) l.filter)) (take l.slot-index l.packets))
