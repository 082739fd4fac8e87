use Rattle.std.proofs.Common.{◌≡◌, map, take}
use Rattle.std.specs.Prelude.{option_map}
use Rattle.taps.specs.Clones.{shown_packet}
use Rattle.taps.specs.Texts.{texts_of}
use Rattle.taps.proofs.task.read_texts.Given as goal

abbrev pub invariant-loop-clone : goal.invariant-loop-clone
invariant-loop-clone l = l.texts ≡ texts_of l.snap l.tap (map (shown_packet (option_map (λ p. p.now) l.filter)) (take l.clone-index l.clones))
