use Rattle.std.proofs.Common.{ℕ, List, drop}
use Rattle.gso.specs.Sums.{AreSumsOf}
use Rattle.gso.proofs.Chunks.{IsJoining}
use Rattle.gso.proofs.sums.Sums.whole.Given as goal

abbrev pub invariant-loop-part : goal.invariant-loop-part
invariant-loop-part l = (f : List ℕ) → AreSumsOf l.m l.self f → IsJoining l.m (drop l.part-index l.self.parts.items) l.self.rest l.all f
