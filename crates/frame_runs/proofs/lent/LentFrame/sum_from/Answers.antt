use Rattle.std.proofs.Common.{◌≡◌, ◌-◌, ◌∙◌, ℕ, List, [], length, take, drop, subst, arith, length-drop, le_of_eq}
use Rattle.std.proofs.lemmas.List.{take_all}
use Rattle.inet_sum.specs.Stands.{StandsFor}
use Rattle.frame_runs.specs.Frames.{AreBytes}
use Rattle.frame_runs.proofs.lent.LentFrame.sum_from.Goals as goal

pub returns-clause-sum : goal.returns-clause-sum
returns-clause-sum c =
    let f : List ℕ = c.args.self.now.bytes.now in
    let all : take (length f - c.args.at) (drop c.args.at f) ≡ drop c.args.at f = take_all (length f - c.args.at) (drop c.args.at f) (omega (arith, length-drop c.args.at f)) in
    subst (StandsFor c.add.new.self) (c.in_bytes-behind.ensures.same ∙ all) (c.add.ensures.sum [] c.new-sum.ensures.sum)

pub returns-clause-in_bytes : goal.returns-clause-in_bytes
returns-clause-in_bytes c =
    let bytes = c.args.self.now.bytes.now in
    let at = c.args.at in
    subst AreBytes (c.in_bytes-behind.ensures.same ∙ take_all (length bytes - at) (drop at bytes) (le_of_eq (length-drop at bytes))) c.in_bytes-behind.ensures.in_bytes
