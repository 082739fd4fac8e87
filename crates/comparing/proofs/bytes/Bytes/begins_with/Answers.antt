use Rattle.std.proofs.Common.{◌≡◌, ◌∙◌, ◌-◌, ◌≤◌, ◌++◌, ℕ, List, length, take, drop, ap, length-drop, arith, refl}
use Rattle.std.proofs.lemmas.List.{take_all}
use Rattle.comparing.proofs.Passing.{passed_more, not_begun, all_begun}
use Rattle.std.proofs.lemmas.Bool.{false≢true}
use Rattle.comparing.proofs.bytes.Bytes.begins_with.Goals as goal

pub loop-at-preserved : goal.loop-at-preserved
loop-at-preserved c =
    let l = c.loop-at in
    let bytes = c.args.bytes.now in
    let n = c.pass-n.result in
    let some : 1 ≤ n = omega arith in
    let slice : take (length bytes - l.at) (drop l.at bytes) ≡ drop l.at bytes = take_all (length bytes - l.at) (drop l.at bytes) (omega (arith, length-drop l.at bytes)) in
    record {
      within = omega (arith, l.invariant.within, c.pass-n.ensures.most, ap length slice, length-drop l.at bytes);
      passed = passed_more l.at n bytes c.args.self.now l.self c.pass-n.new.self l.invariant.passed (c.pass-n.ensures.passed some ∙ ap (λ (z : List ℕ). take n z ++ c.pass-n.new.self) slice);
    }

pub returns-then-n-eq0-clause-same : goal.returns-then-n-eq0-clause-same
returns-then-n-eq0-clause-same c =
    let l = c.loop-at in (
      λ e. absurd (false≢true e),
      λ e. absurd (not_begun l.at c.args.bytes.now c.args.self.now l.self c.loop-at-test.true l.invariant.passed (c.pass-n.ensures.other c.if-n-eq0.true) e),
    )

pub returns-clause-same : goal.returns-clause-same
returns-clause-same c = (
  λ e. all_begun c.loop-at.at c.args.bytes.now c.args.self.now c.loop-at.self c.loop-at-test.false c.loop-at.invariant.passed,
  λ e. refl,
)
