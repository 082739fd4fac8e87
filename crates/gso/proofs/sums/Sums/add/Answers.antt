use Rattle.std.proofs.Common.{◌≡◌, ◌+◌, ◌-◌, ◌++◌, ℕ, List, take, drop, sym, ap, subst, arith, ◌∙◌, append_assoc}
use Rattle.std.proofs.Math.Seq.{take-add}
use Rattle.gso.specs.Sums.{AreSumsOf}
use Rattle.gso.proofs.sums.Sums.add.Goals as goal

pub loop-at-preserved : goal.loop-at-preserved
loop-at-preserved c =
    let i = c.loop-at.invariant in
    let b : List ℕ = c.args.bytes.now in
    let at : ℕ = c.loop-at.at in
    let n : ℕ = c.min-n.result in
    let k : (at + n) - at ≡ n = omega arith in
    record {
      within = omega (arith, c.min-n.ensures, i.within);
      room = c.take_in.ensures.room;
      len = omega (arith, i.len, c.take_in.ensures.len, c.min-n.ensures, i.within);
      sums = λ f h. subst (AreSumsOf c.args.m c.take_in.new.self)
          (append_assoc f (take at b) (take ((at + n) - at) (drop at b)) ∙ ap (λ (z : ℕ). f ++ (take at b ++ take z (drop at b))) k ∙ ap (λ (z : List ℕ). f ++ z) (sym (take-add at n b)))
          (c.take_in.ensures.sums (f ++ take at b) (i.sums f h));
    }
