use Rattle.std.proofs.Common.{◌≡◌, ◌∙◌, sym, ap, subst}
use Rattle.gso_cutter.specs.Cutting.{IsLeft}
use Rattle.gso_cutter.specs.declared.cutter.Cutter.TheInside.{Inside}
use Rattle.gso_cutter.specs.declared.cutter.Work.TheVariants.{Whole, Merged}
use Rattle.gso_cutter.proofs.Turns.{in_turn, moved}
use Rattle.gso_cutter.proofs.Heads.{account_moved}
use Rattle.gso_cutter.proofs.cutter.Cutter.next.Goals.{in-Whole, in-Merged}
use Rattle.gso_cutter.proofs.cutter.Cutter.next.Goals as goal

pub returns-clause-next : goal.returns-clause-next
returns-clause-next c = λ frames l.
    elim c.match-self.branch [
      | in-Whole w ↦
          let e : Whole w.in-Whole.whole ≡ c.args.self.now = sym w.in-Whole.is ∙ c.self.view_is in
          moved frames _ _ _ _ c.args.spare _ _ e (ap (λ (z : Inside). z.work) (sym w.self-inside-is)) (sym w.result-is) (w.next.ensures.next frames (subst (IsLeft frames) (sym e) l))
      | in-Merged w ↦
          let e : Merged w.in-Merged.merged ≡ c.args.self.now = sym w.in-Merged.is ∙ c.self.view_is in
          moved frames _ _ _ _ c.args.spare _ _ e (ap (λ (z : Inside). z.work) (sym w.self-inside-is)) (sym w.result-is)
          (in_turn frames _ _ c.args.spare _ (subst (IsLeft frames) (sym e) l) w.next-in-Merged.ensures.next)
    ]

pub returns-clause-account : goal.returns-clause-account
returns-clause-account c =
    elim c.match-self.branch [
      | in-Whole w ↦
          let e : Whole w.in-Whole.whole ≡ c.args.self.now = sym w.in-Whole.is ∙ c.self.view_is in
          account_moved _ _ _ _ c.args.spare _ _ e (ap (λ (z : Inside). z.work) (sym w.self-inside-is)) (sym w.result-is) w.next.ensures.account
      | in-Merged w ↦
          let e : Merged w.in-Merged.merged ≡ c.args.self.now = sym w.in-Merged.is ∙ c.self.view_is in
          account_moved _ _ _ _ c.args.spare _ _ e (ap (λ (z : Inside). z.work) (sym w.self-inside-is)) (sym w.result-is) w.next-in-Merged.ensures.account
    ]
