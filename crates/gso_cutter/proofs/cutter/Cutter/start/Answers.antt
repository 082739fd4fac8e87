use Rattle.std.proofs.Common.{◌≡◌, ◌∙◌, ◌-◌, ℕ, List, [], ◌∷◌, refl, sym, ap, subst, arith, add-zero}
use Rattle.frags.specs.Account.{both}
use Rattle.frags.specs.PieceList.{of_pieces}
use Rattle.skb.specs.SkbState.{SkbState, buffer_bytes, of_buffer}
use Rattle.gso_cutter.specs.Merged.{MergedState}
use Rattle.gso_cutter.specs.Whole.{WholeState}
use Rattle.gso_cutter.specs.Cutting.{IsLeft, of_work, of_merged, segments_from}
use Rattle.gso_cutter.specs.declared.cutter.Work.TheVariants.{Whole}
use Rattle.gso_cutter.proofs.Turns.{frames_are, started}
use Rattle.gso_cutter.proofs.cutter.Cutter.start.Goals.{in-Nothing, in-Single, in-Segments}
use Rattle.gso_cutter.proofs.cutter.Cutter.start.Goals as goal

none_beside : (skb : SkbState) → both (of_buffer skb) (of_pieces []) ≡ of_buffer skb
none_beside skb = simp add-zero

pub returns-clause-account : goal.returns-clause-account
returns-clause-account c = elim c.match-plan.branch [
  | in-Nothing w ↦ ap of_work w.work-is ∙ ap (λ (z : WholeState). of_buffer z.skb) w.new.ensures.same
  | in-Single w ↦ ap of_work w.work-is ∙ ap (λ (z : WholeState). of_buffer z.skb) w.new-in-Single.ensures.same
  | in-Segments w ↦ ap of_work w.work-is ∙ ap of_merged w.new-in-Segments.ensures.same ∙ none_beside c.args.skb
]

pub returns-clause-left : goal.returns-clause-left
returns-clause-left c = λ p e.
    elim c.match-plan.branch [
      | in-Nothing w ↦
          started c.args.plan _ p c.match-plan.work _ w.in-Nothing.is (sym w.work-is)
          (subst (λ (z : WholeState). IsLeft [] (Whole z)) (sym w.new.ensures.same) refl)
      | in-Single w ↦
          started c.args.plan _ p c.match-plan.work _ w.in-Single.is (sym w.work-is)
          (subst (λ (z : WholeState). IsLeft (p.frame ∷ []) (Whole z)) (sym w.new-in-Single.ensures.same) (ap (λ (z : List ℕ). z ∷ []) e))
      | in-Segments w ↦
          let cut = w.in-Segments.cut in
          let f : List ℕ = buffer_bytes c.args.skb in
          let all : cut.n - 0 ≡ cut.n = omega arith in
          started c.args.plan _ p c.match-plan.work _ w.in-Segments.is (sym w.work-is) (
            f,
            w.new-in-Segments.ensures.at,
            frames_are cut p ∙ ap (λ (z : List ℕ). segments_from cut z 0 cut.n) e ∙ ap (segments_from cut f 0) (sym all)
                ∙ ap (λ (z : MergedState). segments_from z.cut f z.i (z.cut.n - z.i)) (sym w.new-in-Segments.ensures.same),
          )
    ]
