use Rattle.std.proofs.Common.{slice_set, Some, ◌≡◌, ◌-◌, List, [], ◌∷◌, ℕ, length, ap, sym, subst, refl, arith}
use mathlib.Core.Option.{some}
use lib.ListN.{get_elem?}
use Rattle.errands.specs.Answers.{Answers, IsAnswer, Places}
use Rattle.errands.specs.Passes.{AskerState}
use Rattle.errands.proofs.Answering.{not_before, places_set, missing_set}
use Rattle.errands.proofs.serving.accept.Goals as goal

-- an answer to the task that is noted
answers_to : {T D : Type 0} (did : T → D → Type 0) (log : List T) (n : ℕ) (task : List T) (d : D) → IsAnswer did task d → ((x : T) → task ≡ x ∷ [] → get_elem? log n ≡ some x) → length task ≡ 1
    → Answers did log n d
answers_to did log n [] d a at size = absurd a
answers_to did log n (x ∷ []) d a at size = (x, at x refl, a)
answers_to did log n (x ∷ y ∷ ys) d a at size = absurd (omega (arith, size))

pub returns-clause-places : goal.returns-clause-places
returns-clause-places g c =
    let e = c.redeem-number.ensures in
    let le = not_before c.args.first c.redeem-number.result c.args.asker.now.back c.requires.before e.first in
    let a = answers_to g.J.Job.did c.args.asker.now.log c.redeem-number.result c.reply.inside.note.task c.reply.inside.done c.reply.invariant.1 e.task e.one in
    let back = ap (λ (s : AskerState g.row.T.Denot). s.back) e.back in
    subst (λ (b : List ℕ). Places g.J.Job.did c.args.asker.now.log b c.args.first (slice_set c.args.places.now.items (c.redeem-number.result - c.args.first) (Some c.reply.inside.done))) (sym back)
    (places_set g.J.Job.did c.args.asker.now.log c.args.asker.now.back c.args.first (c.redeem-number.result - c.args.first) c.redeem-number.result c.args.places.now.items c.reply.inside.done
    (omega (arith, le)) (omega (arith, le, e.below, c.requires.size)) a c.requires.places)

pub returns-clause-fewer : goal.returns-clause-fewer
returns-clause-fewer g c =
    let e = c.redeem-number.ensures in
    let le = not_before c.args.first c.redeem-number.result c.args.asker.now.back c.requires.before e.first in
    missing_set g.J.Job.did c.args.asker.now.log c.args.asker.now.back c.args.first (c.redeem-number.result - c.args.first) c.redeem-number.result c.args.places.now.items c.reply.inside.done
    (omega (arith, le)) (omega (arith, le, e.below, c.requires.size)) e.first c.requires.places
