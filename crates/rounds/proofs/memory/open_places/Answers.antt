use Rattle.std.proofs.Common.{◌+◌, ◌≤◌, ◌++◌, ℕ, zero, suc, List, [], ◌∷◌, length, length-append, refl, sym, ap, ◌∙◌, subst}
use Rattle.rounds.specs.Table.{AllOpen}
use Rattle.rounds.specs.declared.mark_table.MarkState.{MarkState}
use Rattle.rounds.specs.declared.mark_table.MarkState.TheVariants.{Open}
use Rattle.rounds.proofs.memory.open_places.Goals as goal

open_last : (xs : List MarkState) → AllOpen xs → AllOpen (xs ++ Open ∷ [])
open_last [] h zero = refl
open_last [] h (suc m) = refl
open_last (x ∷ xs) h zero = h zero
open_last (x ∷ xs) h (suc m) = open_last xs (λ n. h (suc n)) m

pub loop-preserved : goal.loop-preserved
loop-preserved c =
    let l = c.loop in
    let p = c.push_reserved in
    record {
      open_all = subst AllOpen (sym p.ensures.items) (open_last l.places.items l.invariant.open_all);
      filled = ap length p.ensures.items ∙ length-append l.places.items (Open ∷ []) ∙ ap (λ (n : ℕ). n + 1) l.invariant.filled;
      room = subst (λ (n : ℕ). c.args.n ≤ n) (sym p.ensures.capacity) l.invariant.room;
    }
