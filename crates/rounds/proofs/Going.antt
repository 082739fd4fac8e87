-- Rounds that were handled, one after another.
use Rattle.std.proofs.Common.{◌≡◌, ◌∙◌, ◌⊎◌, ◌+◌, ◌-◌, ◌≤◌, ◌^◌, ℕ, min, List, [], ◌∷◌, ◌++◌, Option, None, Bool, inl, inr, refl, sym, ap, subst, length, arith}
use Rattle.block_pool.specs.PassState.{risen}
use Rattle.offload_model.specs.Written.{Options}
use Rattle.rounds.specs.declared.round_stages.RoundRead.{RoundRead}
use Rattle.rounds.specs.declared.spares.Spares.{Spares}
use Rattle.rounds.specs.Handled.{Went, Ends, FewPauses, GaveSpares, IsReadyAt, Rests, Stepped}
use Rattle.rounds.specs.Merging.{options_of}
use Rattle.rounds.specs.Reads.{Spot}
use Rattle.rounds.specs.RoundsState.{RoundsState}

module _ {T E : Type 0} (did : T → T → RoundRead → ℕ → Option E → Type 0) (stopped : E) where
  pub numbered : (old new : T) (read : RoundRead) (end : Option E) (j k : ℕ) → j ≡ k → did old new read j end → did old new read k end
  numbered old new read end j k e d = subst (λ (n : ℕ). did old new read n end) e d

  -- one more
  pub went_more : (k : ℕ) (old mid new : T) (xs : List RoundRead) (read : RoundRead) → Went did k old mid xs → did mid new read (k + length xs) None → Went did k old new (xs ++ read ∷ [])
  went_more k old mid new [] read went d = (new, subst (λ (a : T). did a new read k None) went (numbered mid new read None (k + 0) k (omega arith) d), refl)
  went_more k old mid new (x ∷ xs) read went d =
      (went.0, went.1, went_more (k + 1) went.0 mid new xs read went.2 (numbered mid new read None (k + length (x ∷ xs)) (k + 1 + length xs) (omega arith) d))

  stopped_at : (j k : ℕ) (old new : T) (ys : List RoundRead) (end : E) → j ≡ k → Ends did stopped j old new ys end → Ends did stopped k old new ys end
  stopped_at j k old new ys end e ends = subst (λ (n : ℕ). Ends did stopped n old new ys end) e ends

  -- and the end behind them
  pub went_ends : (k : ℕ) (old mid new : T) (xs ys : List RoundRead) (end : E) → Went did k old mid xs → Ends did stopped (k + length xs) mid new ys end → Ends did stopped k old new (xs ++ ys) end
  went_ends k old mid new [] ys end went ends = subst (λ (a : T). Ends did stopped k a new ys end) went (stopped_at (k + 0) k mid new ys end (omega arith) ends)
  went_ends k old mid new (x ∷ xs) ys end went ends =
      inl (went.0, went.1, went_ends (k + 1) went.0 mid new xs ys end went.2 (stopped_at (k + length (x ∷ xs)) (k + 1 + length xs) mid new ys end (omega arith) ends))

  -- stopped behind them
  pub went_stopped : (k : ℕ) (old new : T) (rs : List RoundRead) (end : E) → end ≡ stopped → Went did k old new rs → Ends did stopped k old new rs end
  went_stopped k old new [] end is went = (is, went)
  went_stopped k old new (x ∷ rs) end is went = inl (went.0, went.1, went_stopped (k + 1) went.0 new rs end is went.2)

-- ---- the same, of rounds with the same options

module _ {T E : Type 0} (did : Options → T → T → RoundRead → ℕ → Option E → Type 0) (stopped : E) (ready : Options → Bool → ℕ → T → Type 0) where
  pub ready_as : (o o' : Options) (keep keep' : Bool) (n : ℕ) (t : T) → o' ≡ o → keep' ≡ keep → ready o' keep' n t → ready o keep n t
  ready_as o o' keep keep' n t eo ek r = subst (λ (x : Options). ready x keep n t) eo (subst (λ (b : Bool). ready o' b n t) ek r)

  pub counted_as : (o o' : Options) (keep keep' : Bool) (most : ℕ) (t : T) → o' ≡ o → keep' ≡ keep → IsReadyAt (ready o' keep') most t → IsReadyAt (ready o keep) most t
  counted_as o o' keep keep' most t eo ek c = (c.0, c.1, ready_as o o' keep keep' c.0 t eo ek c.2)

  -- a step of rounds that are as they were at first
  pub stepped_as : (old now : RoundsState) (k : ℕ) (from to : Spot) (was is : T) (result : Option E) → (now.blocks ≡ old.blocks) × (options_of now ≡ options_of old) × (now.keep ≡ old.keep)
      → Stepped (did (options_of now)) (ready (options_of now) now.keep) now.blocks now.budget k from to was is result
      → Stepped (did (options_of old)) (ready (options_of old) old.keep) old.blocks old.budget k from to was is result
  stepped_as old now k from to was is result same s =
      subst (λ (x : Bool). Stepped (did (options_of old)) (ready (options_of old) x) old.blocks old.budget k from to was is result) same.2
      (subst (λ (x : ℕ). Stepped (did (options_of old)) (ready (options_of old) now.keep) old.blocks x k from to was is result) (ap (λ (o : Options). o.budget) same.1)
      (subst (λ (x : ℕ). Stepped (did (options_of old)) (ready (options_of old) now.keep) x now.budget k from to was is result) same.0
      (subst (λ (x : Options). Stepped (did x) (ready x now.keep) now.blocks now.budget k from to was is result) same.1 s)))

-- more takes that found nothing, and no pause more
pub few_later : (e p e' p' e'' p'' : ℕ) → FewPauses e p e' p' → e' ≤ e'' → p'' ≡ p' → FewPauses e p e'' p''
few_later e p e' p' e'' p'' few later same = (omega (arith, few.0, same), omega (arith, few.1, later, same))

-- one more pause at most, behind a take that found nothing
pub few_paused : (e p e' p' e'' p'' : ℕ) → FewPauses e p e' p' → e' ≤ e'' → p' ≤ p''
    → (p'' ≡ p') ⊎ ((p'' ≡ min (p' + 1) (2 ^ 64 - 1)) × (min (e' + 1) (2 ^ 64 - 1) ≤ e'')) → FewPauses e p e'' p''
few_paused e p e' p' e'' p'' few later least (inl same) = few_later e p e' p' e'' p'' few later same
few_paused e p e' p' e'' p'' few later least (inr rose) =
    (omega (arith, few.0, least), omega (arith, few.0, few.1, later, least, rose.0, rose.1))

-- both, one after the other
pub few_then : (e p e' p' e'' p'' : ℕ) → FewPauses e p e' p' → FewPauses e' p' e'' p'' → FewPauses e p e'' p''
few_then e p e' p' e'' p'' a b = (omega (arith, a.0, b.0), omega (arith, a.0, a.1, b.0, b.1))

-- none
pub few_none : (e p e' p' : ℕ) → e ≤ e' → p' ≡ p → FewPauses e p e' p'
few_none e p e' p' later same = (omega (arith, same), omega (arith, later, same))

-- spares that went back, over two steps, and over none
pub gave_then : (old now new : Spares) → GaveSpares old now → GaveSpares now new → GaveSpares old new
gave_then old now new a b = record { lent = omega (arith, a.lent, b.lent); gave = both a.gave b.gave; refused = omega (arith, a.refused, b.refused) }
  where
    both : (min (old.given + (now.lent - old.lent)) (2 ^ 64 - 1) ≤ now.given) ⊎ (risen old.refused ≤ now.refused)
        → (min (now.given + (new.lent - now.lent)) (2 ^ 64 - 1) ≤ new.given) ⊎ (risen now.refused ≤ new.refused)
        → (min (old.given + (new.lent - old.lent)) (2 ^ 64 - 1) ≤ new.given) ⊎ (risen old.refused ≤ new.refused)
    both (inl x) (inl y) = inl (omega (arith, a.lent, b.lent, x, y))
    both (inl x) (inr y) = inr (omega (arith, a.refused, y))
    both (inr x) y = inr (omega (arith, x, b.refused))

pub gave_none : (old new : Spares) → new ≡ old → GaveSpares old new
gave_none old new same = subst (GaveSpares old) (sym same) (record { lent = omega arith; gave = inl (omega arith); refused = omega arith })

pub rests_then : (old now new : RoundsState) (from at to : Spot) → Rests old now from at → Rests now new at to → Rests old new from to
rests_then old now new from at to a b = record {
  home = b.home;
  same = (b.same.0 ∙ a.same.0, b.same.1 ∙ a.same.1, b.same.2 ∙ a.same.2);
  least = omega (arith, a.least, b.least);
  pauses = few_then old.empties old.pauses now.empties now.pauses new.empties new.pauses a.pauses b.pauses;
  gives = gave_then old.spares now.spares new.spares a.gives b.gives;
  later = omega (arith, a.later, b.later);
}
