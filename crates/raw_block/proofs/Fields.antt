-- The data fields of the structs that own by their address: one, or none. Assumes `Logic`.
use Rattle.std.proofs.Common.{◌≡◌, ℕ, T, List, [], ◌∷◌, ◌++◌, refl, ap, ◌∙◌, lit<}
use Rattle.raw_block.proofs.Walking.{Ura, ty_struct, tcons, tnil, Val, vstruct, vcons, vnil, of_list, has_ty, WT, bare}
use Rattle.raw_block.proofs.Walking.{ent, emp, via, never, never_e, fst∗, Lft, fact, fact_i, Logic, sem, RattleType, Is}
use Rattle.raw_block.proofs.Walking.{lone, Ptr, InBlock, block_ptr}
use Rattle.raw_block.proofs.Walking.{null_ptr, ptr_val, RawPtr-copy, Struct, shape}
use mir.Syntax.{ty_ptr}
use denote.Opens.{Opens}
use denote.Copied.{Struct-Copied}
use denote.Shadow.{makes_shadow}
use Rattle.raw_block.specs.Views.{Life}
use Rattle.raw_block.specs.Shares.{share_owns, share_shares, released_owns, claimed_owns}
use Rattle.raw_block.specs.Heap.{may_free, heap_owns}
use Rattle.raw_block.specs.contracts.heap.OnHeap as on_heap
use Rattle.raw_block.specs.contracts.held.AfterRelease as after_release
use Rattle.raw_block.specs.contracts.held.AfterClaim as after_claim
use Rattle.raw_block.specs.contracts.held.GivenBack as given_back
use Rattle.raw_block.specs.contracts.held.WordSeen as word_seen
use Rattle.raw_block.specs.contracts.held.Share as share
use Rattle.raw_block.specs.contracts.name.Name as name

abbrev pub alone : Ptr → Val
alone p = vstruct (vcons (ptr_val p) vnil)

pub typed : (p : Ptr) → InBlock p → T (has_ty (ty_struct [] (tcons ty_ptr tnil)) (alone p)) × WT (alone p)
typed (block_ptr b o) i = (tt, (tt, tt))
typed null_ptr i = absurd i

module _ (R : RattleType) where
  abbrev pub Words : RattleType
  Words = Struct (shape (share.the_type R))

  pub told : (p : Ptr) (vs : List Val) → Is Words (p, tt) vs → vs ≡ alone p ∷ []
  told p vs is = is.1.0 ∙ ap (λ (ws : List Val). vstruct (of_list (ws ++ [])) ∷ []) is.1.1.0

  pub made : {M : Type 1} {𝓤 : Ura M} (𝓛 : Logic 𝓤) (p : Ptr) → ent 𝓤 (emp 𝓤) (sem 𝓛 (Words.own_val (p, tt) (alone p ∷ [])))
  made 𝓛 p = makes_shadow 𝓛 (Words.own_val (p, tt) (alone p ∷ [])) (λ vss. (tt, (tt, tt))) ((ptr_val p ∷ [], tt), (refl, (refl, tt)))

  pub opened : {M : Type 1} {𝓤 : Ura M} (𝓛 : Logic 𝓤) → Opens 𝓛 Words
  opened {M} {𝓤 = 𝓤} 𝓛 = (Struct-Copied 𝓛 (shape (share.the_type R)) (refl, tt) (RawPtr-copy.copied M 𝓤 𝓛, tt)).opens

-- the same of a value on the heap
module _ (R : RattleType) where
  abbrev pub Heap_words : RattleType
  Heap_words = Struct (shape (on_heap.the_type R))

  pub heap_told : (p : Ptr) (vs : List Val) → Is Heap_words (p, tt) vs → vs ≡ alone p ∷ []
  heap_told p vs is = is.1.0 ∙ ap (λ (ws : List Val). vstruct (of_list (ws ++ [])) ∷ []) is.1.1.0

  pub heap_made : {M : Type 1} {𝓤 : Ura M} (𝓛 : Logic 𝓤) (p : Ptr) → ent 𝓤 (emp 𝓤) (sem 𝓛 (Heap_words.own_val (p, tt) (alone p ∷ [])))
  heap_made 𝓛 p = makes_shadow 𝓛 (Heap_words.own_val (p, tt) (alone p ∷ [])) (λ vss. (tt, (tt, tt)))
      ((ptr_val p ∷ [], tt), (refl, (refl, tt)))

module _ {M : Type 1} {𝓤 : Ura M} (𝓛 : Logic 𝓤) (R : RattleType) where
  pub heap_placed : (p : Ptr) (x : R.Denot) → ent 𝓤 (sem 𝓛 (heap_owns R p x)) (fact 𝓤 (InBlock p))
  heap_placed (block_ptr b o) x = fact_i 𝓤 (Unit {0}) _ tt
  heap_placed null_ptr x = via 𝓤 (never 𝓤) (fst∗ 𝓤 (never 𝓤) (sem 𝓛 (may_free (bare (lone R.mir)) null_ptr))) (never_e 𝓤 _)

  pub owns_placed : (p : Ptr) (γ : Life) (x : R.Denot) (mark w : ℕ) → ent 𝓤 (sem 𝓛 (share_owns R p γ x mark w)) (fact 𝓤 (InBlock p))
  owns_placed (block_ptr b o) γ x mark w = fact_i 𝓤 (Unit {0}) _ tt
  owns_placed null_ptr γ x mark w = never_e 𝓤 _

  pub sees : (p : Ptr) (x : R.Denot) (κ : Lft) → ent 𝓤 (sem 𝓛 (share_shares R p x κ)) (fact 𝓤 (InBlock p))
  sees (block_ptr b o) x κ = fact_i 𝓤 (Unit {0}) _ tt
  sees null_ptr x κ = never_e 𝓤 _

-- the same of what a step left
module _ (R : RattleType) where
  abbrev pub Released_words : RattleType
  Released_words = Struct (shape (after_release.the_type R))

  abbrev pub Claimed_words : RattleType
  Claimed_words = Struct (shape (after_claim.the_type R))

  pub released_told : (p : Ptr) (vs : List Val) → Is Released_words (p, tt) vs → vs ≡ alone p ∷ []
  released_told p vs is = is.1.0 ∙ ap (λ (ws : List Val). vstruct (of_list (ws ++ [])) ∷ []) is.1.1.0

  pub claimed_told : (p : Ptr) (vs : List Val) → Is Claimed_words (p, tt) vs → vs ≡ alone p ∷ []
  claimed_told p vs is = is.1.0 ∙ ap (λ (ws : List Val). vstruct (of_list (ws ++ [])) ∷ []) is.1.1.0

  pub released_made : {M : Type 1} {𝓤 : Ura M} (𝓛 : Logic 𝓤) (p : Ptr)
      → ent 𝓤 (emp 𝓤) (sem 𝓛 (Released_words.own_val (p, tt) (alone p ∷ [])))
  released_made 𝓛 p = makes_shadow 𝓛 (Released_words.own_val (p, tt) (alone p ∷ [])) (λ vss. (tt, (tt, tt)))
      ((ptr_val p ∷ [], tt), (refl, (refl, tt)))

  pub claimed_made : {M : Type 1} {𝓤 : Ura M} (𝓛 : Logic 𝓤) (p : Ptr) → ent 𝓤 (emp 𝓤) (sem 𝓛 (Claimed_words.own_val (p, tt) (alone p ∷ [])))
  claimed_made 𝓛 p = makes_shadow 𝓛 (Claimed_words.own_val (p, tt) (alone p ∷ [])) (λ vss. (tt, (tt, tt)))
      ((ptr_val p ∷ [], tt), (refl, (refl, tt)))

module _ {M : Type 1} {𝓤 : Ura M} (𝓛 : Logic 𝓤) (R : RattleType) where
  pub released_placed : (p : Ptr) (γ : Life) (x : R.Denot) (mark w n : ℕ)
      → ent 𝓤 (sem 𝓛 (released_owns R p γ x mark w n)) (fact 𝓤 (InBlock p))
  released_placed (block_ptr b o) γ x mark w n = fact_i 𝓤 (Unit {0}) _ tt
  released_placed null_ptr γ x mark w n = never_e 𝓤 _

  pub claimed_placed : (p : Ptr) (γ : Life) (x : R.Denot) (mark w n : ℕ)
      → ent 𝓤 (sem 𝓛 (claimed_owns R p γ x mark w n)) (fact 𝓤 (InBlock p))
  claimed_placed (block_ptr b o) γ x mark w n = fact_i 𝓤 (Unit {0}) _ tt
  claimed_placed null_ptr γ x mark w n = never_e 𝓤 _

pub typed_any : (p : Ptr) → T (has_ty (ty_struct [] (tcons ty_ptr tnil)) (alone p)) × WT (alone p)
typed_any (block_ptr b o) = (tt, (tt, tt))
typed_any null_ptr = (tt, (record { fits = lit< tt }, tt))

-- what was given back has no data
abbrev pub none : Val
none = vstruct vnil

pub given_back_told : (vs : List Val) → Is (Struct (shape given_back.the_type)) tt vs → vs ≡ none ∷ []
given_back_told vs is = is.1.0

pub given_back_made : {M : Type 1} {𝓤 : Ura M} (𝓛 : Logic 𝓤) → ent 𝓤 (emp 𝓤)
    (sem 𝓛 ((Struct (shape given_back.the_type)).own_val tt (none ∷ [])))
given_back_made 𝓛 = makes_shadow 𝓛 ((Struct (shape given_back.the_type)).own_val tt (none ∷ [])) (λ vss. (tt, tt)) (tt, (refl, tt))

pub word_seen_made : {M : Type 1} {𝓤 : Ura M} (𝓛 : Logic 𝓤) → ent 𝓤 (emp 𝓤)
    (sem 𝓛 ((Struct (shape word_seen.the_type)).own_val tt (none ∷ [])))
word_seen_made 𝓛 = makes_shadow 𝓛 ((Struct (shape word_seen.the_type)).own_val tt (none ∷ [])) (λ vss. (tt, tt)) (tt, (refl, tt))

pub name_made : {M : Type 1} {𝓤 : Ura M} (𝓛 : Logic 𝓤) → ent 𝓤 (emp 𝓤) (sem 𝓛 ((Struct (shape name.the_type)).own_val tt (none ∷ [])))
name_made 𝓛 = makes_shadow 𝓛 ((Struct (shape name.the_type)).own_val tt (none ∷ [])) (λ vss. (tt, tt)) (tt, (refl, tt))

pub name_told : (vs : List Val) → Is (Struct (shape name.the_type)) tt vs → vs ≡ none ∷ []
name_told vs is = is.1.0
