-- The data field of a struct that owns by its address. Assumes `Logic`.
use Rattle.std.proofs.Common.{◌≡◌, T, List, [], ◌∷◌, ◌++◌, refl, ap, ◌∙◌}
use seplogic.Ra.Ura.{Ura}
use mir.Syntax.{ty_ptr, ty_struct, tcons, tnil}
use mir.Val.{Val, vstruct, vcons, vnil, of_list, has_ty, WT}
use mir.Raw.{raw as bare}
use base.Logic.{ent, emp, via, never, never_e, fst∗}
use contract.Monad.{fact, fact_i}
use types.Logic.{Logic, sem}
use denote.RattleType.{RattleType}
use denote.Laws.{Is}
use denote.Memory.{lone}
use denote.RawPtr.{Ptr, InBlock, block_ptr, null_ptr, ptr_val}
use denote.Shadow.{makes_shadow}
use denote.Struct.Struct.{Struct}
use denote.Struct.Owning.{shape}
use Rattle.on_heap.specs.Heap.{may_free, heap_owns}
use Rattle.on_heap.specs.contracts.heap.OnHeap as on_heap

abbrev pub alone : Ptr → Val
alone p = vstruct (vcons (ptr_val p) vnil)

pub typed : (p : Ptr) → InBlock p → T (has_ty (ty_struct [] (tcons ty_ptr tnil)) (alone p)) × WT (alone p)
typed (block_ptr b o) i = (tt, (tt, tt))
typed null_ptr i = absurd i

-- the same of a value on the heap
module _ (R : RattleType) where
  abbrev pub Heap_words : RattleType
  Heap_words = Struct (shape (on_heap.the_type R))

  pub heap_told : (p : Ptr) (vs : List Val) → Is Heap_words (p, tt) vs → vs ≡ alone p ∷ []
  heap_told p vs is = is.1.0 ∙ ap (λ (ws : List Val). vstruct (of_list (ws ++ [])) ∷ []) is.1.1.0

  pub heap_made : {M : Type 1} {𝓤 : Ura M} (𝓛 : Logic 𝓤) (p : Ptr) → ent 𝓤 (emp 𝓤) (sem 𝓛 (Heap_words.own_val (p, tt) (alone p ∷ [])))
  heap_made 𝓛 p = makes_shadow 𝓛 (Heap_words.own_val (p, tt) (alone p ∷ [])) (λ vss. (tt, (tt, tt))) ((ptr_val p ∷ [], tt), (refl, (refl, tt)))

module _ {M : Type 1} {𝓤 : Ura M} (𝓛 : Logic 𝓤) (R : RattleType) where
  pub heap_placed : (p : Ptr) (x : R.Denot) → ent 𝓤 (sem 𝓛 (heap_owns R p x)) (fact 𝓤 (InBlock p))
  heap_placed (block_ptr b o) x = fact_i 𝓤 (Unit {0}) _ tt
  heap_placed null_ptr x = via 𝓤 (never 𝓤) (fst∗ 𝓤 (never 𝓤) (sem 𝓛 (may_free (bare (lone R.mir)) null_ptr))) (never_e 𝓤 _)
