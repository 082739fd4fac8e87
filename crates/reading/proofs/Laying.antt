-- Blocks in turn, and packets as they are laid in them.
use Rattle.std.proofs.Common.{◌≡◌, ℕ, zero, suc, ◌+◌, ◌-◌, ◌<◌, ◌≤◌, List, [], ◌∷◌, ◌++◌, ◌⊎◌, inl, inr, refl, sym, ap, ◌∙◌, subst, length, get_or, set, arith}
use Rattle.std.proofs.lemmas.List.{same_from_push}
use Rattle.std.proofs.lemmas.List.Sums.{sum_by_push, sum_by-set}
use Rattle.block_weight.specs.WeightRule.{full_weight}
use Rattle.raw_block.specs.Views.{SoleState}
use Rattle.block_pool.specs.PoolState.{weighed}
use Rattle.frags.specs.PieceList.{AreWhole}
use Rattle.frags.specs.declared.pieces.Piece.{Piece}
use Rattle.skb.specs.SkbState.{IsAlone, is_sole}
use Rattle.gro.specs.declared.slot.Slot.{Slot as Held}
use Rattle.gro.specs.Packets.{PacketsState}
use Rattle.gro.specs.Slots.{AreAlone, count_of, counts_of}
use Rattle.reading.specs.Laid.{IsLaid, LaidFrom, MarkedFrom, WholeFrom}
use Rattle.reading.specs.Reading.{OfNew}

pub marked_last : (k : ℕ) (xs : List SoleState) (s : SoleState) → MarkedFrom k xs → s.mark ≡ k + length xs → MarkedFrom k (xs ++ s ∷ [])
marked_last k [] s h e = (omega (arith, e), tt)
marked_last k (x ∷ xs) s h e = (h.0, marked_last (k + 1) xs s h.1 (omega (arith, e)))

pub weighed_last : (h : ℕ → ℕ) (xs : List SoleState) (s : SoleState) → weighed h (xs ++ s ∷ []) ≡ weighed h xs + h s.block
weighed_last h xs s = sum_by_push (λ (x : SoleState). h x.block) xs s

pub whole_last : (k : ℕ) (xs : List Piece) (p : Piece) → WholeFrom k xs → p.part.weight ≡ full_weight → p.part.mark ≡ k + length xs → WholeFrom k (xs ++ p ∷ [])
whole_last k [] p h w e = (w, omega (arith, e), tt)
whole_last k (x ∷ xs) p h w e = (h.0, h.1, whole_last (k + 1) xs p h.2 w (omega (arith, e)))

pub marked_at_start : (k j : ℕ) (xs : List SoleState) → j ≡ k → MarkedFrom k xs → MarkedFrom j xs
marked_at_start k j xs e h = subst (λ i. MarkedFrom i xs) (sym e) h

below_step : (m n : ℕ) → (m < n) ⊎ (n ≤ m) → (suc m < suc n) ⊎ (suc n ≤ suc m)
below_step m n (inl h) = inl (omega (arith, h))
below_step m n (inr h) = inr (omega (arith, h))

pub below_or : (m n : ℕ) → (m < n) ⊎ (n ≤ m)
below_or m zero = inr (omega arith)
below_or zero (suc n) = inl (omega arith)
below_or (suc m) (suc n) = below_step m n (below_or m n)

pub weighed_none : (h : ℕ → ℕ) (xs : List SoleState) → length xs ≡ 0 → weighed h xs ≡ 0
weighed_none h [] e = refl
weighed_none h (x ∷ xs) e = absurd (omega (arith, e))

-- a block that is read into has the name that it had
pub weighed_set : (h : ℕ → ℕ) (xs : List SoleState) (i : ℕ) (s d : SoleState) → i < length xs → s.block ≡ (get_or xs i d).block
    → weighed h (set xs i s) ≡ weighed h xs
weighed_set h xs i s d lt e = omega (arith, sum_by-set (λ (x : SoleState). h x.block) xs i s d lt, ap h e)

-- ---- nobody else holds a block of what is laid

pub whole_all : (k : ℕ) (ps : List Piece) → WholeFrom k ps → AreWhole ps
whole_all k [] h = tt
whole_all k (p ∷ ps) h = (h.0, whole_all (k + 1) ps h.2)

pub laid_alone : (k : ℕ) (p : Held) → IsLaid k p → IsAlone p.skb
laid_alone k p h = record { head = ap is_sole h.head.1; rest = whole_all (k + 1) p.skb.rest h.rest }

pub laid_all : (k : ℕ) (ps : List Held) → LaidFrom k ps → AreAlone ps
laid_all k [] h = tt
laid_all k (p ∷ ps) h = (laid_alone k p h.0, laid_all (k + count_of p) ps h.1)

-- ---- one packet more

pub laid_last : (k : ℕ) (ps : List Held) (p : Held) → LaidFrom k ps → IsLaid (k + counts_of ps) p → LaidFrom k (ps ++ p ∷ [])
laid_last k [] p h l = (subst (λ i. IsLaid i p) (omega arith) l, tt)
laid_last k (x ∷ xs) p h l = (h.0, laid_last (k + count_of x) xs p h.1 (subst (λ i. IsLaid i p) (omega arith) l))

-- where so many of the blocks in use are spares, a packet behind these is marked by the others
pub laid_at : (ps : List Held) (p : Held) (used spares mark : ℕ) → counts_of ps + spares ≡ used → mark ≡ used - spares → LaidFrom 0 ps → IsLaid mark p → LaidFrom 0 (ps ++ p ∷ [])
laid_at ps p used spares mark count is h l = laid_last 0 ps p h (subst (λ i. IsLaid i p) (omega (arith, count, is)) l)

-- ---- the packet that a list has more than before

pub of_new : (old new : PacketsState) (q : Held) (P : Held → Type 0) → new.items ≡ old.items ++ q ∷ [] → P q → OfNew old new P
of_new old new q P e h = λ p is. subst P (same_from_push old.items old.items q p (sym e ∙ is)).1 h
