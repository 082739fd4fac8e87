-- Pieces that weigh enough to be cut, and what cuts leave.
use Rattle.std.proofs.Common.{◌≡◌, ℕ, ◌+◌, ◌-◌, ◌<◌, ◌≤◌, List, [], ◌∷◌, Bool, false, refl, sym, ap, subst, inl, inr, arith}
use Rattle.std.specs.Prelude.{cond}
use Rattle.std.proofs.lemmas.Bool.{cond_both}
use borrow.Author.Tests.{ltb-true}
use lib.Dec.{ltb, eqb}
use Rattle.raw_block.specs.Views.{PartState}
use Rattle.frags.specs.Account.{Tests, counted}
use Rattle.frags.specs.Gifts.{gift, less, kept, back, cut_worn}
use Rattle.frags.specs.Holders.{AsPart}
use Rattle.frags.specs.PieceList.{pieces_held, least_weight, AllFit}
use Rattle.frags.specs.declared.pieces.Piece.{Piece}
use Rattle.frags.specs.declared.holder.Holder.{Holder}
use Rattle.frags.specs.declared.holder.Holder.TheVariants.{Sole, Part}
use Rattle.frags.proofs.PieceBytes.{count_within}
use Rattle.frags.proofs.Shares.{kept_given}
use Rattle.std.proofs.lemmas.List.{nil_from_length}
use Rattle.frags.proofs.Splits.{by_cut}
use Rattle.skb.specs.SkbState.{SkbState, head_size, head_least, head_worn, buffer_least, buffer_size, of_buffer}
use Rattle.skb.specs.Cut.{IsHeadCut, IsRestCut, cut_is_worn}
use Rattle.gso.proofs.Least.{elim_lt}
use Rattle.gso_cutter.specs.Opening.{Enough, OpensAccount}

pub enough_least : (ps : List Piece) → AllFit ps → 2048 ≤ least_weight ps → Enough ps
enough_least [] f h = tt
enough_least (p ∷ ps) f h = let a = f.0.0 in let b = f.0.1 in (omega arith, enough_least ps f.1 (omega arith))

-- what is left of a weight after a cut suffices
pub left_enough : (w n s : ℕ) → 1 ≤ n → n < s → s ≤ 2048 → s ≤ w → s - n ≤ w - gift w
left_enough w n s a b c d = omega arith

pub enough_back : (n : ℕ) (ps : List Piece) → AllFit ps → Enough ps → Enough (back n ps)
enough_back n [] f h = tt
enough_back n (p ∷ ps) f h =
    let a = f.0.0 in
    let b = f.0.1 in
    let e = h.0 in
    by_cut Enough p n (p ∷ ps) (record (kept p) { from = p.from + n } ∷ ps) (back (n - (p.to - p.from)) ps)
    (λ lt z. h)
    (λ lt z. (let k = left_enough p.part.weight n (p.to - p.from) (omega arith) lt (omega arith) e in omega arith, h.1))
    (λ le. enough_back (n - (p.to - p.from)) ps f.1 h.1)

-- no cut finds a part worn
pub never_worn : (n : ℕ) (ps : List Piece) → Enough ps → cut_worn n ps ≡ false
never_worn n [] h = refl
never_worn n (p ∷ ps) h =
    let e = h.0 in
    cond_both (ltb n (p.to - p.from)) (cond (eqb n 0) false (eqb p.part.weight 1)) (cut_worn (n - (p.to - p.from)) ps) (λ (z : Bool). z ≡ false)
    (λ l. let lt = ltb-true n (p.to - p.from) l in grind (arith, e, lt))
    (λ l. never_worn (n - (p.to - p.from)) ps h.1)

heavy_head : (h : Holder) → 2048 ≤ head_least h → head_worn h ≡ false
heavy_head (Sole s) k = refl
heavy_head (Part p) k = grind arith

pub buffer_not_worn : (n : ℕ) (s : SkbState) → 2048 ≤ buffer_least s → Enough s.rest → cut_is_worn n s ≡ false
buffer_not_worn n s h e =
    cond_both (ltb n (head_size s)) (head_worn s.head) (cut_worn (n - head_size s) s.rest) (λ (z : Bool). z ≡ false)
    (λ l. heavy_head s.head (omega arith))
    (λ l. never_worn (n - head_size s) s.rest e)

part_least : (h : Holder) (p : PartState) → AsPart h p → head_least h ≡ p.weight
part_least (Sole s) p e = sym e.0
part_least (Part r) p e = sym (ap (λ (z : PartState). z.weight) e)

module _ (s t : SkbState) (at : ℕ) (c : List Piece) (some : 1 ≤ at) (fits : AllFit c) (rest_fits : AllFit s.rest) (least : 2048 ≤ buffer_least s) where
  pub head_enough : IsHeadCut at s t c → Enough c
  head_enough k =
      let p : PartState = k.0 in
      let w : head_least s.head ≡ p.weight = part_least s.head p k.1.0 in
      let x : Piece = record { part = less p; from = s.from + at; to = s.to } in
      let f : AllFit (x ∷ s.rest) = subst AllFit k.1.2 fits in
      let a = f.0.0 in
      let b = f.0.1 in
      subst Enough (sym k.1.2) ((omega arith), enough_least s.rest rest_fits (omega arith))

  pub rest_enough : IsRestCut at s t c → Enough c
  rest_enough k = subst Enough (sym k.1) (enough_back (at - head_size s) s.rest rest_fits (enough_least s.rest rest_fits (omega arith)))

  pub opened_enough : (at < head_size s → IsHeadCut at s t c) → (head_size s ≤ at → IsRestCut at s t c) → Enough c
  opened_enough f g = elim_lt (Enough c) at (head_size s) (λ l. head_enough (f l)) (λ l. rest_enough (g l))

weights : (t : Tests) (m : ℕ) (p : PartState) → gift p.weight ≤ p.weight → counted t m p.life p.mark (p.weight - gift p.weight) + counted t m p.life p.mark (gift p.weight)
    ≡ counted t m p.life p.mark p.weight
weights t m p h = kept_given t m (record { part = p; from = 0; to = 0 }) h

pub open_nothing : (s : SkbState) (a : List Piece) → OpensAccount s a s a
open_nothing s a = (s.head, (inl refl, λ t m. (omega arith, omega arith)))

pub open_head : (s t : SkbState) (at : ℕ) (a c : List Piece) → a ≡ [] → 2048 ≤ buffer_least s → IsHeadCut at s t c → OpensAccount s a t c
open_head s t at a c none least k =
    let p : PartState = k.0 in
    let w : head_least s.head ≡ p.weight = part_least s.head p k.1.0 in (
      Part p,
      (
        inr k.1.0,
        λ l m.
            let g = weights l m p (omega arith) in
            let e = ap (λ (z : SkbState). (of_buffer z).held l m) k.1.1 in
            let h = ap (λ (z : SkbState). (of_buffer z).homes l.blocks m) k.1.1 in
            let f = ap (pieces_held l m) k.1.2 in
            let n = ap (pieces_held l m) none in
            (omega arith, omega arith),
      ),
    )

pub open_rest : (s t : SkbState) (at : ℕ) (a c : List Piece) → a ≡ [] → IsRestCut at s t c → ((l : Tests) (m : ℕ) → (of_buffer t).held l m + pieces_held l m c ≡ (of_buffer s).held l m)
    → OpensAccount s a t c
open_rest s t at a c none k sums = (
  s.head,
  (
    inl refl,
    λ l m.
        let g = sums l m in
        let h = ap (λ (z : SkbState). (of_buffer z).homes l.blocks m) k.0 in
        let n = ap (pieces_held l m) none in
        (omega arith, omega arith),
  ),
)

-- an opened buffer has no pieces
pub bare : (t : SkbState) (at : ℕ) → AllFit t.rest → buffer_size t ≡ at → at ≤ head_size t → t.rest ≡ []
bare t at f e h = nil_from_length t.rest (omega (arith, count_within t.rest f))

pub front_kept : (s t : SkbState) (at : ℕ) (c : List Piece) → at ≤ head_size s → (at < head_size s → IsHeadCut at s t c) → (head_size s ≤ at → IsRestCut at s t c) → at ≤ head_size t
front_kept s t at c k f g =
    elim_lt (at ≤ head_size t) at (head_size s)
    (λ l. let e = ap head_size (f l).1.1 in omega arith)
    (λ l. let e = ap head_size (g l).0 in omega arith)
