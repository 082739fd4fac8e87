-- Lists of pieces put together, and what a release leaves.
use Rattle.std.proofs.Common.{◌≡◌, ℕ, Bool, ◌+◌, ◌-◌, ◌*◌, ◌<◌, ◌≤◌, List, [], ◌∷◌, ◌++◌, length, refl, ap, sym, subst}
use Rattle.std.proofs.Common.{append_assoc, ◌∙◌, zero, suc, get_or, arith}
use Rattle.std.proofs.lemmas.Bool.{cond_both}
use borrow.Author.Tests.{ltb-false}
use lib.Dec.{ltb}
use Rattle.block_weight.specs.WeightRule.{full_weight}
use Rattle.raw_block.specs.Views.{SoleState, PartState}
use Rattle.raw_block.specs.declared.part.Released.{Released}
use Rattle.raw_block.specs.declared.part.Released.TheVariants.{Last, Left}
use Rattle.raw_block.specs.Releases.{IsReleased}
use Rattle.frags.specs.OutcomesState.{OutcomesState}
use Rattle.frags.specs.Account.{Keeps, KeepsBlocks, KeepsMarks, every, both, counted, at_home, receipts_held, soles_home, of_part}
use Rattle.frags.specs.Account.{of_holder, of_released, of_outcomes}
use Rattle.frags.specs.Holders.{block, AsPart}
use Rattle.frags.specs.PieceList.{of_pieces, pieces_held, bytes_of, piece_bytes, size_of, Fits, AllFit, cut_front}
use Rattle.frags.specs.declared.pieces.Piece.{Piece}
use Rattle.frags.specs.declared.holder.Holder.{Holder}
use Rattle.frags.specs.declared.holder.Holder.TheVariants.{Sole, Part}
use Rattle.frags.proofs.Accounts.{counted-le, soles_home-append, pieces_held-append}
use Rattle.frags.proofs.PieceBytes.{size_of-append, AllFit-append}

-- a part released is its receipt, or its block's Sole
pub released_keeps : (p : PartState) (r : Released) → p.weight ≤ full_weight → IsReleased p r → Keeps (of_part p) (of_released r)
released_keeps p (Last s) h k t m =
    let c = counted-le t m p.life p.mark p.weight h in
    let e : at_home t.blocks m s.block s.mark ≡ at_home t.blocks m p.life.block p.mark = cc (k.0, k.2) in
    (omega arith, omega arith)
released_keeps p (Left r) h k t m =
    let w = k.0 in let l = k.2 in let a = k.3 in
    let c : counted t m r.life r.mark r.weight ≡ counted t m p.life p.mark p.weight = cc in
    (omega arith, omega arith)

pub sole_keeps : (h : Holder) (s : SoleState) (a b : OutcomesState) → h ≡ Sole s → b.soles ≡ a.soles ++ s ∷ []
    → b.receipts ≡ a.receipts → Keeps (both (of_holder h) (of_outcomes a)) (of_outcomes b)
sole_keeps h s a b e f g t m =
    let u = ap (λ (z : Holder). (of_holder z).held t m) e in
    let v = ap (λ (z : Holder). (of_holder z).homes t.blocks m) e in
    let k = ap (soles_home t.blocks m) f ∙ soles_home-append t.blocks m a.soles (s ∷ []) in
    let l = ap (receipts_held t m) g in
    (omega arith, omega arith)

pub sole_keeps_blocks : (h : Holder) (s : SoleState) (a b : OutcomesState) → h ≡ Sole s → b.soles ≡ a.soles ++ s ∷ []
    → b.receipts ≡ a.receipts → KeepsBlocks (both (of_holder h) (of_outcomes a)) (of_outcomes b)
sole_keeps_blocks h s a b e f g bs m =
    let u = ap (λ (z : Holder). (of_holder z).held (every bs) m + (of_holder z).homes bs m) e in
    let k = ap (soles_home bs m) f ∙ soles_home-append bs m a.soles (s ∷ []) in
    let l = ap (receipts_held (every bs) m) g in
    omega (arith, u, k, l)

pub part_block : (h : Holder) (p : PartState) → AsPart h p → p.bytes ≡ block h
part_block (Sole s) p k = k.2
part_block (Part q) p k = ap (λ (z : PartState). z.bytes) k

pub takes_in_fit : (a rest b : List Piece) (x : Piece) → b ≡ (a ++ x ∷ []) ++ rest → AllFit a → Fits x → AllFit rest
    → (size_of b ≡ size_of a + ((x.to - x.from) + size_of rest)) × AllFit b
takes_in_fit a rest b x e f g h =
    let s = ap size_of e ∙ size_of-append (a ++ x ∷ []) rest in
    let u = size_of-append a (x ∷ []) in
    (omega arith, subst AllFit (sym e) (AllFit-append (a ++ x ∷ []) rest (AllFit-append a (x ∷ []) f (g, tt)) h))

pub joins_fit : (a c b : List Piece) → b ≡ a ++ c → AllFit a → AllFit c → (size_of b ≡ size_of a + size_of c) × AllFit b
joins_fit a c b e f h = (ap size_of e ∙ size_of-append a c, subst AllFit (sym e) (AllFit-append a c f h))

pub bytes_of-append : (a b : List Piece) → bytes_of (a ++ b) ≡ bytes_of a ++ bytes_of b
bytes_of-append [] b = refl
bytes_of-append (p ∷ ps) b = ap (λ (z : List ℕ). piece_bytes p ++ z) (bytes_of-append ps b)
    ∙ sym (append_assoc (piece_bytes p) (bytes_of ps) (bytes_of b))

pub AllFit-at : (ps : List Piece) (i : ℕ) (d : Piece) → AllFit ps → i < length ps → Fits (get_or ps i d)
AllFit-at [] i d h k = absurd (omega arith)
AllFit-at (p ∷ ps) zero d h k = h.0
AllFit-at (p ∷ ps) (suc i) d h k = AllFit-at ps i d h.1 (omega arith)

pub size_of-cut_front : (n : ℕ) (ps : List Piece) → size_of (cut_front n ps) ≤ size_of ps
size_of-cut_front n [] = omega arith
size_of-cut_front n (p ∷ ps) =
    let h = size_of-cut_front (n - (p.to - p.from)) ps in
    cond_both (ltb n (p.to - p.from)) (record p { from = p.from + n } ∷ ps) (cut_front (n - (p.to - p.from)) ps)
    (λ (z : List Piece). size_of z ≤ size_of (p ∷ ps)) (λ e. omega arith) (λ e. omega arith)

pub takes_in_is : (a s others rest b : List Piece) (x : Piece) → b ≡ (s ++ x ∷ []) ++ rest → s ≡ a → rest ≡ others → b ≡ a ++ x ∷ others
takes_in_is a s others rest b x e f g =
    e ∙ append_assoc s (x ∷ []) rest ∙ ap (λ (z : List Piece). z ++ x ∷ rest) f ∙ ap (λ (z : List Piece). a ++ x ∷ z) g

-- a Sole counts as the part of the full weight that it becomes
pub as_part_marks : (bs : ℕ → Bool) (m : ℕ) (h : Holder) (p : PartState) → AsPart h p → (of_part p).held (every bs) m
    ≡ (of_holder h).held (every bs) m + full_weight * (of_holder h).homes bs m
as_part_marks bs m (Sole s) p l =
    let u : counted (every bs) m p.life p.mark p.weight ≡ counted (every bs) m p.life s.mark full_weight = cc (l.0, l.3) in
    let v : counted (every bs) m p.life s.mark full_weight ≡ full_weight * at_home bs m s.block s.mark = let i = l.1 in grind arith in
    omega arith
as_part_marks bs m (Part q) p l = let u = ap (λ (z : PartState). (of_part z).held (every bs) m) l in omega arith

pub takes_in_marks : (a others b : List Piece) (h : Holder) (x : Piece) → AsPart h x.part → b ≡ a ++ x ∷ others
    → KeepsMarks (both (of_pieces a) (both (of_holder h) (of_pieces others))) (of_pieces b)
takes_in_marks a others b h x l e bs m =
    let u = as_part_marks bs m h x.part l in
    let f = ap (pieces_held (every bs) m) e ∙ pieces_held-append (every bs) m a (x ∷ others) in
    omega arith

pub takes_in_keeps : (a others b : List Piece) (h : Holder) (q : PartState) (x : Piece) → AsPart h x.part → h ≡ Part q
    → b ≡ a ++ x ∷ others → Keeps (both (of_pieces a) (both (of_part q) (of_pieces others))) (of_pieces b)
takes_in_keeps a others b h q x l k e t m =
    let g : x.part ≡ q = subst (λ (z : Holder). AsPart z x.part) k l in
    let u = ap (λ (z : PartState). (of_part z).held t m) g in
    let f = ap (pieces_held t m) e ∙ pieces_held-append t m a (x ∷ others) in
    (omega arith, omega arith)

-- no bytes are cut off
pub cut_front-none : (ps : List Piece) → AllFit ps → cut_front 0 ps ≡ ps
cut_front-none [] h = refl
cut_front-none (p ∷ ps) h =
    let k : p.from < p.to = h.0.0 in
    let s : p.from + 0 ≡ p.from = omega arith in
    cond_both (ltb 0 (p.to - p.from)) (record p { from = p.from + 0 } ∷ ps) (cut_front (0 - (p.to - p.from)) ps)
    (λ (z : List Piece). z ≡ p ∷ ps) (λ e. ap (λ (i : ℕ). record p { from = i } ∷ ps) s)
    (λ e. let f = ltb-false 0 (p.to - p.from) e in absurd (omega arith))
