-- How balances are kept by steps, one after another.
use Rattle.std.proofs.Common.{◌≡◌, ℕ, ◌+◌, ◌*◌, ◌≤◌, List, [], ◌∷◌, ◌++◌, Bool, ap, ◌∙◌, arith}
use Rattle.block_weight.specs.WeightRule.{full_weight}
use Rattle.raw_block.specs.Views.{Life, SoleState, PartState, ReceiptState}
use Rattle.frags.specs.OutcomesState.{OutcomesState}
use Rattle.frags.specs.Account.{Account, Tests, Keeps, KeepsBlocks, KeepsMarks, every, both, counted, at_home, receipts_held}
use Rattle.frags.specs.Account.{soles_home, of_part, of_outcomes}
use Rattle.frags.specs.PieceList.{pieces_held, of_pieces}
use Rattle.frags.specs.declared.pieces.Piece.{Piece}

pub receipts_held-append : (t : Tests) (m : ℕ) (a b : List ReceiptState) → receipts_held t m (a ++ b)
    ≡ receipts_held t m a + receipts_held t m b
receipts_held-append t m [] b = omega arith
receipts_held-append t m (x ∷ xs) b = omega (arith, receipts_held-append t m xs b)

pub soles_home-append : (bs : ℕ → Bool) (m : ℕ) (a b : List SoleState) → soles_home bs m (a ++ b) ≡ soles_home bs m a + soles_home bs m b
soles_home-append bs m [] b = omega arith
soles_home-append bs m (x ∷ xs) b = omega (arith, soles_home-append bs m xs b)

pub pieces_held-append : (t : Tests) (m : ℕ) (a b : List Piece) → pieces_held t m (a ++ b) ≡ pieces_held t m a + pieces_held t m b
pieces_held-append t m [] b = omega arith
pieces_held-append t m (x ∷ xs) b = omega (arith, pieces_held-append t m xs b)

pub counted-le : (t : Tests) (m : ℕ) (l : Life) (k w : ℕ) → w ≤ full_weight → counted t m l k w ≤ full_weight * at_home t.blocks m l.block k
counted-le t m l k w h = grind arith

pub keeps_marks : (a b : Account) → Keeps a b → KeepsMarks a b
keeps_marks a b h bs m = (h (every bs) m).1

pub gives_last : (p : PartState) (s : SoleState) (a b : OutcomesState) → s.block ≡ p.life.block → s.mark ≡ p.mark
    → p.weight ≤ full_weight → b.receipts ≡ a.receipts → b.soles ≡ a.soles ++ s ∷ []
    → Keeps (both (of_part p) (of_outcomes a)) (of_outcomes b)
gives_last p s a b o e h f g t m =
    let c = counted-le t m p.life p.mark p.weight h in
    let d = ap (receipts_held t m) f in
    let k = ap (soles_home t.blocks m) g ∙ soles_home-append t.blocks m a.soles (s ∷ []) in
    let i : at_home t.blocks m s.block s.mark ≡ at_home t.blocks m p.life.block p.mark = cc (o, e) in
    (omega arith, omega arith)

pub gives_left : (p : PartState) (r : ReceiptState) (a b : OutcomesState) → r.weight ≡ p.weight → r.life ≡ p.life
    → r.mark ≡ p.mark → b.soles ≡ a.soles → b.receipts ≡ a.receipts ++ r ∷ []
    → Keeps (both (of_part p) (of_outcomes a)) (of_outcomes b)
gives_left p r a b w l k f g t m =
    let c : counted t m r.life r.mark r.weight ≡ counted t m p.life p.mark p.weight = cc in
    let d = ap (soles_home t.blocks m) f in
    let e = ap (receipts_held t m) g ∙ receipts_held-append t m a.receipts (r ∷ []) in
    (omega arith, omega arith)

-- the first piece goes, its part to the outcomes
pub keeps_pop : (s : Account) (x : Piece) (xs ys : List Piece) (o q : OutcomesState) → xs ≡ x ∷ ys
    → Keeps s (both (of_pieces xs) (of_outcomes o)) → Keeps (both (of_part x.part) (of_outcomes o)) (of_outcomes q)
    → Keeps s (both (of_pieces ys) (of_outcomes q))
keeps_pop s x xs ys o q e h k t m =
    let d = ap (pieces_held t m) e in
    let f = h t m in
    let g = k t m in
    (omega arith, omega arith)

pub append_keeps : (a b : List Piece) (x : Piece) → b ≡ a ++ x ∷ [] → Keeps (both (of_pieces a) (of_part x.part)) (of_pieces b)
append_keeps a b x e t m = let f = ap (pieces_held t m) e ∙ pieces_held-append t m a (x ∷ []) in (omega arith, omega arith)

pub join_keeps : (a c b : List Piece) → b ≡ a ++ c → Keeps (both (of_pieces a) (of_pieces c)) (of_pieces b)
join_keeps a c b e t m = let f = ap (pieces_held t m) e ∙ pieces_held-append t m a c in (omega arith, omega arith)

-- the last piece goes, its part to the outcomes
pub keeps_pop_back : (s : Account) (x : Piece) (xs ys : List Piece) (o q : OutcomesState) → xs ≡ ys ++ x ∷ []
    → Keeps s (both (of_pieces xs) (of_outcomes o)) → Keeps (both (of_part x.part) (of_outcomes o)) (of_outcomes q)
    → Keeps s (both (of_pieces ys) (of_outcomes q))
keeps_pop_back s x xs ys o q e h k t m =
    let d = ap (pieces_held t m) e ∙ pieces_held-append t m ys (x ∷ []) in
    let f = h t m in
    let g = k t m in
    (omega arith, omega arith)

-- ---- no block is made up

-- a part weighs 1 or more, what its block's Sole counts
pub counted-ge : (bs : ℕ → Bool) (m : ℕ) (l : Life) (k w : ℕ) → 1 ≤ w → at_home bs m l.block k ≤ counted (every bs) m l k w
counted-ge bs m l k w h = grind arith

pub last_blocks : (p : PartState) (s : SoleState) (a b : OutcomesState) → s.block ≡ p.life.block → s.mark ≡ p.mark
    → 1 ≤ p.weight → b.receipts ≡ a.receipts → b.soles ≡ a.soles ++ s ∷ []
    → KeepsBlocks (both (of_part p) (of_outcomes a)) (of_outcomes b)
last_blocks p s a b o e h f g bs m =
    let c = counted-ge bs m p.life p.mark p.weight h in
    let d = ap (receipts_held (every bs) m) f in
    let k = ap (soles_home bs m) g ∙ soles_home-append bs m a.soles (s ∷ []) in
    let i : at_home bs m s.block s.mark ≡ at_home bs m p.life.block p.mark = cc (o, e) in
    omega (arith, c, d, k, i)

pub left_blocks : (p : PartState) (r : ReceiptState) (a b : OutcomesState) → r.weight ≡ p.weight → r.life ≡ p.life
    → r.mark ≡ p.mark → b.soles ≡ a.soles → b.receipts ≡ a.receipts ++ r ∷ []
    → KeepsBlocks (both (of_part p) (of_outcomes a)) (of_outcomes b)
left_blocks p r a b w l k f g bs m =
    let c : counted (every bs) m r.life r.mark r.weight ≡ counted (every bs) m p.life p.mark p.weight = cc in
    let d = ap (soles_home bs m) f in
    let e = ap (receipts_held (every bs) m) g ∙ receipts_held-append (every bs) m a.receipts (r ∷ []) in
    omega (arith, c, d, e)

-- the first piece goes, its part to the outcomes
pub blocks_pop : (s : Account) (x : Piece) (xs ys : List Piece) (o q : OutcomesState) → xs ≡ x ∷ ys
    → KeepsBlocks s (both (of_pieces xs) (of_outcomes o)) → KeepsBlocks (both (of_part x.part) (of_outcomes o)) (of_outcomes q)
    → KeepsBlocks s (both (of_pieces ys) (of_outcomes q))
blocks_pop s x xs ys o q e h k bs m = omega (arith, ap (pieces_held (every bs) m) e, h bs m, k bs m)
