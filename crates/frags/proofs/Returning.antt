-- What one Sole or one receipt more counts.
use Rattle.std.proofs.Common.{◌≡◌, [], ◌∷◌, ◌++◌, ap, ◌∙◌, arith}
use Rattle.std.specs.Prelude.{Some, None, MatchOption}
use Rattle.std.specs.declared.option.Option.{Option}
use Rattle.std.specs.Option.{option_to_list}
use Rattle.raw_block.specs.Views.{SoleState, ReceiptState}
use Rattle.frags.specs.OutcomesState.{OutcomesState}
use Rattle.frags.specs.Account.{Keeps, KeepsBlocks, both, every, receipts_held, soles_home, of_sole, of_receipt, of_outcomes}
use Rattle.frags.proofs.Accounts.{receipts_held-append, soles_home-append}

pub sole_kept : (s : SoleState) (a b : OutcomesState) → b.soles ≡ a.soles ++ s ∷ [] → b.receipts ≡ a.receipts
    → Keeps (both (of_sole s) (of_outcomes a)) (of_outcomes b)
sole_kept s a b e f t m =
    let k = ap (soles_home t.blocks m) e ∙ soles_home-append t.blocks m a.soles (s ∷ []) in
    let l = ap (receipts_held t m) f in
    (omega arith, omega arith)

pub receipt_kept : (r : ReceiptState) (a b : OutcomesState) → b.soles ≡ a.soles → b.receipts ≡ a.receipts ++ r ∷ []
    → Keeps (both (of_receipt r) (of_outcomes a)) (of_outcomes b)
receipt_kept r a b e f t m =
    let k = ap (soles_home t.blocks m) e in
    let l = ap (receipts_held t m) f ∙ receipts_held-append t m a.receipts (r ∷ []) in
    (omega arith, omega arith)

pub sole_taken : (r : Option SoleState) (a b : OutcomesState) → a.soles ≡ b.soles ++ option_to_list r → b.receipts ≡ a.receipts
    → MatchOption r (Keeps (of_outcomes a) (of_outcomes b)) (λ s. Keeps (of_outcomes a) (both (of_sole s) (of_outcomes b)))
sole_taken None a b e f = λ t m.
    let k = ap (soles_home t.blocks m) e ∙ soles_home-append t.blocks m b.soles [] in
    let l = ap (receipts_held t m) f in
    (omega arith, omega arith)
sole_taken (Some s) a b e f = λ t m.
    let k = ap (soles_home t.blocks m) e ∙ soles_home-append t.blocks m b.soles (s ∷ []) in
    let l = ap (receipts_held t m) f in
    (omega arith, omega arith)

pub receipt_taken : (r : Option ReceiptState) (a b : OutcomesState) → b.soles ≡ a.soles → a.receipts ≡ b.receipts ++ option_to_list r
    → MatchOption r (Keeps (of_outcomes a) (of_outcomes b)) (λ s. Keeps (of_outcomes a) (both (of_receipt s) (of_outcomes b)))
receipt_taken None a b e f = λ t m.
    let k = ap (soles_home t.blocks m) e in
    let l = ap (receipts_held t m) f ∙ receipts_held-append t m b.receipts [] in
    (omega arith, omega arith)
receipt_taken (Some r) a b e f = λ t m.
    let k = ap (soles_home t.blocks m) e in
    let l = ap (receipts_held t m) f ∙ receipts_held-append t m b.receipts (r ∷ []) in
    (omega arith, omega arith)

-- ---- no block is made up

pub sole_blocks : (s : SoleState) (a b : OutcomesState) → b.soles ≡ a.soles ++ s ∷ [] → b.receipts ≡ a.receipts
    → KeepsBlocks (both (of_sole s) (of_outcomes a)) (of_outcomes b)
sole_blocks s a b e f bs m =
    let k = ap (soles_home bs m) e ∙ soles_home-append bs m a.soles (s ∷ []) in
    let l = ap (receipts_held (every bs) m) f in
    omega (arith, k, l)

pub receipt_blocks : (r : ReceiptState) (a b : OutcomesState) → b.soles ≡ a.soles → b.receipts ≡ a.receipts ++ r ∷ []
    → KeepsBlocks (both (of_receipt r) (of_outcomes a)) (of_outcomes b)
receipt_blocks r a b e f bs m =
    let k = ap (soles_home bs m) e in
    let l = ap (receipts_held (every bs) m) f ∙ receipts_held-append (every bs) m a.receipts (r ∷ []) in
    omega (arith, k, l)

pub sole_taken_blocks : (r : Option SoleState) (a b : OutcomesState) → a.soles ≡ b.soles ++ option_to_list r → b.receipts ≡ a.receipts
    → MatchOption r (KeepsBlocks (of_outcomes a) (of_outcomes b)) (λ s. KeepsBlocks (of_outcomes a) (both (of_sole s) (of_outcomes b)))
sole_taken_blocks None a b e f = λ bs m.
    let k = ap (soles_home bs m) e ∙ soles_home-append bs m b.soles [] in
    let l = ap (receipts_held (every bs) m) f in
    omega (arith, k, l)
sole_taken_blocks (Some s) a b e f = λ bs m.
    let k = ap (soles_home bs m) e ∙ soles_home-append bs m b.soles (s ∷ []) in
    let l = ap (receipts_held (every bs) m) f in
    omega (arith, k, l)

pub receipt_taken_blocks : (r : Option ReceiptState) (a b : OutcomesState) → b.soles ≡ a.soles → a.receipts ≡ b.receipts ++ option_to_list r
    → MatchOption r (KeepsBlocks (of_outcomes a) (of_outcomes b)) (λ s. KeepsBlocks (of_outcomes a) (both (of_receipt s) (of_outcomes b)))
receipt_taken_blocks None a b e f = λ bs m.
    let k = ap (soles_home bs m) e in
    let l = ap (receipts_held (every bs) m) f ∙ receipts_held-append (every bs) m b.receipts [] in
    omega (arith, k, l)
receipt_taken_blocks (Some r) a b e f = λ bs m.
    let k = ap (soles_home bs m) e in
    let l = ap (receipts_held (every bs) m) f ∙ receipts_held-append (every bs) m b.receipts (r ∷ []) in
    omega (arith, k, l)
