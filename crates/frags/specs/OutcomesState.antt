-- What a contract sees of what was given back: Soles and receipts in order of return, and the places that are reserved
-- for more.
use Rattle.std.specs.Prelude.{ℕ, ◌≡◌, List, []}
use Rattle.raw_block.specs.Views.{SoleState, ReceiptState}

pub record OutcomesState : Type 0 where
  pub soles : List SoleState
  pub receipts : List ReceiptState
  pub spare : ℕ

-- nothing was given back into it
abbrev pub IsBare : OutcomesState → Type 0
IsBare out = (out.soles ≡ []) × (out.receipts ≡ [])
