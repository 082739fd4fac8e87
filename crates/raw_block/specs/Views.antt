-- What a contract sees of a block's holders.
use Rattle.std.specs.Prelude.{ℕ, List}

-- the names of a life's entries and of its word's log
abbrev pub LifeNames : Type 0
LifeNames = ℕ × ℕ

-- a life of a block, from the sharing of its Sole to its next Sole
pub record Life : Type 0 where
  pub names : LifeNames
  pub block : ℕ

-- the block is told by its name, which it has from its making on
pub record SoleState : Type 0 where
  pub block : ℕ
  pub bytes : List ℕ
  pub mark : ℕ

-- a part reads the bytes that its life began with
pub record PartState : Type 0 where
  pub life : Life
  pub weight : ℕ
  pub bytes : List ℕ
  pub mark : ℕ

pub record ReceiptState : Type 0 where
  pub life : Life
  pub weight : ℕ
  pub mark : ℕ

-- the word of the life was this number at some step
pub record SightState : Type 0 where
  pub life : Life
  pub total : ℕ
