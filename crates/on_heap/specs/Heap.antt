-- What the C heap lends of a value: the value, and the right to free it.
use Rattle.std.specs.Prelude.{Option, Some, None}
use mir.Syntax.{Ty}
use base.Fml.{Fml, ftrue}
use denote.RattleType.{RattleType}
use denote.RawPtr.{Ptr}
use Rattle.std_heap.specs.contracts.GlobalAllocator.TheImpl.{ghosts}
use Rattle.std_alloc.specs.Box.Ownership.{box_owns}

-- the right to free, which asks no more of its handle than that it is the heap's
abbrev pub may_free : Ty → Ptr → Fml
may_free τ p = ghosts.dealloc_token (record { memory = record { seal = tt } }) τ p

-- a value on the heap, as a `Box` owns it
abbrev pub heap_owns : (R : RattleType) → Ptr → R.Denot → Fml
heap_owns R p x = box_owns may_free R p x

-- the same where there is one
abbrev pub heap_owns_any : (R : RattleType) → Ptr → Option R.Denot → Fml
heap_owns_any R p None = ftrue
heap_owns_any R p (Some x) = heap_owns R p x
