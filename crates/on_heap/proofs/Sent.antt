-- What is on the heap may go to another thread where the value may: that it is there names no thread.
use Rattle.std.specs.Prelude.{Option, Some, None}
use denote.RattleType.{RattleType}
use denote.Param.Send.{IsSend, part_keyless}
use denote.RawPtr.{Ptr, block_ptr, null_ptr}
use denote.Memory.{lone}
use mir.Raw.{raw as bare}
use base.Fraction.{full_share}
use base.Shift.{Keyless}
use Rattle.std.proofs.Crossing.{frees}
use Rattle.on_heap.specs.Heap.{heap_owns_any}

pub keyless : (R : RattleType) → IsSend R → (p : Ptr) (v : Option R.Denot) → Keyless (heap_owns_any R p v)
keyless R sends p None = tt
keyless R sends (block_ptr b o) (Some x) = (
  part_keyless R sends full_share x b o,
  frees.frees (record { memory = record { seal = tt } }) (bare (lone R.mir)) (block_ptr b o),
)
keyless R sends null_ptr (Some x) = (tt, frees.frees (record { memory = record { seal = tt } }) (bare (lone R.mir)) null_ptr)
