use Rattle.std.proofs.Common.{◌≡◌, ◌+◌, ◌*◌, ◌%◌, ◌^◌, take}
use Rattle.std.specs.List.{fold}
use Rattle.lanes.proofs.flow_queue.fold.Given as goal

abbrev pub invariant-loop-byte : goal.invariant-loop-byte
invariant-loop-byte l = l.value ≡ fold (λ h b. (h * 31 + b) % 2 ^ 32) l.fn.value (take l.byte-index l.bytes)
