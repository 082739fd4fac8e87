use Rattle.raw_block.proofs.Walking.{RattleType, IsSend, IsSync, sendable, RawPtr, shape}
use denote.Param.Send.{struct_sync}
use denote.Struct.Owning.{to}
use Rattle.raw_block.specs.contracts.held.Share as share
use Rattle.raw_block.proofs.Sent.{seen_keyless}

pointer : IsSync RawPtr
pointer = search sendable

pub sync : (T : RattleType) → IsSend T → IsSync T → IsSync (share.the_row T)
sync T s y = record {
  shared = λ d b o κ. (
    (struct_sync (shape (share.the_type T))
        (pointer, tt)).shared (to (share.the_type T) d) b o κ,
    seen_keyless T y d.at d.content κ,
  );
}
