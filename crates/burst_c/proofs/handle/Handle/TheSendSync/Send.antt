-- An engine may be taken over by another thread: nothing that it owns names a thread.
use denote.Param.Send.{IsSend}
use Rattle.on_heap.proofs.Sent.{keyless}
use Rattle.frame_bursts.specs.contracts.kept.BurstEngine as engines
use Rattle.frame_bursts.proofs.kept.BurstEngine.TheSendSync.{the_send}
use Rattle.burst_c.specs.contracts.handle.Handle.{the_row}

pub send : IsSend the_row
send = record { owned = λ d vs. ((λ vss. (tt, (tt, tt))), keyless engines.the_row the_send d.at d.value); leaving = λ k d w. tt }
