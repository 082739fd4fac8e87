-- A buffer may be taken over by another thread: nothing that it owns names a thread.
use denote.Param.Send.{IsSend}
use Rattle.on_heap.proofs.Sent.{keyless}
use Rattle.skb_c.specs.contracts.buffer.Buffer as buffers
use Rattle.skb_c.proofs.buffer.Buffer.TheSendSync.{the_send}
use Rattle.skb_c.specs.contracts.handle.SkbHandle.{the_row}

pub send : IsSend the_row
send = record { owned = λ d vs. ((λ vss. (tt, (tt, tt))), keyless buffers.the_row the_send d.at d.value); leaving = λ k d w. tt }
