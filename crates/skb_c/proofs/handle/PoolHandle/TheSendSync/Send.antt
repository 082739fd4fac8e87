-- A pool may be taken over by another thread: nothing that it owns names a thread.
use denote.Param.Send.{IsSend}
use Rattle.on_heap.proofs.Sent.{keyless}
use Rattle.skb_c.specs.contracts.depot.Depot as depots
use Rattle.skb_c.proofs.depot.Depot.TheSendSync.{the_send}
use Rattle.skb_c.specs.contracts.handle.PoolHandle.{the_row}

pub send : IsSend the_row
send = record { owned = λ d vs. ((λ vss. (tt, (tt, tt))), keyless depots.the_row the_send d.at d.value); leaving = λ k d w. tt }
