-- What a capture of Ethernet frames holds, and the options that there are.
use Rattle.std.specs.Prelude.{ℕ, ◌^◌, ◌<◌, ◌≤◌, Option, List, length}
use Rattle.std.specs.List.{AllByRecursion}
use Rattle.pcap_io.specs.Limits.{most_frame}
use Rattle.maximal_runs.specs.Cut.{AllNeighbours}
use Rattle.pcap_io.specs.Capture.{Packet}
use Rattle.offload_model.specs.Written.{Options}
use Rattle.offload_model.specs.Laws.{InBytes}

pub record IsCaptured (p : Packet) : Type 0 where
  pub number : p.number < 2 ^ 32
  pub sec : p.sec < 2 ^ 32
  pub frac : p.frac < 2 ^ 32
  pub original : p.original < 2 ^ 31
  pub short : length p.frame ≤ most_frame
  pub in_bytes : InBytes p.frame

pub record AreCaptured (ps : List Packet) : Type 0 where
  pub each : AllByRecursion IsCaptured ps
  pub rising : AllNeighbours (λ p q. p.number < q.number) ps

-- the ranges that the command line allows
pub record AreOptions (o : Options) : Type 0 where
  pub budget : 1 ≤ o.budget
  pub some : 1 ≤ o.queues
  pub queues : o.queues ≤ 64
  pub below : (key : Option (List ℕ)) → o.spread key < o.queues
  pub taps : o.taps ≤ 8

-- what comes back of a packet: its bytes and its original length
abbrev pub content : Packet → ℕ × List ℕ
content p = (p.original, p.frame)
