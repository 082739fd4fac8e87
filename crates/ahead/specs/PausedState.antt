-- What a contract sees of a round that is paused.
use Rattle.std.specs.Prelude.{ℕ}
use Rattle.pcap_io.specs.declared.heads.RecHead.{RecHead}
use Rattle.rounds.specs.RoundsState.{RoundState}
use Rattle.ahead.specs.declared.paused.Empty.{Empty}

-- the round so far, the header that was kept, why, and for how many packets its lists have room
pub record PausedState : Type 0 where
  pub round : RoundState
  pub head : RecHead
  pub empty : Empty
  pub size : ℕ
