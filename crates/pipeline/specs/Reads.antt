-- What the side that reads says of the rounds that it sent, one after another.
use Rattle.std.specs.Prelude.{ℕ, ◌≡◌, ◌+◌, ◌≤◌, List, [], ◌∷◌, ◌++◌, length}
use Rattle.block_pool.specs.PoolState.{weighed}
use Rattle.pcap_io.specs.declared.heads.Link.TheVariants.{Ethernet}
use Rattle.pcap_io.specs.declared.place.Place.{Place}
use Rattle.pcap_io.specs.Places.{IsReady}
use Rattle.rounds.specs.declared.round_stages.RoundEnd.TheVariants as ends
use Rattle.rounds.specs.declared.round_stages.RoundRead.{RoundRead}
use Rattle.rounds.specs.Handled.{FewPauses}
use Rattle.rounds.specs.Reads.{Spot, Reads}
use Rattle.rounds.specs.RoundsState.{IntakeState}
use Rattle.crossing.specs.declared.arrivals.Arrivals.{Arrivals}
use Rattle.pipeline.specs.declared.parcel.Parcel.{Parcel}
use Rattle.crossing.specs.declared.post.Post.{Ghosts}
use Rattle.crossing.specs.Arriving.{weights_to}
use Rattle.pipeline.specs.Parcels.{rounds_of, weights_sent}

-- behind the rounds that were sent before, these were read and sent
pub record ReadOn (blocks budget : ℕ) (from to : Spot) (before after : List Parcel) : Type 0 where
  pub more : List RoundRead
  pub sent : rounds_of after ≡ rounds_of before ++ more
  pub reads : Reads blocks budget from more to

-- this round was sent, and no other one
abbrev pub IsAlone : RoundRead → List Parcel → Type 0
IsAlone read xs = (p : Parcel) × (xs ≡ p ∷ []) × (p.read ≡ read)

-- a full round was, of no more packets than were read
abbrev pub IsFirst : ℕ → List Parcel → Type 0
IsFirst number xs = (p : Parcel) × (xs ≡ p ∷ []) × (p.read.end ≡ ends.Full)
    × (length p.read.round.packets ≤ number)

-- ---- the side that reads

-- it may begin, of so many blocks
pub record MayRead (blocks : ℕ) (intake : IntakeState) (place : Place) (sent : List Parcel) : Type 0 where
  pub ready : IsReady place
  pub link : place.link ≡ Ethernet
  pub named : intake.blocks ≡ blocks
  pub first : IsFirst place.number sent

-- it read on so far: what it sent was home, or came to the arrivals meanwhile
pub record HasRead {W : Type 0} {G : Ghosts W} (old new : IntakeState) (from to : Spot)
    (before after : List Parcel) (arrivals arrivals' : Arrivals W G) : Type 0 where
  pub read : ReadOn old.blocks old.budget from to before after
  pub named : (h : ℕ → ℕ) → weighed h new.stock + weights_sent h after + weights_to arrivals h
      ≡ weighed h old.stock + weights_sent h before + weights_to arrivals' h
  pub paused : FewPauses arrivals.taker.pass.empties old.pauses arrivals'.taker.pass.empties new.pauses
  pub same : (new.blocks ≡ old.blocks) × (new.budget ≡ old.budget) × (new.empties ≡ old.empties)
  pub later : from.faults ≤ to.faults
