-- An engine that is kept between bursts, and the frames that it has received.
use Rattle.std.specs.Prelude.{◌≡◌, ◌⊎◌, ℕ, ◌+◌, ◌-◌, ◌<◌, ◌≤◌, List, length, map, take, vec_len, vec_capacity}
use Rattle.std.specs.List.{AllByRecursion}
use Rattle.pcap_io.specs.Capture.{Packet}
use Rattle.offload_model.specs.Captured.{AreCaptured}
use Rattle.offload_model.specs.declared.limits.Limits.{Limits}
use Rattle.frame_runs.specs.declared.lent.Lent.{Lent}
use Rattle.frame_runs.specs.Engine.{HasPlaces, HasReceived}
use Rattle.frame_bursts.specs.Burst.{AreFrames, AreLawful, HasRoom}
use Rattle.frame_bursts.specs.Links.{framed, raw_packet, IsHeld}
use Rattle.frame_bursts.specs.declared.link.Link.{Link}
use Rattle.frame_bursts.specs.declared.link.Link.TheVariants.{Ethernet, RawIp}
use Rattle.frame_bursts.specs.declared.burst.Refused.{Refused}
use Rattle.frame_bursts.specs.declared.burst.Refused.TheVariants.{Usage, Full, NoMemory, NoRoom}
use Rattle.frame_bursts.specs.declared.kept.BurstEngine.{BurstEngine}
use Rattle.frame_bursts.specs.declared.raw_frame.RawFrame.{RawFrame}

-- what an engine may be made for
abbrev pub MayBeMade : ℕ → Limits → Type 0
MayBeMade limit limits = (limit ≤ 65535) × ((1 ≤ limits.segs) × (limits.segs ≤ 4096))

-- the numbers that it was made for
abbrev pub IsFor : Link → ℕ → Limits → BurstEngine → Type 0
IsFor link limit limits g = (g.limit ≡ limit) × ((g.limits ≡ limits) × (g.link ≡ link))

-- these are the frames of packets where these have no Ethernet header, and there is room for so many more
abbrev pub HasRaw : Link → List Packet → List RawFrame → ℕ → ℕ → ℕ → Type 0
HasRaw Ethernet ps frames len capacity more = Unit {0}
HasRaw RawIp ps frames len capacity more =
    (map raw_packet frames ≡ ps) × (AllByRecursion IsHeld frames × (len + more ≤ capacity))

-- it has the first n of these, and room for the others
pub record Has (ps : List Packet) (n : ℕ) (g : BurstEngine) : Type 0 where
  pub received : HasReceived g.limits ps n g.engine
  pub places : HasPlaces g.engine (g.limit - n)
  pub linked : g.limit ≤ length g.engine.next.items
  pub raw : HasRaw g.link (take n ps) g.raw.items (vec_len g.raw) (vec_capacity g.raw) (g.limit - n)

-- these are the frames that it has received since the last flush: its runs are theirs. Nothing is known of its runs
-- where it has received none
pub record Holds (ps : List Packet) (g : BurstEngine) : Type 0 where
  pub count : length ps ≡ g.received
  pub captured : AreCaptured ps
  pub numbers : MayBeMade g.limit g.limits
  pub few : g.received ≤ g.limit
  pub has : 1 ≤ g.received → Has ps g.received g

-- it is ready for more of this list than it has received
abbrev pub Awaits : List Packet → BurstEngine → Type 0
Awaits ps g = Has ps g.received g

-- it has those that stand at the front of this list
abbrev pub HoldsFront : List Lent → BurstEngine → Type 0
HoldsFront fs g = g.received ≤ length fs → Holds (take g.received (map (framed g.link) fs)) g

-- it has all of this list
abbrev pub HoldsAll : List Lent → BurstEngine → Type 0
HoldsAll fs g = g.received ≡ length fs → Holds (map (framed g.link) fs) g

-- it has what it had
pub record Stays (a b : BurstEngine) : Type 0 where
  pub count : b.received ≡ a.received
  pub numbers : IsFor a.link a.limit a.limits b
  pub frames : (ps : List Packet) → Holds ps a → Holds ps b

-- when each refusal comes: of an engine,
abbrev pub RefusesMaking : ℕ → Limits → Refused → Type 0
RefusesMaking limit limits Usage = MayBeMade limit limits → ⊥
RefusesMaking limit limits Full = ⊥
RefusesMaking limit limits NoMemory = MayBeMade limit limits
RefusesMaking limit limits NoRoom = ⊥

-- of more frames,
abbrev pub RefusesMore : List Lent → BurstEngine → Refused → Type 0
RefusesMore fs g Usage = (length fs < g.received) ⊎ (AreFrames g.link fs → ⊥)
RefusesMore fs g Full = AreFrames g.link fs × (g.limit < length fs)
RefusesMore fs g NoMemory = AreFrames g.link fs × (g.received ≡ 0)
RefusesMore fs g NoRoom = ⊥

-- of a flush,
abbrev pub RefusesFlush : List Lent → BurstEngine → ℕ → ℕ → Refused → Type 0
RefusesFlush fs g next runs Usage = g.received ≡ length fs → ⊥
RefusesFlush fs g next runs Full = ⊥
RefusesFlush fs g next runs NoMemory = ⊥
RefusesFlush fs g next runs NoRoom = (g.received ≡ length fs) × (HasRoom (length fs) next runs → ⊥)

-- and of a burst by an engine
abbrev pub RefusesBurst : List Lent → BurstEngine → ℕ → ℕ → Refused → Type 0
RefusesBurst fs g next runs Usage = (1 ≤ g.received) ⊎ (AreLawful g.link g.limits fs → ⊥)
RefusesBurst fs g next runs Full = AreLawful g.link g.limits fs × (g.limit < length fs)
RefusesBurst fs g next runs NoMemory = AreLawful g.link g.limits fs × HasRoom (length fs) next runs
RefusesBurst fs g next runs NoRoom = AreLawful g.link g.limits fs × (HasRoom (length fs) next runs → ⊥)
