-- Packets that go to their queues, one after another.
use Rattle.std.specs.Prelude.{ℕ, suc, ◌≡◌, ◌+◌, ◌<◌, List, [], ◌∷◌, ◌++◌, length, slice_index_or}
use Rattle.std.specs.List.{filter}
use Rattle.frags.specs.Account.{Account, Tests}
use Rattle.offload_model.specs.Rounds.{Spread, is_queued}
use Rattle.gro.specs.declared.slot.Slot.{Slot as Held}
use Rattle.frame_runs.specs.Engine.{IsReady}
use Rattle.gro.specs.Slots.{packet_of}
use Rattle.lanes.specs.declared.lane.QueueLane.{QueueLane}

-- each element has a property, which may depend on its place; the first one is at k
abbrev pub EachFrom : {A : Type 0} → (ℕ → A → Type 0) → ℕ → List A → Type 0
EachFrom P k [] = Unit {0}
EachFrom P k (x ∷ xs) = P k x × EachFrom P (suc k) xs

-- the packets of queue q, in their order
abbrev pub in_queue : Spread → ℕ → List Held → List Held
in_queue spread q ps = filter (λ (p : Held). is_queued spread q (packet_of p)) ps

-- a queue has those of its packets that aren't among the rest
pub record IsSharing (spread : Spread) (all rest : List Held) (q : ℕ) (l : QueueLane) : Type 0 where
  pub queue : l.queue ≡ q
  pub packets : l.packets.items ++ in_queue spread q rest ≡ in_queue spread q all

-- a packet came behind those of its lane
pub record TakesIn (l : QueueLane) (p : Held) (m : QueueLane) : Type 0 where
  pub queue : m.queue ≡ l.queue
  pub packets : m.packets.items ≡ l.packets.items ++ p ∷ []

-- all packets came, as they stand in their list
pub record TakesAll (l : QueueLane) (ps : List Held) (m : QueueLane) : Type 0 where
  pub queue : m.queue ≡ l.queue
  pub packets : m.packets.items ≡ ps

-- nothing but memory came
pub record StaysAs (l m : QueueLane) : Type 0 where
  pub queue : m.queue ≡ l.queue
  pub packets : m.packets.items ≡ l.packets.items

abbrev pub EachStays : List QueueLane → List QueueLane → Type 0
EachStays ls ms = (i : ℕ) (d : QueueLane) → i < length ls → StaysAs (slice_index_or ls i d) (slice_index_or ms i d)

-- a lane's engine has memory for the runs of its packets
abbrev pub HasMemory : QueueLane → Type 0
HasMemory l = IsReady l.engine (length l.packets.items)

-- one account is two others
abbrev pub IsSum : Account → Account → Account → Type 0
IsSum xs x ys = (t : Tests) (m : ℕ) → (xs.held t m ≡ x.held t m + ys.held t m)
    × (xs.homes t.blocks m ≡ x.homes t.blocks m + ys.homes t.blocks m)
