-- Flows: the open group of each.
use Rattle.std.specs.Prelude.{ℕ, ◌≡◌, ◌≢◌, ◌+◌, ◌-◌, ◌*◌, ◌/◌, ◌%◌, ◌^◌}
use Rattle.std.specs.Prelude.{◌<◌, ◌≤◌, ◌⊎◌, nat_lt, Option, Some, None}
use Rattle.std.specs.Prelude.{List, [], ◌∷◌, length, slice_index_or, if◌then◌else◌}
use Rattle.std.specs.Map.{lookup}
use Rattle.net_bytes.specs.Bytes.{be32}
use Rattle.pcap_io.specs.Capture.{Packet}
use Rattle.slab.specs.Slab.{get, HasRoomFor}
use Rattle.frame_layout.specs.Key.{key_of, key_eq}
use Rattle.frame_runs.specs.Chains.{packet_at}
use Rattle.frame_runs.specs.declared.flows.Group.{Group}
use Rattle.frame_runs.specs.declared.flows.Flows.{Flows}

-- the key of the flow that a group is of
abbrev pub key_at : List Packet → Group → Option (List ℕ)
key_at ps g = key_of (packet_at ps g.packet).frame

-- the run of the group with this key
abbrev pub run_in : List Packet → Option (List ℕ) → List (Option Group) → Option ℕ
run_in ps q [] = None
run_in ps q (None ∷ slots) = run_in ps q slots
run_in ps q (Some g ∷ slots) = if key_eq (key_at ps g) q then Some g.run else run_in ps q slots

-- the place of the open run of the flow with this key
abbrev pub place_of : List Packet → Flows → Option (List ℕ) → Option ℕ
place_of ps f key = run_in ps key f.groups.slots

-- ---- how a group is found

abbrev pub times : ℕ → ℕ
times n = (n * 0x9e3779b1) % 2 ^ 32

abbrev pub mixed : ℕ → ℕ → ℕ → ℕ → ℕ
mixed ports nearer farther host =
    times ((times ((times ((times ports + nearer) % 2 ^ 32) + farther) % 2 ^ 32) + host) % 2 ^ 32)

abbrev pub hash_of : Option (List ℕ) → ℕ
hash_of None = 0
hash_of (Some key) =
    let n = length key in
    if nat_lt n 26 then 0 else mixed (be32 key (n - 4)) (be32 key (n - 9)) (be32 key (n - 13)) (be32 key (n - 25))

abbrev pub bucket_in : ℕ → ℕ
bucket_in hash = hash / 0x1000000

-- what stands at the place of this hash: the group with that key of the slab, counted from 1, or none
abbrev pub place_at : Flows → ℕ → ℕ
place_at f hash = slice_index_or f.places (bucket_in hash) 0

-- where the map says that the group with this key stands in the slab
abbrev pub slot_of : Flows → Option (List ℕ) → Option ℕ
slot_of f key = lookup (key_eq key) f.entries

-- an open group whose place is that of this hash stands there
abbrev pub IsTaken : Flows → ℕ → Type 0
IsTaken f hash =
    (1 ≤ place_at f hash)
    × ((g : Group) × ((get f.groups (place_at f hash - 1) ≡ Some g) × (bucket_in g.hash ≡ bucket_in hash)))

-- a packet of the list, and the hash of its flow's key
abbrev pub IsHashed : List Packet → ℕ → ℕ → Type 0
IsHashed ps packet hash = (packet < length ps) × (hash ≡ hash_of (key_of (packet_at ps packet).frame))

-- each group is of a flow of its own, and stands at its hash's place, or the map has it; the map has these alone, at
-- whose places something else has stood
pub record AreFlows (ps : List Packet) (f : Flows) : Type 0 where
  pub hashed : (k : ℕ) (g : Group) → get f.groups k ≡ Some g → IsHashed ps g.packet g.hash
  pub alone : (j k : ℕ) (g h : Group) → get f.groups j ≡ Some g → get f.groups k ≡ Some h
      → key_at ps g ≡ key_at ps h → j ≡ k
  pub reached : (k : ℕ) (g : Group) → get f.groups k ≡ Some g
      → (slot_of f (key_at ps g) ≡ Some k) ⊎ (place_at f g.hash ≡ k + 1)
  pub live : (q : Option (List ℕ)) (k : ℕ) → slot_of f q ≡ Some k
      → (g : Group) × ((get f.groups k ≡ Some g) × (key_at ps g ≡ q))
  pub taken : (q : Option (List ℕ)) (k : ℕ) → slot_of f q ≡ Some k
      → (1 ≤ place_at f (hash_of q)) × (place_at f (hash_of q) ≢ k + 1)

-- the flow with this key has this, and each other flow keeps its own
abbrev pub Puts : List Packet → Flows → Option (List ℕ) → Option ℕ → Flows → Type 0
Puts ps f key place g = (q : Option (List ℕ))
    → place_of ps g q ≡ (if key_eq key q then place else place_of ps f q)

-- a group of this packet of the list, and of the hash of its flow's key
abbrev pub IsGroup : List Packet → Group → Packet → Type 0
IsGroup ps g p = (g.packet < length ps) × (packet_at ps g.packet ≡ p) × (g.hash ≡ hash_of (key_of p.frame))

-- the group under a key of the slab, counted from 1, has this run
abbrev pub HasRun : Flows → ℕ → ℕ → Type 0
HasRun f at run = (1 ≤ at) × ((g : Group) × ((get f.groups (at - 1) ≡ Some g) × (g.run ≡ run)))

-- the open run at this place is that of the flow with this key, and of no other
abbrev pub IsOwn : List Packet → Flows → Option (List ℕ) → ℕ → Type 0
IsOwn ps f key place =
    (place_of ps f key ≡ Some place) × ((q : Option (List ℕ)) → place_of ps f q ≡ Some place → key ≡ q)

-- so many more flows have room
pub record HasRoom (f : Flows) (n : ℕ) : Type 0 where
  pub groups : HasRoomFor f.groups n
  pub entries : n ≤ f.room
  pub places : 1 ≤ n → 256 ≤ length f.places
