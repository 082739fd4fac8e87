-- The packets of a capture in rounds, and the runs of a round.
use Rattle.std.specs.Prelude.{ℕ, zero, suc, ◌-◌, Bool, ◌==◌, Option, List, [], ◌∷◌, take}
use Rattle.std.specs.List.{filter}
use Rattle.maximal_runs.specs.Items.{items_of as runs_of}
use Rattle.frame_layout.specs.Key.{key_eq, key_of}
use Rattle.pcap_io.specs.Capture.{Packet}
use Rattle.offload_model.specs.Mergeable.{up_to}
use Rattle.offload_model.specs.declared.limits.Limits.{Limits}
use Rattle.offload_model.specs.Tests.{is_mergeable_within}

-- from here on, where `more` elements still belong to the round that was begun before
abbrev pub rounds_from : {A : Type 0} → ℕ → ℕ → List A → List (List A)
rounds_from budget more [] = []
rounds_from budget (suc more) (x ∷ xs) = rounds_from budget more xs
rounds_from budget zero (x ∷ xs) = take budget (x ∷ xs) ∷ rounds_from budget (budget - 1) xs

-- successive rounds of `budget` elements, the last one maybe shorter
abbrev pub rounds_of : {A : Type 0} → ℕ → List A → List (List A)
rounds_of budget xs = rounds_from budget 0 xs

abbrev pub key_in : Packet → Option (List ℕ)
key_in p = key_of p.frame

-- whether a packet is of the flow with this key, and whether its flow is of queue q
abbrev pub is_of : Option (List ℕ) → Packet → Bool
is_of key p = key_eq key (key_of p.frame)

-- how flows go to queues: any function of their keys
abbrev pub Spread : Type 0
Spread = Option (List ℕ) → ℕ

abbrev pub is_queued : Spread → ℕ → Packet → Bool
is_queued spread q p = spread (key_of p.frame) == q

abbrev pub number_of : Packet → ℕ
number_of p = p.number

-- the runs of all flows of some packets, within limits each, in the order of their first packets' numbers
abbrev pub runs_within : Limits → List Packet → List (List Packet)
runs_within limits ps = runs_of (is_mergeable_within limits) is_of key_in number_of ps

-- the same of at most `segs` packets each
abbrev pub runs_in : ℕ → List Packet → List (List Packet)
runs_in segs ps = runs_within (up_to segs) ps

-- those of queue q
abbrev pub items_of : ℕ → Spread → ℕ → List Packet → List (List Packet)
items_of segs spread q ps = runs_in segs (filter (is_queued spread q) ps)
