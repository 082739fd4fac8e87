-- The flows of packets, of which some were compared.
use Rattle.std.specs.Prelude.{ℕ, ◌≡◌, ◌+◌, ◌<◌, ◌≤◌, ◌⊎◌, Option, List, length, slice_index_or, drop}
use Rattle.std.specs.Option.{unwrap_or}
use Rattle.std.specs.HashMap.{get}
use Rattle.pcap_io.specs.Capture.{Packet}
use Rattle.offload_model.specs.Rounds.{key_in}
use Rattle.comparing.specs.declared.kept_flows.KeptFlows.{KeptFlows}
use Rattle.frame_layout.specs.Key.{key_eq}
use Rattle.check_totals.specs.Returned.{equal_in}
use Rattle.comparing.specs.Chain.{left_at, IsOwn, IsChain, Leads}

-- where the flow's first packet stands that wasn't compared; behind all packets, where none is left
abbrev pub place_of : KeptFlows → Option (List ℕ) → ℕ
place_of f q = unwrap_or (get key_eq f.first q) (length f.next.items)

-- the flow's packets that weren't compared
abbrev pub left_in : List Packet → KeptFlows → Option (List ℕ) → List Packet
left_in ps f q = left_at ps q (place_of f q)

pub record AreFlows (ps : List Packet) (f : KeptFlows) : Type 0 where
  pub chain : IsChain ps f.next.items
  pub own : (q : Option (List ℕ)) → IsOwn ps q (place_of f q)

-- the packets from place k on are entered
pub record AreFlowsFrom (ps : List Packet) (k : ℕ) (f : KeptFlows) : Type 0 where
  pub long : length f.next.items ≡ length ps
  pub leads : (j : ℕ) (d : Packet) (e : ℕ) → k ≤ j → j < length ps
      → Leads ps (key_in (slice_index_or ps j d)) (j + 1) (slice_index_or f.next.items j e)
  pub first : (q : Option (List ℕ)) → Leads ps q k (place_of f q)

-- the flow's place is another, but of a flow without any packet; each other flow keeps its own
pub record Moves (f : KeptFlows) (q : Option (List ℕ)) (at : ℕ) (g : KeptFlows) : Type 0 where
  pub next : g.next ≡ f.next
  pub own : (place_of g q ≡ at) ⊎ ((place_of g q ≡ place_of f q) × (place_of f q ≡ length f.next.items))
  pub others : (r : Option (List ℕ)) → (r ≡ q → ⊥) → place_of g r ≡ place_of f r

-- some packets were compared with the flow's next ones: so many are the same, and the other flows keep theirs
pub record CountsIn (ps : List Packet) (f : KeptFlows) (q : Option (List ℕ)) (xs : List Packet) (g : KeptFlows)
    (n : ℕ) : Type 0 where
  pub count : n ≡ equal_in xs (left_in ps f q)
  pub left : left_in ps g q ≡ drop (length xs) (left_in ps f q)
  pub others : (r : Option (List ℕ)) → (r ≡ q → ⊥) → left_in ps g r ≡ left_in ps f r
