-- The packets of each flow, one behind the other.
use Rattle.std.specs.Prelude.{ℕ, ◌≡◌, ◌+◌, ◌<◌, true, Option, List, length, drop, slice_index_or}
use Rattle.std.specs.List.{filter}
use Rattle.pcap_io.specs.Capture.{Packet}
use Rattle.offload_model.specs.Rounds.{is_of, key_in}
use Rattle.check_totals.specs.Returned.{equal_in}

-- the flow's packets from a place on
abbrev pub left_at : List Packet → Option (List ℕ) → ℕ → List Packet
left_at ps q at = filter (is_of q) (drop at ps)

-- the place is one of the flow's packets', or behind all packets
abbrev pub IsOwn : List Packet → Option (List ℕ) → ℕ → Type 0
IsOwn ps q at = (d : Packet) → at < length ps → is_of q (slice_index_or ps at d) ≡ true

-- from one place on the flow's first packet stands at another
pub record Leads (ps : List Packet) (q : Option (List ℕ)) (from to : ℕ) : Type 0 where
  pub same : left_at ps q to ≡ left_at ps q from
  pub own : IsOwn ps q to

-- each packet's next one is that of its flow
pub record IsChain (ps : List Packet) (next : List ℕ) : Type 0 where
  pub long : length next ≡ length ps
  pub leads : (j : ℕ) (d : Packet) (e : ℕ) → j < length ps
      → Leads ps (key_in (slice_index_or ps j d)) (j + 1) (slice_index_or next j e)

-- some packets were compared with the flow's from a place on: so many are the same, and the next ones stand at another
-- place
pub record Counts (ps : List Packet) (q : Option (List ℕ)) (from : ℕ) (xs : List Packet) (to n : ℕ) : Type 0 where
  pub count : n ≡ equal_in xs (left_at ps q from)
  pub left : left_at ps q to ≡ drop (length xs) (left_at ps q from)
  pub own : IsOwn ps q to
