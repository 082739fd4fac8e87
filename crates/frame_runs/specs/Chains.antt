-- Chains of indices: the packets of a run, by the index of the first one and, for each, that of the next.
use Rattle.std.specs.Prelude.{ℕ, zero, suc, ◌≡◌, ◌+◌, ◌<◌, ◌≤◌, ◌==◌, if◌then◌else◌}
use Rattle.std.specs.Prelude.{List, [], ◌∷◌, length, map, slice_index_or}
use Rattle.pcap_io.specs.Capture.{Packet}
use Rattle.frame_runs.specs.declared.run.Run.{Run}

-- n indices, from k on
abbrev pub chain_of : List ℕ → ℕ → ℕ → List ℕ
chain_of next zero k = []
chain_of next (suc n) k = k ∷ chain_of next n (slice_index_or next k 0)

-- the indices behind a run's first one
abbrev pub behind : List ℕ → Run → List ℕ
behind next run = chain_of next run.more (slice_index_or next run.first 0)

-- all of a run
abbrev pub indices : List ℕ → Run → List ℕ
indices next run = run.first ∷ behind next run

-- the last of x and others
abbrev pub last_in : ℕ → List ℕ → ℕ
last_in x [] = x
last_in x (y ∷ ys) = last_in y ys

abbrev pub no_packet : Packet
no_packet = record { number = 0; sec = 0; frac = 0; original = 0; frame = [] }

abbrev pub packet_at : List Packet → ℕ → Packet
packet_at ps k = slice_index_or ps k no_packet

-- the frame in this place is that of index i
abbrev pub IsHere : {S : Type 0} → (S → Packet) → List S → ℕ → S → Type 0
IsHere packet slots i slot = (i < length slots) × (packet_at (map packet slots) i ≡ packet slot)

-- a run's packets, in order
abbrev pub run_of : List Packet → List ℕ → Run → List Packet
run_of ps next run = map (packet_at ps) (indices next run)

-- ---- a number of each index, summed over a list, over lists, and over all indices below n

abbrev pub index_sum : (ℕ → ℕ) → List ℕ → ℕ
index_sum f [] = 0
index_sum f (k ∷ ks) = f k + index_sum f ks

abbrev pub index_sums : (ℕ → ℕ) → List (List ℕ) → ℕ
index_sums f [] = 0
index_sums f (ks ∷ kss) = index_sum f ks + index_sums f kss

abbrev pub sum_below : (ℕ → ℕ) → ℕ → ℕ
sum_below f zero = 0
sum_below f (suc n) = sum_below f n + f n

-- these lists have each index below n, once: whatever is summed over them is summed over 0, 1, .. n - 1
abbrev pub AreSharedOut : ℕ → List (List ℕ) → Type 0
AreSharedOut n kss = (f : ℕ → ℕ) → index_sums f kss ≡ sum_below f n

-- 1 at k, 0 elsewhere
abbrev pub mark : ℕ → ℕ → ℕ
mark k j = if j == k then 1 else 0

-- no index stands twice
abbrev pub AreDistinct : List ℕ → Type 0
AreDistinct ks = (k : ℕ) → index_sum (mark k) ks ≤ 1
