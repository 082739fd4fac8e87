-- What is counted of a round's packets, queue by queue and tap by tap, and of a whole capture's, round by round.
use Rattle.std.specs.Prelude.{◌≡◌, ℕ, ◌+◌, ◌≤◌, nat_le, Bool, List, [], ◌∷◌, length, map}
use Rattle.std.specs.List.{AllByRecursion, filter, range_with_len, sum_by}
use Rattle.pcap_io.specs.Capture.{Packet}
use Rattle.offload_model.specs.Merged.{merged_of}
use Rattle.offload_model.specs.Rounds.{rounds_of, items_of, is_queued}
use Rattle.offload_model.specs.Written.{Options, shown_of, window_of, windows_of}
use Rattle.check_totals.specs.declared.totals.QueueTotals.{QueueTotals}
use Rattle.check_totals.specs.declared.totals.TapTotals.{TapTotals}
use Rattle.check_totals.specs.Returned.{flows_of, returned_in}

pub record Counts : Type 0 where
  pub queues : List QueueTotals
  pub taps : List TapTotals

-- ---- of a round

-- a run of two packets or more is merged into one
abbrev pub is_merged : List Packet → Bool
is_merged run = nat_le 2 (length run)

abbrev pub queued : Options → ℕ → List Packet → List Packet
queued o q ps = filter (is_queued o.spread q) ps

-- The records of queue q, what they come to, how much of that was merged, and how many of the packets that this stands
-- for are those that went in, byte for byte and in original length.
abbrev pub queue_totals : Options → ℕ → List Packet → QueueTotals
queue_totals o q ps = record {
  records = length (queued o q ps);
  items = length (items_of o.segs o.spread q ps);
  merged = length (filter is_merged (items_of o.segs o.spread q ps));
  returned = returned_in (flows_of ps) (map merged_of (items_of o.segs o.spread q ps));
}

abbrev pub window_length : Options → ℕ → Packet → ℕ
window_length o t p = length (window_of o.snap t p.frame)

-- what taps are shown of the packets
abbrev pub shown : Options → List Packet → List Packet
shown o ps = map (shown_of o.filter) ps

-- the windows of tap t that aren't empty, and their bytes, without any header
abbrev pub tap_totals : Options → ℕ → List Packet → TapTotals
tap_totals o t ps = record {
  windows = length (windows_of o.snap t (shown o ps));
  bytes = sum_by (window_length o t)
      (shown o ps);
}

abbrev pub round_totals : Options → List Packet → Counts
round_totals o ps = record {
  queues = map (λ q. queue_totals o q ps) (range_with_len 0 o.queues);
  taps = map (λ t. tap_totals o t ps) (range_with_len 0 o.taps);
}

-- ---- sums

abbrev pub queue_sum : List QueueTotals → QueueTotals
queue_sum xs = record {
  records = sum_by (λ x. x.records) xs;
  items = sum_by (λ x. x.items) xs;
  merged = sum_by (λ x. x.merged) xs;
  returned = sum_by (λ x. x.returned) xs;
}

abbrev pub tap_sum : List TapTotals → TapTotals
tap_sum xs = record { windows = sum_by (λ x. x.windows) xs; bytes = sum_by (λ x. x.bytes) xs }

-- of all packets, lane by lane the sums over their rounds
abbrev pub totals_of : Options → List Packet → Counts
totals_of o ps =
    let rounds = rounds_of o.budget ps in
    record {
      queues = map (λ q. queue_sum (map (queue_totals o q) rounds)) (range_with_len 0 o.queues);
      taps = map (λ t. tap_sum (map (tap_totals o t) rounds)) (range_with_len 0 o.taps);
    }

-- ---- one beside another

abbrev pub queue_plus : QueueTotals → QueueTotals → QueueTotals
queue_plus a b = record {
  records = a.records + b.records;
  items = a.items + b.items;
  merged = a.merged + b.merged;
  returned = a.returned + b.returned;
}

abbrev pub tap_plus : TapTotals → TapTotals → TapTotals
tap_plus a b = record { windows = a.windows + b.windows; bytes = a.bytes + b.bytes }

-- element by element; what only one of the lists has stays as it is
abbrev pub each_plus : {A : Type 0} → (A → A → A) → List A → List A → List A
each_plus plus [] ys = ys
each_plus plus (x ∷ xs) [] = x ∷ xs
each_plus plus (x ∷ xs) (y ∷ ys) = plus x y ∷ each_plus plus xs ys

-- lane by lane
abbrev pub added : Counts → Counts → Counts
added a b = record { queues = each_plus queue_plus a.queues b.queues; taps = each_plus tap_plus a.taps b.taps }

-- of no lanes, which adds nothing
abbrev pub no_lanes : Counts
no_lanes = record { queues = []; taps = [] }

-- ---- bounds

pub record IsQueueWithin (n : ℕ) (x : QueueTotals) : Type 0 where
  pub records : x.records ≤ n
  pub items : x.items ≤ n
  pub merged : x.merged ≤ n
  pub returned : x.returned ≤ n

pub record IsTapWithin (n : ℕ) (x : TapTotals) : Type 0 where
  pub windows : x.windows ≤ n
  pub bytes : x.bytes ≤ n

-- none of a queue's numbers exceeds `most`, and none of a tap's `most_of_tap`
pub record IsWithin (most most_of_tap : ℕ) (c : Counts) : Type 0 where
  pub queues : AllByRecursion (IsQueueWithin most) c.queues
  pub taps : AllByRecursion (IsTapWithin most_of_tap) c.taps

-- as many queues and taps
pub record HasSameLanes (a b : Counts) : Type 0 where
  pub queues : length a.queues ≡ length b.queues
  pub taps : length a.taps ≡ length b.taps

-- as many as the options say
pub record HasLanes (o : Options) (c : Counts) : Type 0 where
  pub queues : length c.queues ≡ o.queues
  pub taps : length c.taps ≡ o.taps
