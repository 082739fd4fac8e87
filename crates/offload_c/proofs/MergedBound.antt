-- How long what merging writes is at most.
use Rattle.std.proofs.Common.{◌≡◌, ℕ, zero, suc, ◌+◌, ◌*◌, ◌<◌, ◌≤◌, Bool, true, false, cond, Option, None, Some, List, [], ◌∷◌, length, map, take, drop, refl, ap, subst, arith, length-append}
use Rattle.std.proofs.Common.{length-drop, length-take}
use Rattle.std.specs.Prelude.{◌==◌}
use Rattle.std.specs.List.{flat_map, filter, range_with_len, AllByRecursion}
use Rattle.std.proofs.Math.Nat.{mul-le-mul_right}
use Rattle.std.proofs.lemmas.Bool.{eqb-true, ne_eqb}
use Rattle.std.proofs.lemmas.List.{length-map}
use Rattle.maximal_runs.specs.Items.{AreItems}
use Rattle.pcap_io.specs.declared.faults.CapKind.{CapKind}
use Rattle.pcap_io.specs.declared.heads.FileHead.{FileHead}
use Rattle.pcap_io.specs.declared.heads.Link.TheVariants.{Ethernet, Offload}
use Rattle.pcap_io.specs.Capture.{Packet, Found, found_after, records_from}
use Rattle.pcap_io.specs.Headers.{first_that_holds, file_refusals, file_head}
use Rattle.pcap_io.specs.Limits.{off_head2_size}
use Rattle.pcap_io.specs.Places.{first_place}
use Rattle.pcap_io.specs.Written.{file_bytes}
use Rattle.pcap_io.proofs.Fronts.{file_whole}
use Rattle.frame_layout.specs.Key.{key_of}
use Rattle.offload_model.specs.Captured.{AreCaptured}
use Rattle.offload_model.specs.Laws.{InBytes}
use Rattle.offload_model.specs.Mergeable.{up_to, IsMergeableWithin}
use Rattle.offload_model.specs.Need.{exceeded_at, found_before}
use Rattle.offload_model.specs.Passing.{behind_head, merging}
use Rattle.offload_model.specs.Rounds.{Spread, is_of, is_queued, number_of, items_of, rounds_of}
use Rattle.offload_model.specs.Written.{Options, record_of, record_bytes, records_of, round_records, shown_of}
use Rattle.offload_model.proofs.Captured.{captures_are_captured}
use Rattle.offload_model.proofs.Flows.{front_captured, rounds_captured}
use Rattle.offload_model.proofs.Items.{items_are}
use Rattle.offload_model.proofs.Lists.{all_of, rounds_are}
use Rattle.offload_c.specs.Bounds.{both_heads, most_records, merge_bound, packets_read, MergedFits}
use Rattle.offload_c.proofs.Totals.{total, total_append, total_take, total_joined, runs_total}
use Rattle.offload_c.proofs.Sizes.{size, frame_size, run_size, file_long, records_long, read_size, run_fits, from_tap, taps_in_frames, taps_in_snaps, shown_frames}

-- ---- a round's runs, over all queues

runs_fit : (q : ℕ) (items : List (List Packet)) → AllByRecursion (λ run. 0 < length run) items → total size (map (record_of q) items) ≤ total (total run_size) items
runs_fit q [] full = omega arith
runs_fit q (run ∷ items) full = omega (arith, run_fits q run full.0, runs_fit q items full.1)

queue_fits : (segs : ℕ) (spread : Spread) (q : ℕ) (ps : List Packet) → AreCaptured ps
    → total size (map (record_of q) (items_of segs spread q ps)) ≤ total run_size (filter (is_queued spread q) ps)
queue_fits segs spread q ps c =
    let items : List (List Packet) = items_of segs spread q ps in
    let queued : List Packet = filter (is_queued spread q) ps in
    let i : AreItems (IsMergeableWithin (up_to segs)) is_of number_of queued items = items_are segs spread q ps c.rising in
    omega (arith, runs_fit q items i.full, runs_total run_size items queued i.full (λ key. (i.flows key).joined))

-- a packet is of one queue
abbrev if_queue : Bool → ℕ → ℕ
if_queue v n = cond v n 0

none_behind : (k n s m : ℕ) → k < s → total (λ q. if_queue (k == q) n) (range_with_len s m) ≡ 0
none_behind k n s zero lt = refl
none_behind k n s (suc m) lt =
    let apart : (k == s) ≡ false = ne_eqb k s (λ e. omega (arith, e, lt)) in
    omega (arith, ap (λ v. if_queue v n) apart, none_behind k n (s + 1) m (omega (arith, lt)))

once : (k n s m : ℕ) → total (λ q. if_queue (k == q) n) (range_with_len s m) ≤ n
once k n s zero = omega arith
once k n s (suc m) = by (k == s) refl (once k n (s + 1) m)
  where
    by : (v : Bool) → (k == s) ≡ v → total (λ q. if_queue (k == q) n) (range_with_len (s + 1) m) ≤ n
        → if_queue (k == s) n + total (λ q. if_queue (k == q) n) (range_with_len (s + 1) m) ≤ n
    by true e le = omega (arith, ap (λ v. if_queue v n) e, none_behind k n (s + 1) m (omega (arith, eqb-true k s e)))
    by false e le = omega (arith, ap (λ v. if_queue v n) e, le)

total_two : (f g h : ℕ → ℕ) (xs : List ℕ) → ((x : ℕ) → f x ≡ g x + h x) → total f xs ≡ total g xs + total h xs
total_two f g h [] e = omega arith
total_two f g h (x ∷ xs) e = omega (arith, e x, total_two f g h xs e)

one_queued : (w : Packet → ℕ) (p : Packet) (queued : List Packet) (v : Bool) → total w (cond v (p ∷ queued) queued) ≡ if_queue v (w p) + total w queued
one_queued w p queued true = omega arith
one_queued w p queued false = omega arith

queued_fit : (w : Packet → ℕ) (spread : Spread) (qs : ℕ) (ps : List Packet)
    → total (λ q. total w (filter (is_queued spread q) ps)) (range_with_len 0 qs) ≤ total w ps
queued_fit w spread qs [] = none (range_with_len 0 qs)
  where
    none : (xs : List ℕ) → total (λ q. 0) xs ≤ 0
    none [] = omega arith
    none (x ∷ xs) = omega (arith, none xs)
queued_fit w spread qs (p ∷ ps) =
    let k : ℕ = spread (key_of p.frame) in
    omega (
      arith,
      total_two (λ q. total w (filter (is_queued spread q) (p ∷ ps))) (λ q. if_queue (k == q) (w p)) (λ q. total w (filter (is_queued spread q) ps)) (range_with_len 0 qs)
          (λ q. one_queued w p (filter (is_queued spread q) ps) (k == q)),
      once k (w p) 0 qs,
      queued_fit w spread qs ps,
    )

total_less : (v w : ℕ → ℕ) (xs : List ℕ) → ((x : ℕ) → v x ≤ w x) → total v xs ≤ total w xs
total_less v w [] le = omega arith
total_less v w (x ∷ xs) le = omega (arith, le x, total_less v w xs le)

total_flat : {A B : Type 0} (w : B → ℕ) (f : A → List B) (xs : List A) → total w (flat_map f xs) ≡ total (λ x. total w (f x)) xs
total_flat w f [] = refl
total_flat w f (x ∷ xs) = omega (arith, total_append w (f x) (flat_map f xs), total_flat w f xs)

-- the records of all queues
abbrev of_queues : ℕ → Spread → ℕ → List Packet → List Packet
of_queues segs spread queues ps = flat_map (λ q. map (record_of q) (items_of segs spread q ps)) (range_with_len 0 queues)

queues_fit : (segs : ℕ) (spread : Spread) (queues : ℕ) (ps : List Packet) → AreCaptured ps → total size (of_queues segs spread queues ps) ≤ total run_size ps
queues_fit segs spread queues ps c =
    omega (
      arith,
      total_flat size (λ q. map (record_of q) (items_of segs spread q ps)) (range_with_len 0 queues),
      total_less (λ q. total size (map (record_of q) (items_of segs spread q ps))) (λ q. total run_size (filter (is_queued spread q) ps)) (range_with_len 0 queues)
          (λ q. queue_fits segs spread q ps c),
      queued_fit run_size spread queues ps,
    )

-- ---- rounds

-- what a packet gives: its run's bytes, and its windows' by the frame or by what a tap reads
abbrev by_frame : Options → Packet → ℕ
by_frame o p = run_size p + (both_heads * o.taps + length p.frame)

abbrev by_snap : Options → Packet → ℕ
by_snap o p = run_size p + (both_heads * o.taps + o.taps * o.snap)

by_frame_total : (o : Options) (ps : List Packet) → total (by_frame o) ps ≡ total run_size ps + (length ps * (both_heads * o.taps) + total frame_size ps)
by_frame_total o [] = omega arith
by_frame_total o (p ∷ ps) = omega (arith, by_frame_total o ps)

by_snap_total : (o : Options) (ps : List Packet) → total (by_snap o) ps ≡ total run_size ps + (length ps * (both_heads * o.taps) + length ps * (o.taps * o.snap))
by_snap_total o [] = omega arith
by_snap_total o (p ∷ ps) = omega (arith, by_snap_total o ps)

round_by_frame : (o : Options) (ps : List Packet) → AreCaptured ps → total size (round_records o ps) ≤ total (by_frame o) ps
round_by_frame o ps c =
    let shown : List Packet = map (shown_of o.filter) ps in
    omega (
      arith,
      total_append size (of_queues o.segs o.spread o.queues ps) (from_tap o.snap shown 0 o.taps),
      queues_fit o.segs o.spread o.queues ps c,
      taps_in_frames o.snap o.taps shown,
      ap (λ n. n * (both_heads * o.taps)) (length-map ps (shown_of o.filter)),
      shown_frames o.filter ps,
      by_frame_total o ps,
    )

round_by_snap : (o : Options) (ps : List Packet) → AreCaptured ps → total size (round_records o ps) ≤ total (by_snap o) ps
round_by_snap o ps c =
    let shown : List Packet = map (shown_of o.filter) ps in
    let long : length shown ≡ length ps = length-map ps (shown_of o.filter) in
    omega (
      arith,
      total_append size (of_queues o.segs o.spread o.queues ps) (from_tap o.snap shown 0 o.taps),
      queues_fit o.segs o.spread o.queues ps c,
      taps_in_snaps o.snap 0 o.taps shown,
      ap (λ n. n * (both_heads * o.taps)) long,
      ap (λ n. n * (o.taps * o.snap)) long,
      by_snap_total o ps,
    )

rounds_fit : (w : Packet → ℕ) (o : Options) (ps : List Packet) → 1 ≤ o.budget → AreCaptured ps
    → ((round : List Packet) → AreCaptured round → total size (round_records o round) ≤ total w round) → total size (records_of o ps) ≤ total w ps
rounds_fit w o ps some c each =
    omega (
      arith,
      total_joined size (total w) (round_records o) (rounds_of o.budget ps)
          (all_of AreCaptured (λ round. total size (round_records o round) ≤ total w round) (rounds_of o.budget ps) each (rounds_captured o.budget ps c)),
      total_flat w (λ (round : List Packet). round) (rounds_of o.budget ps),
      ap (total w) (rounds_are o.budget ps some),
    )

-- ---- a whole capture

-- what is read before a round that exceeds the blocks is a front
before_captured : (budget : ℕ) (exceeded : Option (ℕ × ℕ)) (found : Found) → AreCaptured found.packets → AreCaptured (found_before budget exceeded found).packets
before_captured budget None found c = c
before_captured budget (Some at) found c = front_captured (at.0 * budget) found.packets c

before_less : (w : Packet → ℕ) (budget : ℕ) (exceeded : Option (ℕ × ℕ)) (found : Found) → total w (found_before budget exceeded found).packets ≤ total w found.packets
before_less w budget None found = omega arith
before_less w budget (Some at) found = total_take w (at.0 * budget) found.packets

frames_and_headers : (ps : List Packet) → (total size ps ≡ total frame_size ps + length ps * 16) × (total run_size ps ≡ total size ps + length ps * off_head2_size)
frames_and_headers [] = (omega arith, omega arith)
frames_and_headers (p ∷ ps) = (omega (arith, (frames_and_headers ps).0), omega (arith, (frames_and_headers ps).1))

-- of packets that `left` bytes hold
adds_up : (left records n taps snap frames sizes out : ℕ) → sizes ≡ frames + n * 16 → sizes ≤ left → n ≤ records
    → out ≤ (sizes + n * off_head2_size) + (n * (both_heads * taps) + frames) → out ≤ (sizes + n * off_head2_size) + (n * (both_heads * taps) + n * (taps * snap))
    → 24 + out ≤ merge_bound (24 + left) records taps snap
adds_up left records n taps snap frames sizes out split within few by_frames by_snaps =
    let most : ℕ = most_records (24 + left) records in
    let le : n ≤ most = omega (arith, split, within, few) in
    omega (arith, split, within, by_frames, by_snaps, mul-le-mul_right (off_head2_size + both_heads * taps) le, mul-le-mul_right (taps * snap) le)

merged_fits_by : (refused : Option CapKind) (blocks : ℕ) (o : Options) (given : List ℕ) (records : ℕ) → first_that_holds (file_refusals Ethernet (take 24 given)) ≡ refused → 1 ≤ o.budget
    → InBytes given
    → length (packets_read given) ≤ records
    → length (behind_head refused (file_bytes (file_head (take 24 given)) Offload) (merging blocks o (first_place (file_head (take 24 given)) Ethernet 0) (drop 24 given))).output
    ≤ merge_bound (length given) records o.taps o.snap
merged_fits_by (Some kind) blocks o given records is some bytes few = omega arith
merged_fits_by None blocks o given records is some bytes few =
    let head : FileHead = file_head (take 24 given) in
    let place = first_place head Ethernet 0 in
    let found : Found = records_from head.order Ethernet 0 24 0 (drop 24 given) in
    let read : packets_read given ≡ found.packets = ap (λ (r : Option CapKind). (found_after r found).packets) is in
    let c : AreCaptured found.packets = subst AreCaptured read (captures_are_captured given bytes) in
    let exceeded : Option (ℕ × ℕ) = exceeded_at blocks o.budget place (drop 24 given) in
    let ps : List Packet = (found_before o.budget exceeded found).packets in
    let cp : AreCaptured ps = before_captured o.budget exceeded found c in
    let long : 24 ≤ length (take 24 given) = file_whole Ethernet (take 24 given) is in
    let within : total size found.packets ≤ length (drop 24 given) = omega (arith, read_size head.order Ethernet 0 24 0 (drop 24 given)) in
    let sizes = frames_and_headers found.packets in
    let out : ℕ = total size (records_of o ps) in
    let by_frames : out ≤ (total size found.packets + length found.packets * off_head2_size) + (length found.packets * (both_heads * o.taps) + total frame_size found.packets)
    = omega (arith, rounds_fit (by_frame o) o ps some cp (λ round k. round_by_frame o round k), before_less (by_frame o) o.budget exceeded found, by_frame_total o found.packets, sizes.1) in
    let by_snaps : out ≤ (total size found.packets + length found.packets * off_head2_size) + (length found.packets * (both_heads * o.taps) + length found.packets * (o.taps * o.snap))
    = omega (arith, rounds_fit (by_snap o) o ps some cp (λ round k. round_by_snap o round k), before_less (by_snap o) o.budget exceeded found, by_snap_total o found.packets, sizes.1) in
    let fits : 24 + out ≤ merge_bound (24 + length (drop 24 given)) records o.taps o.snap
    = adds_up (length (drop 24 given)) records (length found.packets) o.taps o.snap (total frame_size found.packets) (total size found.packets) out sizes.0 within
    (omega (arith, few, ap length read)) by_frames by_snaps in
    let whole : 24 + length (drop 24 given) ≡ length given = omega (arith, long, length-take 24 given, length-drop 24 given) in
    omega (
      arith,
      length-append (file_bytes head Offload) (flat_map (record_bytes head.order) (records_of o ps)),
      file_long head.order head.nanos head.zone head.sigfigs Offload,
      records_long head.order (records_of o ps),
      subst (λ n. 24 + out ≤ merge_bound n records o.taps o.snap) whole fits,
    )

pub merged_fits : MergedFits
merged_fits blocks o given records some bytes few =
    merged_fits_by (first_that_holds (file_refusals Ethernet (take 24 given))) blocks o given records refl some bytes few
