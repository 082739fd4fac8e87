-- Lanes whose work is done.
use Rattle.std.proofs.Common.{◌≡◌, ℕ, zero, suc, ◌+◌, ◌<◌, ◌≤◌, Bool, List, [], ◌∷◌, ◌++◌, map, length, inl, inr, refl, sym, ap, ◌∙◌, subst, append-nil, arith}
use Rattle.std.specs.Prelude.{true, Option, None, Some, IsSome, IfSome, All}
use Rattle.std.specs.List.{filter, flat_map, range_with_len}
use Rattle.pcap_io.specs.Capture.{Packet}
use Rattle.frags.specs.Account.{Keeps, KeepsBlocks}
use Rattle.tap_filter.specs.declared.instr.Instr.{Instr}
use Rattle.offload_model.specs.Merged.{Merged, merged_of}
use Rattle.offload_model.specs.Rounds.{Spread, is_queued, items_of, runs_in}
use Rattle.offload_model.specs.Segments.{with_head}
use Rattle.offload_model.specs.Written.{head_of, record_of, shown_of, windows_of}
use Rattle.gro.specs.declared.slot.Slot.{Slot as Held}
use Rattle.gro.specs.Slots.{packet_of, counts_of, IsHeld, AreAlone, AreHeld}
use Rattle.taps.specs.Clones.{packet_of as packet_of_clone, shown_packet}
use Rattle.taps.specs.declared.clones.TapClone.{TapClone}
use Rattle.taps.specs.Texts.{texts_of, record_of_text}
use Rattle.lanes.specs.declared.lane.QueueLane.{QueueLane}
use Rattle.lanes.specs.declared.lane.TapLane.{TapLane}
use Rattle.lanes.specs.Clones.{AreSame}
use Rattle.lanes.specs.Lanes.{of_queues, of_tap, of_taps, counts_of_queues, weighed_queues, DidQueue, DidTap, DidTapOf, EachQueueDid, EachTapDid, ReadsTap}
use Rattle.lanes.specs.Packets.{RiseFrom}
use Rattle.lanes.specs.Sharing.{EachFrom, EachStays, HasMemory, IsSharing}
use Rattle.lanes.specs.Taps.{HasClones}
use Rattle.lanes.specs.Work.{shown_by, IsToWork, IsWorked, IsWatched, MayWatch, merged_in, records_of_queue, records_of_texts, records_of_tap, Did}
use Rattle.lanes.proofs.Listing.{all_from, each_did, each_map, refilled}
use Rattle.lanes.proofs.Sharing.{few_packets, filter_map, filter_each, filter_counts, filter_rises, same_counts, same_hold, same_weighed}
use Rattle.std.specs.Vec.{with_items}
use Rattle.lanes.specs.declared.plan.LanePlan.{LanePlan}
use Rattle.lanes.specs.declared.lane.Lanes.{Lanes}

-- ---- each

-- of each what holds where something else does, and that holds of each
if_done : {A : Type 0} (C : A → Type 0) (Q : ℕ → A → Type 0) (k : ℕ) (xs : List A) → EachFrom (λ i x. C x → Q i x) k xs → All C xs → EachFrom Q k xs
if_done C Q k [] h a = tt
if_done C Q k (x ∷ xs) h a = (h.0 (a zero x (omega arith)), if_done C Q (suc k) xs h.1 (λ i d lt. a (suc i) d (omega (arith, lt))))

-- ---- what is to do

to_work : (n : Spread) (old now : List Held) (q : ℕ) (l : QueueLane) → AreSame old now → RiseFrom 0 (map packet_of old) → counts_of old ≤ 65536
    → IsSharing n now [] q l → HasMemory l → IsToWork n (map packet_of old) q l
to_work n old now q l a rise few h memory =
    let f : Held → Bool = λ (p : Held). is_queued n q (packet_of p) in
    let e : l.packets.items ≡ filter f now = sym (append-nil l.packets.items) ∙ h.packets in
    let is : map packet_of l.packets.items ≡ filter (is_queued n q) (map packet_of old) = ap (map packet_of) e ∙ filter_map (is_queued n q) now ∙ ap (filter (is_queued n q)) a.same in
    let low : counts_of l.packets.items ≤ 65536 = omega (arith, ap counts_of e, filter_counts f now, a.counts, few) in
    record {
      queue = h.queue;
      packets = is;
      filled = record {
        held = subst AreHeld (sym e) (filter_each IsHeld f now a.held);
        rising = subst (RiseFrom 0) (sym is) (filter_rises (is_queued n q) 0 (map packet_of old) rise);
        few = omega (arith, low, few_packets l.packets.items);
        ready = memory;
      };
    }

pub all_to_work : (n : Spread) (old now : List Held) (ls : List QueueLane) → AreSame old now → RiseFrom 0 (map packet_of old) → counts_of old ≤ 65536
    → EachFrom (IsSharing n now []) 0 ls → All HasMemory ls → EachFrom (IsToWork n (map packet_of old)) 0 ls
all_to_work n old now ls a rise few h memory =
    if_done HasMemory (IsToWork n (map packet_of old)) 0 ls (each_map (IsSharing n now []) (λ q l. HasMemory l → IsToWork n (map packet_of old) q l) 0 ls
    (λ q l s m. to_work n old now q l a rise few s m) h) memory

-- ---- what was done

worked : (segs : ℕ) (n : Spread) (ps : List Packet) (q : ℕ) (l m : QueueLane) → IsToWork n ps q l → DidQueue segs l m → IsWorked segs n ps q m
worked segs n ps q l m h d = record {
  queue = d.queue ∙ h.queue;
  packets = ap (λ z. map packet_of z.items) d.packets ∙ h.packets;
  merged = ap (map merged_of) (d.runs ∙ ap (runs_in segs) h.packets);
  is = d.is;
}

texts_some : (o : Option (List Packet)) (ts : List Packet) → IsSome o → IfSome o (λ texts. texts ≡ ts) → o ≡ Some ts
texts_some None ts s h = absurd (grind (arith, s))
texts_some (Some texts) ts s h = ap Some h

records_some : (t : ℕ) (o : Option (List Packet)) (rs : List Packet) → IsSome o → IfSome o (λ texts. map (record_of_text t) texts ≡ rs) → records_of_texts t o ≡ rs
records_some t None rs s h = absurd (grind (arith, s))
records_some t (Some texts) rs s h = h

-- clones as they are shown are what is shown of their packets
shown_clones : (filter : Option (List Instr)) (cs : List TapClone) → map (shown_packet filter) cs ≡ map (shown_of filter) (map packet_of_clone cs)
shown_clones filter [] = refl
shown_clones filter (c ∷ cs) = ap (λ (z : List Packet). shown_packet filter c ∷ z) (shown_clones filter cs)

watched : (filter : Option (List Instr)) (snap : ℕ) (ps : List Packet) (t : ℕ) (l m : TapLane) → HasClones ps t l → ReadsTap filter snap l m → IsSome m.texts
    → IsWatched snap (map (shown_of filter) ps) t m
watched filter snap ps t l m h d s =
    let shown : map (shown_packet filter) l.clones.items ≡ map (shown_of filter) ps = shown_clones filter l.clones.items ∙ ap (map (shown_of filter)) h.clones in
    record {
      tap = d.tap ∙ h.tap;
      texts = texts_some m.texts (texts_of snap l.tap (map (shown_packet filter) l.clones.items)) s d.read ∙ ap (λ z. Some (texts_of snap z (map (shown_packet filter) l.clones.items))) h.tap ∙ ap
          (λ z. Some (texts_of snap t z)) shown;
      windows =
          ap (λ z. records_of_texts z m.texts) d.tap
          ∙ records_some l.tap m.texts (windows_of snap l.tap (map (shown_packet filter) l.clones.items)) s d.windows
          ∙ ap (λ z. windows_of snap z (map (shown_packet filter) l.clones.items)) h.tap
          ∙ ap (windows_of snap t) shown;
    }

-- a tap that has clones reads them, and one that has read stays as it is
reads : (filter : Option (List Instr)) (snap : ℕ) (l m : TapLane) → l.texts ≡ None → DidTap filter snap l m → ReadsTap filter snap l m
reads filter snap l m e d = subst (λ o. DidTapOf o filter snap l m) e d

stays : (filter : Option (List Instr)) (snap : ℕ) (ps : List Packet) (t : ℕ) (l m : TapLane) → IsWatched snap ps t l → DidTap filter snap l m → m ≡ l
stays filter snap ps t l m w d = subst (λ o. DidTapOf o filter snap l m) w.texts d

watched_by : (plan : LanePlan) (ps : List Packet) (t : ℕ) (l m : TapLane) → MayWatch true plan ps t l → DidTap plan.filter plan.snap l m → IsSome m.texts
    → IsWatched plan.snap (shown_by plan ps) t m
watched_by plan ps t l m (inl h) d s = watched plan.filter plan.snap ps t l m h (reads plan.filter plan.snap l m h.unread d) s
watched_by plan ps t l m (inr w) d s = subst (IsWatched plan.snap (shown_by plan ps) t) (sym (stays plan.filter plan.snap (shown_by plan ps) t l m w.0 d)) w.0

spent_by : (plan : LanePlan) (ps : List Packet) (t : ℕ) (l m : TapLane) → MayWatch true plan ps t l → DidTap plan.filter plan.snap l m → m.clones.items ≡ []
spent_by plan ps t l m (inl h) d = (reads plan.filter plan.snap l m h.unread d).none
spent_by plan ps t l m (inr w) d = subst (λ (z : TapLane). z.clones.items ≡ []) (sym (stays plan.filter plan.snap (shown_by plan ps) t l m w.0 d)) w.1

pub all_spent : (plan : LanePlan) (ps : List Packet) (ls ms : List TapLane) → length ms ≡ length ls → EachFrom (MayWatch true plan ps) 0 ls → EachTapDid plan.filter plan.snap ls ms
    → All (λ (m : TapLane). m.clones.items ≡ []) ms
all_spent plan ps ls ms e h did =
    all_from (λ (t : ℕ) (m : TapLane). m.clones.items ≡ []) (λ m. m.clones.items ≡ []) 0 ms (λ t m own. own)
    (each_did (MayWatch true plan ps) (λ t m. m.clones.items ≡ []) (DidTap plan.filter plan.snap) 0 ls ms (λ t l m a d. spent_by plan ps t l m a d) e h did)

-- taps that have all read stay as they are
pub all_stay : (filter : Option (List Instr)) (snap : ℕ) (ps : List Packet) (k : ℕ) (ls ms : List TapLane) → length ms ≡ length ls → EachFrom (IsWatched snap ps) k ls
    → EachTapDid filter snap ls ms → ms ≡ ls
all_stay filter snap ps k [] [] e h did = refl
all_stay filter snap ps k [] (m ∷ ms) e h did = absurd (omega (arith, e))
all_stay filter snap ps k (l ∷ ls) [] e h did = absurd (omega (arith, e))
all_stay filter snap ps k (l ∷ ls) (m ∷ ms) e h did =
    let first = stays filter snap ps k l m h.0 (did zero l (omega arith)) in
    ap (λ z. z ∷ ms) first ∙ ap (λ z. l ∷ z) (all_stay filter snap ps (suc k) ls ms (omega (arith, e)) h.1 (λ j d lt. did (suc j) d (omega (arith, lt))))

pub all_worked : (segs : ℕ) (n : Spread) (ps : List Packet) (ls ms : List QueueLane) → length ms ≡ length ls → EachFrom (IsToWork n ps) 0 ls → EachQueueDid segs ls ms
    → EachFrom (IsWorked segs n ps) 0 ms
all_worked segs n ps ls ms e h did = each_did (IsToWork n ps) (IsWorked segs n ps) (DidQueue segs) 0 ls ms (λ q l m a d. worked segs n ps q l m a d) e h did

pub all_watched : (plan : LanePlan) (ps : List Packet) (ls ms : List TapLane) → length ms ≡ length ls → EachFrom (MayWatch true plan ps) 0 ls → EachTapDid plan.filter plan.snap ls ms
    → All (λ (m : TapLane). IsSome m.texts) ms → EachFrom (IsWatched plan.snap (shown_by plan ps)) 0 ms
all_watched plan ps ls ms e h did done =
    if_done (λ (m : TapLane). IsSome m.texts) (IsWatched plan.snap (shown_by plan ps)) 0 ms (each_did (MayWatch true plan ps) (λ t m. IsSome m.texts → IsWatched plan.snap (shown_by plan ps) t m)
    (DidTap plan.filter plan.snap) 0 ls ms (λ t l m a d. watched_by plan ps t l m a d) e h did) done

-- ---- what all lanes hold

-- the packets of a lane that was worked lie where they lay
each_stays : (segs : ℕ) (ls ms : List QueueLane) → EachQueueDid segs ls ms → EachStays ls ms
each_stays segs ls ms h i d lt = let did = h i d lt in record { queue = did.queue; packets = ap (λ z. z.items) did.packets }

pub queues_same : (segs : ℕ) (ls ms : List QueueLane) → length ms ≡ length ls → EachQueueDid segs ls ms → of_queues ms ≡ of_queues ls
queues_same segs ls ms e h = same_hold ls ms e (each_stays segs ls ms h)

pub queues_count : (segs : ℕ) (ls ms : List QueueLane) → length ms ≡ length ls → EachQueueDid segs ls ms → counts_of_queues ms ≡ counts_of_queues ls
queues_count segs ls ms e h = same_counts ls ms e (each_stays segs ls ms h)

pub queues_weighed : (w : ℕ → ℕ) (segs : ℕ) (ls ms : List QueueLane) → length ms ≡ length ls → EachQueueDid segs ls ms → weighed_queues w ms ≡ weighed_queues w ls
queues_weighed w segs ls ms e h = same_weighed w ls ms e (each_stays segs ls ms h)

-- where nobody shared a block of theirs, nobody does
pub queues_alone : (segs : ℕ) (ls ms : List QueueLane) → length ms ≡ length ls → EachQueueDid segs ls ms → All (λ (l : QueueLane). AreAlone l.packets.items) ls
    → All (λ (m : QueueLane). AreAlone m.packets.items) ms
queues_alone segs ls ms e h a i d lt =
    let n : i < length ls = omega (arith, e, lt) in
    subst (λ z. AreAlone z.items) (sym (h i d n).packets) (a i d n)

tap_kept : (o : Option (List Packet)) (filter : Option (List Instr)) (snap : ℕ) (l m : TapLane) → DidTapOf o filter snap l m → Keeps (of_tap l) (of_tap m)
tap_kept None filter snap l m h = h.kept
tap_kept (Some texts) filter snap l m same = subst (λ (z : TapLane). Keeps (of_tap l) (of_tap z)) (sym same) (λ t i. (omega arith, omega arith))

tap_blocks : (o : Option (List Packet)) (filter : Option (List Instr)) (snap : ℕ) (l m : TapLane) → DidTapOf o filter snap l m → KeepsBlocks (of_tap l) (of_tap m)
tap_blocks None filter snap l m h = h.blocks
tap_blocks (Some texts) filter snap l m same = subst (λ (z : TapLane). KeepsBlocks (of_tap l) (of_tap z)) (sym same) (λ bs i. omega arith)

pub taps_kept : (filter : Option (List Instr)) (snap : ℕ) (ls ms : List TapLane) → length ms ≡ length ls → EachTapDid filter snap ls ms → Keeps (of_taps ls) (of_taps ms)
taps_kept filter snap [] [] e h t i = (omega arith, omega arith)
taps_kept filter snap [] (m ∷ ms) e h t i = absurd (omega (arith, e))
taps_kept filter snap (l ∷ ls) [] e h t i = absurd (omega (arith, e))
taps_kept filter snap (l ∷ ls) (m ∷ ms) e h t i =
    let a = tap_kept l.texts filter snap l m (h zero l (omega arith)) t i in
    let b = taps_kept filter snap ls ms (omega (arith, e)) (λ j d lt. h (suc j) d (omega (arith, lt))) t i in
    (omega (arith, a.0, b.0), omega (arith, a.1, b.1))

pub taps_blocks : (filter : Option (List Instr)) (snap : ℕ) (ls ms : List TapLane) → length ms ≡ length ls → EachTapDid filter snap ls ms → KeepsBlocks (of_taps ls) (of_taps ms)
taps_blocks filter snap [] [] e h bs i = omega arith
taps_blocks filter snap [] (m ∷ ms) e h bs i = absurd (omega (arith, e))
taps_blocks filter snap (l ∷ ls) [] e h bs i = absurd (omega (arith, e))
taps_blocks filter snap (l ∷ ls) (m ∷ ms) e h bs i =
    let a = tap_blocks l.texts filter snap l m (h zero l (omega arith)) bs i in
    let b = taps_blocks filter snap ls ms (omega (arith, e)) (λ j d lt. h (suc j) d (omega (arith, lt))) bs i in
    omega (arith, a, b)

-- ---- the records

map_merged : (q : ℕ) (runs : List (List Packet)) → map (λ (m : Merged). with_head (head_of q m) m.packet) (map merged_of runs) ≡ map (record_of q) runs
map_merged q [] = refl
map_merged q (r ∷ rs) = ap (λ z. record_of q r ∷ z) (map_merged q rs)

pub queue_records : (segs : ℕ) (n : Spread) (ps : List Packet) (k : ℕ) (ls : List QueueLane) → EachFrom (IsWorked segs n ps) k ls
    → flat_map records_of_queue ls ≡ flat_map (λ q. map (record_of q) (items_of segs n q ps)) (range_with_len k (length ls))
queue_records segs n ps k [] h = refl
queue_records segs n ps k (l ∷ ls) h =
    let s : suc k ≡ k + 1 = omega arith in
    let e : records_of_queue l ≡ map (record_of k) (items_of segs n k ps) =
    ap (λ z. map (λ (m : Merged). with_head (head_of z m) m.packet) (merged_in l)) h.0.queue
    ∙ ap (map (λ (m : Merged). with_head (head_of k m) m.packet)) h.0.merged
    ∙ map_merged k (items_of segs n k ps) in
    ap (λ z. z ++ flat_map records_of_queue ls) e
    ∙ ap (λ z. map (record_of k) (items_of segs n k ps) ++ z) (queue_records segs n ps (suc k) ls h.1 ∙ ap (λ z. flat_map (λ q. map (record_of q) (items_of segs n q ps))
    (range_with_len z (length ls))) s)

pub tap_records : (snap : ℕ) (ps : List Packet) (k : ℕ) (ls : List TapLane) → EachFrom (IsWatched snap ps) k ls
    → flat_map records_of_tap ls ≡ flat_map (λ t. windows_of snap t ps) (range_with_len k (length ls))
tap_records snap ps k [] h = refl
tap_records snap ps k (l ∷ ls) h =
    let s : suc k ≡ k + 1 = omega arith in
    ap (λ z. z ++ flat_map records_of_tap ls) h.0.windows
    ∙ ap (λ z. windows_of snap k ps ++ z) (tap_records snap ps (suc k) ls h.1 ∙ ap (λ z. flat_map (λ t. windows_of snap t ps) (range_with_len z (length ls))) s)

-- ---- all lanes

-- what each queue and each tap did, in the slices that were lent
pub did_all : (plan : LanePlan) (old : Lanes) (qs qs' : List QueueLane) (ts ts' : List TapLane) → qs ≡ old.queues.items → ts ≡ old.taps.items → length qs' ≡ length qs → length ts' ≡ length ts
    → EachQueueDid plan.segs qs qs' → EachTapDid plan.filter plan.snap ts ts' → Did plan old (record { queues = with_items old.queues qs'; taps = with_items old.taps ts' })
did_all plan old qs qs' ts ts' q t long tall queues taps =
    let q' = refilled old.queues.len qs' old.queues.items (long ∙ ap length q) old.queues.ok.0 in
    let t' = refilled old.taps.len ts' old.taps.items (tall ∙ ap length t) old.taps.ok.0 in
    record {
      queues = subst (EachQueueDid plan.segs old.queues.items) (sym q') (subst (λ (z : List QueueLane). EachQueueDid plan.segs z qs') q queues);
      taps = subst (EachTapDid plan.filter plan.snap old.taps.items) (sym t') (subst (λ (z : List TapLane). EachTapDid plan.filter plan.snap z ts') t taps);
      sizes = (ap length q' ∙ long ∙ ap length q, ap length t' ∙ tall ∙ ap length t);
    }
