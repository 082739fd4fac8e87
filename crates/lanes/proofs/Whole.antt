-- All lanes of a round together.
use Rattle.std.proofs.Common.{◌≡◌, ℕ, suc, ◌+◌, List, [], ◌∷◌, ◌++◌, map, length, inl, inr, refl, sym, ap, ◌∙◌, subst, arith}
use Rattle.std.specs.Prelude.{All, Bool, true, false, IsSome, Some, Ok, Err, OnOk, MatchResult}
use Rattle.std.proofs.lemmas.Bool.{false≢true}
use Rattle.std.specs.declared.result.Result.{Result}
use Rattle.std.specs.List.{filter, flat_map, range_with_len}
use Rattle.pcap_io.specs.Capture.{Packet}
use Rattle.frags.specs.Account.{Account, Keeps, KeepsBlocks, both, every}
use Rattle.std.specs.Prelude.{◌⊎◌}
use Rattle.offload_model.specs.Merged.{merged_of}
use Rattle.offload_model.specs.Rounds.{Spread, is_queued, items_of}
use Rattle.offload_model.specs.Written.{record_of, shown_of, round_records, windows_of, Options}
use Rattle.gro.specs.declared.slot.Slot.{Slot as Held}
use Rattle.gro.specs.Slots.{packet_of, of_packets, AreAlone}
use Rattle.taps.specs.Texts.{texts_of}
use Rattle.lanes.specs.declared.lane.QueueLane.{QueueLane}
use Rattle.lanes.specs.declared.lane.TapLane.{TapLane}
use Rattle.lanes.specs.declared.lane.Lanes.{Lanes}
use Rattle.lanes.specs.declared.plan.LanePlan.{LanePlan}
use Rattle.lanes.specs.Lanes.{of_queues, of_taps, of_lanes, counts_of_queues, weighed_queues, AreIdle, EachTapDid, IsFilled, IsIdleQueue, IsIdleTap, IsMerged}
use Rattle.lanes.specs.Sharing.{EachFrom, IsSum}
use Rattle.lanes.specs.Soles.{AreOfPackets}
use Rattle.lanes.specs.Work.{spread_of, options_by, shown_by, AreFilled, AreUnshared, Did, Fills, IsDone, IsRefused, IsToWork, IsUncloned, IsWorked, IsWatched, MayWatch, AreMerged, AreWatched, merged_in, lane_records, records_of_tap}
use Rattle.lanes.proofs.Apart.{are_of_packets}
use Rattle.lanes.proofs.Listing.{all_from, each_map, each_equal}
use Rattle.lanes.proofs.Idle.{idle_clones, idle_lanes, idle_queues}
use Rattle.lanes.proofs.Sharing.{idle_alone}
use Rattle.lanes.proofs.Worked.{all_spent, all_stay, all_worked, all_watched, queues_alone, queues_count, queues_same, queues_weighed, taps_blocks, taps_kept, queue_records, tap_records}

-- ---- what is held while lanes are filled

pub fill_none : (p : Account) (l : Lanes) → AreIdle l → Keeps p (both p (of_lanes l))
fill_none p l idle t m = let z = idle_lanes l idle t m in (omega (arith, z.0), omega (arith, z.1))

pub fill_taps : (p q : Account) (ls : List QueueLane) (ts : List TapLane) → All IsIdleQueue ls → Keeps p (both q (of_taps ts)) → Keeps p (both q (both (of_queues ls) (of_taps ts)))
fill_taps p q ls ts idle k t m =
    let x = k t m in
    let z = idle_queues ls idle t m in
    (omega (arith, x.0, z.0), omega (arith, x.1, z.0, z.1))

pub fill_all : (p q r : Account) (ls : List QueueLane) (ts : List TapLane) → Keeps p (both q (of_taps ts)) → IsSum q r (of_queues ls) → Keeps p (both r (both (of_queues ls) (of_taps ts)))
fill_all p q r ls ts k s t m =
    let x = k t m in
    let z = s t m in
    (omega (arith, x.0, z.0), omega (arith, x.1, z.0, z.1))

-- the same of blocks
pub blocks_none : (p : Account) (l : Lanes) → AreIdle l → KeepsBlocks p (both p (of_lanes l))
blocks_none p l idle bs m = let z = idle_lanes l idle (every bs) m in omega (arith, z.0, z.1)

pub blocks_taps : (p q : Account) (ls : List QueueLane) (ts : List TapLane) → All IsIdleQueue ls → KeepsBlocks p (both q (of_taps ts)) → KeepsBlocks p (both q (both (of_queues ls) (of_taps ts)))
blocks_taps p q ls ts idle k bs m =
    let x = k bs m in
    let z = idle_queues ls idle (every bs) m in
    omega (arith, x, z.0, z.1)

pub blocks_all : (p q r : Account) (ls : List QueueLane) (ts : List TapLane) → KeepsBlocks p (both q (of_taps ts)) → IsSum q r (of_queues ls)
    → KeepsBlocks p (both r (both (of_queues ls) (of_taps ts)))
blocks_all p q r ls ts k s bs m =
    let x = k bs m in
    let z = s (every bs) m in
    omega (arith, x, z.0, z.1)

-- ---- where no tap is

no_taps : (n : ℕ) (ts : List TapLane) → length ts ≡ n → n ≡ 0 → All IsIdleTap ts
no_taps n ts e none i d lt = absurd (omega (arith, e, none, lt))

idle_there : (shared : Bool) (plan : LanePlan) (ts : List TapLane) → length ts ≡ plan.taps → (shared ≡ false → All IsIdleTap ts) → IsUncloned shared plan → All IsIdleTap ts
idle_there shared plan ts e idle (inl off) = idle off
idle_there shared plan ts e idle (inr none) = no_taps plan.taps ts e none

-- nothing came to the lanes
pub unshared_none : (shared : Bool) (plan : LanePlan) (ps : List Held) (l : Lanes) → AreIdle l → AreUnshared shared plan ps ps l
unshared_none shared plan ps l idle = record { alone = λ none h. (h, idle_alone l.queues.items idle.0); idle = λ none. idle.1 }

-- what came to them
pub unshared_some : (shared : Bool) (plan : LanePlan) (old now : List Held) (l : Lanes) (ls : List QueueLane) (ts : List TapLane) → l.queues.items ≡ ls → l.taps.items ≡ ts
    → length ts ≡ plan.taps → (shared ≡ false → All IsIdleTap ts)
    → (IsUncloned shared plan → AreAlone old → AreAlone now × All (λ (m : QueueLane). AreAlone m.packets.items) ls) → AreUnshared shared plan old now l
unshared_some shared plan old now l ls ts e f size idle h = record {
  alone = λ none alone. let a = h none alone in (a.0, subst (All (λ (m : QueueLane). AreAlone m.packets.items)) (sym e) a.1);
  idle = λ own. subst (All IsIdleTap) (sym f) (idle_there shared plan ts size idle own);
}

-- where there is no list of taps, there is none
pub own_there : (shared : Bool) (plan : LanePlan) (n : ℕ) → n ≡ plan.taps → IsUncloned shared plan → (shared ≡ false) ⊎ (n ≡ 0)
own_there shared plan n e (inl off) = inl off
own_there shared plan n e (inr none) = inr (e ∙ none)

-- ---- what all lanes have done

numbers : {A : Type 0} (g : A → ℕ) (k : ℕ) (xs : List A) → EachFrom (λ i x. g x ≡ i) k xs → map g xs ≡ range_with_len k (length xs)
numbers g k [] h = refl
numbers g k (x ∷ xs) h =
    let e : suc k ≡ k + 1 = omega arith in
    ap (λ z. z ∷ map g xs) h.0 ∙ ap (λ z. k ∷ z) (numbers g (suc k) xs h.1 ∙ ap (λ z. range_with_len z (length xs)) e)

pub are_merged : (segs : ℕ) (s : Spread) (n : ℕ) (ps : List Packet) (ls : List QueueLane) → length ls ≡ n → EachFrom (IsWorked segs s ps) 0 ls → AreMerged segs s n ps ls
are_merged segs s n ps ls e h = record {
  numbers =
      numbers (λ (l : QueueLane). l.queue) 0 ls (each_map (IsWorked segs s ps) (λ q l. l.queue ≡ q) 0 ls (λ q l w. w.queue) h)
      ∙ ap (range_with_len 0) e;
  items =
      each_equal merged_in (λ q. map merged_of (items_of segs s q ps)) 0 ls (each_map (IsWorked segs s ps) (λ q l. merged_in l ≡ map merged_of (items_of segs s q ps)) 0 ls (λ q l w. w.merged) h)
      ∙ ap (λ z. map (λ q. map merged_of (items_of segs s q ps)) (range_with_len 0 z)) e;
}

pub are_watched : (snap n : ℕ) (ps : List Packet) (ls : List TapLane) → length ls ≡ n → EachFrom (IsWatched snap ps) 0 ls → AreWatched snap n ps ls
are_watched snap n ps ls e h = record {
  numbers =
      numbers (λ (l : TapLane). l.tap) 0 ls (each_map (IsWatched snap ps) (λ t l. l.tap ≡ t) 0 ls (λ t l w. w.tap) h)
      ∙ ap (range_with_len 0) e;
  texts =
      each_equal (λ (l : TapLane). l.texts) (λ t. Some (texts_of snap t ps)) 0 ls (each_map (IsWatched snap ps) (λ t l. l.texts ≡ Some (texts_of snap t ps)) 0 ls (λ t l w. w.texts) h)
      ∙ ap (λ z. map (λ t. Some (texts_of snap t ps)) (range_with_len 0 z)) e;
}

pub are_records : (o : Options) (ps : List Packet) (l : Lanes) → length l.queues.items ≡ o.queues → length l.taps.items ≡ o.taps → EachFrom (IsWorked o.segs o.spread ps) 0 l.queues.items
    → EachFrom (IsWatched o.snap (map (shown_of o.filter) ps)) 0 l.taps.items
    → lane_records l ≡ round_records o ps
are_records o ps l e f h g =
    ap (λ z. z ++ flat_map records_of_tap l.taps.items)
    (queue_records o.segs o.spread ps 0 l.queues.items h ∙ ap (λ n. flat_map (λ q. map (record_of q) (items_of o.segs o.spread q ps)) (range_with_len 0 n)) e)
    ∙ ap (λ z. flat_map (λ q. map (record_of q) (items_of o.segs o.spread q ps)) (range_with_len 0 o.queues) ++ z)
    (tap_records o.snap (map (shown_of o.filter) ps) 0 l.taps.items g ∙ ap (λ n. flat_map (λ t. windows_of o.snap t (map (shown_of o.filter) ps)) (range_with_len 0 n)) f)

-- where a call is answered Ok, what follows of it there
pub on_ok : {A E : Type 0} (r : Result A E) (P Q : Type 0) → (P → Q) → OnOk r P → OnOk r Q
on_ok (Ok x) P Q f h = f h
on_ok (Err e) P Q f h = tt

pub on_both : {A E : Type 0} (r : Result A E) (P Q R : Type 0) → (P → Q → R) → OnOk r P → OnOk r Q → OnOk r R
on_both (Ok x) P Q R f h k = f h k
on_both (Err e) P Q R f h k = tt

pub all_filled : (n : Spread) (ps : List Packet) (ls : List QueueLane) → EachFrom (IsToWork n ps) 0 ls → All IsFilled ls
all_filled n ps ls h = all_from (IsToWork n ps) IsFilled 0 ls (λ q l w. w.filled) h

-- ---- a round that is done

-- taps of which some read clones, or that had all read before
abbrev pub DidTaps : Bool → LanePlan → List TapLane → List TapLane → Type 0
DidTaps true plan ls ms = EachTapDid plan.filter plan.snap ls ms
DidTaps false plan ls ms = ms ≡ ls

did_taps : (shared : Bool) (plan : LanePlan) (old : List Held) (l m : Lanes) → AreFilled shared plan old l → Did plan l m → DidTaps shared plan l.taps.items m.taps.items
did_taps true plan old l m f d = d.taps
did_taps false plan old l m f d = all_stay plan.filter plan.snap (shown_by plan (map packet_of old)) 0 l.taps.items m.taps.items d.sizes.1 f.taps d.taps

held_taps : (shared : Bool) (plan : LanePlan) (ls ms : List TapLane) → length ms ≡ length ls → DidTaps shared plan ls ms → Keeps (of_taps ls) (of_taps ms)
held_taps true plan ls ms e d = taps_kept plan.filter plan.snap ls ms e d
held_taps false plan ls ms e d = subst (λ (z : List TapLane). Keeps (of_taps ls) (of_taps z)) (sym d) (λ t m. (omega arith, omega arith))

blocks_of_taps : (shared : Bool) (plan : LanePlan) (ls ms : List TapLane) → length ms ≡ length ls → DidTaps shared plan ls ms → KeepsBlocks (of_taps ls) (of_taps ms)
blocks_of_taps true plan ls ms e d = taps_blocks plan.filter plan.snap ls ms e d
blocks_of_taps false plan ls ms e d = subst (λ (z : List TapLane). KeepsBlocks (of_taps ls) (of_taps z)) (sym d) (λ bs m. omega arith)

spent_taps : (shared : Bool) (plan : LanePlan) (ps : List Packet) (ls ms : List TapLane) → length ms ≡ length ls → EachFrom (MayWatch shared plan ps) 0 ls
    → (shared ≡ false → All IsIdleTap ls) → DidTaps shared plan ls ms → All (λ (t : TapLane). t.clones.items ≡ []) ms
spent_taps true plan ps ls ms e h idle d = all_spent plan ps ls ms e h d
spent_taps false plan ps ls ms e h idle d = subst (All (λ (t : TapLane). t.clones.items ≡ [])) (sym d) (idle_clones ls (idle refl))

idle_taps_after : (shared : Bool) (plan : LanePlan) (ls ms : List TapLane) → length ms ≡ plan.taps → (IsUncloned shared plan → All IsIdleTap ls) → DidTaps shared plan ls ms
    → IsUncloned shared plan → All IsIdleTap ms
idle_taps_after true plan ls ms e idle d (inl off) = absurd (false≢true (sym off))
idle_taps_after true plan ls ms e idle d (inr none) = no_taps plan.taps ms e none
idle_taps_after false plan ls ms e idle d own = subst (All IsIdleTap) (sym d) (idle own)

watched_taps : (shared : Bool) (plan : LanePlan) (ps : List Packet) (ls ms : List TapLane) → length ms ≡ length ls → EachFrom (MayWatch shared plan ps) 0 ls → DidTaps shared plan ls ms
    → All (λ (m : TapLane). IsSome m.texts) ms → EachFrom (IsWatched plan.snap (shown_by plan ps)) 0 ms
watched_taps true plan ps ls ms e h d read = all_watched plan ps ls ms e h d read
watched_taps false plan ps ls ms e h d read = subst (EachFrom (IsWatched plan.snap (shown_by plan ps)) 0) (sym d) h

-- what the packets hold is still in the lanes
fills_did : (shared : Bool) (plan : LanePlan) (old : List Held) (l m : Lanes) → AreFilled shared plan old l → Did plan l m → Fills shared plan old [] m
fills_did shared plan old l m f d =
    let taps = did_taps shared plan old l m f d in
    let e = queues_same plan.segs l.queues.items m.queues.items d.sizes.0 d.queues in
    let n = queues_count plan.segs l.queues.items m.queues.items d.sizes.0 d.queues in
    record {
      kept = λ t i.
          let x = f.fills.kept t i in
          let y = ap (λ z. z.held t i) e in
          let w = ap (λ z. z.homes t.blocks i) e in
          let z = held_taps shared plan l.taps.items m.taps.items d.sizes.1 taps t i in
          (omega (arith, x.0, y, z.0), omega (arith, x.1, w, z.1));
      blocks = λ bs i.
          let x = f.fills.blocks bs i in
          let y = ap (λ z. z.held (every bs) i) e in
          let w = ap (λ z. z.homes bs i) e in
          let z = blocks_of_taps shared plan l.taps.items m.taps.items d.sizes.1 taps bs i in
          omega (arith, x, y, w, z);
      count = omega (arith, f.fills.count, n);
      named = λ w. omega (arith, f.fills.named w, queues_weighed w plan.segs l.queues.items m.queues.items d.sizes.0 d.queues);
      unshared = record {
        alone = λ own h. (tt, queues_alone plan.segs l.queues.items m.queues.items d.sizes.0 d.queues (f.fills.unshared.alone own h).1);
        idle = idle_taps_after shared plan l.taps.items m.taps.items (d.sizes.1 ∙ f.sizes.1) f.fills.unshared.idle taps;
      };
    }

pub is_done : (shared : Bool) (plan : LanePlan) (old : List Held) (l m : Lanes) → AreFilled shared plan old l → Did plan l m → All (λ (t : TapLane). IsSome t.texts) m.taps.items
    → IsDone shared plan old m
is_done shared plan old l m f d read =
    let ps = map packet_of old in
    let qs = all_worked plan.segs (spread_of plan) ps l.queues.items m.queues.items d.sizes.0 f.queues d.queues in
    let ts = watched_taps shared plan ps l.taps.items m.taps.items d.sizes.1 f.taps (did_taps shared plan old l m f d) read in
    let a : length m.queues.items ≡ plan.queues = d.sizes.0 ∙ f.sizes.0 in
    let b : length m.taps.items ≡ plan.taps = d.sizes.1 ∙ f.sizes.1 in
    record {
      lanes = are_merged plan.segs (spread_of plan) plan.queues ps m.queues.items a qs;
      windows = are_watched plan.snap plan.taps (shown_by plan ps) m.taps.items b ts;
      records = λ budget. are_records (options_by plan budget) ps m a b qs ts;
      merged = all_from (IsWorked plan.segs (spread_of plan) ps) IsMerged 0 m.queues.items (λ i q w. w.is) qs;
      packets =
          each_map (IsWorked plan.segs (spread_of plan) ps) (λ q (l : QueueLane). map packet_of l.packets.items ≡ filter (is_queued (spread_of plan) q) ps) 0 m.queues.items (λ q l w. w.packets) qs;
      fills = fills_did shared plan old l m f d;
      clones = spent_taps shared plan (map packet_of old) l.taps.items m.taps.items d.sizes.1 f.taps (λ off. f.fills.unshared.idle (inl off)) (did_taps shared plan old l m f d);
    }

pub is_refused : (shared : Bool) (plan : LanePlan) (old : List Held) (l m : Lanes) → AreFilled shared plan old l → Did plan l m → IsRefused shared plan old [] m
is_refused shared plan old l m f d = record {
  fills = fills_did shared plan old l m f d;
  clones = spent_taps shared plan (map packet_of old) l.taps.items m.taps.items d.sizes.1 f.taps (λ off. f.fills.unshared.idle (inl off)) (did_taps shared plan old l m f d);
}

-- what taps have given back is of the packets' blocks, also after the work
pub of_packets_after : (shared : Bool) (plan : LanePlan) (old now : List Held) (l m : Lanes) → now ≡ [] → AreFilled shared plan old l → Did plan l m → AreOfPackets now m
of_packets_after shared plan old now l m none f d =
    let r = fills_did shared plan old l m f d in
    subst (λ (z : List Held). AreOfPackets z m) (sym none) (are_of_packets old [] m.queues.items m.taps.items r.blocks r.named)

-- taps gave back the clones that they got before memory was refused: so many blocks are no more
pub blocks_given : (p q : Account) (qs : List QueueLane) (ts us vs : List TapLane) → KeepsBlocks p (both q (both (of_queues qs) (of_taps ts))) → us ≡ ts
    → KeepsBlocks (of_taps us) (of_taps vs) → KeepsBlocks p (both q (both (of_queues qs) (of_taps vs)))
blocks_given p q qs ts us vs k e g bs m =
    let a = ap (λ (z : List TapLane). (of_taps z).held (every bs) m) e in
    let b = ap (λ (z : List TapLane). (of_taps z).homes bs m) e in
    omega (arith, k bs m, g bs m, a, b)

kept_given : (p q : Account) (qs : List QueueLane) (ts us vs : List TapLane) → Keeps p (both q (both (of_queues qs) (of_taps ts))) → us ≡ ts
    → Keeps (of_taps us) (of_taps vs) → Keeps p (both q (both (of_queues qs) (of_taps vs)))
kept_given p q qs ts us vs k e g t m =
    let x = k t m in
    let y = g t m in
    let a = ap (λ (z : List TapLane). (of_taps z).held t m) e in
    let b = ap (λ (z : List TapLane). (of_taps z).homes t.blocks m) e in
    (omega (arith, x.0, y.0, a), omega (arith, x.1, y.1, a, b))

-- the same lanes, each list by its equation
pub is_given_up : (shared : Bool) (plan : LanePlan) (old now : List Held) (l m : Lanes) (us vs : List TapLane) → m.queues.items ≡ l.queues.items → m.taps.items ≡ vs → us ≡ l.taps.items
    → Fills shared plan old now l → Keeps (of_taps us) (of_taps vs) → KeepsBlocks (of_taps us) (of_taps vs) → All (λ (t : TapLane). t.clones.items ≡ []) vs
    → (All IsIdleTap us → All IsIdleTap vs) → IsRefused shared plan old now m
is_given_up shared plan old now l m us vs queues taps same f kept_taps blocks_taps clones idle =
    let P : List QueueLane → List TapLane → Type 0 = λ qs ts. Keeps (of_packets old) (both (of_packets now) (both (of_queues qs) (of_taps ts))) in
    let B : List QueueLane → List TapLane → Type 0 = λ qs ts. KeepsBlocks (of_packets old) (both (of_packets now) (both (of_queues qs) (of_taps ts))) in
    let k = kept_given (of_packets old) (of_packets now) l.queues.items l.taps.items us vs f.kept same kept_taps in
    let b = blocks_given (of_packets old) (of_packets now) l.queues.items l.taps.items us vs f.blocks same blocks_taps in
    record {
      fills = record {
        kept = subst (λ qs. P qs m.taps.items) (sym queues) (subst (λ ts. P l.queues.items ts) (sym taps) k);
        blocks = subst (λ qs. B qs m.taps.items) (sym queues) (subst (λ ts. B l.queues.items ts) (sym taps) b);
        count = omega (arith, f.count, ap counts_of_queues queues);
        named = λ w. omega (arith, f.named w, ap (weighed_queues w) queues);
        unshared = record {
          alone = λ none h.
              let x = f.unshared.alone none h in
              (x.0, subst (All (λ (q : QueueLane). AreAlone q.packets.items)) (sym queues) x.1);
          idle = λ none. subst (All IsIdleTap) (sym taps) (idle (subst (All IsIdleTap) (sym same) (f.unshared.idle none)));
        };
      };
      clones = subst (All (λ (t : TapLane). t.clones.items ≡ [])) (sym taps) clones;
    }

-- whether all was done or not, nothing is lost
pub fills_after : {E : Type 0} (r : Result (Unit {0}) E) (shared : Bool) (plan : LanePlan) (old now : List Held) (l : Lanes) → now ≡ []
    → MatchResult r (λ _. IsDone shared plan old l) (λ _. IsRefused shared plan old [] l) → Fills shared plan old now l
fills_after (Ok u) shared plan old now l none is = subst (λ (z : List Held). Fills shared plan old z l) (sym none) is.fills
fills_after (Err e) shared plan old now l none is = subst (λ (z : List Held). Fills shared plan old z l) (sym none) is.fills
