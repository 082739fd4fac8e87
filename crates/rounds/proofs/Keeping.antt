-- Packets that are worked in lanes, with a clone of each beside them: that they may be, and that what comes of them fits.
use Rattle.std.proofs.Common.{◌≡◌, ℕ, suc, zero, ◌+◌, ◌-◌, ◌*◌, ◌<◌, ◌≤◌, Bool, true, false, ◌⊎◌, inl, inr, Some, List, [], ◌∷◌, map, length, get_or, drop, refl, sym, ap, ◌∙◌, subst, arith}
use Rattle.std.specs.Prelude.{All, IfErr, IfOk, OnOk, Ok, Err, MatchResult}
use Rattle.std.specs.declared.result.Result.{Result}
use Rattle.std.specs.List.{AllByRecursion, filter, range_with_len}
use Rattle.std.proofs.lemmas.Bool.{false≢true}
use Rattle.std.proofs.lemmas.List.{length-take}
use Rattle.std.proofs.lemmas.List.Elements.{recursion_from_All}
use Rattle.pcap_io.specs.Capture.{Packet}
use Rattle.block_weight.specs.WeightRule.{full_weight}
use Rattle.maximal_runs.proofs.Pass.{all_append}
use Rattle.block_pool.specs.PoolState.{home}
use Rattle.frags.specs.Account.{Account, Tests, Keeps, KeepsBlocks, both, every}
use Rattle.frags.specs.declared.holder.Holder.{Holder}
use Rattle.frags.specs.declared.holder.Holder.TheVariants.{Sole, Part}
use Rattle.skb.specs.SkbState.{SkbState, buffer_least, head_least, is_sole, IsAlone}
use Rattle.offload_model.specs.Captured.{IsCaptured}
use Rattle.offload_model.specs.Rounds.{Spread, is_queued}
use Rattle.offload_model.specs.Written.{window_of}
use Rattle.offload_model.proofs.Lists.{all_filtered}
use Rattle.gro.specs.declared.slot.Slot.{Slot as Held}
use Rattle.gro.specs.Slots.{packet_of, of_packets, counts_of, weighed_slots, AreAlone, AreHeld, AreLent, AreShared, IsHeld, WeighAtLeast}
use Rattle.gro.proofs.Lying.{lent_counts, lent_packets, whole_least}
use Rattle.gro.proofs.Weights.{weighed_lent}
use Rattle.taps.specs.declared.clones.TapClone.{TapClone}
use Rattle.taps.specs.Clones.{packet_of as packet_of_clone, blocks_of, of_clones}
use Rattle.taps.specs.Texts.{text_by, text_of, texts_of}
use Rattle.lanes.specs.declared.lane.QueueLane.{QueueLane}
use Rattle.lanes.specs.declared.lane.TapLane.{TapLane}
use Rattle.lanes.specs.declared.lane.Lanes.{Lanes}
use Rattle.lanes.specs.declared.plan.LanePlan.{LanePlan}
use Rattle.lanes.specs.Clones.{weight_after, AreAfter}
use Rattle.lanes.specs.Lanes.{of_lanes, counts_of_queues, weighed_queues, AreIdle, IsIdleQueue, IsIdleTap, IsMerged}
use Rattle.lanes.proofs.Idle.{idle_clones, idle_counts, idle_lanes, idle_weighed}
use Rattle.lanes.specs.Packets.{RiseFrom}
use Rattle.lanes.specs.Sharing.{EachFrom}
use Rattle.lanes.specs.Work.{IsPlan, IsUncloned, options_by, spread_of, shown_by, AreMerged, AreWatched}
use Rattle.reading.specs.Laid.{AreRead, IsRead, LaidFrom}
use Rattle.reading.proofs.Laying.{laid_all}
use Rattle.rounds.specs.Fresh.{NumberedFrom}
use Rattle.rounds.specs.Held.{Fits}
use Rattle.rounds.specs.Prepared.{IsPrepared, IsWorkDone, IsWorkLeft, IsOfLanes, IsOneRound, IsOutBeside, ArePrepared}
use Rattle.rounds.specs.Lanes.{AreSpent, AreShortTexts, IsKeptWorkOf, IsShortText, IsSmallQueue, IsSmallTap, IsSmallWork}
use Rattle.rounds.specs.Marks.{IsNamed, IsRound}
use Rattle.rounds.specs.Out.{IsOut}
use Rattle.rounds.specs.RoundsState.{RestState, WorkedState}
use Rattle.rounds.specs.declared.lane_work.Prepared.{Prepared}
use Rattle.rounds.proofs.Naming.{lent_named, marks_weigh, name_at, names_are}
use Rattle.rounds.proofs.Places.{named_keeps}
use Rattle.rounds.proofs.Small.{captured_fit}
use Rattle.rounds.proofs.Taking.{fresh_lent, fresh_round}
use Rattle.rounds.proofs.Working.{round_keeps}

-- ---- packets as they were read

is_held : (p : Held) → IsRead p → IsCaptured (packet_of p) → IsHeld p
is_held p r c = record { size = r.size; front = omega (arith, r.front); short = c.short }

pub are_held : (ps : List Held) → AreRead ps → AllByRecursion IsCaptured (map packet_of ps) → AreHeld ps
are_held [] r c = tt
are_held (p ∷ ps) r c = (is_held p r.0 c.0, are_held ps r.1 c.1)

alone_least : (b : SkbState) → IsAlone b → full_weight ≤ buffer_least b
alone_least b a = omega (arith, sole_least b.head a.head, whole_least b.rest a.rest)
  where
    sole_least : (h : Holder) → is_sole h ≡ true → head_least h ≡ full_weight
    sole_least (Sole s) e = refl
    sole_least (Part p) e = absurd cc

weigh_less : (v w : ℕ) (ps : List Held) → v ≤ w → WeighAtLeast w ps → WeighAtLeast v ps
weigh_less v w [] le h = tt
weigh_less v w (p ∷ ps) le h = (omega (arith, le, h.0), weigh_less v w ps le h.1)

weigh_alone : (ps : List Held) → AreAlone ps → WeighAtLeast full_weight ps
weigh_alone [] a = tt
weigh_alone (p ∷ ps) a = (alone_least p.skb a.0, weigh_alone ps a.1)

idle_alone : (ls : List QueueLane) → All IsIdleQueue ls → All (λ (l : QueueLane). AreAlone l.packets.items) ls
idle_alone ls idle i d lt = subst AreAlone (sym (idle i d lt).packets) tt

-- no clone was taken
pub after_none : (ps : List Held) → AreHeld ps → AreShared ps → WeighAtLeast full_weight ps → AreAfter 1 ps ps
after_none ps held shared whole = record { same = refl; counts = refl; named = λ h. refl; held = held; shared = shared; weigh = weigh_less (weight_after 1) full_weight ps (omega arith) whole }

pub rise : (j k : ℕ) (ps : List Held) → j ≤ k → NumberedFrom k ps → RiseFrom j (map packet_of ps)
rise j k [] le h = tt
rise j k (p ∷ ps) le h = (omega (arith, le, h.0), rise (p.number + 1) (k + 1) ps (omega (arith, h.0)) h.1)

-- ---- before the work of the lanes

-- nobody else is to hold a block
pub prepared_alone : (ps : List Held) (clones : List TapClone) → LaidFrom 0 ps → AreRead ps → AllByRecursion IsCaptured (map packet_of ps) → clones ≡ [] → ArePrepared false ps ps clones
prepared_alone ps clones laid read captured none = record {
  same = refl;
  held = are_held ps read captured;
  weighs = weigh_less (weight_after 1) full_weight ps (omega arith) (weigh_alone ps (laid_all 0 ps laid));
  count = refl;
  named = λ h. refl;
  round = record { packets = laid_all 0 ps laid; count = refl; none = none };
}

-- heads were shared, rs, and then a clone of each packet was kept, if that was wanted
pub prepared_shared : (ps rs qs : List Held) (clones : List TapClone) → LaidFrom 0 ps → AreLent ps rs → AreAfter 1 rs qs → Keeps (of_packets rs) (both (of_packets qs) (of_clones clones))
    → KeepsBlocks (of_packets rs) (both (of_packets qs) (of_clones clones)) → blocks_of clones ≤ counts_of rs → ArePrepared true ps qs clones
prepared_shared ps rs qs clones laid lent after keeps blocks fewer =
    let counts = lent_counts ps rs lent in
    record {
      same = after.same ∙ lent_packets ps rs lent;
      held = after.held;
      weighs = after.weigh;
      count = after.counts ∙ counts;
      named = λ h. after.named h ∙ weighed_lent ps rs lent h;
      round = record {
        heads = after.shared;
        round = round_keeps (counts_of ps) (of_packets rs) (both (of_packets qs) (of_clones clones)) keeps (fresh_round (counts_of ps) (of_packets rs) (fresh_lent 0 ps rs laid lent));
        names = name_at ps;
        named = named_keeps (name_at ps) (of_packets rs) (both (of_packets qs) (of_clones clones)) blocks (lent_named (name_at ps) 0 ps rs laid lent (names_are ps));
        weights = λ h. marks_weigh (name_at ps) h 0 ps (names_are ps) ∙ sym (after.named h ∙ weighed_lent ps rs lent h);
        counts = omega (arith, after.counts, counts, fewer);
      };
    }

-- without lanes that hold anything
pub out_idle : (shared : Bool) (n : ℕ) (qs : List Held) (lanes : Lanes) (clones : List TapClone) → AreIdle lanes → IsOneRound shared n qs clones → IsOut shared n qs lanes clones
out_idle true n qs lanes clones idle r = record {
  round = round_keeps n (both (of_packets qs) (of_clones clones)) (both (of_packets qs) (both (of_lanes lanes) (of_clones clones)))
      (λ t m. let a = idle_lanes lanes idle t m in (omega (arith, a.0), omega (arith, a.0, a.1))) r.round;
  names = r.names;
  named = named_keeps r.names (both (of_packets qs) (of_clones clones)) (both (of_packets qs) (both (of_lanes lanes) (of_clones clones)))
      (λ bs m. omega (arith, idle_lanes lanes idle (every bs) m)) r.named;
  weights = λ h. omega (arith, r.weights h, idle_weighed h lanes.queues.items idle.0);
  counts = omega (arith, r.counts, idle_counts lanes.queues.items idle.0);
  spent = idle_clones lanes.taps.items idle.1;
}
out_idle false n qs lanes clones idle r = record {
  packets = r.packets;
  queues = idle_alone lanes.queues.items idle.0;
  count = omega (arith, r.count, idle_counts lanes.queues.items idle.0);
  none = r.none;
  idle = idle.1;
}

-- packets as they were read, without lanes or clones
pub out_alone : (n : ℕ) (ps : List Held) (lanes : Lanes) (clones : List TapClone) → LaidFrom 0 ps → counts_of ps ≡ n → AreIdle lanes → clones ≡ [] → IsOut false n ps lanes clones
out_alone n ps lanes clones laid count idle none = out_idle false n ps lanes clones idle (record { packets = laid_all 0 ps laid; count = count; none = none })

head_shared : (shared : Bool) (n : ℕ) (qs : List Held) (clones : List TapClone) → IsOneRound shared n qs clones → shared ≡ true → AreShared qs
head_shared true n qs clones r on = r.heads
head_shared false n qs clones r on = absurd (false≢true on)

-- so much of a round that isn't a spare
pub at_count : (shared : Bool) (m n : ℕ) (qs : List Held) (clones : List TapClone) → m ≡ n → IsOneRound shared m qs clones → IsOneRound shared n qs clones
at_count shared m n qs clones e r = subst (λ (i : ℕ). IsOneRound shared i qs clones) e r

sole_from : (keep : Bool) (taps : ℕ) → (keep ≡ true) ⊎ (1 ≤ taps) → keep ≡ false → taps ≡ 0 → ⊥
sole_from keep taps (inl on) off none = absurd (false≢true (sym off ∙ on))
sole_from keep taps (inr some) off none = absurd (omega (arith, some, none))

sole_of : (shared keep : Bool) (taps : ℕ) → (shared ≡ true → (keep ≡ true) ⊎ (1 ≤ taps)) → keep ≡ false → taps ≡ 0 → shared ≡ false
sole_of false keep taps only off none = refl
sole_of true keep taps only off none = absurd (sole_from keep taps (only refl) off none)

pub is_prepared : (keep : Bool) (taps n : ℕ) (ps : List Held) (k : Prepared) → k.blocks ≡ n → counts_of ps + home k.spares ≡ n → AllByRecursion IsCaptured (map packet_of ps)
    → (j : ℕ) × NumberedFrom j ps → n ≤ 65536 → (k.shared ≡ true → (keep ≡ true) ⊎ (1 ≤ taps)) → ArePrepared k.shared ps k.packets.items k.clones.items
    → (keep ≡ true → map packet_of_clone k.clones.items ≡ map packet_of ps)
    → IsPrepared keep taps (map packet_of ps) n k
is_prepared keep taps n ps k size counts captured numbers few only p clones = record {
  same = p.same;
  size = size;
  held = p.held;
  shown = head_shared k.shared (counts_of ps) k.packets.items k.clones.items p.round;
  weighs = p.weighs;
  rising = subst (RiseFrom 0) (sym p.same) (rise 0 numbers.0 ps (omega arith) numbers.1);
  fit = subst (AllByRecursion Fits) (sym p.same) (captured_fit (map packet_of ps) captured);
  few = omega (arith, p.count, counts, few);
  spares = omega (arith, counts, size);
  sole = sole_of k.shared keep taps only;
  round = at_count k.shared (counts_of ps) (k.blocks - home k.spares) k.packets.items k.clones.items (omega (arith, counts, size)) p.round;
  clones = clones;
}

-- ---- what the lanes come to fits

below : {A : Type 0} (f : A → ℕ) (k n m : ℕ) (xs : List A) → k + n ≤ m → map f xs ≡ range_with_len k n → AllByRecursion (λ x. f x < m) xs
below f k n m [] le e = tt
below f k zero m (x ∷ xs) le e = absurd (omega (arith, ap length e))
below f k (suc n) m (x ∷ xs) le e =
    let first : f x ≡ k = ap (λ z. get_or z 0 0) e in
    let rest : map f xs ≡ range_with_len (k + 1) n = ap (drop 1) e in
    (omega (arith, first, le), below f (k + 1) n m xs (omega (arith, le)) rest)

-- the packets of each queue, from number k on, are some of the round's
small_queues : (spread : Spread) (ps : List Packet) (k : ℕ) (ls : List QueueLane) → AllByRecursion Fits ps → AllByRecursion (λ (l : QueueLane). l.queue < 64) ls
    → AllByRecursion IsMerged ls → EachFrom (λ q (l : QueueLane). map packet_of l.packets.items ≡ filter (is_queued spread q) ps) k ls → AllByRecursion IsSmallQueue ls
small_queues spread ps k [] fit number merged packets = tt
small_queues spread ps k (l ∷ ls) fit number merged packets = (
  (omega (arith, number.0), merged.0, subst (AllByRecursion Fits) (sym packets.0) (all_filtered Fits (is_queued spread k) ps fit)),
  small_queues spread ps (suc k) ls fit number.1 merged.1 packets.1,
)

text_short : (p : Packet) (bytes : List ℕ) → length bytes ≤ 2048 → AllByRecursion IsShortText (text_by p bytes)
text_short p [] le = tt
text_short p (b ∷ bytes) le = (le, tt)

texts_short : (snap t : ℕ) (ps : List Packet) → snap ≤ 2048 → AllByRecursion IsShortText (texts_of snap t ps)
texts_short snap t [] le = tt
texts_short snap t (p ∷ ps) le =
    all_append IsShortText (text_of snap t p) (texts_of snap t ps) (text_short p (window_of snap t p.frame) (omega (arith, le, length-take snap (drop (t * snap) p.frame)))) (texts_short snap t ps le)

all_short : (snap : ℕ) (ps : List Packet) (ts : List ℕ) → snap ≤ 2048 → AllByRecursion AreShortTexts (map (λ t. Some (texts_of snap t ps)) ts)
all_short snap ps [] le = tt
all_short snap ps (t ∷ ts) le = (texts_short snap t ps le, all_short snap ps ts le)

small_taps : (ls : List TapLane) → AllByRecursion (λ (l : TapLane). l.tap < 8) ls → AllByRecursion AreShortTexts (map (λ (l : TapLane). l.texts) ls) → AllByRecursion IsSmallTap ls
small_taps [] number short = tt
small_taps (l ∷ ls) number short = ((omega (arith, number.0), short.0), small_taps ls number.1 short.1)

small_lanes : (plan : LanePlan) (ps : List Packet) (lanes : Lanes) → IsPlan plan → AllByRecursion Fits ps → AreMerged plan.segs (spread_of plan) plan.queues ps lanes.queues.items
    → All IsMerged lanes.queues.items → EachFrom (λ q (l : QueueLane). map packet_of l.packets.items ≡ filter (is_queued (spread_of plan) q) ps) 0 lanes.queues.items
    → AreWatched plan.snap plan.taps (shown_by plan ps) lanes.taps.items → IsSmallWork lanes
small_lanes plan ps lanes is fit merged are packets watched = record {
  queues = small_queues (spread_of plan) ps 0 lanes.queues.items fit (below (λ (l : QueueLane). l.queue) 0 plan.queues 64 lanes.queues.items (omega (arith, is.0.1)) merged.numbers)
      (recursion_from_All IsMerged lanes.queues.items are) packets;
  taps = small_taps lanes.taps.items (below (λ (l : TapLane). l.tap) 0 plan.taps 8 lanes.taps.items (omega (arith, is.1)) watched.numbers)
      (subst (AllByRecursion AreShortTexts) (sym watched.texts) (all_short plan.snap (shown_by plan ps) (range_with_len 0 plan.taps) is.2.1));
}

-- ---- what the lanes have done, or not

ok_of : {E : Type 0} (r : Result (Unit {0}) E) (P : Type 0) → r ≡ Ok tt → OnOk r P → P
ok_of r P e h = subst (λ z. OnOk z P) e h

-- packets went from ps to qs and to the lanes
pub out_worked : (shared : Bool) (plan : LanePlan) (n : ℕ) (ps qs : List Held) (lanes : Lanes) (clones : List TapClone) → IsOneRound shared n ps clones
    → Keeps (of_packets ps) (both (of_packets qs) (of_lanes lanes)) → KeepsBlocks (of_packets ps) (both (of_packets qs) (of_lanes lanes))
    → ((h : ℕ → ℕ) → weighed_slots h qs + weighed_queues h lanes.queues.items ≡ weighed_slots h ps) → counts_of qs + counts_of_queues lanes.queues.items ≡ counts_of ps → AreSpent lanes.taps.items
    → (IsUncloned shared plan → AreAlone ps → AreAlone qs × All (λ (l : QueueLane). AreAlone l.packets.items) lanes.queues.items)
    → (IsUncloned shared plan → All IsIdleTap lanes.taps.items)
    → IsOut shared n qs lanes clones
out_worked true plan n ps qs lanes clones r keeps blocks named count spent alone idle = record {
  round = round_keeps n (both (of_packets ps) (of_clones clones)) (both (of_packets qs) (both (of_lanes lanes) (of_clones clones)))
      (λ t m. let x = keeps t m in (omega (arith, x.0), omega (arith, x.0, x.1))) r.round;
  names = r.names;
  named = named_keeps r.names (both (of_packets ps) (of_clones clones)) (both (of_packets qs) (both (of_lanes lanes) (of_clones clones)))
      (λ bs m. omega (arith, blocks bs m)) r.named;
  weights = λ h. omega (arith, r.weights h, named h);
  counts = omega (arith, r.counts, count);
  spent = spent;
}
out_worked false plan n ps qs lanes clones r keeps blocks named count spent alone idle =
    let a = alone (inl refl) r.packets in
    record {
      packets = a.0;
      queues = a.1;
      count = omega (arith, count, r.count);
      none = r.none;
      idle = idle (inl refl);
    }

-- the same round, but that some of its packets went to the lanes, and some of its spares to others
pub record IsLess (k j : Prepared) : Type 0 where
  pub same : record j { packets = k.packets; spares = k.spares; blocks = k.blocks } ≡ k
  pub spares : home j.spares ≤ j.blocks
  pub count : j.blocks - home j.spares ≡ k.blocks - home k.spares

-- what is out with it
beside : (k j : Prepared) (l : Lanes) → IsLess k j → IsOut k.shared (k.blocks - home k.spares) j.packets.items l k.clones.items → IsOutBeside j l
beside k j l less out = (
  less.spares,
  subst (λ (n : ℕ). IsOut j.shared n j.packets.items l j.clones.items) (sym less.count)
      (subst (λ (z : Prepared). IsOut z.shared (k.blocks - home k.spares) j.packets.items l z.clones.items) (sym less.same) out),
)

module _ {E : Type 0} (keep : Bool) (ps : List Packet) (n : ℕ) (plan : LanePlan) (k j : Prepared) (is : IsPlan plan) (prepared : IsPrepared keep plan.taps ps n k)
    (less : IsLess k j) where
  pub settles : (r : Result (Unit {0}) E) (l : Lanes) → OnOk r (AreMerged plan.segs (spread_of plan) plan.queues (map packet_of k.packets.items) l.queues.items)
      → OnOk r (AreWatched plan.snap plan.taps (shown_by plan (map packet_of k.packets.items)) l.taps.items)
      → OnOk r (All IsMerged l.queues.items)
      → OnOk r (EachFrom (λ q (l : QueueLane). map packet_of l.packets.items ≡ filter (is_queued (spread_of plan) q) (map packet_of k.packets.items)) 0 l.queues.items)
      → OnOk r (j.packets.items ≡ [])
      → IsOut k.shared (k.blocks - home k.spares) j.packets.items l k.clones.items
      → MatchResult r (λ _. IsWorkDone j l) (λ _. IsWorkLeft j l)
  settles (Ok u) l merged watched are packets all out = record {
    all = all;
    out = beside k j l less out;
    small = small_lanes plan (map packet_of k.packets.items) l is prepared.fit merged are packets watched;
  }
  settles (Err e) l merged watched are packets all out = beside k j l less out

-- all that a comparison wants to know of what the lanes came to
pub kept_work : {E X : Type 0} (plan : LanePlan) (budget n m : ℕ) (keep : Bool) (ps : List Packet) (k : Prepared) (done : Result (Unit {0}) E) (l : Lanes) (r : Result WorkedState X) → keep ≡ true
    → IsPrepared keep plan.taps ps n k → OnOk done (AreMerged plan.segs (spread_of plan) plan.queues (map packet_of k.packets.items) l.queues.items)
    → OnOk done (AreWatched plan.snap plan.taps (shown_by plan (map packet_of k.packets.items)) l.taps.items)
    → OnOk done (All IsMerged l.queues.items)
    → IfOk r (IsOfLanes done l k.clones.items m) → IfOk r (IsKeptWorkOf (options_by plan budget) ps)
kept_work plan budget n m keep ps k done l (Err e) on is merged watched are of = tt
kept_work plan budget n m keep ps k done l (Ok w) on is merged watched are of =
    let a = ok_of done (AreMerged plan.segs (spread_of plan) plan.queues (map packet_of k.packets.items) l.queues.items) of.0 merged in
    let b = ok_of done (AreWatched plan.snap plan.taps (shown_by plan (map packet_of k.packets.items)) l.taps.items) of.0 watched in
    let c = ok_of done (All IsMerged l.queues.items) of.0 are in
    record {
      merged = subst (λ (z : Lanes). AreMerged plan.segs (spread_of plan) plan.queues ps z.queues.items) (sym of.1)
          (subst (λ (z : List Packet). AreMerged plan.segs (spread_of plan) plan.queues z l.queues.items) is.same a);
      watched = subst (λ (z : Lanes). AreWatched plan.snap plan.taps (shown_by plan ps) z.taps.items) (sym of.1)
          (subst (λ (z : List Packet). AreWatched plan.snap plan.taps (shown_by plan z) l.taps.items) is.same b);
      is = subst (λ (z : Lanes). All IsMerged z.queues.items) (sym of.1) c;
      clones = ap (map packet_of_clone) of.2 ∙ is.clones on;
      rising = subst (RiseFrom 0) is.same is.rising;
    }

-- so many blocks are left, where n with what was given before were there
pub blocks_left : {E X : Type 0} (done : Result (Unit {0}) E) (l : Lanes) (clones : List TapClone) (m n before after : ℕ) (r : Result WorkedState X) → m + after ≡ n + before
    → IfOk r (IsOfLanes done l clones m) → IfOk r (λ w. w.blocks + after ≡ n + before)
blocks_left done l clones m n before after (Err e) sum of = tt
blocks_left done l clones m n before after (Ok w) sum of = omega (arith, sum, of.3)

pub rest_left : {X : Type 0} (m n before after : ℕ) (r : Result X RestState) → m + after ≡ n + before → IfErr r (λ k. k.blocks ≡ m) → IfErr r (λ k. k.blocks + after ≡ n + before)
rest_left m n before after (Err k) sum is = omega (arith, sum, is)
rest_left m n before after (Ok x) sum is = tt

-- the same of what these weigh, by names
pub weights_then : {T E : Type 0} (v : T → (ℕ → ℕ) → ℕ) (a b before after : (ℕ → ℕ) → ℕ) (r : Result T E) → ((h : ℕ → ℕ) → a h + after h ≡ b h + before h)
    → IfOk r (λ x. (h : ℕ → ℕ) → v x h ≡ a h) → IfOk r (λ x. (h : ℕ → ℕ) → v x h + after h ≡ b h + before h)
weights_then v a b before after (Ok x) sum is = λ h. omega (arith, is h, sum h)
weights_then v a b before after (Err e) sum is = tt

pub weights_back : {T E : Type 0} (v : E → (ℕ → ℕ) → ℕ) (a b before after : (ℕ → ℕ) → ℕ) (r : Result T E) → ((h : ℕ → ℕ) → a h + after h ≡ b h + before h)
    → IfErr r (λ x. (h : ℕ → ℕ) → v x h ≡ a h) → IfErr r (λ x. (h : ℕ → ℕ) → v x h + after h ≡ b h + before h)
weights_back v a b before after (Err e) sum is = λ h. omega (arith, is h, sum h)
weights_back v a b before after (Ok x) sum is = tt

-- ---- a round that goes home

-- lanes of a round that was worked, beside no packets
pub out_beside : (shared : Bool) (n : ℕ) (ps : List Held) (lanes : Lanes) (clones : List TapClone) → ps ≡ [] → IsOut shared n [] lanes clones → IsOut shared n ps lanes clones
out_beside shared n ps lanes clones none out = subst (λ (z : List Held). IsOut shared n z lanes clones) (sym none) out

-- the same beside outcomes that hold nothing
pub round_left : (n : ℕ) (os ps ls ks : Account) → ((t : Tests) (m : ℕ) → (os.held t m ≡ 0) × (os.homes t.blocks m ≡ 0)) → IsRound n (both ps (both ls ks)) → IsRound n (both os (both ps (both ls ks)))
round_left n os ps ls ks no_out r =
    round_keeps n (both ps (both ls ks)) (both os (both ps (both ls ks))) (λ t m. let a = no_out t m in (omega (arith, a.0), omega (arith, a.0, a.1))) r

pub named_left : (names : ℕ → ℕ) (os ps ls ks : Account) → ((t : Tests) (m : ℕ) → (os.held t m ≡ 0) × (os.homes t.blocks m ≡ 0)) → IsNamed names (both ps (both ls ks))
    → IsNamed names (both os (both ps (both ls ks)))
named_left names os ps ls ks no_out named = named_keeps names (both ps (both ls ks)) (both os (both ps (both ls ks))) (λ bs m. omega (arith, no_out (every bs) m)) named
