-- Rounds that are counted, and how checking ends.
use Rattle.std.proofs.Common.{◌≡◌, ◌+◌, ◌-◌, ◌^◌, ◌*◌, ◌<◌, ◌≤◌, inl, inr, ℕ, min, List, [], ◌∷◌, ◌++◌, Option, Some, None, refl, sym, ap, ◌∙◌, subst, length}
use Rattle.std.proofs.Common.{length-append, map, arith, append_assoc, append-nil}
use Rattle.std.specs.List.{AllByRecursion}
use Rattle.std.proofs.lemmas.List.{length-map}
use Rattle.off_io.specs.Told.{Told}
use Rattle.off_io.proofs.Telling.{Told-then, Told-same, Told-weaker}
use Rattle.pcap_io.specs.Limits.{most_frame}
use Rattle.pcap_io.specs.declared.place.Place.{Place}
use Rattle.pcap_io.specs.declared.faults.CapFault.{CapFault}
use Rattle.pcap_io.specs.Capture.{Packet, Found, ended}
use Rattle.pcap_io.specs.Laws.{frame_length}
use Rattle.pcap_io.specs.Lengths.{lengths_at}
use Rattle.pcap_io.specs.Places.{found_at}
use Rattle.pcap_io.specs.Reading.{Loses}
use Rattle.pcap_io.proofs.LengthLaws.{lengths_of_packets}
use Rattle.maximal_runs.specs.Cut.{AllNeighbours}
use Rattle.offload_model.specs.Captured.{AreCaptured, IsCaptured}
use Rattle.offload_model.specs.Need.{needed, need_of, round_need}
use Rattle.offload_model.specs.Passing.{Ending, Stopped, Nowhere, AtFault, AtRound, ReadFault, WriteFault, NoMemory, IsNoRound, Stop, stop_of}
use Rattle.offload_model.specs.Steps.{ending_behind, in_front}
use Rattle.offload_model.specs.Written.{Options}
use Rattle.offload_model.proofs.Needs.{needed_append, needs_add}
use Rattle.gro.specs.declared.slot.Slot.{Slot as Held}
use Rattle.gro.specs.Slots.{packet_of}
use Rattle.check_totals.specs.declared.totals.QueueTotals.{QueueTotals}
use Rattle.check_totals.specs.declared.totals.TapTotals.{TapTotals}
use Rattle.check_totals.specs.Counts.{Counts, added, round_totals, totals_of, no_lanes, HasLanes, HasSameLanes, IsWithin, IsQueueWithin, IsTapWithin}
use Rattle.check_totals.specs.Checking.{Tally, counting}
use Rattle.check_totals.specs.Tallies.{Tallies, AddsGone}
use Rattle.check_totals.proofs.Bounds.{bounds_add, totals_are_few}
use Rattle.check_totals.proofs.Summing.{added_assoc, added_none, lanes_stay}
use Rattle.check_totals.proofs.Tallying.{totals_add_up, counting_goes_by_round}
use Rattle.rounds.specs.Fresh.{NumberedFrom}
use Rattle.rounds.specs.Merging.{TakesBehind, TakesTo}
use Rattle.rounds.proofs.Merging.{both_told}
use Rattle.rounds.proofs.Needs.{takes_on, StopsAt}
use Rattle.rounds.specs.Reading.{GivesRound, Holds, Exceeds}
use Rattle.reading.specs.Reading.{Passes as PassesRecords}
use Rattle.rounds.specs.declared.round_stages.RoundEnd.{RoundEnd}
use Rattle.rounds.specs.declared.round_stages.RoundEnd.TheVariants as rounds
use Rattle.checking.specs.Handling.{ending_of, CountsLast, CountsAhead, EndsCounting, AreOf}
use Rattle.checking.specs.declared.counting.CheckEnd.{CheckEnd}
use Rattle.checking.specs.declared.counting.CheckEnd.TheVariants as ends

-- ---- rounds in a row

pub ahead_none : (blocks : ℕ) (options : Options) (place : Place) (a : Option (List ℕ)) (c : Counts) (taken : ℕ) → Told a a (CountsAhead blocks options 0 place place c c taken taken)
ahead_none blocks options place a c taken =
    let tally = counting blocks options place in
    Told-same a (CountsAhead blocks options 0 place place c c taken taken) (λ bytes. record {
      gone = [];
      counts = no_lanes;
      packets = [];
      split = refl;
      goes = (totals_add_up tally tally 0 [] no_lanes).none;
      found = λ tail. refl;
      sum = sym (added_none c);
      took = omega arith;
      size = omega arith;
    })

module _ (blocks : ℕ) (options : Options) (k : ℕ) (p0 p1 p2 : Place) (a b c : Option (List ℕ)) (c0 c1 c2 : Counts) (t0 t1 t2 : ℕ) where
  one_ahead : (bytes rest left : List ℕ) → CountsAhead blocks options k p0 p1 c0 c1 t0 t1 bytes rest → CountsAhead blocks options 1 p1 p2 c1 c2 t1 t2 rest left
      → CountsAhead blocks options (k + 1) p0 p2 c0 c2 t0 t2 bytes left
  one_ahead bytes rest left x y = record {
    gone = x.gone ++ y.gone;
    counts = added x.counts y.counts;
    packets = x.packets ++ y.packets;
    split = x.split ∙ ap (λ (l : List ℕ). x.gone ++ l) y.split ∙ sym (append_assoc x.gone y.gone left);
    goes = (totals_add_up (counting blocks options p0) (counting blocks options p1) k x.gone x.counts).more (counting blocks options p2) 1 y.gone y.counts x.goes y.goes;
    found = λ tail. ap (found_at p0) (append_assoc x.gone y.gone tail) ∙ x.found (y.gone ++ tail) ∙ ap (in_front x.packets) (y.found tail) ∙ (rw append_assoc refl);
    sum = y.sum ∙ ap (λ (s : Counts). added s y.counts) x.sum ∙ added_assoc c0 x.counts y.counts;
    took = omega (arith, x.took, y.took, needs_add x.packets y.packets);
    size = omega (arith, x.size, y.size, length-append x.packets y.packets);
  }

  -- one round more
  pub goes_then : Told a b (CountsAhead blocks options k p0 p1 c0 c1 t0 t1) → Told b c (CountsAhead blocks options 1 p1 p2 c1 c2 t1 t2) → Told a c (CountsAhead blocks options (k + 1) p0 p2 c0 c2 t0 t2)
  goes_then first more =
      Told-then a b c (CountsAhead blocks options k p0 p1 c0 c1 t0 t1) (CountsAhead blocks options 1 p1 p2 c1 c2 t1 t2) (CountsAhead blocks options (k + 1) p0 p2 c0 c2 t0 t2)
      (λ bytes rest left x y. one_ahead bytes rest left x y) first more

  one_end : (end : CheckEnd) (bytes rest left : List ℕ) → CountsAhead blocks options k p0 p1 c0 c1 t0 t1 bytes rest → EndsCounting k blocks options p1 c1 c2 end rest left
      → Tallies (counting blocks options p0) c0 c2 (ending_of end) bytes left
  one_end end bytes rest left x y =
      let from = counting blocks options p0 in
      let all = (totals_add_up from (counting blocks options p1) k x.gone x.counts).tallies c0 c1 c2 y.0 rest left x.goes x.sum y.2 in
      subst (λ (l : List ℕ). Tallies from c0 c2 (ending_of end) l left) (sym x.split) (subst (λ (e : Ending). Tallies from c0 c2 e (x.gone ++ rest) left) (sym y.1) all)

  -- and the end
  pub ends_then : (end : CheckEnd) → Told a b (CountsAhead blocks options k p0 p1 c0 c1 t0 t1) → Told b c (EndsCounting k blocks options p1 c1 c2 end)
      → Told a c (Tallies (counting blocks options p0) c0 c2 (ending_of end))
  ends_then end first more =
      Told-then a b c (CountsAhead blocks options k p0 p1 c0 c1 t0 t1) (EndsCounting k blocks options p1 c1 c2 end) (Tallies (counting blocks options p0) c0 c2 (ending_of end))
      (λ bytes rest left x y. one_end end bytes rest left x y) first more

  -- where the bytes stop it
  stops_at : (ending : Ending) (bytes left : List ℕ) → Tallies (counting blocks options p0) c0 c2 ending bytes left → StopsAt blocks options.budget p0 bytes ending
  stops_at (Stopped stop) bytes left tallies = tallies.0
  stops_at ReadFault bytes left tallies = tt
  stops_at WriteFault bytes left tallies = tt
  stops_at NoMemory bytes left tallies = tt

  one_taken : (end : CheckEnd) (bytes rest left : List ℕ) → CountsAhead blocks options k p0 p1 c0 c1 t0 t1 bytes rest
      → EndsCounting k blocks options p1 c1 c2 end rest left × TakesBehind k p1 t1 t2 (ending_of end) rest left → TakesTo blocks options.budget p0 t0 t2 (ending_of end) bytes left
  one_taken end bytes rest left x y =
      takes_on blocks options.budget k p0 p1 t0 t1 t2 x.packets x.gone x.found x.took x.size (ending_of end) bytes rest left x.split
      (stops_at (ending_of end) bytes left (one_end end bytes rest left x y.0)) y.1

  -- the blocks of all
  pub taken_then : (end : CheckEnd) → Told a b (CountsAhead blocks options k p0 p1 c0 c1 t0 t1) → Told b c (EndsCounting k blocks options p1 c1 c2 end) → Told b c (TakesBehind k p1 t1 t2 (ending_of end))
      → Told a c (TakesTo blocks options.budget p0 t0 t2 (ending_of end))
  taken_then end first more here =
      Told-then a b c (CountsAhead blocks options k p0 p1 c0 c1 t0 t1) (λ rest left. EndsCounting k blocks options p1 c1 c2 end rest left × TakesBehind k p1 t1 t2 (ending_of end) rest left)
      (TakesTo blocks options.budget p0 t0 t2 (ending_of end))
      (λ bytes rest left x y. one_taken end bytes rest left x y) first
      (both_told b c (EndsCounting k blocks options p1 c1 c2 end) (TakesBehind k p1 t1 t2 (ending_of end)) more here)

-- ---- one round

no_round : (fault : Option CapFault) → IsNoRound (stop_of fault None)
no_round None = tt
no_round (Some fault) = tt

module _ (blocks : ℕ) (options : Options) (from to : Place) (round : List Held) (some : 1 ≤ options.budget) (fits : round_need (map packet_of round) ≤ blocks) where
  abbrev tally : List ℕ → Tally
  tally = counting blocks options from

  abbrev packets : List Packet
  packets = map packet_of round

  abbrev counts : Counts
  counts = round_totals options packets

  -- a last round, behind which this many more headers are lawful
  last_by : (bytes more : List ℕ) (fault : Option CapFault) → length round + length more ≤ options.budget → round_need packets + needed more ≤ blocks
      → found_at from bytes ≡ in_front packets (ended fault) → lengths_at from bytes ≡ map frame_length packets ++ more → tally bytes ≡ record { totals = counts; stop = stop_of fault None }
  last_by bytes more fault few room found lens =
      (counting_goes_by_round blocks options from packets bytes (omega (arith, some))).last fault more (omega (arith, few, length-map round packet_of)) room found lens

  -- a short round
  last_is : (bytes : List ℕ) (fault : Option CapFault) → length round < options.budget → needed (lengths_at from bytes) ≤ blocks → found_at from bytes ≡ in_front packets (ended fault)
      → tally bytes ≡ record { totals = counts; stop = stop_of fault None }
  last_is bytes fault fewer room found =
      let l = lengths_of_packets from bytes in
      let more = l.0 in
      let are : (found_at from bytes).packets ≡ packets = ap (λ (f : Found). f.packets) found ∙ append-nil packets in
      let lens = l.1 ∙ ap (λ (ps : List Packet). map frame_length ps ++ more) are in
      let n = ap needed lens ∙ needed_append (map frame_length packets) more in
      last_by bytes more fault (omega (arith, fewer, l.2)) (omega (arith, n, room)) found lens

  module _ (k : ℕ) (a b : Option (List ℕ)) (c c1 : Counts) where
    -- there was no memory, whatever is gone
    no_memory : (result : CheckEnd) (bytes left : List ℕ) → result ≡ ends.NoMemory → Loses bytes left → EndsCounting k blocks options from c c1 result bytes left
    no_memory result bytes left is loses = (NoMemory, ap ending_of is, (loses.0, loses.1))

    -- the last round ended as it was to, or there was no memory
    last_end : (end result : CheckEnd) (ending : Ending) (bytes left : List ℕ) → ending_of end ≡ ending_behind k ending → (c1 ≡ added c counts → Tallies tally c c1 ending bytes left)
        → Loses bytes left
        → CountsLast c c1 counts end result → EndsCounting k blocks options from c c1 result bytes left
    last_end end result ending bytes left is tallies loses (inl w) = (ending, ap ending_of w.0 ∙ is, tallies w.1)
    last_end end result ending bytes left is tallies loses (inr f) = no_memory result bytes left f loses

    -- what was added is what is counted of these bytes
    adds : (gone : List ℕ) (stop : Stop) → tally gone ≡ record { totals = counts; stop = stop } → c1 ≡ added c counts → AddsGone tally c c1 gone
    adds gone stop is sum = sum ∙ ap (added c) (sym (ap (λ (t : Tally). t.totals) is))

    -- the bytes that are gone hold the round
    holds_is : (bytes left : List ℕ) → length round < options.budget → (holds : Holds blocks from packets bytes left)
        → tally holds.0 ≡ record { totals = counts; stop = stop_of (found_at from holds.0).fault None }
    holds_is bytes left fewer holds =
        let fault = (found_at from holds.0).fault in
        let found : found_at from holds.0 ≡ in_front packets (ended fault) =
        ap (λ (ps : List Packet). record { packets = ps; fault = fault }) (holds.2 ∙ sym (append-nil packets)) in
        last_is holds.0 fault fewer holds.3 found

    pub end_given : (end : RoundEnd) (result : CheckEnd) → end ≡ rounds.End → length round < options.budget → CountsLast c c1 counts ends.Done result
        → Told a b (GivesRound blocks from to round end) → Told a b (EndsCounting k blocks options from c c1 result)
    end_given end result is fewer counted told =
        Told-weaker a b (GivesRound blocks from to round rounds.End) (EndsCounting k blocks options from c c1 result)
        (λ bytes left gives.
        let all = last_is bytes None fewer gives.1 gives.0 in
        let split : bytes ≡ bytes ++ left = sym (append-nil bytes) ∙ ap (λ (l : List ℕ). bytes ++ l) (sym gives.2) in
        last_end ends.Done result (Stopped Nowhere) bytes left refl
        (λ sum. (ap (λ (t : Tally). t.stop) all, gives.2, adds bytes Nowhere all sum, (bytes, split, adds bytes Nowhere all sum)))
        (bytes, split) counted)
        (subst (λ (e : RoundEnd). Told a b (GivesRound blocks from to round e)) is told)

    pub malformed_given : (end : RoundEnd) (fault : CapFault) (result : CheckEnd) → end ≡ rounds.Malformed fault → length round < options.budget → CountsLast c c1 counts (ends.Malformed fault) result
        → Told a b (GivesRound blocks from to round end) → Told a b (EndsCounting k blocks options from c c1 result)
    malformed_given end fault result is fewer counted told =
        Told-weaker a b (GivesRound blocks from to round (rounds.Malformed fault)) (EndsCounting k blocks options from c c1 result)
        (λ bytes left gives.
        let all = last_is bytes (Some fault) fewer gives.1 gives.0 in
        let holds = gives.2 in
        let loses : Loses bytes left = (holds.0, holds.1) in
        last_end (ends.Malformed fault) result (Stopped (AtFault fault)) bytes left refl
        (λ sum. (
          ap (λ (t : Tally). t.stop) all,
          loses,
          adds bytes (AtFault fault) all sum,
          (holds.0, holds.1, adds holds.0 (stop_of (found_at from holds.0).fault None) (holds_is bytes left fewer holds) sum),
        ))
        loses counted)
        (subst (λ (e : RoundEnd). Told a b (GivesRound blocks from to round e)) is told)

    pub fault_given : (end : RoundEnd) (result : CheckEnd) → end ≡ rounds.ReadFault → length round < options.budget → CountsLast c c1 counts ends.ReadFault result
        → Told a b (GivesRound blocks from to round end) → Told a b (EndsCounting k blocks options from c c1 result)
    fault_given end result is fewer counted told =
        Told-weaker a b (GivesRound blocks from to round rounds.ReadFault) (EndsCounting k blocks options from c c1 result)
        (λ bytes left holds.
        let fault = (found_at from holds.0).fault in
        let all = holds_is bytes left fewer holds in
        last_end ends.ReadFault result ReadFault bytes left refl
        (λ sum. (holds.0, holds.1, subst IsNoRound (sym (ap (λ (t : Tally). t.stop) all)) (no_round fault), adds holds.0 (stop_of fault None) all sum))
        (holds.0, holds.1) counted)
        (subst (λ (e : RoundEnd). Told a b (GivesRound blocks from to round e)) is told)

    exceeds_is : (need len : ℕ) (gone more : List ℕ) → length round < options.budget → lengths_at from gone ≡ map frame_length packets ++ len ∷ more → need ≡ round_need packets + need_of len
        → blocks < need
        → tally gone ≡ record { totals = totals_of options []; stop = AtRound 0 need }
    exceeds_is need len gone more fewer lens is ex =
        (counting_goes_by_round blocks options from packets gone (omega (arith, some))).exceeds len more (omega (arith, fewer, length-map round packet_of)) fits (omega (arith, is, ex)) lens
        ∙ ap (λ (n : ℕ). record { totals = totals_of options []; stop = AtRound 0 n }) (sym is)

    -- nothing is added
    nothing : (gone : List ℕ) (stop : Stop) → HasLanes options c → tally gone ≡ record { totals = totals_of options []; stop = stop } → c1 ≡ c → AddsGone tally c c1 gone
    nothing gone stop lanes is same = same ∙ sym ((lanes_stay options).of_nothing c lanes) ∙ ap (added c) (sym (ap (λ (t : Tally). t.totals) is))

    exceeds_end : (need : ℕ) (bytes left : List ℕ) → length round < options.budget → HasLanes options c → c1 ≡ c → Exceeds blocks need from packets bytes left
        → EndsCounting k blocks options from c c1 (ends.PoolEmpty k need) bytes left
    exceeds_end need bytes left fewer lanes same ex =
        let len = ex.0 in
        let is = ex.1.1 in
        let said = is.4 in
        let all = exceeds_is need len bytes ex.1.0 fewer is.0 is.1 is.2 in
        let again = exceeds_is need len said.0 said.2.0 fewer (said.2.1 ∙ append_assoc (map frame_length packets) (len ∷ []) said.2.0) is.1 is.2 in
        let number : k ≡ k + 0 = omega arith in (
          Stopped (AtRound 0 need),
          ap (λ (n : ℕ). Stopped (AtRound n need)) number,
          (ap (λ (t : Tally). t.stop) all, is.3, nothing bytes (AtRound 0 need) lanes all same, (said.0, said.1, nothing said.0 (AtRound 0 need) lanes again same)),
        )

    pub empty_given : (end : RoundEnd) (need : ℕ) → end ≡ rounds.PoolEmpty need → length round < options.budget → HasLanes options c → c1 ≡ c
        → Told a b (GivesRound blocks from to round end) → Told a b (EndsCounting k blocks options from c c1 (ends.PoolEmpty k need))
    empty_given end need is fewer lanes same told =
        Told-weaker a b (GivesRound blocks from to round (rounds.PoolEmpty need)) (EndsCounting k blocks options from c c1 (ends.PoolEmpty k need))
        (λ bytes left gives. exceeds_end need bytes left fewer lanes same gives)
        (subst (λ (e : RoundEnd). Told a b (GivesRound blocks from to round e)) is told)

    -- a full round was counted
    full_goes : (t t1 : ℕ) (bytes left : List ℕ) → length round ≡ options.budget → min (t + round_need packets) (2 ^ 64 - 1) ≤ t1 → c1 ≡ added c counts → PassesRecords from to packets bytes left
        → CountsAhead blocks options 1 from to c c1 t t1 bytes left
    full_goes t t1 bytes left full took sum passes = record {
      gone = passes.0;
      counts = counts;
      packets = packets;
      split = passes.1;
      goes = λ tail.
          (counting_goes_by_round blocks options from packets (passes.0 ++ tail) (omega (arith, some))).full to tail (omega (arith, full, length-map round packet_of)) fits (passes.2 tail).found
          (passes.2 tail).lengths;
      found = λ tail. (passes.2 tail).found;
      sum = sum;
      took = took;
      size = omega (arith, full, length-map round packet_of);
    }

    pub full_given : (end : RoundEnd) (t t1 : ℕ) → end ≡ rounds.Full → length round ≡ options.budget → min (t + round_need packets) (2 ^ 64 - 1) ≤ t1 → c1 ≡ added c counts
        → Told a b (GivesRound blocks from to round end) → Told a b (CountsAhead blocks options 1 from to c c1 t t1)
    full_given end t t1 is full took sum told =
        Told-weaker a b (GivesRound blocks from to round rounds.Full) (CountsAhead blocks options 1 from to c c1 t t1)
        (λ bytes left gives. full_goes t t1 bytes left full took sum gives)
        (subst (λ (e : RoundEnd). Told a b (GivesRound blocks from to round e)) is told)

-- ---- packets and bounds

pub rising : (k : ℕ) (ps : List Held) → NumberedFrom k ps → AllNeighbours (λ p q. p.number < q.number) (map packet_of ps)
rising k [] numbered = tt
rising k (p ∷ []) numbered = tt
rising k (p ∷ q ∷ ps) numbered = (omega (arith, numbered.0, numbered.1.0), rising (k + 1) (q ∷ ps) numbered.1)

queue_wider : (m n : ℕ) → m ≤ n → (xs : List QueueTotals) → AllByRecursion (IsQueueWithin m) xs → AllByRecursion (IsQueueWithin n) xs
queue_wider m n le [] all = tt
queue_wider m n le (x ∷ xs) all = (
  record {
    records = omega (arith, le, all.0.records);
    items = omega (arith, le, all.0.items);
    merged = omega (arith, le, all.0.merged);
    returned = omega (arith, le, all.0.returned);
  },
  queue_wider m n le xs all.1,
)

tap_wider : (m n : ℕ) → m ≤ n → (xs : List TapTotals) → AllByRecursion (IsTapWithin m) xs → AllByRecursion (IsTapWithin n) xs
tap_wider m n le [] all = tt
tap_wider m n le (x ∷ xs) all = (record { windows = omega (arith, le, all.0.windows); bytes = omega (arith, le, all.0.bytes) }, tap_wider m n le xs all.1)

pub wider : (m n j k : ℕ) (c : Counts) → m ≤ n → j ≤ k → IsWithin m j c → IsWithin n k c
wider m n j k c le le' w = record { queues = queue_wider m n le c.queues w.queues; taps = tap_wider j k le' c.taps w.taps }

pub of_more : (m n : ℕ) (c : Counts) → m ≤ n → AreOf m c → AreOf n c
of_more m n c le w = wider m n (most_frame * m) (most_frame * n) c le (omega (arith, le)) w

pub of_behind : (n k : ℕ) (c : Counts) → AreOf n c → AreOf (n + k) c
of_behind n k c w = of_more n (n + k) c (omega arith) w

-- the packets of a round are such as a capture may hold
pub captured_of : (k : ℕ) (ps : List Held) → AllByRecursion IsCaptured (map packet_of ps) → NumberedFrom k ps → AreCaptured (map packet_of ps)
captured_of k ps each numbered = record { each = each; rising = rising k ps numbered }

-- the totals of no packet
pub start_within : (o : Options) (n : ℕ) (c : Counts) → c ≡ totals_of o [] → AreOf n c
start_within o n c start = subst (AreOf n) (sym start) (of_more 0 n (totals_of o []) (omega arith) (totals_are_few o [] (record { each = tt; rising = tt })))

pub start_lanes : (o : Options) (c : Counts) → c ≡ totals_of o [] → HasLanes o c
start_lanes o c start = subst (HasLanes o) (sym start) ((lanes_stay o).of_all [])

-- at the end, behind no more than 2^32 packets and a round
pub end_within : (n : ℕ) (c : Counts) → n ≤ 2 ^ 32 + 4096 → AreOf n c → IsWithin (2 ^ 50) (2 ^ 62) c
end_within n c few w = wider n (2 ^ 50) (most_frame * n) (2 ^ 62) c (omega (arith, few)) (omega (arith, few)) w

-- a round's totals are added
pub more_within : (o : Options) (n : ℕ) (ps : List Held) (c c1 : Counts) → AreCaptured (map packet_of ps) → c1 ≡ added c (round_totals o (map packet_of ps)) → AreOf n c → AreOf (n + length ps) c1
more_within o n ps c c1 captured sum w =
    let size : length (map packet_of ps) ≡ length ps = length-map ps packet_of in
    let m = length (map packet_of ps) in
    let times : most_frame * n + most_frame * m ≡ most_frame * (n + length ps) = omega (arith, size) in
    subst (AreOf (n + length ps)) (sym sum)
    (wider (n + m) (n + length ps) (most_frame * n + most_frame * m) (most_frame * (n + length ps)) (added c (round_totals o (map packet_of ps))) (omega (arith, size)) (omega (arith, times))
    (bounds_add c (round_totals o (map packet_of ps)) n (most_frame * n) m (most_frame * m) w (totals_are_few o (map packet_of ps) captured)))

-- what may be added to
pub room : (n : ℕ) (c : Counts) → n ≤ 2 ^ 32 → AreOf n c → IsWithin (2 ^ 62) (2 ^ 62) c
room n c few w = wider n (2 ^ 62) (most_frame * n) (2 ^ 62) c (omega (arith, few)) (omega (arith, few)) w

pub room_of_round : (o : Options) (ps : List Held) (r : Counts) → AreCaptured (map packet_of ps) → length ps ≤ 4096 → r ≡ round_totals o (map packet_of ps) → IsWithin (2 ^ 62) (2 ^ 62) r
room_of_round o ps r captured few is =
    subst (IsWithin (2 ^ 62) (2 ^ 62)) (sym is)
    (wider (length (map packet_of ps)) (2 ^ 62) (most_frame * length (map packet_of ps)) (2 ^ 62) (round_totals o (map packet_of ps))
    (omega (arith, few, length-map ps packet_of)) (omega (arith, few, length-map ps packet_of)) (totals_are_few o (map packet_of ps) captured))

pub alike : (o : Options) (ps : List Held) (c r : Counts) → HasLanes o c → r ≡ round_totals o (map packet_of ps) → HasSameLanes c r
alike o ps c r lanes is =
    let has = subst (HasLanes o) (sym is) ((lanes_stay o).of_round (map packet_of ps)) in
    record { queues = lanes.queues ∙ sym has.queues; taps = lanes.taps ∙ sym has.taps }

pub more_lanes : (o : Options) (ps : List Held) (c c1 : Counts) → HasLanes o c → c1 ≡ added c (round_totals o (map packet_of ps)) → HasLanes o c1
more_lanes o ps c c1 lanes sum = subst (HasLanes o) (sym sum) ((lanes_stay o).of_sum c (round_totals o (map packet_of ps)) lanes ((lanes_stay o).of_round (map packet_of ps)))
