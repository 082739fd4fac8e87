-- Rounds that are merged, and how merging ends.
use Rattle.std.proofs.Common.{◌≡◌, ◌+◌, ◌-◌, ◌^◌, ◌*◌, ◌<◌, ◌≤◌, ◌⊎◌, inl, inr, ℕ, min, List, [], ◌++◌, Bool, true, false, Option, Some, None, refl, sym, ap, ◌∙◌, subst, length, length-append, map}
use Rattle.std.proofs.Common.{arith, append_assoc, append-nil}
use Rattle.std.specs.List.{AllByRecursion}
use Rattle.std.proofs.lemmas.Bool.{false≢true}
use Rattle.std.proofs.lemmas.List.{length-map}
use Rattle.std.specs.Io.KnownBytes.{Appends, Keeps}
use Rattle.std.proofs.KnownBytes.{Appends-nil, Appends-trans, Appends-kept}
use Rattle.off_io.specs.Content.{AppendsPrefix}
use Rattle.off_io.specs.Told.{Told}
use Rattle.off_io.proofs.Owing.{prefix_whole}
use Rattle.off_io.proofs.Telling.{Told-then, Told-same, Told-weaker}
use Rattle.pcap_io.specs.declared.heads.FileHead.{FileHead}
use Rattle.pcap_io.specs.declared.place.Place.{Place}
use Rattle.pcap_io.specs.declared.faults.CapFault.{CapFault}
use Rattle.pcap_io.specs.Capture.{Packet, Found, ended}
use Rattle.pcap_io.specs.Laws.{frame_length}
use Rattle.pcap_io.specs.Lengths.{lengths_at}
use Rattle.pcap_io.specs.Places.{found_at}
use Rattle.pcap_io.specs.Reading.{Loses}
use Rattle.pcap_io.proofs.LengthLaws.{lengths_of_packets}
use Rattle.maximal_runs.proofs.Pass.{all_append}
use Rattle.offload_model.specs.Captured.{IsCaptured}
use Rattle.offload_model.specs.Need.{needed, round_need, exceeded_at, found_before}
use Rattle.offload_model.specs.Passing.{Ending, Stopped, Nowhere, AtFault, AtRound, Passed, ReadFault, WriteFault, NoMemory, merging, Passes, WritesPrefix, PrefixUnless, IsNoRound, stop_of}
use Rattle.offload_model.specs.Steps.{ending_behind, behind, round_output}
use Rattle.offload_model.specs.Written.{Options}
use Rattle.offload_model.proofs.Lists.{all_taken}
use Rattle.offload_model.proofs.Needs.{needed_append, needs_add}
use Rattle.offload_model.proofs.Steps.{commands_pass_on, prefixes_pass_on, merging_goes_by_round}
use Rattle.gro.specs.declared.slot.Slot.{Slot as Held}
use Rattle.gro.specs.Slots.{packet_of}
use Rattle.reading.specs.Reading.{in_front, Passes as PassesRecords}
use Rattle.rounds.specs.Reading.{GivesRound, Holds, Exceeds}
use Rattle.rounds.specs.RoundsState.{RoundsState}
use Rattle.rounds.specs.Merging.{ending_of, options_of, Fails, WritesLast, Ahead, EndsBehind, TakesBehind, TakesTo, AreCapturedAt, EndsCaptured, HoldsCaptured}
use Rattle.rounds.proofs.Needs.{rounds_before, takes_on, StopsAt}
use Rattle.rounds.specs.declared.round_stages.RoundEnd.{RoundEnd}
use Rattle.rounds.specs.declared.round_stages.RoundEnd.TheVariants as rounds
use Rattle.rounds.specs.declared.round_writer.MergeEnd.{MergeEnd}
use Rattle.rounds.specs.declared.round_writer.MergeEnd.TheVariants as ends

-- ---- what is written

-- a round that was written, and then the sink was flushed
pub finished : (h h1 h2 : Option (List ℕ)) (bytes : List ℕ) (end result : MergeEnd) → Appends h h1 bytes → (result ≡ end) ⊎ (result ≡ ends.WriteFault) → Keeps h1 h2 → WritesLast h h2 bytes end result
finished h h1 h2 bytes end result wrote (inl e) kept = inl (e, Appends-kept h h1 h2 bytes wrote kept)
finished h h1 h2 bytes end result wrote (inr e) kept = inr (inl (e, prefix_whole h h2 bytes (Appends-kept h h1 h2 bytes wrote kept)))

-- both of two facts are told
pub both_told : (a b : Option (List ℕ)) (P Q : List ℕ → List ℕ → Type 0) → Told a b P → Told a b Q → Told a b (λ x y. P x y × Q x y)
both_told None b P Q p q = tt
both_told (Some x) None P Q p q = absurd p
both_told (Some x) (Some y) P Q p q = (p, q)

-- ---- rounds in a row

pub ahead_none : (blocks : ℕ) (options : Options) (place : Place) (a h : Option (List ℕ)) (taken : ℕ) → Told a a (Ahead blocks options 0 place place h h taken taken)
ahead_none blocks options place a h taken =
    let passing = merging blocks options place in
    Told-same a (Ahead blocks options 0 place place h h taken taken) (λ bytes. record {
      gone = [];
      done = [];
      packets = [];
      split = refl;
      goes = (commands_pass_on passing passing 0 [] []).none;
      found = λ tail. refl;
      wrote = Appends-nil h;
      took = omega arith;
      size = omega arith;
      each = tt;
    })

module _ (blocks : ℕ) (options : Options) (k : ℕ) (p0 p1 p2 : Place) (a b c h h1 h2 : Option (List ℕ)) (t0 t1 t2 : ℕ) where
  one_ahead : (bytes rest left : List ℕ) → Ahead blocks options k p0 p1 h h1 t0 t1 bytes rest → Ahead blocks options 1 p1 p2 h1 h2 t1 t2 rest left
      → Ahead blocks options (k + 1) p0 p2 h h2 t0 t2 bytes left
  one_ahead bytes rest left x y = record {
    gone = x.gone ++ y.gone;
    done = x.done ++ y.done;
    packets = x.packets ++ y.packets;
    split = x.split ∙ ap (λ (l : List ℕ). x.gone ++ l) y.split ∙ sym (append_assoc x.gone y.gone left);
    goes = (commands_pass_on (merging blocks options p0) (merging blocks options p1) k x.gone x.done).more (merging blocks options p2) 1 y.gone y.done x.goes y.goes;
    found = λ tail. ap (found_at p0) (append_assoc x.gone y.gone tail) ∙ x.found (y.gone ++ tail) ∙ ap (in_front x.packets) (y.found tail) ∙ (rw append_assoc refl);
    wrote = Appends-trans h h1 h2 x.done y.done x.wrote y.wrote;
    took = omega (arith, x.took, y.took, needs_add x.packets y.packets);
    size = omega (arith, x.size, y.size, length-append x.packets y.packets);
    each = all_append IsCaptured x.packets y.packets x.each y.each;
  }

  -- one round more
  pub goes_then : Told a b (Ahead blocks options k p0 p1 h h1 t0 t1) → Told b c (Ahead blocks options 1 p1 p2 h1 h2 t1 t2) → Told a c (Ahead blocks options (k + 1) p0 p2 h h2 t0 t2)
  goes_then first more =
      Told-then a b c (Ahead blocks options k p0 p1 h h1 t0 t1) (Ahead blocks options 1 p1 p2 h1 h2 t1 t2) (Ahead blocks options (k + 1) p0 p2 h h2 t0 t2)
      (λ bytes rest left x y. one_ahead bytes rest left x y) first more

  one_end : (end : MergeEnd) (bytes rest left : List ℕ) → Ahead blocks options k p0 p1 h h1 t0 t1 bytes rest → EndsBehind k blocks options p1 h1 h2 end rest left
      → Passes (merging blocks options p0) h h2 (ending_of end) bytes left
  one_end end bytes rest left x y =
      let from = merging blocks options p0 in
      let all = (commands_pass_on from (merging blocks options p1) k x.gone x.done).passes h h1 h2 y.0 rest left x.goes x.wrote y.2 in
      subst (λ (l : List ℕ). Passes from h h2 (ending_of end) l left) (sym x.split) (subst (λ (e : Ending). Passes from h h2 e (x.gone ++ rest) left) (sym y.1) all)

  -- and the end
  pub ends_then : (end : MergeEnd) → Told a b (Ahead blocks options k p0 p1 h h1 t0 t1) → Told b c (EndsBehind k blocks options p1 h1 h2 end)
      → Told a c (Passes (merging blocks options p0) h h2 (ending_of end))
  ends_then end first more =
      Told-then a b c (Ahead blocks options k p0 p1 h h1 t0 t1) (EndsBehind k blocks options p1 h1 h2 end) (Passes (merging blocks options p0) h h2 (ending_of end))
      (λ bytes rest left x y. one_end end bytes rest left x y) first more

  one_front : (bytes rest left : List ℕ) → Ahead blocks options k p0 p1 h h1 t0 t1 bytes rest → WritesPrefix (merging blocks options p1) h1 h2 rest left
      → WritesPrefix (merging blocks options p0) h h2 bytes left
  one_front bytes rest left x y =
      subst (λ (l : List ℕ). WritesPrefix (merging blocks options p0) h h2 l left) (sym x.split)
      ((prefixes_pass_on (merging blocks options p0) (merging blocks options p1) k x.gone x.done).after h h1 h2 rest left x.goes x.wrote y)

  -- a prefix of what comes of what follows is one of what comes of all
  pub fronts_then : (X Y : Type 0) → (X → Y) → Told a b (Ahead blocks options k p0 p1 h h1 t0 t1) → PrefixUnless X (merging blocks options p1) b c h1 h2
      → PrefixUnless Y (merging blocks options p0) a c h h2
  fronts_then X Y later first (inl failed) = inl (later failed)
  fronts_then X Y later first (inr told) =
      inr (Told-then a b c (Ahead blocks options k p0 p1 h h1 t0 t1) (WritesPrefix (merging blocks options p1) h1 h2) (WritesPrefix (merging blocks options p0) h h2)
      (λ bytes rest left x y. one_front bytes rest left x y) first told)

  -- where the bytes stop it
  stops_at : (ending : Ending) (bytes left : List ℕ) → Passes (merging blocks options p0) h h2 ending bytes left → StopsAt blocks options.budget p0 bytes ending
  stops_at (Stopped stop) bytes left passes = passes.0
  stops_at ReadFault bytes left passes = tt
  stops_at WriteFault bytes left passes = tt
  stops_at NoMemory bytes left passes = tt

  one_taken : (end : MergeEnd) (bytes rest left : List ℕ) → Ahead blocks options k p0 p1 h h1 t0 t1 bytes rest
      → EndsBehind k blocks options p1 h1 h2 end rest left × TakesBehind k p1 t1 t2 (ending_of end) rest left → TakesTo blocks options.budget p0 t0 t2 (ending_of end) bytes left
  one_taken end bytes rest left x y =
      takes_on blocks options.budget k p0 p1 t0 t1 t2 x.packets x.gone x.found x.took x.size (ending_of end) bytes rest left x.split
      (stops_at (ending_of end) bytes left (one_end end bytes rest left x y.0)) y.1

  -- the blocks of all
  pub taken_then : (end : MergeEnd) → Told a b (Ahead blocks options k p0 p1 h h1 t0 t1) → Told b c (EndsBehind k blocks options p1 h1 h2 end) → Told b c (TakesBehind k p1 t1 t2 (ending_of end))
      → Told a c (TakesTo blocks options.budget p0 t0 t2 (ending_of end))
  taken_then end first more here =
      Told-then a b c (Ahead blocks options k p0 p1 h h1 t0 t1) (λ rest left. EndsBehind k blocks options p1 h1 h2 end rest left × TakesBehind k p1 t1 t2 (ending_of end) rest left)
      (TakesTo blocks options.budget p0 t0 t2 (ending_of end))
      (λ bytes rest left x y. one_taken end bytes rest left x y) first
      (both_told b c (EndsBehind k blocks options p1 h1 h2 end) (TakesBehind k p1 t1 t2 (ending_of end)) more here)

-- ---- packets as a capture may hold them

captured_before : (budget : ℕ) (exceeded : Option (ℕ × ℕ)) (found : Found) → AllByRecursion IsCaptured found.packets → AllByRecursion IsCaptured (found_before budget exceeded found).packets
captured_before budget None found c = c
captured_before budget (Some at) found c = all_taken IsCaptured (at.0 * budget) found.packets c

module _ (blocks : ℕ) (options : Options) (k : ℕ) (p0 p1 p2 : Place) (a b c h h1 h2 : Option (List ℕ)) (t0 t1 t2 : ℕ) where
  -- packets that are captured, behind others that are
  captured_on : (gone tail : List ℕ) (packets : List Packet) → found_at p0 (gone ++ tail) ≡ in_front packets (found_at p1 tail) → AllByRecursion IsCaptured packets → AreCapturedAt p1 tail
      → AllByRecursion IsCaptured (found_before options.budget (exceeded_at blocks options.budget p0 (gone ++ tail)) (found_at p0 (gone ++ tail))).packets
  captured_on gone tail packets found each here =
      captured_before options.budget (exceeded_at blocks options.budget p0 (gone ++ tail)) (found_at p0 (gone ++ tail))
      (subst (λ (f : Found). AllByRecursion IsCaptured f.packets) (sym found) (all_append IsCaptured packets (found_at p1 tail).packets each here))

  captured_whole : (bytes rest : List ℕ) → Ahead blocks options k p0 p1 h h1 t0 t1 bytes rest → AreCapturedAt p1 rest
      → AllByRecursion IsCaptured (found_before options.budget (exceeded_at blocks options.budget p0 bytes) (found_at p0 bytes)).packets
  captured_whole bytes rest x here =
      subst (λ (l : List ℕ). AllByRecursion IsCaptured (found_before options.budget (exceeded_at blocks options.budget p0 l) (found_at p0 l)).packets) (sym x.split)
      (captured_on x.gone rest x.packets (x.found rest) x.each here)

  one_captured : (end : MergeEnd) (bytes rest left : List ℕ) → Ahead blocks options k p0 p1 h h1 t0 t1 bytes rest → EndsBehind k blocks options p1 h1 h2 end rest left × EndsCaptured k p1 end rest left
      → HoldsCaptured blocks options.budget p0 end bytes left
  one_captured ends.Done bytes rest left x y = captured_whole bytes rest x y.1
  one_captured (ends.Malformed fault) bytes rest left x y = captured_whole bytes rest x y.1
  one_captured (ends.PoolEmpty round need) bytes rest left x y =
      let passes = one_end blocks options k p0 p1 p2 a b c h h1 h2 t0 t1 t2 (ends.PoolEmpty round need) bytes rest left x y.0 in
      subst (AllByRecursion IsCaptured) (sym (rounds_before options.budget k round need x.packets (exceeded_at blocks options.budget p0 bytes) (found_at p0 bytes) (found_at p1 rest) passes.0 y.1
      (ap (found_at p0) x.split ∙ x.found rest) x.size)) x.each
  one_captured ends.ReadFault bytes rest left x y = (
    x.gone ++ y.1.0,
    x.split ∙ ap (λ (l : List ℕ). x.gone ++ l) y.1.1 ∙ sym (append_assoc x.gone y.1.0 left),
    captured_on x.gone y.1.0 x.packets (x.found y.1.0) x.each y.1.2,
  )
  one_captured ends.WriteFault bytes rest left x y = tt
  one_captured ends.NoMemory bytes rest left x y = tt

  -- of all packets that are merged
  pub captured_then : (end : MergeEnd) → Told a b (Ahead blocks options k p0 p1 h h1 t0 t1) → Told b c (EndsBehind k blocks options p1 h1 h2 end) → Told b c (EndsCaptured k p1 end)
      → Told a c (HoldsCaptured blocks options.budget p0 end)
  captured_then end first more here =
      Told-then a b c (Ahead blocks options k p0 p1 h h1 t0 t1) (λ rest left. EndsBehind k blocks options p1 h1 h2 end rest left × EndsCaptured k p1 end rest left)
      (HoldsCaptured blocks options.budget p0 end)
      (λ bytes rest left x y. one_captured end bytes rest left x y) first (both_told b c (EndsBehind k blocks options p1 h1 h2 end) (EndsCaptured k p1 end) more here)

-- a round that wasn't written whole ended merging by a failed write or for want of memory
pub cut_by : (h h1 : Option (List ℕ)) (out : List ℕ) (end : MergeEnd) → Fails h h1 out end → (end ≡ ends.WriteFault) ⊎ (end ≡ ends.NoMemory)
cut_by h h1 out end (inl f) = inl f.0
cut_by h h1 out end (inr f) = inr f.0

-- then nothing is said of the packets
pub cut_captured : (k : ℕ) (place : Place) (end : MergeEnd) (bytes left : List ℕ) → (end ≡ ends.WriteFault) ⊎ (end ≡ ends.NoMemory) → EndsCaptured k place end bytes left
cut_captured k place end bytes left (inl e) = subst (λ (x : MergeEnd). EndsCaptured k place x bytes left) (sym e) tt
cut_captured k place end bytes left (inr e) = subst (λ (x : MergeEnd). EndsCaptured k place x bytes left) (sym e) tt

last_captured : (k : ℕ) (place : Place) (h h1 : Option (List ℕ)) (out : List ℕ) (end result : MergeEnd) (bytes left : List ℕ) → WritesLast h h1 out end result → EndsCaptured k place end bytes left
    → EndsCaptured k place result bytes left
last_captured k place h h1 out end result bytes left (inl w) here = subst (λ (e : MergeEnd). EndsCaptured k place e bytes left) (sym w.0) here
last_captured k place h h1 out end result bytes left (inr f) here = cut_captured k place result bytes left (cut_by h h1 out result f)

module _ (k blocks : ℕ) (from to : Place) (round : List Held) (a b h h1 : Option (List ℕ)) (out : List ℕ) (each : AllByRecursion IsCaptured (map packet_of round)) where
  here_by : (bytes : List ℕ) (fault : Option CapFault) → found_at from bytes ≡ in_front (map packet_of round) (ended fault) → AreCapturedAt from bytes
  here_by bytes fault found = subst (λ (f : Found). AllByRecursion IsCaptured f.packets) (sym found) (subst (AllByRecursion IsCaptured) (sym (append-nil (map packet_of round))) each)

  pub end_captured : (result : MergeEnd) → WritesLast h h1 out ends.Done result → Told a b (GivesRound blocks from to round rounds.End) → Told a b (EndsCaptured k from result)
  end_captured result wrote told =
      Told-weaker a b (GivesRound blocks from to round rounds.End) (EndsCaptured k from result)
      (λ bytes left gives. last_captured k from h h1 out ends.Done result bytes left wrote (here_by bytes None gives.0)) told

  pub malformed_captured : (fault : CapFault) (result : MergeEnd) → WritesLast h h1 out (ends.Malformed fault) result → Told a b (GivesRound blocks from to round (rounds.Malformed fault))
      → Told a b (EndsCaptured k from result)
  malformed_captured fault result wrote told =
      Told-weaker a b (GivesRound blocks from to round (rounds.Malformed fault)) (EndsCaptured k from result)
      (λ bytes left gives. last_captured k from h h1 out (ends.Malformed fault) result bytes left wrote (here_by bytes (Some fault) gives.0)) told

  pub fault_captured : (result : MergeEnd) → WritesLast h h1 out ends.ReadFault result → Told a b (GivesRound blocks from to round rounds.ReadFault) → Told a b (EndsCaptured k from result)
  fault_captured result wrote told =
      Told-weaker a b (GivesRound blocks from to round rounds.ReadFault) (EndsCaptured k from result)
      (λ bytes left gives. last_captured k from h h1 out ends.ReadFault result bytes left wrote (gives.0, gives.1, subst (AllByRecursion IsCaptured) (sym gives.2) each)) told

  empty_here : (need : ℕ) (result : MergeEnd) (bytes left : List ℕ) → (result ≡ ends.PoolEmpty k need) ⊎ (result ≡ ends.WriteFault) → EndsCaptured k from result bytes left
  empty_here need result bytes left (inl e) = subst (λ (x : MergeEnd). EndsCaptured k from x bytes left) (sym e) refl
  empty_here need result bytes left (inr e) = cut_captured k from result bytes left (inl e)

  pub empty_captured : (need : ℕ) (result : MergeEnd) → (result ≡ ends.PoolEmpty k need) ⊎ (result ≡ ends.WriteFault) → Told a b (GivesRound blocks from to round (rounds.PoolEmpty need))
      → Told a b (EndsCaptured k from result)
  empty_captured need result answer told =
      Told-weaker a b (GivesRound blocks from to round (rounds.PoolEmpty need)) (EndsCaptured k from result) (λ bytes left gives. empty_here need result bytes left answer) told

-- ---- one round

-- the bytes that are gone come to this, and no round of them exceeds the blocks
abbrev pub ComesTo : (List ℕ → Passed) → List ℕ → List ℕ → List ℕ → Type 0
ComesTo passing out bytes left = (gone : List ℕ) × (bytes ≡ gone ++ left) × IsNoRound (passing gone).stop × ((passing gone).output ≡ out)

no_round : (fault : Option CapFault) → IsNoRound (stop_of fault None)
no_round None = tt
no_round (Some fault) = tt

module _ (blocks : ℕ) (state : RoundsState) (file : FileHead) (from to : Place) (round : List Held) (is_file : from.file ≡ file) (some : 1 ≤ state.budget)
    (fits : round_need (map packet_of round) ≤ blocks) where
  abbrev passing : List ℕ → Passed
  passing = merging blocks (options_of state) from

  abbrev packets : List Packet
  packets = map packet_of round

  abbrev out : List ℕ
  out = round_output (options_of state) file.order packets

  out_is : round_output (options_of state) from.file.order packets ≡ out
  out_is = ap (λ (f : FileHead). round_output (options_of state) f.order packets) is_file

  -- a last round, behind which this many more headers are lawful
  last_by : (bytes more : List ℕ) (fault : Option CapFault) → length round + length more ≤ state.budget → round_need packets + needed more ≤ blocks
      → found_at from bytes ≡ in_front packets (ended fault) → lengths_at from bytes ≡ map frame_length packets ++ more → passing bytes ≡ record { output = out; stop = stop_of fault None }
  last_by bytes more fault few room found lens =
      (merging_goes_by_round blocks (options_of state) from packets bytes (omega (arith, some))).last fault more (omega (arith, few, length-map round packet_of)) room found lens
      ∙ ap (λ (l : List ℕ). record { output = l; stop = stop_of fault None }) out_is

  -- a short round
  last_is : (bytes : List ℕ) (fault : Option CapFault) → length round < state.budget → needed (lengths_at from bytes) ≤ blocks → found_at from bytes ≡ in_front packets (ended fault)
      → passing bytes ≡ record { output = out; stop = stop_of fault None }
  last_is bytes fault fewer room found =
      let l = lengths_of_packets from bytes in
      let more = l.0 in
      let are : (found_at from bytes).packets ≡ packets = ap (λ (f : Found). f.packets) found ∙ append-nil packets in
      let lens = l.1 ∙ ap (λ (ps : List Packet). map frame_length ps ++ more) are in
      let n = ap needed lens ∙ needed_append (map frame_length packets) more in
      last_by bytes more fault (omega (arith, fewer, l.2)) (omega (arith, n, room)) found lens

  comes_to : (bytes left gone : List ℕ) (fault : Option CapFault) → bytes ≡ gone ++ left → passing gone ≡ record { output = out; stop = stop_of fault None } → ComesTo passing out bytes left
  comes_to bytes left gone fault split is = (gone, split, subst IsNoRound (sym (ap (λ (x : Passed). x.stop) is)) (no_round fault), ap (λ (x : Passed). x.output) is)

  holds_come : (bytes left : List ℕ) → length round < state.budget → Holds blocks from packets bytes left → ComesTo passing out bytes left
  holds_come bytes left fewer holds =
      let fault = (found_at from holds.0).fault in
      let found : found_at from holds.0 ≡ in_front packets (ended fault) =
      ap (λ (ps : List Packet). record { packets = ps; fault = fault }) (holds.2 ∙ sym (append-nil packets)) in
      comes_to bytes left holds.0 fault holds.1 (last_is holds.0 fault fewer holds.3 found)

  end_comes : (bytes left : List ℕ) → passing bytes ≡ record { output = out; stop = Nowhere } → left ≡ [] → ComesTo passing out bytes left
  end_comes bytes left is none = comes_to bytes left bytes None (sym (append-nil bytes) ∙ ap (λ (l : List ℕ). bytes ++ l) (sym none)) is

  module _ (k : ℕ) (a b h h1 : Option (List ℕ)) where
    -- a round that wasn't written whole
    pub fails_front : (end : MergeEnd) → Fails h h1 out end → AppendsPrefix h h1 out
    fails_front end (inl f) = f.1
    fails_front end (inr f) = (0, Appends-kept h h h1 [] (Appends-nil h) f.1)

    last_front : (end result : MergeEnd) → WritesLast h h1 out end result → AppendsPrefix h h1 out
    last_front end result (inl w) = prefix_whole h h1 out w.1
    last_front end result (inr f) = fails_front result f

    -- a prefix of the last round, whose end was read
    pub ended_front : (end result : MergeEnd) (bytes left : List ℕ) (fault : Option CapFault) → length round < state.budget → needed (lengths_at from bytes) ≤ blocks
        → found_at from bytes ≡ in_front packets (ended fault)
        → WritesLast h h1 out end result → WritesPrefix passing h h1 bytes left
    ended_front end result bytes left fault fewer room found wrote =
        subst (AppendsPrefix h h1) (sym (ap (λ (x : Passed). x.output) (last_is bytes fault fewer room found))) (last_front end result wrote)

    pub fails_end : (end : MergeEnd) → Fails h h1 out end → (gone bytes left : List ℕ) → bytes ≡ gone ++ left → (AppendsPrefix h h1 out → AppendsPrefix h h1 (passing gone).output)
        → EndsBehind k blocks (options_of state) from h h1 end bytes left
    fails_end end (inl f) gone bytes left split wrote = (WriteFault, ap ending_of f.0, (gone, split, wrote f.1))
    fails_end end (inr f) gone bytes left split wrote = (NoMemory, ap ending_of f.0, (gone, split, (0, Appends-kept h h h1 [] (Appends-nil h) f.1)))

    -- the last round ended as it was to, or it failed
    last_end : (end result : MergeEnd) (ending : Ending) (bytes left : List ℕ) → ending_of end ≡ ending_behind k ending → (Appends h h1 out → Passes passing h h1 ending bytes left)
        → ComesTo passing out bytes left
        → WritesLast h h1 out end result → EndsBehind k blocks (options_of state) from h h1 result bytes left
    last_end end result ending bytes left is passes comes (inl w) = (ending, ap ending_of w.0 ∙ is, passes w.1)
    last_end end result ending bytes left is passes comes (inr f) = fails_end result f comes.0 bytes left comes.1 (λ w. subst (AppendsPrefix h h1) (sym comes.3) w)

    pub end_given : (result : MergeEnd) → length round < state.budget → WritesLast h h1 out ends.Done result
        → Told a b (GivesRound blocks from to round rounds.End) → Told a b (EndsBehind k blocks (options_of state) from h h1 result)
    end_given result fewer wrote told =
        Told-weaker a b (GivesRound blocks from to round rounds.End) (EndsBehind k blocks (options_of state) from h h1 result)
        (λ bytes left gives.
        let all = last_is bytes None fewer gives.1 gives.0 in
        last_end ends.Done result (Stopped Nowhere) bytes left refl
        (λ w. (ap (λ (x : Passed). x.stop) all, gives.2, subst (Appends h h1) (sym (ap (λ (x : Passed). x.output) all)) w))
        (end_comes bytes left all gives.2) wrote) told

    pub malformed_given : (fault : CapFault) (result : MergeEnd) → length round < state.budget → WritesLast h h1 out (ends.Malformed fault) result
        → Told a b (GivesRound blocks from to round (rounds.Malformed fault)) → Told a b (EndsBehind k blocks (options_of state) from h h1 result)
    malformed_given fault result fewer wrote told =
        Told-weaker a b (GivesRound blocks from to round (rounds.Malformed fault)) (EndsBehind k blocks (options_of state) from h h1 result)
        (λ bytes left gives.
        let all = last_is bytes (Some fault) fewer gives.1 gives.0 in
        last_end (ends.Malformed fault) result (Stopped (AtFault fault)) bytes left refl
        (λ w. (ap (λ (x : Passed). x.stop) all, (gives.2.0, gives.2.1), subst (Appends h h1) (sym (ap (λ (x : Passed). x.output) all)) w))
        (holds_come bytes left fewer gives.2) wrote) told

    pub fault_given : (result : MergeEnd) → length round < state.budget → WritesLast h h1 out ends.ReadFault result
        → Told a b (GivesRound blocks from to round rounds.ReadFault) → Told a b (EndsBehind k blocks (options_of state) from h h1 result)
    fault_given result fewer wrote told =
        Told-weaker a b (GivesRound blocks from to round rounds.ReadFault) (EndsBehind k blocks (options_of state) from h h1 result)
        (λ bytes left gives.
        let comes = holds_come bytes left fewer gives in
        last_end ends.ReadFault result ReadFault bytes left refl (λ w. (comes.0, comes.1, comes.2, subst (Appends h h1) (sym comes.3) w)) comes wrote) told

    exceeds_end : (need : ℕ) (bytes left : List ℕ) → length round < state.budget → Exceeds blocks need from packets bytes left → (passing bytes ≡ record { output = []; stop = AtRound 0 need })
        × Loses bytes left
    exceeds_end need bytes left fewer ex =
        let len = ex.0 in
        let more = ex.1.0 in
        let is = ex.1.1 in
        let stops = (merging_goes_by_round blocks (options_of state) from packets bytes (omega (arith, some))).exceeds len more (omega (arith, fewer, length-map round packet_of)) fits
        (omega (arith, is.1, is.2)) is.0 in
        (stops ∙ ap (λ (n : ℕ). record { output = []; stop = AtRound 0 n }) (sym is.1), is.3)

    empty_by : (need : ℕ) (result : MergeEnd) (bytes left : List ℕ) → (result ≡ ends.PoolEmpty k need) ⊎ (result ≡ ends.WriteFault) → Keeps h h1
        → (passing bytes ≡ record { output = []; stop = AtRound 0 need }) × Loses bytes left
        → EndsBehind k blocks (options_of state) from h h1 result bytes left
    empty_by need result bytes left (inl e) kept ex =
        let same : k ≡ k + 0 = omega arith in (
          Stopped (AtRound 0 need),
          ap ending_of e ∙ ap (λ (n : ℕ). Stopped (AtRound n need)) same,
          (ap (λ (x : Passed). x.stop) ex.0, ex.1, subst (Appends h h1) (sym (ap (λ (x : Passed). x.output) ex.0)) (Appends-kept h h h1 [] (Appends-nil h) kept)),
        )
    empty_by need result bytes left (inr e) kept ex = (WriteFault, ap ending_of e, (ex.1.0, ex.1.1, (0, Appends-kept h h h1 [] (Appends-nil h) kept)))

    pub empty_given : (need : ℕ) (result : MergeEnd) → length round < state.budget → (result ≡ ends.PoolEmpty k need) ⊎ (result ≡ ends.WriteFault)
        → Keeps h h1
        → Told a b (GivesRound blocks from to round (rounds.PoolEmpty need)) → Told a b (EndsBehind k blocks (options_of state) from h h1 result)
    empty_given need result fewer answer kept told =
        Told-weaker a b (GivesRound blocks from to round (rounds.PoolEmpty need)) (EndsBehind k blocks (options_of state) from h h1 result)
        (λ bytes left gives. empty_by need result bytes left answer kept (exceeds_end need bytes left fewer gives)) told

    -- a full round was written
    full_goes : (t t1 : ℕ) (bytes left : List ℕ) → length round ≡ state.budget → to.file ≡ from.file → min (t + round_need packets) (2 ^ 64 - 1) ≤ t1 → Appends h h1 out
        → AllByRecursion IsCaptured packets → PassesRecords from to packets bytes left
        → Ahead blocks (options_of state) 1 from to h h1 t t1 bytes left
    full_goes t t1 bytes left full same took wrote each passes = record {
      gone = passes.0;
      done = out;
      packets = packets;
      split = passes.1;
      goes = λ tail.
          (merging_goes_by_round blocks (options_of state) from packets (passes.0 ++ tail) (omega (arith, some))).full to tail (omega (arith, full, length-map round packet_of)) fits same
          (passes.2 tail).found (passes.2 tail).lengths
          ∙ ap (λ (l : List ℕ). behind 1 l (merging blocks (options_of state) to tail)) out_is;
      found = λ tail. (passes.2 tail).found;
      wrote = wrote;
      took = took;
      size = omega (arith, full, length-map round packet_of);
      each = each;
    }

    pub full_given : (t t1 : ℕ) → length round ≡ state.budget → to.file ≡ from.file → min (t + round_need packets) (2 ^ 64 - 1) ≤ t1 → Appends h h1 out
        → AllByRecursion IsCaptured packets
        → Told a b (GivesRound blocks from to round rounds.Full) → Told a b (Ahead blocks (options_of state) 1 from to h h1 t t1)
    full_given t t1 full same took wrote each told =
        Told-weaker a b (GivesRound blocks from to round rounds.Full) (Ahead blocks (options_of state) 1 from to h h1 t t1)
        (λ bytes left gives. full_goes t t1 bytes left full same took wrote each gives) told

-- of an end by a failed write or for want of memory nothing is said of the blocks that were taken
pub cut_taken : (k t t1 : ℕ) (place : Place) (end : MergeEnd) (bytes left : List ℕ) → (end ≡ ends.WriteFault) ⊎ (end ≡ ends.NoMemory) → TakesBehind k place t t1 (ending_of end) bytes left
cut_taken k t t1 place end bytes left (inl e) = subst (λ (x : MergeEnd). TakesBehind k place t t1 (ending_of x) bytes left) (sym e) tt
cut_taken k t t1 place end bytes left (inr e) = subst (λ (x : MergeEnd). TakesBehind k place t t1 (ending_of x) bytes left) (sym e) tt

-- as many were as the packets of the last round need
pub last_taken : (k t t1 : ℕ) (place : Place) (h h1 : Option (List ℕ)) (output : List ℕ) (end result : MergeEnd) (a b : Option (List ℕ)) → WritesLast h h1 output end result
    → Told a b (TakesBehind k place t t1 (ending_of end)) → Told a b (TakesBehind k place t t1 (ending_of result))
last_taken k t t1 place h h1 output end result a b (inl w) told = subst (λ (x : MergeEnd). Told a b (TakesBehind k place t t1 (ending_of x))) (sym w.0) told
last_taken k t t1 place h h1 output end result a b (inr f) told =
    Told-weaker a b (TakesBehind k place t t1 (ending_of end)) (TakesBehind k place t t1 (ending_of result)) (λ bytes left _. cut_taken k t t1 place result bytes left (cut_by h h1 output result f)) told

-- and of one that exceeds the blocks
pub empty_taken : (k t t1 need : ℕ) (place : Place) (result : MergeEnd) (a b : Option (List ℕ)) → (result ≡ ends.PoolEmpty k need) ⊎ (result ≡ ends.WriteFault)
    → Told a b (TakesBehind k place t t1 (Stopped (AtRound k need))) → Told a b (TakesBehind k place t t1 (ending_of result))
empty_taken k t t1 need place result a b (inl e) told = subst (λ (x : MergeEnd). Told a b (TakesBehind k place t t1 (ending_of x))) (sym e) told
empty_taken k t t1 need place result a b (inr e) told =
    Told-weaker a b (TakesBehind k place t t1 (Stopped (AtRound k need))) (TakesBehind k place t t1 (ending_of result)) (λ bytes left _. cut_taken k t t1 place result bytes left (inl e)) told

-- whether a round's end tells that it has fewer packets than it may have
abbrev pub is_short : RoundEnd → Bool
is_short rounds.Full = false
is_short rounds.NoMemory = false
is_short _ = true

pub fewer_by : (end : RoundEnd) (n m : ℕ) → is_short end ≡ true → ((end ≡ rounds.Full → ⊥) → (end ≡ rounds.NoMemory → ⊥) → n < m) → n < m
fewer_by end n m short fewer = fewer (λ e. false≢true (sym (ap is_short e) ∙ short)) (λ e. false≢true (sym (ap is_short e) ∙ short))
