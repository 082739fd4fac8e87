-- What writing one record shows of the records of a capture.
use Rattle.std.proofs.Common.{◌≡◌, ℕ, ◌+◌, ◌-◌, ◌≤◌, List, [], ◌∷◌, ◌++◌, length, map, refl, sym, ap, ◌∙◌, subst, arith, append-nil, Option, None, Some, Result}
use Rattle.std.proofs.Common.{Ok, Err}
use Rattle.std.specs.Io.KnownBytes.{Appends}
use Rattle.std.proofs.KnownBytes.{Appends-nil, Keeps-refl}
use Rattle.off_io.specs.Content.{AppendsPrefix}
use Rattle.off_io.specs.Told.{Told}
use Rattle.off_io.proofs.Appending.{prefix_more}
use Rattle.off_io.proofs.Telling.{Told-weaker}
use Rattle.pcap_io.specs.declared.heads.Link.TheVariants.{Ethernet}
use Rattle.pcap_io.specs.declared.place.Place.{Place}
use Rattle.pcap_io.specs.declared.faults.CapFault.{CapFault}
use Rattle.pcap_io.specs.Capture.{Packet, Found, ended}
use Rattle.pcap_io.specs.Laws.{frame_length}
use Rattle.pcap_io.specs.Lengths.{lengths_at}
use Rattle.pcap_io.specs.Places.{found_at}
use Rattle.pcap_io.proofs.LengthLaws.{lengths_of_packets}
use Rattle.offload_model.specs.Need.{need_of, needed}
use Rattle.offload_model.specs.Passing.{Stop, AtRound, Passed, IsNoRound, stop_of}
use Rattle.offload_model.specs.Steps.{behind}
use Rattle.gro.specs.declared.slot.Slot.{Slot as Held}
use Rattle.gro.specs.Slots.{packet_of}
use Rattle.reading.specs.declared.record.Stop.{Stop as Unread}
use Rattle.reading.specs.declared.record.Stop.TheVariants as stops
use Rattle.reading.specs.Reading.{front_size, judged_at, record_of, Passes, GivesRecord}
use Rattle.segmenting.specs.declared.segment.Moved.{Moved}
use Rattle.segmenting.specs.declared.segment.Moved.TheVariants.{One}
use Rattle.segmenting.specs.declared.segment.SegFault.{SegFault}
use Rattle.segmenting.specs.declared.segment.SegFault.TheVariants as faults
use Rattle.wire_model.specs.declared.wiring.Wiring.{Wiring}
use Rattle.wire_model.specs.Passing.{wire_bytes, wiring}
use Rattle.wire_model.proofs.Passing.{wiring_goes_by_record}
use Rattle.wire_model.specs.declared.counts.Counts.{Counts}
use Rattle.wire_model.specs.Counting.{counted}
use Rattle.wire_records.specs.Moving.{CountsOne, IsMovedOf, Moves}

abbrev passed : List ℕ → Stop → Passed
passed output stop = record { output = output; stop = stop }

-- ---- no record

by_lengths : (blocks : ℕ) (o : Wiring) (place : Place) (bytes more : List ℕ) (fault : Option CapFault) → found_at place bytes ≡ ended fault → lengths_at place bytes ≡ more → length more ≤ 1
    → needed (map (λ len. len - 0) more) ≤ blocks → wiring blocks o place bytes ≡ passed [] (stop_of fault None)
by_lengths blocks o place bytes [] fault found lens few fits = (wiring_goes_by_record blocks o place bytes).none fault found lens
by_lengths blocks o place bytes (len ∷ []) fault found lens few fits =
    let same : len - 0 ≡ len = omega arith in
    (wiring_goes_by_record blocks o place bytes).cut len fault (omega (arith, fits, ap need_of same)) found lens
by_lengths blocks o place bytes (len ∷ k ∷ more) fault found lens few fits = absurd (omega (arith, few))

none_there : (blocks : ℕ) (o : Wiring) (place : Place) (bytes : List ℕ) (fault : Option CapFault) → place.link ≡ Ethernet → found_at place bytes ≡ ended fault
    → 0 + needed (judged_at place bytes) ≤ blocks → wiring blocks o place bytes ≡ passed [] (stop_of fault None)
none_there blocks o place bytes fault link found fits =
    let l = lengths_of_packets place bytes in
    let lens : lengths_at place bytes ≡ l.0 = l.1 ∙ ap (λ (f : Found). map frame_length f.packets ++ l.0) found in
    let front : front_size place.link ≡ 0 = ap front_size link in
    let judged : needed (judged_at place bytes) ≡ needed (map (λ len. len - 0) l.0) =
    ap (λ (k : ℕ). needed (map (λ len. len - k) (lengths_at place bytes))) front ∙ ap (λ (ls : List ℕ). needed (map (λ len. len - 0) ls)) lens in
    by_lengths blocks o place bytes l.0 fault found lens l.2 (omega (arith, judged, fits))

no_packets : (f : Found) → f.packets ≡ [] → f ≡ ended f.fault
no_packets f e = ap (λ (ps : List Packet). record { packets = ps; fault = f.fault }) e

none_held : (blocks : ℕ) (o : Wiring) (place : Place) (gone : List ℕ) → place.link ≡ Ethernet → (found_at place gone).packets ≡ [] → 0 + needed (judged_at place gone) ≤ blocks
    → wiring blocks o place gone ≡ passed [] (stop_of (found_at place gone).fault None)
none_held blocks o place gone link none fits =
    none_there blocks o place gone (found_at place gone).fault link (no_packets (found_at place gone) none) fits

no_round : (fault : Option CapFault) → IsNoRound (stop_of fault None)
no_round None = tt
no_round (Some fault) = tt

-- nothing is written
nothing_more : (h : Option (List ℕ)) (x : Passed) (stop : Stop) → x ≡ passed [] stop → Appends h h x.output
nothing_more h x stop e = subst (Appends h h) (sym (ap (λ (p : Passed). p.output) e)) (Appends-nil h)

unmoved : (h : Option (List ℕ)) (blocks : ℕ) (o : Wiring) (old new : Place) (front : List ℕ) (stop : Unread) (result : Result Moved SegFault) (bytes left : List ℕ) → old.link ≡ Ethernet
    → IsMovedOf stop result → GivesRecord 0 blocks old new front (Err stop) bytes left → Moves blocks o old new h h result bytes left
unmoved h blocks o old new front stops.End result bytes left link is gives = rw is (gives.3, gives.2, Keeps-refl h)
unmoved h blocks o old new front (stops.Malformed fault) result bytes left link is gives =
    let e = none_there blocks o old bytes (Some fault) link gives.0 gives.1 in
    let held = gives.2 in
    rw is ((ap (λ (p : Passed). p.stop) e, (held.0, held.1), nothing_more h _ _ e), Keeps-refl h)
unmoved h blocks o old new front (stops.PoolEmpty need) result bytes left link is gives =
    let len = gives.0 in
    let more = gives.1.0 in
    let k = gives.1.1 in
    let front_is : front_size old.link ≡ 0 = ap front_size link in
    let less : len - front_size old.link ≡ len = omega (arith, front_is) in
    let needs : need ≡ need_of len = omega (arith, k.1, ap need_of less) in
    let e = (wiring_goes_by_record blocks o old bytes).exceeds len more (omega (arith, k.2, needs)) k.0 in
    rw is ((ap (λ (p : Passed). p.stop) e ∙ ap (λ (z : ℕ). AtRound 0 z) (sym needs), k.3, nothing_more h _ _ e), Keeps-refl h)
unmoved h blocks o old new front stops.ReadFault result bytes left link is gives =
    let e = none_held blocks o old gives.0 link gives.2 gives.3 in
    rw is ((gives.0, gives.1, subst IsNoRound (sym (ap (λ (p : Passed). p.stop) e)) (no_round (found_at old gives.0).fault), nothing_more h _ _ e), Keeps-refl h)
unmoved h blocks o old new front stops.Lacking result bytes left link is gives = absurd is
unmoved h blocks o old new front stops.NoMemory result bytes left link is gives = rw is ((gives.0, gives.1, (0, Appends-nil h)), tt)

pub unmoved_given : (a b h : Option (List ℕ)) (blocks : ℕ) (o : Wiring) (old new : Place) (front : List ℕ) (stop : Unread) (result : Result Moved SegFault) → old.link ≡ Ethernet
    → IsMovedOf stop result → Told a b (GivesRecord 0 blocks old new front (Err stop)) → Told a b (Moves blocks o old new h h result)
unmoved_given a b h blocks o old new front stop result link is told =
    Told-weaker a b (GivesRecord 0 blocks old new front (Err stop)) (Moves blocks o old new h h result)
    (λ bytes left gives. unmoved h blocks o old new front stop result bytes left link is gives) told

-- ---- a record

no_front : (front : List ℕ) → length front ≡ 0 → front ≡ []
no_front [] e = refl
no_front (x ∷ xs) e = absurd (omega (arith, e))

pub record_is : (front : List ℕ) (p : Held) → length front ≡ 0 → record_of front p ≡ packet_of p
record_is front p none = ap (λ (xs : List ℕ). record_of xs p) (no_front front none)

module _ (blocks : ℕ) (o : Wiring) (old new : Place) (r : Packet) (fits : need_of (length r.frame) ≤ blocks) (file : new.file ≡ old.file) where
  goes_on : (bytes left : List ℕ) → (passes : Passes old new (r ∷ []) bytes left) → (tail : List ℕ)
      → wiring blocks o old (passes.0 ++ tail) ≡ behind 1 (wire_bytes o old.file.order r) (wiring blocks o new tail)
  goes_on bytes left passes tail =
      let b = passes.2 tail in
      (wiring_goes_by_record blocks o old (passes.0 ++ tail)).whole r new tail fits file b.found b.lengths

  moved_one : (h k : Option (List ℕ)) (bytes left : List ℕ) → Passes old new (r ∷ []) bytes left → Appends h k (wire_bytes o old.file.order r)
      → Moves blocks o old new h k (Ok One) bytes left
  moved_one h k bytes left passes wrote = (passes.0, (wire_bytes o old.file.order r, (passes.1, goes_on bytes left passes, wrote)))

  -- a prefix of what it comes to
  not_moved : (h k : Option (List ℕ)) (bytes left : List ℕ) → Passes old new (r ∷ []) bytes left → AppendsPrefix h k (wire_bytes o old.file.order r)
      → Moves blocks o old new h k (Err faults.WriteFault) bytes left
  not_moved h k bytes left passes front =
      let e = goes_on bytes left passes [] in
      let whole = prefix_more h k (wire_bytes o old.file.order r) (wiring blocks o new []).output front in (
        (
          passes.0,
          passes.1,
          subst (λ (xs : List ℕ). AppendsPrefix h k (wiring blocks o old xs).output) (append-nil passes.0)
              (subst (λ (z : Passed). AppendsPrefix h k z.output) (sym e) whole),
        ),
        tt,
      )

pub moved_given : (a b h k : Option (List ℕ)) (blocks used : ℕ) (o : Wiring) (old new : Place) (front : List ℕ) (p : Held) → length front ≡ 0
    → need_of (length (packet_of p).frame) ≤ blocks → new.file ≡ old.file
    → Told a b (GivesRecord used blocks old new front (Ok p)) → Appends h k (wire_bytes o old.file.order (packet_of p)) → Told a b (Moves blocks o old new h k (Ok One))
moved_given a b h k blocks used o old new front p none fits file told wrote =
    Told-weaker a b (GivesRecord used blocks old new front (Ok p)) (Moves blocks o old new h k (Ok One))
    (λ bytes left passes. moved_one blocks o old new (packet_of p) fits file h k bytes left
    (subst (λ (r : Packet). Passes old new (r ∷ []) bytes left) (record_is front p none) passes) wrote) told

pub not_moved_given : (a b h k : Option (List ℕ)) (blocks used : ℕ) (o : Wiring) (old new : Place) (front : List ℕ) (p : Held) → length front ≡ 0
    → need_of (length (packet_of p).frame) ≤ blocks → new.file ≡ old.file
    → Told a b (GivesRecord used blocks old new front (Ok p)) → AppendsPrefix h k (wire_bytes o old.file.order (packet_of p))
    → Told a b (Moves blocks o old new h k (Err faults.WriteFault))
not_moved_given a b h k blocks used o old new front p none fits file told wrote =
    Told-weaker a b (GivesRecord used blocks old new front (Ok p)) (Moves blocks o old new h k (Err faults.WriteFault))
    (λ bytes left passes. not_moved blocks o old new (packet_of p) fits file h k bytes left
    (subst (λ (r : Packet). Passes old new (r ∷ []) bytes left) (record_is front p none) passes) wrote) told

-- a record, and what was counted of it
pub counts_one : (a b : Option (List ℕ)) (blocks used : ℕ) (o : Wiring) (before now : Counts) (old new : Place) (front : List ℕ) (p : Held) → length front ≡ 0
    → now ≡ counted o (packet_of p) before → Told a b (GivesRecord used blocks old new front (Ok p)) → Told a b (CountsOne o before now old new)
counts_one a b blocks used o before now old new front p none same told =
    Told-weaker a b (GivesRecord used blocks old new front (Ok p)) (CountsOne o before now old new)
    (λ bytes left passes.
    let q : Passes old new (packet_of p ∷ []) bytes left = subst (λ (r : Packet). Passes old new (r ∷ []) bytes left) (record_is front p none) passes in
    (q.0, (packet_of p, (q.1, (λ tail. (q.2 tail).found), same)))) told
