-- What segmenting one record shows of the records of a capture.
use Rattle.std.proofs.Common.{◌≡◌, ℕ, ◌+◌, ◌-◌, ◌^◌, ◌≤◌, true, false, List, [], ◌∷◌, ◌++◌, length, map, min, sym, ap, ◌∙◌, subst, arith, append-nil, length-append, Option, None, Some, Result}
use Rattle.std.proofs.Common.{Ok, Err}
use Rattle.std.specs.Io.KnownBytes.{Appends}
use Rattle.std.proofs.KnownBytes.{Appends-nil, Appends-kept, Keeps-refl}
use Rattle.off_io.specs.Content.{AppendsPrefix}
use Rattle.off_io.specs.Told.{Told}
use Rattle.off_io.proofs.Appending.{prefix_more}
use Rattle.off_io.proofs.Telling.{Told-weaker}
use Rattle.pcap_io.specs.declared.heads.Link.{Link}
use Rattle.pcap_io.specs.declared.heads.Link.TheVariants.{Offload}
use Rattle.pcap_io.specs.Headers.{is_bad_original}
use Rattle.pcap_io.specs.declared.place.Place.{Place}
use Rattle.pcap_io.specs.declared.faults.CapFault.{CapFault}
use Rattle.pcap_io.specs.declared.faults.CapKind.TheVariants.{BadOffload}
use Rattle.pcap_io.specs.Capture.{Packet, Found, ended}
use Rattle.pcap_io.specs.Laws.{frame_length}
use Rattle.pcap_io.specs.Limits.{off_head_size}
use Rattle.pcap_io.specs.Lengths.{lengths_at}
use Rattle.pcap_io.specs.Places.{found_at}
use Rattle.pcap_io.proofs.LengthLaws.{lengths_of_packets}
use Rattle.offload_model.specs.Need.{need_of, needed}
use Rattle.offload_model.specs.Segments.{segments_of}
use Rattle.offload_model.specs.Passing.{Stop, AtFault, AtRound, Passed, IsNoRound, stop_of, segmenting}
use Rattle.offload_model.specs.Steps.{behind}
use Rattle.offload_model.specs.Tests.{is_lawful_record}
use Rattle.offload_model.proofs.Steps.{segmenting_goes_by_record}
use Rattle.skb.specs.SkbState.{buffer_bytes}
use Rattle.gro.specs.declared.slot.Slot.{Slot as Held}
use Rattle.segmenting.specs.declared.cut.Refused.{Refused}
use Rattle.segmenting.specs.declared.cut.Refused.TheVariants as refusals
use Rattle.reading.specs.declared.record.Stop.{Stop as Unread}
use Rattle.reading.specs.declared.record.Stop.TheVariants as stops
use Rattle.segmenting.specs.declared.segment.Moved.{Moved}
use Rattle.segmenting.specs.declared.segment.Moved.TheVariants.{One}
use Rattle.segmenting.specs.declared.segment.SegFault.{SegFault}
use Rattle.segmenting.specs.Cutting.{WritesRecord, packets_bytes}
use Rattle.reading.specs.Reading.{front_size, in_front, judged_at, record_of, Passes, GivesRecord}
use Rattle.segmenting.specs.Segmenting.{records_need, IsFaultOf, IsMovedOf, Moves, TakesBy, TakesOne}
use Rattle.pcap_io.proofs.RecordLaws.{no_record}

abbrev passed : List ℕ → Stop → Passed
passed output stop = record { output = output; stop = stop }

-- ---- no record

by_lengths : (blocks : ℕ) (place : Place) (bytes more : List ℕ) (fault : Option CapFault) → found_at place bytes ≡ ended fault → lengths_at place bytes ≡ more → length more ≤ 1
    → needed (map (λ len. len - off_head_size) more) ≤ blocks → segmenting blocks place bytes ≡ passed [] (stop_of fault None)
by_lengths blocks place bytes [] fault found lens few fits = (segmenting_goes_by_record blocks place bytes).none fault found lens
by_lengths blocks place bytes (len ∷ []) fault found lens few fits = (segmenting_goes_by_record blocks place bytes).cut len fault (omega (arith, fits)) found lens
by_lengths blocks place bytes (len ∷ k ∷ more) fault found lens few fits = absurd (omega (arith, few))

none_there : (blocks : ℕ) (place : Place) (bytes : List ℕ) (fault : Option CapFault) → place.link ≡ Offload → found_at place bytes ≡ ended fault → 0 + needed (judged_at place bytes) ≤ blocks
    → segmenting blocks place bytes ≡ passed [] (stop_of fault None)
none_there blocks place bytes fault link found fits =
    let l = lengths_of_packets place bytes in
    let lens : lengths_at place bytes ≡ l.0 = l.1 ∙ ap (λ (f : Found). map frame_length f.packets ++ l.0) found in
    let front : front_size place.link ≡ off_head_size = ap front_size link in
    let judged : needed (judged_at place bytes) ≡ needed (map (λ len. len - off_head_size) l.0) =
    ap (λ (k : ℕ). needed (map (λ len. len - k) (lengths_at place bytes))) front ∙ ap (λ (ls : List ℕ). needed (map (λ len. len - off_head_size) ls)) lens in
    by_lengths blocks place bytes l.0 fault found lens l.2 (omega (arith, judged, fits))

no_packets : (f : Found) → f.packets ≡ [] → f ≡ ended f.fault
no_packets f e = ap (λ (ps : List Packet). record { packets = ps; fault = f.fault }) e

none_held : (blocks : ℕ) (place : Place) (gone : List ℕ) → place.link ≡ Offload → (found_at place gone).packets ≡ [] → 0 + needed (judged_at place gone) ≤ blocks
    → segmenting blocks place gone ≡ passed [] (stop_of (found_at place gone).fault None)
none_held blocks place gone link none fits = none_there blocks place gone (found_at place gone).fault link (no_packets (found_at place gone) none) fits

no_round : (fault : Option CapFault) → IsNoRound (stop_of fault None)
no_round None = tt
no_round (Some fault) = tt

-- nothing is written
nothing_more : (h : Option (List ℕ)) (x : Passed) (stop : Stop) → x ≡ passed [] stop → Appends h h x.output
nothing_more h x stop e = subst (Appends h h) (sym (ap (λ (p : Passed). p.output) e)) (Appends-nil h)

unmoved : (h : Option (List ℕ)) (blocks : ℕ) (old new : Place) (front : List ℕ) (stop : Unread) (result : Result Moved SegFault) (bytes left : List ℕ) → old.link ≡ Offload → IsMovedOf stop result
    → GivesRecord 0 blocks old new front (Err stop) bytes left → Moves blocks old new h h result bytes left
unmoved h blocks old new front stops.End result bytes left link is gives = rw is (gives.3, gives.2, Keeps-refl h)
unmoved h blocks old new front (stops.Malformed fault) result bytes left link is gives =
    let e = none_there blocks old bytes (Some fault) link gives.0 gives.1 in
    let held = gives.2 in
    rw is ((ap (λ (p : Passed). p.stop) e, (held.0, held.1), nothing_more h _ _ e), Keeps-refl h)
unmoved h blocks old new front (stops.PoolEmpty need) result bytes left link is gives =
    let len = gives.0 in
    let more = gives.1.0 in
    let k = gives.1.1 in
    let front_is : front_size old.link ≡ off_head_size = ap front_size link in
    let less : len - front_size old.link ≡ len - off_head_size = ap (λ (z : ℕ). len - z) front_is in
    let needs : need ≡ need_of (len - off_head_size) = omega (arith, k.1, ap need_of less) in
    let e = (segmenting_goes_by_record blocks old bytes).exceeds len more (omega (arith, k.2, needs)) k.0 in
    rw is ((ap (λ (p : Passed). p.stop) e ∙ ap (λ (z : ℕ). AtRound 0 z) (sym needs), k.3, nothing_more h _ _ e), Keeps-refl h)
unmoved h blocks old new front stops.ReadFault result bytes left link is gives =
    let e = none_held blocks old gives.0 link gives.2 gives.3 in
    rw is ((gives.0, gives.1, subst IsNoRound (sym (ap (λ (p : Passed). p.stop) e)) (no_round (found_at old gives.0).fault), nothing_more h _ _ e), Keeps-refl h)
unmoved h blocks old new front stops.Lacking result bytes left link is gives = absurd is
unmoved h blocks old new front stops.NoMemory result bytes left link is gives = rw is ((gives.0, gives.1, (0, Appends-nil h)), tt)

pub unmoved_given : (a b h : Option (List ℕ)) (blocks : ℕ) (old new : Place) (front : List ℕ) (stop : Unread) (result : Result Moved SegFault) → old.link ≡ Offload → IsMovedOf stop result
    → Told a b (GivesRecord 0 blocks old new front (Err stop)) → Told a b (Moves blocks old new h h result)
unmoved_given a b h blocks old new front stop result link is told =
    Told-weaker a b (GivesRecord 0 blocks old new front (Err stop)) (Moves blocks old new h h result) (λ bytes left gives. unmoved h blocks old new front stop result bytes left link is gives) told

-- ---- a record

-- a record fits, and ends where the next one begins
pub record IsNext (blocks : ℕ) (old new : Place) (r : Packet) : Type 0 where
  pub fits : need_of (length r.frame - off_head_size) ≤ blocks
  pub file : new.file ≡ old.file
  pub offset : new.offset ≡ old.offset + 16 + length r.frame

-- the frame behind an offload header
frame_is : (front : List ℕ) (p : Held) → length front ≡ off_head_size → length (record_of front p).frame - off_head_size ≡ length (buffer_bytes p.skb)
frame_is front p long = omega (arith, length-append front (buffer_bytes p.skb), long)

pub need_is : (front : List ℕ) (p : Held) → length front ≡ off_head_size → need_of (length (record_of front p).frame - off_head_size) ≡ need_of (length (buffer_bytes p.skb))
need_is front p long = ap need_of (frame_is front p long)

pub next_is : (blocks : ℕ) (old new : Place) (front : List ℕ) (p : Held) → length front ≡ off_head_size → need_of (length (buffer_bytes p.skb)) ≤ blocks → new.file ≡ old.file
    → new.offset ≡ old.offset + 16 + (length front + length (buffer_bytes p.skb)) → IsNext blocks old new (record_of front p)
next_is blocks old new front p long fits file offset = record {
  fits = omega (arith, need_is front p long, fits);
  file = file;
  offset = omega (arith, offset, length-append front (buffer_bytes p.skb));
}

-- an original length counts the offload header
pub original_counts : (link : Link) (n : ℕ) → link ≡ Offload → is_bad_original link n ≡ false → off_head_size ≤ n
original_counts link n e lawful =
    let h : is_bad_original Offload n ≡ false = subst (λ (l : Link). is_bad_original l n ≡ false) e lawful in
    grind (arith, h)

abbrev written : Place → Packet → List ℕ
written place r = packets_bytes place.file.order (segments_of r)

goes_on : (blocks : ℕ) (old new : Place) (r : Packet) (bytes left : List ℕ) → IsNext blocks old new r → is_lawful_record r ≡ true → (passes : Passes old new (r ∷ []) bytes left)
    → (tail : List ℕ) → segmenting blocks old (passes.0 ++ tail) ≡ behind 1 (written old r) (segmenting blocks new tail)
goes_on blocks old new r bytes left next lawful passes tail =
    let b = passes.2 tail in
    (segmenting_goes_by_record blocks old (passes.0 ++ tail)).lawful r new tail next.fits lawful next.file next.offset b.found b.lengths

-- a prefix of what it comes to
front_of : (h k : Option (List ℕ)) (blocks : ℕ) (old new : Place) (r : Packet) (bytes left : List ℕ) → IsNext blocks old new r → is_lawful_record r ≡ true
    → (passes : Passes old new (r ∷ []) bytes left)
    → AppendsPrefix h k (written old r) → AppendsPrefix h k (segmenting blocks old passes.0).output
front_of h k blocks old new r bytes left next lawful passes front =
    let e = goes_on blocks old new r bytes left next lawful passes [] in
    subst (λ (xs : List ℕ). AppendsPrefix h k (segmenting blocks old xs).output) (append-nil passes.0)
    (subst (λ (z : Passed). AppendsPrefix h k z.output) (sym e) (prefix_more h k (written old r) (segmenting blocks new []).output front))

moved_one : (h k : Option (List ℕ)) (blocks : ℕ) (old new : Place) (r : Packet) (bytes left : List ℕ) → IsNext blocks old new r → Passes old new (r ∷ []) bytes left
    → WritesRecord old.file.order r h k (Ok tt) → Moves blocks old new h k (Ok One) bytes left
moved_one h k blocks old new r bytes left next passes wrote =
    (passes.0, (written old r, (passes.1, goes_on blocks old new r bytes left next wrote.0 passes, wrote.1)))

not_moved : (h k : Option (List ℕ)) (blocks offset : ℕ) (old new : Place) (r : Packet) (refused : Refused) (fault : SegFault) (bytes left : List ℕ) → IsNext blocks old new r → offset ≡ old.offset
    → IsFaultOf refused offset r.number fault → Passes old new (r ∷ []) bytes left → WritesRecord old.file.order r h k (Err refused) → Moves blocks old new h k (Err fault) bytes left
not_moved h k blocks offset old new r refusals.BadOffload fault bytes left next at is passes wrote =
    let b = passes.2 left in
    let e = ap (segmenting blocks old) passes.1 ∙ (segmenting_goes_by_record blocks old (passes.0 ++ left)).unlawful r new left next.fits wrote.0 b.found b.lengths in
    rw is (
      (
        ap (λ (p : Passed). p.stop) e ∙ ap (λ (z : ℕ). AtFault (record { kind = BadOffload; offset = z; number = r.number })) (sym at),
        (passes.0, passes.1),
        subst (Appends h k) (sym (ap (λ (p : Passed). p.output) e)) (Appends-kept h h k [] (Appends-nil h) wrote.1),
      ),
      wrote.1,
    )
not_moved h k blocks offset old new r refusals.WriteFault fault bytes left next at is passes wrote =
    rw is ((passes.0, passes.1, front_of h k blocks old new r bytes left next wrote.0 passes wrote.1), tt)

pub moved_given : (a b h k : Option (List ℕ)) (blocks used : ℕ) (old new : Place) (front : List ℕ) (p : Held) → IsNext blocks old new (record_of front p)
    → Told a b (GivesRecord used blocks old new front (Ok p)) → WritesRecord old.file.order (record_of front p) h k (Ok tt) → Told a b (Moves blocks old new h k (Ok One))
moved_given a b h k blocks used old new front p next told wrote =
    Told-weaker a b (GivesRecord used blocks old new front (Ok p)) (Moves blocks old new h k (Ok One)) (λ bytes left passes. moved_one h k blocks old new
    (record_of front p) bytes left next passes wrote) told

pub not_moved_given : (a b h k : Option (List ℕ)) (blocks used offset number : ℕ) (old new : Place) (front : List ℕ) (p : Held) (refused : Refused) (fault : SegFault)
    → IsNext blocks old new (record_of front p) → offset ≡ old.offset → number ≡ p.number
    → IsFaultOf refused offset number fault → Told a b (GivesRecord used blocks old new front (Ok p)) → WritesRecord old.file.order (record_of front p) h k (Err refused)
    → Told a b (Moves blocks old new h k (Err fault))
not_moved_given a b h k blocks used offset number old new front p refused fault next at numbered is told wrote =
    Told-weaker a b (GivesRecord used blocks old new front (Ok p)) (Moves blocks old new h k (Err fault))
    (λ bytes left passes. not_moved h k blocks offset old new (record_of front p) refused fault bytes left next at (subst (λ (z : ℕ). IsFaultOf refused offset z fault) numbered is) passes wrote) told

-- a record and the blocks that were taken for it
pub takes_one : (a b : Option (List ℕ)) (blocks used before now : ℕ) (old new : Place) (front : List ℕ) (p : Held) → min (before + need_of (length (record_of front p).frame - off_head_size))
    (2 ^ 64 - 1) ≤ now
    → Told a b (GivesRecord used blocks old new front (Ok p)) → Told a b (TakesOne before now old new)
takes_one a b blocks used before now old new front p enough told =
    Told-weaker a b (GivesRecord used blocks old new front (Ok p)) (TakesOne before now old new)
    (λ bytes left passes. (passes.0, (record_of front p, (passes.1, (λ tail. (passes.2 tail).found), enough)))) told

-- a record was read whole, and wasn't segmented
takes_whole : (before now : ℕ) (old new : Place) (r : Packet) (gone : List ℕ) → found_at old (gone ++ []) ≡ in_front (r ∷ []) (found_at new [])
    → min (before + need_of (length r.frame - off_head_size)) (2 ^ 64 - 1) ≤ now → min (before + records_need (found_at old gone).packets) (2 ^ 64 - 1) ≤ now
takes_whole before now old new r gone found enough =
    let all : found_at old gone ≡ in_front (r ∷ []) (found_at new []) = ap (found_at old) (sym (append-nil gone)) ∙ found in
    let packets : (found_at old gone).packets ≡ r ∷ [] = ap (λ (f : Found). f.packets) all ∙ ap (λ (ps : List Packet). r ∷ ps) (no_record new [] (omega arith)) in
    subst (λ (ps : List Packet). min (before + records_need ps) (2 ^ 64 - 1) ≤ now) (sym packets) (omega (arith, enough))

takes_refused : (before now offset number : ℕ) (old new : Place) (r : Packet) (refused : Refused) (fault : SegFault) (bytes left : List ℕ) → IsFaultOf refused offset number fault
    → min (before + need_of (length r.frame - off_head_size)) (2 ^ 64 - 1) ≤ now → Passes old new (r ∷ []) bytes left → TakesBy (Err fault) before now old new bytes left
takes_refused before now offset number old new r refusals.BadOffload fault bytes left is enough passes =
    rw is (passes.0, passes.1, takes_whole before now old new r passes.0 (passes.2 []).found enough)
takes_refused before now offset number old new r refusals.WriteFault fault bytes left is enough passes =
    rw is (passes.0, passes.1, takes_whole before now old new r passes.0 (passes.2 []).found enough)

pub takes_not_moved : (a b : Option (List ℕ)) (blocks used before now offset number : ℕ) (old new : Place) (front : List ℕ) (p : Held) (refused : Refused) (fault : SegFault)
    → IsFaultOf refused offset number fault → min (before + need_of (length (record_of front p).frame - off_head_size)) (2 ^ 64 - 1) ≤ now → Told a b (GivesRecord used blocks old new front (Ok p))
    → Told a b (TakesBy (Err fault) before now old new)
takes_not_moved a b blocks used before now offset number old new front p refused fault is enough told =
    Told-weaker a b (GivesRecord used blocks old new front (Ok p)) (TakesBy (Err fault) before now old new)
    (λ bytes left passes. takes_refused before now offset number old new (record_of front p) refused fault bytes left is enough passes) told

-- or none was
takes_none : (before now : ℕ) (place : Place) (gone : List ℕ) → (found_at place gone).packets ≡ [] → before ≤ now → min (before + records_need (found_at place gone).packets) (2 ^ 64 - 1) ≤ now
takes_none before now place gone none least = subst (λ (ps : List Packet). min (before + records_need ps) (2 ^ 64 - 1) ≤ now) (sym none) (omega (arith, least))

takes_stop : (blocks before now : ℕ) (old new : Place) (front : List ℕ) (stop : Unread) (result : Result Moved SegFault) (bytes left : List ℕ) → IsMovedOf stop result → before ≤ now
    → GivesRecord 0 blocks old new front (Err stop) bytes left → TakesBy result before now old new bytes left
takes_stop blocks before now old new front stops.End result bytes left is least gives = rw is tt
takes_stop blocks before now old new front (stops.Malformed fault) result bytes left is least gives = rw is (gives.2.0, gives.2.1, takes_none before now old gives.2.0 gives.2.2 least)
takes_stop blocks before now old new front (stops.PoolEmpty need) result bytes left is least gives = rw is tt
takes_stop blocks before now old new front stops.ReadFault result bytes left is least gives = rw is (gives.0, gives.1, takes_none before now old gives.0 gives.2 least)
takes_stop blocks before now old new front stops.NoMemory result bytes left is least gives = rw is tt
takes_stop blocks before now old new front stops.Lacking result bytes left is least gives = absurd is

pub takes_unmoved : (a b : Option (List ℕ)) (blocks before now : ℕ) (old new : Place) (front : List ℕ) (stop : Unread) (result : Result Moved SegFault) → IsMovedOf stop result → before ≤ now
    → Told a b (GivesRecord 0 blocks old new front (Err stop)) → Told a b (TakesBy result before now old new)
takes_unmoved a b blocks before now old new front stop result is least told =
    Told-weaker a b (GivesRecord 0 blocks old new front (Err stop)) (TakesBy result before now old new) (λ bytes left gives. takes_stop blocks before now old new front stop result bytes left is least gives)
    told
