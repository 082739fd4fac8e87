-- All records that are written are lawful, and their bytes read as these records.
use Rattle.std.proofs.Common.{◌≡◌, ℕ, ◌+◌, ◌*◌, ◌^◌, ◌<◌, ◌≤◌, ◌⊎◌, inl, inr, true, false, cond, Option, None, List, [], ◌∷◌, ◌++◌, length, map, drop, refl, sym, ap, ◌∙◌, subst, arith, length-take}
use Rattle.std.proofs.Common.{length-drop}
use Rattle.std.specs.Prelude.{◌==◌, if◌then◌else◌}
use Rattle.std.proofs.lemmas.List.{append-nil}
use Rattle.std.specs.List.{flat_map, AllByRecursion, range_with_len, filter}
use Rattle.maximal_runs.proofs.Pass.{all_append}
use Rattle.pcap_io.specs.Capture.{Packet, Found, reads, one_more}
use Rattle.pcap_io.specs.Headers.{any_head, fields_in}
use Rattle.pcap_io.specs.declared.off_head.OffHead2.{OffHead2}
use Rattle.pcap_io.specs.declared.heads.Link.TheVariants.{Offload}
use Rattle.frame_layout.specs.Shape.{Layout}
use Rattle.offload_model.specs.Mergeable.{IsMergeable}
use Rattle.offload_model.specs.Merged.{Merged, merged_of}
use Rattle.offload_model.specs.Segments.{packet_in, merged_in, with_frame, frames_of, segments_of, IsCuttable, IsLawfulWindow, IsLawfulRecord}
use Rattle.offload_model.specs.Tests.{is_lawful_record}
use Rattle.offload_model.specs.Rounds.{is_of, is_queued, items_of, rounds_of}
use Rattle.offload_model.proofs.Shown.{all_shown}
use Rattle.offload_model.specs.Written.{Options, head_of, record_of, shown_of, window_of, window_record, windows_by, windows_of, round_records, records_of, record_bytes, written}
use Rattle.offload_model.specs.Captured.{IsCaptured, AreCaptured, AreOptions, content}
use Rattle.offload_model.specs.Tested.{numbered, tested_from}
use Rattle.offload_model.specs.CaptureLaws.{ReadsBack, HeadReadsBack, WrittenComesBack}
use Rattle.offload_model.proofs.Decides.{decides_record}
use Rattle.offload_model.proofs.Lists.{all_filtered, all_of, all_mapped, all_joined, all_range}
use Rattle.offload_model.proofs.Opened.{Fits, opened_head, length-off_bytes2}
use Rattle.offload_model.proofs.RunRecords.{IsRunRecord, run_record, super_record, single_record, in_bytes, opened_by}
use Rattle.offload_model.proofs.Items.{items_are}
use Rattle.offload_model.proofs.Flows.{IsItem, all_items, rounds_captured, back, back-append, flows_come_back}
use Rattle.offload_model.proofs.ReadBack.{IsWritable, capture_back, capture_head_back}

-- a record that may be written and is lawful
pub record IsWritten (r : Packet) : Type 0 where
  pub fits : IsWritable r
  pub lawful : IsLawfulRecord r

run_written : (q : ℕ) (run : List Packet) → q ≤ 63 → IsItem run → IsWritten (record_of q run)
run_written q [] lane i = absurd (omega (arith, i.full))
run_written q (p ∷ []) lane i =
    let c : IsCaptured p = i.captured.0 in
    let size : length (record_of q (p ∷ [])).frame ≡ 16 + length p.frame = length-off_bytes2 (head_of q (merged_of (p ∷ []))) p.frame in
    record {
      fits = record {
        sec = c.sec;
        frac = c.frac;
        headed = omega (arith, size);
        short = omega (arith, size, c.short);
        above = omega arith;
        within = omega (arith, c.original);
      };
      lawful = (
        opened_by (head_of q (merged_of (p ∷ []))) p (record { version = refl; n = omega arith; m = omega arith; number = c.number }) c.short c.original,
        inl (single_record q p lane c),
      );
    }
run_written q (p ∷ x ∷ ps) lane i = several (one_or_more i.allowed)
  where
    one_or_more : (length (p ∷ x ∷ ps) ≡ 1) ⊎ IsMergeable (p ∷ x ∷ ps) → IsMergeable (p ∷ x ∷ ps)
    one_or_more (inl one) = absurd (omega arith)
    one_or_more (inr m) = m

    several : IsMergeable (p ∷ x ∷ ps) → IsWritten (record_of q (p ∷ x ∷ ps))
    several m =
        let run : List Packet = p ∷ x ∷ ps in
        let r : Merged = merged_of run in
        let k : IsRunRecord m.0 p run r = run_record p x ps m (in_bytes run i.captured) in
        let c : IsCaptured p = i.captured.0 in
        let size : length (record_of q run).frame ≡ 16 + length r.packet.frame = length-off_bytes2 (head_of q r) r.packet.frame in
        record {
          fits = record {
            sec = subst (λ n. n < 2 ^ 32) (sym k.sec) c.sec;
            frac = subst (λ n. n < 2 ^ 32) (sym k.frac) c.frac;
            headed = omega (arith, size);
            short = omega (arith, size, k.short);
            above = omega arith;
            within = omega (arith, k.original, k.short);
          };
          lawful = (
            opened_by (head_of q r) r.packet (record { version = refl; n = omega (arith, k.n); m = omega (arith, k.m); number = c.number })
                k.short (omega (arith, k.original, k.short)),
            inr (inl (super_record q p x ps lane i.captured m)),
          );
        }

window_written : (t : ℕ) (p : Packet) (window : List ℕ) → t ≤ 7 → IsCaptured p → length window ≤ 262144 → IsWritten (window_record t p window)
window_written t p window lane c short =
    let head : OffHead2 = record { version = 2; kind = 2; modes = 0; lane = t; n = 0; m = 0; number = p.number } in
    let fits : Fits head = record { version = refl; n = omega arith; m = omega arith; number = c.number } in
    let size : length (window_record t p window).frame ≡ 16 + length window = length-off_bytes2 head window in
    record {
      fits = record {
        sec = c.sec;
        frac = c.frac;
        headed = omega (arith, size);
        short = omega (arith, size);
        above = omega arith;
        within = omega arith;
      };
      lawful = (
        opened_by head (with_frame p window) fits short (omega (arith, short)),
        inr (inr (subst (λ h. IsLawfulWindow (fields_in h)) (sym (opened_head head window fits))
            (record { kind = refl; n = refl; m = refl; modes = refl; lane = lane }))),
      );
    }

windows_written : (t : ℕ) (p : Packet) (window : List ℕ) → t ≤ 7 → IsCaptured p → length window ≤ 262144 → AllByRecursion IsWritten (windows_by t p window)
windows_written t p [] lane c short = tt
windows_written t p (b ∷ bytes) lane c short = (window_written t p (b ∷ bytes) lane c short, tt)

window_short : (snap t : ℕ) (p : Packet) → IsCaptured p → length (window_of snap t p.frame) ≤ 262144
window_short snap t p c = omega (arith, length-take snap (drop (t * snap) p.frame), length-drop (t * snap) p.frame, c.short)

round_written : (o : Options) (ps : List Packet) → AreOptions o → AreCaptured ps → AllByRecursion IsWritten (round_records o ps)
round_written o ps lawful c =
    all_append IsWritten (flat_map (λ q. map (record_of q) (items_of o.segs o.spread q ps)) (range_with_len 0 o.queues)) (flat_map (λ t. windows_of o.snap t (map (shown_of o.filter) ps))
    (range_with_len 0 o.taps))
    (all_joined IsWritten (λ q. map (record_of q) (items_of o.segs o.spread q ps)) (range_with_len 0 o.queues)
    (all_range (λ q. AllByRecursion IsWritten (map (record_of q) (items_of o.segs o.spread q ps))) o.queues (λ q l.
    all_mapped IsItem IsWritten (record_of q) (items_of o.segs o.spread q ps) (λ run i. run_written q run (omega (arith, lawful.queues)) i)
    (all_items (filter (is_queued o.spread q) ps) (items_of o.segs o.spread q ps) (all_filtered IsCaptured (is_queued o.spread q) ps c.each) (items_are o.segs o.spread q ps c.rising)))))
    (all_joined IsWritten (λ t. windows_of o.snap t (map (shown_of o.filter) ps)) (range_with_len 0 o.taps)
    (all_range (λ t. AllByRecursion IsWritten (windows_of o.snap t (map (shown_of o.filter) ps))) o.taps (λ t l.
    all_joined IsWritten (λ p. windows_by t p (window_of o.snap t p.frame)) (map (shown_of o.filter) ps)
    (all_of IsCaptured (λ p. AllByRecursion IsWritten (windows_by t p (window_of o.snap t p.frame))) (map (shown_of o.filter) ps)
    (λ p k. windows_written t p (window_of o.snap t p.frame) (omega (arith, lawful.taps)) k (window_short o.snap t p k)) (all_shown o.filter ps c.each)))))

pub all_written : (o : Options) (ps : List Packet) → AreOptions o → AreCaptured ps → AllByRecursion IsWritten (records_of o ps)
all_written o ps lawful c =
    all_joined IsWritten (round_records o) (rounds_of o.budget ps)
    (all_of AreCaptured (λ round. AllByRecursion IsWritten (round_records o round)) (rounds_of o.budget ps) (λ round k. round_written o round lawful k) (rounds_captured o.budget ps c))

-- ---- the number in the capture makes no difference

abbrev renumbered : ℕ → Packet → Packet
renumbered n r = record { number = n; sec = r.sec; frac = r.frac; original = r.original; frame = r.frame }

same_cuttable : (layout : Layout) (n : ℕ) (r : Packet) (head : OffHead2) → IsCuttable layout (merged_in head (packet_in r)) → IsCuttable layout (merged_in head (packet_in (renumbered n r)))
same_cuttable layout n r head c = record {
  shape_is = c.shape_is;
  candidate = c.candidate;
  several = c.several;
  full = c.full;
  above = c.above;
  within = c.within;
  modes = c.modes;
  only = c.only;
}

same_lawful : (n : ℕ) (r : Packet) → IsLawfulRecord r → IsLawfulRecord (renumbered n r)
same_lawful n r (opened, inl single) = (opened, inl single)
same_lawful n r (opened, inr (inl s)) = (
  opened,
  inr (inl (record { kind = s.kind; lane = s.lane; layout = s.layout; cuttable = same_cuttable s.layout n r (fields_in (any_head r.frame)) s.cuttable })),
)
same_lawful n r (opened, inr (inr window)) = (opened, inr (inr window))

-- lawful records pass the test
pub tested_all : (n offset : ℕ) (rs : List Packet) → AllByRecursion IsLawfulRecord rs → tested_from offset (numbered n rs) None ≡ record { packets = numbered n rs; fault = None }
tested_all n offset [] a = refl
tested_all n offset (r ∷ rs) a =
    let passes : is_lawful_record (renumbered n r) ≡ true = (decides_record (renumbered n r)).1 (same_lawful n r a.0) in
    rw passes (ap (one_more (renumbered n r)) (tested_all (n + 1) (offset + 16 + length r.frame) rs a.1))

pub reads_back : ReadsBack
reads_back head o ps lawful c few =
    let all : AllByRecursion IsWritten (records_of o ps) = all_written o ps lawful c in
    let read : reads Offload (written head o ps) ≡ record { packets = numbered 0 (records_of o ps); fault = None } =
    capture_back head (records_of o ps) (all_of IsWritten IsWritable (records_of o ps) (λ r w. w.fits) all) few in (
      read,
      ap (λ (found : Found). tested_from 24 found.packets found.fault) read
          ∙ tested_all 0 24 (records_of o ps) (all_of IsWritten IsLawfulRecord (records_of o ps) (λ r w. w.lawful) all),
    )

pub head_reads_back : HeadReadsBack
head_reads_back head o ps a b = capture_head_back head (flat_map (record_bytes head.order) (records_of o ps)) a b

-- ---- what comes back of the bytes

-- what comes back of a record doesn't depend on its number
same_content : (n : ℕ) (r : Packet) → map content (segments_of (renumbered n r)) ≡ map content (segments_of r)
same_content n r = by_kind (fields_in (any_head r.frame)).kind (frames_of (merged_in (fields_in (any_head r.frame)) (packet_in r)))
  where
    contents : (p q : Packet) (fs : List (List ℕ)) → map content (map (with_frame p) fs) ≡ map content (map (with_frame q) fs)
    contents p q [] = refl
    contents p q (f ∷ fs) = ap (λ z. (length f, f) ∷ z) (contents p q fs)

    by_kind : (k : ℕ) (fs : List (List ℕ))
        → map content (if k == 0 then packet_in (renumbered n r) ∷ [] else (if k == 1 then map (with_frame (packet_in (renumbered n r))) fs else []))
        ≡ map content (if k == 0 then packet_in r ∷ [] else (if k == 1 then map (with_frame (packet_in r)) fs else []))
    by_kind k fs = elim (k == 0) as (λ v. map content (if v then packet_in (renumbered n r) ∷ [] else (if k == 1 then map (with_frame (packet_in (renumbered n r))) fs else []))
        ≡ map content (if v then packet_in r ∷ [] else (if k == 1 then map (with_frame (packet_in r)) fs else []))) [
          | true ↦ refl
          | false ↦ elim (k == 1) as (λ v. map content (if v then map (with_frame (packet_in (renumbered n r))) fs else []) ≡ map content (if v then map (with_frame (packet_in r)) fs else [])) [
            | true ↦ contents (packet_in (renumbered n r)) (packet_in r) fs
            | false ↦ refl
          ]
        ]

renumbered_back : (key : Option (List ℕ)) (n : ℕ) (rs : List Packet) → back key (numbered n rs) ≡ back key rs
renumbered_back key n [] = refl
renumbered_back key n (r ∷ rs) =
    back-append key (renumbered n r ∷ []) (numbered (n + 1) rs)
    ∙ ap (λ z. z ++ back key (numbered (n + 1) rs)) one
    ∙ ap (λ z. back key (r ∷ []) ++ z) (renumbered_back key (n + 1) rs)
    ∙ sym (back-append key (r ∷ []) rs)
  where
    one : back key (renumbered n r ∷ []) ≡ back key (r ∷ [])
    one = elim (is_of key (packet_in r)) as (λ v. map content (flat_map segments_of (cond v (renumbered n r ∷ []) [])) ≡ map content (flat_map segments_of (cond v (r ∷ []) []))) [
      | true ↦ ap (map content) (append-nil (segments_of (renumbered n r))) ∙ same_content n r ∙ sym (ap (map content) (append-nil (segments_of r)))
      | false ↦ refl
    ]

pub written_comes_back : WrittenComesBack
written_comes_back head o ps lawful c few key =
    ap (λ (found : Found). back key found.packets) (reads_back head o ps lawful c few).1
    ∙ renumbered_back key 0 (records_of o ps)
    ∙ flows_come_back o ps lawful c key
