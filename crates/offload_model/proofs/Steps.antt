-- How what a command makes of some bytes goes on: round by round, and record by record.
use Rattle.std.proofs.Common.{◌≡◌, ◌≤◌, ◌<◌, ◌+◌, ◌-◌, ℕ, List, [], ◌∷◌, ◌++◌, length, map, refl, sym, ap, ◌∙◌, subst, arith, Option, None, Some, Bool, true, false, append-nil, append_assoc}
use Rattle.std.proofs.Common.{if◌then◌else◌}
use Rattle.std.specs.List.{flat_map, range_with_len}
use Rattle.std.specs.Io.KnownBytes.{Appends}
use Rattle.std.proofs.KnownBytes.{Appends-trans}
use Rattle.std.proofs.lemmas.Grind.{flat_map-append}
use Rattle.off_io.specs.Content.{AppendsPrefix}
use Rattle.off_io.proofs.Appending.{front_then, prefix_more}
use Rattle.net_bytes.specs.declared.order.Order.{Order}
use Rattle.pcap_io.specs.declared.heads.FileHead.{FileHead}
use Rattle.pcap_io.specs.declared.place.Place.{Place}
use Rattle.pcap_io.specs.declared.faults.CapFault.{CapFault}
use Rattle.pcap_io.specs.declared.faults.CapKind.TheVariants.{BadOffload}
use Rattle.pcap_io.specs.Capture.{Packet, Found, ended, one_more}
use Rattle.pcap_io.specs.Places.{found_at}
use Rattle.pcap_io.specs.Lengths.{lengths_at}
use Rattle.pcap_io.specs.Laws.{frame_length}
use Rattle.offload_model.specs.Segments.{segments_of}
use Rattle.offload_model.specs.Tests.{is_lawful_record}
use Rattle.offload_model.specs.Tested.{tested_from}
use Rattle.offload_model.specs.Rounds.{items_of}
use Rattle.offload_model.specs.Written.{Options, record_of, round_records, records_of, record_bytes, windows_of}
use Rattle.offload_model.specs.Need.{need_of, needed, round_need, exceeded, exceeded_at, exceeded_record_at, found_before}
use Rattle.offload_model.specs.Passing.{Stop, AtFault, AtRound, Passed, Ending, Stopped, ReadFault, WriteFault, NoMemory, stop_of, merging, segmenting, IsNoRound, Passes}
use Rattle.offload_model.specs.Steps.{stop_behind, ending_behind, behind, GoesOn, CommandsPassOn, PrefixesPassOn, in_front, round_output, MergingGoesByRound, SegmentingGoesByRecord}
use Rattle.offload_model.proofs.Rounding.{rounds_full, rounds_last}
use Rattle.offload_model.proofs.Behind.{stop_none, stop_more, no_round_on, left_on, shift, exceeded_on, exceeded_last, exceeded_next, found_on, stop_on, made_full, made_last, made_less}

abbrev passed : List ℕ → Stop → Passed
passed output stop = record { output = output; stop = stop }

same_passed : (a b : List ℕ) (s t : Stop) → a ≡ b → s ≡ t → passed a s ≡ passed b t
same_passed a b s t p q = ap (λ (x : List ℕ). passed x s) p ∙ ap (passed b) q

-- ---- behind others

go_on : (from to last : List ℕ → Passed) (k j : ℕ) (gone done gone' done' : List ℕ) → GoesOn from to k gone done → GoesOn to last j gone' done'
    → GoesOn from last (k + j) (gone ++ gone') (done ++ done')
go_on from to last k j gone done gone' done' p q tail =
    ap from (append_assoc gone gone' tail) ∙ p (gone' ++ tail) ∙ ap (behind k done) (q tail)
    ∙ same_passed (done ++ (done' ++ (last tail).output)) ((done ++ done') ++ (last tail).output) _ _
    (sym (append_assoc done done' (last tail).output)) (stop_more k j (last tail).stop)

pass_on : (from to : List ℕ → Passed) (k : ℕ) (gone done : List ℕ) (old mid new : Option (List ℕ)) (ending : Ending) (bytes left : List ℕ)
    → GoesOn from to k gone done → Appends old mid done → Passes to mid new ending bytes left
    → Passes from old new (ending_behind k ending) (gone ++ bytes) left
pass_on from to k gone done old mid new (Stopped stop) bytes left on wrote p = (
  ap (λ (x : Passed). x.stop) (on bytes) ∙ ap (stop_behind k) p.0,
  left_on k stop gone bytes left p.1,
  subst (Appends old new) (sym (ap (λ (x : Passed). x.output) (on bytes))) (Appends-trans old mid new done (to bytes).output wrote p.2),
)
pass_on from to k gone done old mid new ReadFault bytes left on wrote p = (
  gone ++ p.0,
  ap (λ (l : List ℕ). gone ++ l) p.1 ∙ sym (append_assoc gone p.0 left),
  subst IsNoRound (sym (ap (λ (x : Passed). x.stop) (on p.0))) (no_round_on k (to p.0).stop p.2),
  subst (Appends old new) (sym (ap (λ (x : Passed). x.output) (on p.0))) (Appends-trans old mid new done (to p.0).output wrote p.3),
)
pass_on from to k gone done old mid new WriteFault bytes left on wrote p = (
  gone ++ p.0,
  ap (λ (l : List ℕ). gone ++ l) p.1 ∙ sym (append_assoc gone p.0 left),
  subst (AppendsPrefix old new) (sym (ap (λ (x : Passed). x.output) (on p.0))) (front_then old mid new done (to p.0).output wrote p.2),
)
pass_on from to k gone done old mid new NoMemory bytes left on wrote p = (
  gone ++ p.0,
  ap (λ (l : List ℕ). gone ++ l) p.1 ∙ sym (append_assoc gone p.0 left),
  subst (AppendsPrefix old new) (sym (ap (λ (x : Passed). x.output) (on p.0))) (front_then old mid new done (to p.0).output wrote p.2),
)

pub commands_pass_on : CommandsPassOn
commands_pass_on from to k gone done = record {
  none = λ tail. ap (passed (from tail).output) (sym (stop_none (from tail).stop));
  more = λ last j gone' done' p q. go_on from to last k j gone done gone' done' p q;
  passes = λ old mid new ending bytes left on wrote p. pass_on from to k gone done old mid new ending bytes left on wrote p;
}

pub prefixes_pass_on : PrefixesPassOn
prefixes_pass_on from to k gone done = record {
  after = λ old mid new bytes left on wrote p.
      subst (AppendsPrefix old new) (sym (ap (λ (x : Passed). x.output) (on bytes))) (front_then old mid new done (to bytes).output wrote p);
  within = λ old new bytes left on p.
      subst (AppendsPrefix old new) (sym (ap (λ (x : Passed). x.output) (on bytes))) (prefix_more old new done (to bytes).output p);
}

-- ---- merging

abbrev made : Options → Order → Option (ℕ × ℕ) → Found → Passed
made options order e f = passed (flat_map (record_bytes order) (records_of options f.packets)) (stop_of f.fault e)

records_more : (options : Options) (order : Order) (ps qs : List Packet) → 0 < options.budget → length ps ≡ options.budget
    → flat_map (record_bytes order) (records_of options (ps ++ qs)) ≡ round_output options order ps ++ flat_map (record_bytes order) (records_of options qs)
records_more options order ps qs room full =
    ap (λ (rs : List (List Packet)). flat_map (record_bytes order) (flat_map (round_records options) rs)) (rounds_full options.budget ps qs room full)
    ∙ flat_map-append (record_bytes order) (round_records options ps) (records_of options qs)

-- of no packets nothing is written
each_none : {X Y : Type 0} (f : X → List Y) (xs : List X) → ((x : X) → f x ≡ []) → flat_map f xs ≡ []
each_none f [] h = refl
each_none f (x ∷ xs) h = ap (λ l. l ++ flat_map f xs) (h x) ∙ each_none f xs h

no_records : (options : Options) → round_records options [] ≡ []
no_records options =
    ap (λ (l : List Packet). l ++ flat_map (λ t. windows_of options.snap t []) (range_with_len 0 options.taps))
    (each_none (λ q. map (record_of q) (items_of options.segs options.spread q [])) (range_with_len 0 options.queues) (λ q. refl))
    ∙ each_none (λ t. windows_of options.snap t []) (range_with_len 0 options.taps) (λ t. refl)

records_last : (options : Options) (order : Order) (ps : List Packet) → 0 < options.budget → length ps ≤ options.budget
    → flat_map (record_bytes order) (records_of options ps) ≡ round_output options order ps
records_last options order [] room le = ap (flat_map (record_bytes order)) (sym (no_records options))
records_last options order (p ∷ ps) room le =
    ap (λ (rs : List (List Packet)). flat_map (record_bytes order) (flat_map (round_records options) rs)) (rounds_last options.budget (p ∷ ps) room (omega arith) le)
    ∙ ap (flat_map (record_bytes order)) (append-nil (round_records options (p ∷ ps)))

made_on : (options : Options) (order : Order) (ps : List Packet) (e : Option (ℕ × ℕ)) (f : Found) → 0 < options.budget → length ps ≡ options.budget
    → made options order (shift 1 e) (in_front ps f) ≡ behind 1 (round_output options order ps) (made options order e f)
made_on options order ps e f room full = same_passed _ _ _ _ (records_more options order ps f.packets room full) (stop_on f.fault e)

merges_full : (blocks : ℕ) (options : Options) (place : Place) (ps : List Packet) (bytes : List ℕ) (mid : Place) (left : List ℕ) → 0 < options.budget
    → length ps ≡ options.budget → round_need ps ≤ blocks → mid.file ≡ place.file
    → found_at place bytes ≡ in_front ps (found_at mid left) → lengths_at place bytes ≡ map frame_length ps ++ lengths_at mid left
    → merging blocks options place bytes ≡ behind 1 (round_output options place.file.order ps) (merging blocks options mid left)
merges_full blocks options place ps bytes mid left room full fits file found lens =
    let budget = options.budget in
    let e = exceeded_at blocks budget mid left in
    let f = found_before budget e (found_at mid left) in
    made_full (made options place.file.order) blocks budget place ps bytes room mid left full fits found lens
    ∙ made_on options place.file.order ps e f room full
    ∙ ap (λ (h : FileHead). behind 1 (round_output options place.file.order ps) (made options h.order e f)) (sym file)

merges_last : (blocks : ℕ) (options : Options) (place : Place) (ps : List Packet) (bytes : List ℕ) (fault : Option CapFault) (more : List ℕ) → 0 < options.budget
    → length ps + length more ≤ options.budget → round_need ps + needed more ≤ blocks
    → found_at place bytes ≡ in_front ps (ended fault) → lengths_at place bytes ≡ map frame_length ps ++ more
    → merging blocks options place bytes ≡ passed (round_output options place.file.order ps) (stop_of fault None)
merges_last blocks options place ps bytes fault more room le fits found lens =
    let order = place.file.order in
    made_last (made options order) blocks options.budget place ps bytes room fault more le fits found lens
    ∙ ap (λ (qs : List Packet). passed (flat_map (record_bytes order) (records_of options qs)) (stop_of fault None)) (append-nil ps)
    ∙ ap (λ (l : List ℕ). passed l (stop_of fault None)) (records_last options order ps room (omega (arith, le)))

merges_less : (blocks : ℕ) (options : Options) (place : Place) (ps : List Packet) (bytes : List ℕ) (len : ℕ) (more : List ℕ) → 0 < options.budget
    → length ps < options.budget → round_need ps ≤ blocks → blocks < round_need ps + need_of len
    → lengths_at place bytes ≡ map frame_length ps ++ len ∷ more
    → merging blocks options place bytes ≡ passed [] (AtRound 0 (round_need ps + need_of len))
merges_less blocks options place ps bytes len more room lt fits ex lens =
    made_less (made options place.file.order) blocks options.budget place ps bytes room len more lt fits ex lens

pub merging_goes_by_round : MergingGoesByRound
merging_goes_by_round blocks options place ps bytes room = record {
  full = λ mid left full fits file found lens. merges_full blocks options place ps bytes mid left room full fits file found lens;
  last = λ fault more le fits found lens. merges_last blocks options place ps bytes fault more room le fits found lens;
  exceeds = λ len more lt fits ex lens. merges_less blocks options place ps bytes len more room lt fits ex lens;
}

-- ---- segmenting

abbrev frame_of : ℕ → ℕ
frame_of len = len - 12

abbrev cut : ℕ → Order → Option (ℕ × ℕ) → Found → Passed
cut offset order e f =
    passed (flat_map (record_bytes order) (flat_map segments_of (tested_from offset f.packets f.fault).packets)) (stop_of (tested_from offset f.packets f.fault).fault e)

abbrev tested_if : Bool → ℕ → Packet → List Packet → Option CapFault → Found
tested_if b offset r rs fault =
    if b then one_more r (tested_from (offset + 16 + length r.frame) rs fault)
    else ended (Some (record { kind = BadOffload; offset = offset; number = r.number }))

abbrev cut_by : Order → Option (ℕ × ℕ) → Found → Passed
cut_by order e tested = passed (flat_map (record_bytes order) (flat_map segments_of tested.packets)) (stop_of tested.fault e)

-- the next record fits
segments_next : (blocks : ℕ) (place : Place) (bytes : List ℕ) (r : Packet) (mid : Place) (left : List ℕ) → need_of (length r.frame - 12) ≤ blocks
    → found_at place bytes ≡ one_more r (found_at mid left) → lengths_at place bytes ≡ length r.frame ∷ lengths_at mid left
    → segmenting blocks place bytes
    ≡ cut place.offset place.file.order (shift 1 (exceeded_record_at blocks mid left)) (one_more r (found_before 1 (exceeded_record_at blocks mid left) (found_at mid left)))
segments_next blocks place bytes r mid left fits found lens =
    let order = place.file.order in
    let e = exceeded_record_at blocks mid left in
    let f = found_at mid left in
    let e_is : exceeded_record_at blocks place bytes ≡ shift 1 e =
    ap (λ (l : List ℕ). exceeded blocks 1 (map frame_of l)) lens
    ∙ exceeded_on blocks 1 ((length r.frame - 12) ∷ []) (map frame_of (lengths_at mid left)) (omega arith) refl (omega (arith, fits)) in
    let f_is : found_before 1 (exceeded_record_at blocks place bytes) (found_at place bytes) ≡ one_more r (found_before 1 e f) =
    ap (λ (o : Option (ℕ × ℕ)). found_before 1 o (found_at place bytes)) e_is ∙ ap (found_before 1 (shift 1 e)) found ∙ found_on 1 (r ∷ []) e f refl in
    ap (λ (o : Option (ℕ × ℕ)). cut place.offset order o (found_before 1 (exceeded_record_at blocks place bytes) (found_at place bytes))) e_is
    ∙ ap (cut place.offset order (shift 1 e)) f_is

segments_lawful : (blocks : ℕ) (place : Place) (bytes : List ℕ) (r : Packet) (mid : Place) (left : List ℕ) → need_of (length r.frame - 12) ≤ blocks
    → is_lawful_record r ≡ true → mid.file ≡ place.file → mid.offset ≡ place.offset + 16 + length r.frame
    → found_at place bytes ≡ one_more r (found_at mid left) → lengths_at place bytes ≡ length r.frame ∷ lengths_at mid left
    → segmenting blocks place bytes ≡ behind 1 (flat_map (record_bytes place.file.order) (segments_of r)) (segmenting blocks mid left)
segments_lawful blocks place bytes r mid left fits lawful file offset found lens =
    let order = place.file.order in
    let e = exceeded_record_at blocks mid left in
    let g = found_before 1 e (found_at mid left) in
    let t = tested_from mid.offset g.packets g.fault in
    segments_next blocks place bytes r mid left fits found lens
    ∙ ap (λ (b : Bool). cut_by order (shift 1 e) (tested_if b place.offset r g.packets g.fault)) lawful
    ∙ ap (λ (k : ℕ). cut_by order (shift 1 e) (one_more r (tested_from k g.packets g.fault))) (sym offset)
    ∙ same_passed _ _ _ _ (flat_map-append (record_bytes order) (segments_of r) (flat_map segments_of t.packets)) (stop_on t.fault e)
    ∙ ap (λ (h : FileHead). behind 1 (flat_map (record_bytes order) (segments_of r)) (cut mid.offset h.order e g)) (sym file)

segments_unlawful : (blocks : ℕ) (place : Place) (bytes : List ℕ) (r : Packet) (mid : Place) (left : List ℕ) → need_of (length r.frame - 12) ≤ blocks
    → is_lawful_record r ≡ false
    → found_at place bytes ≡ one_more r (found_at mid left) → lengths_at place bytes ≡ length r.frame ∷ lengths_at mid left
    → segmenting blocks place bytes ≡ passed [] (AtFault (record { kind = BadOffload; offset = place.offset; number = r.number }))
segments_unlawful blocks place bytes r mid left fits lawful found lens =
    let e = exceeded_record_at blocks mid left in
    let g = found_before 1 e (found_at mid left) in
    segments_next blocks place bytes r mid left fits found lens
    ∙ ap (λ (b : Bool). cut_by place.file.order (shift 1 e) (tested_if b place.offset r g.packets g.fault)) lawful

segments_less : (blocks : ℕ) (place : Place) (bytes : List ℕ) (len : ℕ) (more : List ℕ) → blocks < need_of (len - 12) → lengths_at place bytes ≡ len ∷ more
    → segmenting blocks place bytes ≡ passed [] (AtRound 0 (need_of (len - 12)))
segments_less blocks place bytes len more ex lens =
    let need : 0 + need_of (len - 12) ≡ need_of (len - 12) = omega arith in
    let e_is : exceeded_record_at blocks place bytes ≡ Some (0, need_of (len - 12)) =
    ap (λ (l : List ℕ). exceeded blocks 1 (map frame_of l)) lens
    ∙ exceeded_next blocks 1 (len - 12) [] (map frame_of more) (omega arith) (omega arith) (omega arith) (omega (arith, ex))
    ∙ ap (λ (k : ℕ). Some (0, k)) need in
    ap (λ (o : Option (ℕ × ℕ)). cut place.offset place.file.order o (found_before 1 o (found_at place bytes))) e_is

segments_cut : (blocks : ℕ) (place : Place) (bytes : List ℕ) (len : ℕ) (fault : Option CapFault) → need_of (len - 12) ≤ blocks
    → found_at place bytes ≡ ended fault → lengths_at place bytes ≡ len ∷ []
    → segmenting blocks place bytes ≡ passed [] (stop_of fault None)
segments_cut blocks place bytes len fault fits found lens =
    let e_is : exceeded_record_at blocks place bytes ≡ None =
    ap (λ (l : List ℕ). exceeded blocks 1 (map frame_of l)) lens ∙ exceeded_last blocks 1 ((len - 12) ∷ []) (omega arith) (omega arith) (omega (arith, fits)) in
    ap (λ (o : Option (ℕ × ℕ)). cut place.offset place.file.order o (found_before 1 o (found_at place bytes))) e_is
    ∙ ap (cut place.offset place.file.order None) found

segments_none : (blocks : ℕ) (place : Place) (bytes : List ℕ) (fault : Option CapFault) → found_at place bytes ≡ ended fault → lengths_at place bytes ≡ []
    → segmenting blocks place bytes ≡ passed [] (stop_of fault None)
segments_none blocks place bytes fault found lens =
    let e_is : exceeded_record_at blocks place bytes ≡ None = ap (λ (l : List ℕ). exceeded blocks 1 (map frame_of l)) lens in
    ap (λ (o : Option (ℕ × ℕ)). cut place.offset place.file.order o (found_before 1 o (found_at place bytes))) e_is
    ∙ ap (cut place.offset place.file.order None) found

pub segmenting_goes_by_record : SegmentingGoesByRecord
segmenting_goes_by_record blocks place bytes = record {
  lawful = λ r mid left fits lawful file offset found lens. segments_lawful blocks place bytes r mid left fits lawful file offset found lens;
  unlawful = λ r mid left fits lawful found lens. segments_unlawful blocks place bytes r mid left fits lawful found lens;
  exceeds = λ len more ex lens. segments_less blocks place bytes len more ex lens;
  cut = λ len fault fits found lens. segments_cut blocks place bytes len fault fits found lens;
  none = λ fault found lens. segments_none blocks place bytes fault found lens;
}
