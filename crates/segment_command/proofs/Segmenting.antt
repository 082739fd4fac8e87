-- Records that are segmented one after the other.
use Rattle.std.proofs.Common.{◌≡◌, ℕ, ◌+◌, ◌-◌, ◌^◌, ◌≤◌, List, [], ◌∷◌, ◌++◌, length, map, refl, sym, ap, ◌∙◌, subst, arith, Option, Some, None, Result, ◌⊎◌, ⊎_elim, Ok, Err, append-nil}
use Rattle.std.proofs.Common.{append_assoc}
use Rattle.std.specs.Prelude.{min}
use Rattle.std.proofs.lemmas.List.{map-append}
use Rattle.std.specs.Io.KnownBytes.{Appends, Keeps}
use Rattle.std.proofs.KnownBytes.{Appends-nil, Appends-trans, Appends-kept}
use Rattle.off_io.specs.Told.{Told}
use Rattle.off_io.specs.Content.{AppendsPrefix}
use Rattle.off_io.proofs.Telling.{Told-then, Told-weaker, Told-same}
use Rattle.off_io.proofs.Appending.{prefix_more}
use Rattle.off_io.proofs.Owing.{prefix_whole}
use Rattle.pcap_io.specs.declared.place.Place.{Place}
use Rattle.pcap_io.specs.declared.faults.CapFault.{CapFault}
use Rattle.pcap_io.specs.Capture.{Packet, Found, ended, one_more, records_from}
use Rattle.pcap_io.specs.Lengths.{lengths_from}
use Rattle.pcap_io.specs.Limits.{off_head_size}
use Rattle.pcap_io.specs.Places.{found_at}
use Rattle.pcap_io.specs.Reading.{Loses}
use Rattle.offload_model.specs.Need.{need_of, needed}
use Rattle.offload_model.specs.Passing.{Nowhere, AtFault, AtRound, Passed, Ending, Stopped, ReadFault, WriteFault, NoMemory, segmenting, Passes}
use Rattle.offload_model.specs.Steps.{ending_behind, in_front}
use Rattle.offload_model.proofs.Steps.{commands_pass_on, segmenting_goes_by_record}
use Rattle.offload_model.proofs.Needs.{needed_append}
use Rattle.segmenting.specs.declared.segment.SegFault.{SegFault}
use Rattle.segmenting.specs.declared.segment.SegFault.TheVariants as faults
use Rattle.segmenting.specs.declared.segment.Moved.{Moved}
use Rattle.segmenting.specs.declared.segment.Moved.TheVariants.{One, End}
use Rattle.segmenting.specs.Segmenting.{Moves, TakesOne, WritesNone, ending_of as fault_ending}
use Rattle.command_answers.specs.declared.status.Status.{Status}
use Rattle.command_answers.specs.declared.status.Status.TheVariants as statuses
use Rattle.command_answers.specs.Ending.{ending_of, Ends}
use Rattle.segmenting.specs.Segmenting.{records_need}
use Rattle.segment_command.specs.Segmenting.{Segmented, TookThem, GivesUp}

-- the answer of a record, by its variant, and by the blocks of the whole capture
pub moves_by : (n blocks : ℕ) (from to : Place) (b c h1 h2 : Option (List ℕ)) (r s : Result Moved SegFault) → n ≡ blocks → r ≡ s
    → Told b c (Moves n from to h1 h2 r) → Told b c (Moves blocks from to h1 h2 s)
moves_by n blocks from to b c h1 h2 r s same is told =
    subst (λ (x : Result Moved SegFault). Told b c (Moves blocks from to h1 h2 x)) is
    (subst (λ (x : ℕ). Told b c (Moves x from to h1 h2 r)) same told)

-- ---- what was written

pub none_yet : (blocks : ℕ) (a h : Option (List ℕ)) (place : Place) → Told a a (Segmented blocks 0 place place h h)
none_yet blocks a h place =
    Told-same a (Segmented blocks 0 place place h h)
    (λ bytes. ([], [], refl, (commands_pass_on (segmenting blocks place) (segmenting blocks place) 0 [] []).none, Appends-nil h))

pub one_more_given : (blocks k : ℕ) (from mid to : Place) (a b c h h1 h2 : Option (List ℕ)) → Told a b (Segmented blocks k from mid h h1)
    → Told b c (Moves blocks mid to h1 h2 (Ok One)) → Told a c (Segmented blocks (k + 1) from to h h2)
one_more_given blocks k from mid to a b c h h1 h2 before next =
    Told-then a b c (Segmented blocks k from mid h h1) (Moves blocks mid to h1 h2 (Ok One)) (Segmented blocks (k + 1) from to h h2)
    (λ bytes rest left s m. (
      s.0 ++ m.0,
      s.1 ++ m.1.0,
      s.2 ∙ ap (λ l. s.0 ++ l) m.1.1.0 ∙ sym (append_assoc s.0 m.0 left),
      (commands_pass_on (segmenting blocks from) (segmenting blocks mid) k s.0 s.1).more (segmenting blocks to) 1 m.0 m.1.0 s.3 m.1.1.1,
      Appends-trans h h1 h2 s.1 m.1.0 s.4 m.1.1.2,
    )) before next

-- what ends the records behind these ends all of them
passes_all : (blocks k : ℕ) (from to : Place) (a b c h h1 h2 : Option (List ℕ)) (ending : Ending) → Told a b (Segmented blocks k from to h h1)
    → Told b c (Passes (segmenting blocks to) h1 h2 ending) → Told a c (Passes (segmenting blocks from) h h2 (ending_behind k ending))
passes_all blocks k from to a b c h h1 h2 ending before last =
    Told-then a b c (Segmented blocks k from to h h1) (Passes (segmenting blocks to) h1 h2 ending) (Passes (segmenting blocks from) h h2 (ending_behind k ending))
    (λ bytes rest left s p.
    subst (λ (l : List ℕ). Passes (segmenting blocks from) h h2 (ending_behind k ending) l left) (sym s.2)
    ((commands_pass_on (segmenting blocks from) (segmenting blocks to) k s.0 s.1).passes h h1 h2 ending rest left s.3 s.4 p)) before last

lost_by : (passing : List ℕ → Passed) (old new : Option (List ℕ)) (ending : Ending) (bytes left : List ℕ) → Passes passing old new ending bytes left → Loses bytes left
lost_by passing old new (Stopped Nowhere) bytes left p = (bytes, sym (append-nil bytes) ∙ ap (λ l. bytes ++ l) (sym p.1))
lost_by passing old new (Stopped (AtFault fault)) bytes left p = p.1
lost_by passing old new (Stopped (AtRound round need)) bytes left p = p.1
lost_by passing old new ReadFault bytes left p = (p.0, p.1)
lost_by passing old new WriteFault bytes left p = (p.0, p.1)
lost_by passing old new NoMemory bytes left p = (p.0, p.1)

-- a front that is kept
front_kept : (a b c : Option (List ℕ)) (bytes : List ℕ) → AppendsPrefix a b bytes → Keeps b c → AppendsPrefix a c bytes
front_kept a b c bytes f kept = (f.0, Appends-kept a b c _ f.1 kept)

kept_passes : (passing : List ℕ → Passed) (old mid new : Option (List ℕ)) (ending : Ending) (bytes left : List ℕ) → Keeps mid new
    → Passes passing old mid ending bytes left → Passes passing old new ending bytes left
kept_passes passing old mid new (Stopped stop) bytes left kept p = (p.0, p.1, Appends-kept old mid new _ p.2 kept)
kept_passes passing old mid new ReadFault bytes left kept p = (p.0, p.1, p.2, Appends-kept old mid new _ p.3 kept)
kept_passes passing old mid new WriteFault bytes left kept p = (p.0, p.1, front_kept old mid new _ p.2 kept)
kept_passes passing old mid new NoMemory bytes left kept p = (p.0, p.1, front_kept old mid new _ p.2 kept)

-- ---- at the end

none_left : (place : Place) → found_at place [] ≡ ended None
unfolding records_from
none_left place = refl

no_lengths : (place : Place) → lengths_from place.file.order place.link place.number 0 [] ≡ []
unfolding lengths_from
no_lengths place = refl

ends_here : (blocks : ℕ) (place : Place) (h1 h2 : Option (List ℕ)) (bytes left : List ℕ) → Moves blocks place place h1 h2 (Ok End) bytes left
    → Passes (segmenting blocks place) h1 h2 (Stopped Nowhere) bytes left
ends_here blocks place h1 h2 bytes left m =
    let is = (segmenting_goes_by_record blocks place []).none None (none_left place) (no_lengths place) in
    subst (λ (l : List ℕ). Passes (segmenting blocks place) h1 h2 (Stopped Nowhere) l left) (sym m.0) (
      ap (λ (x : Passed). x.stop) is,
      m.1,
      subst (Appends h1 h2) (sym (ap (λ (x : Passed). x.output) is)) (Appends-kept h1 h1 h2 [] (Appends-nil h1) m.2),
    )

-- ---- the last flush

-- Where nothing was written of what was read behind these records, what was written of these is a prefix of the output.
front_all : (blocks k : ℕ) (from to : Place) (a b c h h1 h2 h3 : Option (List ℕ)) → Told a b (Segmented blocks k from to h h1)
    → Told b c (λ rest left. Loses rest left × Keeps h1 h2) → Keeps h2 h3 → Told a c (Passes (segmenting blocks from) h h3 WriteFault)
front_all blocks k from to a b c h h1 h2 h3 before none kept =
    Told-then a b c (Segmented blocks k from to h h1) (λ rest left. Loses rest left × Keeps h1 h2) (Passes (segmenting blocks from) h h3 WriteFault)
    (λ bytes rest left s l.
    let wrote : Appends h h3 s.1 = Appends-kept h h2 h3 s.1 (Appends-kept h h1 h2 s.1 s.4 l.1) kept in (
      s.0 ++ l.0.0,
      s.2 ∙ ap (λ x. s.0 ++ x) l.0.1 ∙ sym (append_assoc s.0 l.0.0 left),
      subst (AppendsPrefix h h3) (sym (ap (λ (x : Passed). x.output) (s.3 l.0.0)))
          (prefix_more h h3 s.1 (segmenting blocks to l.0.0).output (prefix_whole h h3 s.1 wrote)),
    )) before none

-- behind the last record
pub done_given : (blocks k : ℕ) (from to next : Place) (a b c h h1 h2 h3 : Option (List ℕ)) (status : Status) → Told a b (Segmented blocks k from to h h1)
    → Told b c (Moves blocks to next h1 h2 (Ok End)) → Keeps h2 h3 → (status ≡ statuses.Ok) ⊎ (status ≡ statuses.WriteFault)
    → Told a c (Ends (Passes (segmenting blocks from) h h3) (ending_of status))
done_given blocks k from to next a b c h h1 h2 h3 status before last kept answer =
    let Says : Status → Type 0 = λ s. Told a c (Ends (Passes (segmenting blocks from) h h3) (ending_of s)) in
    ⊎_elim
    (λ (e : status ≡ statuses.Ok). subst Says (sym e)
    (passes_all blocks k from to a b c h h1 h3 (Stopped Nowhere) before
    (Told-weaker b c (Moves blocks to next h1 h2 (Ok End)) (Passes (segmenting blocks to) h1 h3 (Stopped Nowhere))
    (λ rest left m. kept_passes (segmenting blocks to) h1 h2 h3 (Stopped Nowhere) rest left kept (ends_here blocks to h1 h2 rest left m)) last)))
    (λ (e : status ≡ statuses.WriteFault). subst Says (sym e)
    (front_all blocks k from to a b c h h1 h2 h3 before
    (Told-weaker b c (Moves blocks to next h1 h2 (Ok End)) (λ rest left. Loses rest left × Keeps h1 h2)
    (λ rest left m. (([], m.0 ∙ sym m.1), m.2)) last) kept)) answer

-- at a record that is at fault
fault_passes : (blocks k : ℕ) (from to next : Place) (a b c h h1 h2 h3 : Option (List ℕ)) (fault : SegFault) → Told a b (Segmented blocks k from to h h1)
    → Told b c (Moves blocks to next h1 h2 (Err fault)) → Keeps h2 h3
    → Told a c (Passes (segmenting blocks from) h h3 (ending_behind k (fault_ending fault)))
fault_passes blocks k from to next a b c h h1 h2 h3 fault before last kept =
    passes_all blocks k from to a b c h h1 h3 (fault_ending fault) before
    (Told-weaker b c (Moves blocks to next h1 h2 (Err fault)) (Passes (segmenting blocks to) h1 h3 (fault_ending fault))
    (λ rest left m. kept_passes (segmenting blocks to) h1 h2 h3 (fault_ending fault) rest left kept m.0) last)

-- where it wrote nothing
none_written : (blocks : ℕ) (to next : Place) (b c h1 h2 : Option (List ℕ)) (fault : SegFault) → (WritesNone fault h1 h2 → Keeps h1 h2)
    → Told b c (Moves blocks to next h1 h2 (Err fault)) → Told b c (λ rest left. Loses rest left × Keeps h1 h2)
none_written blocks to next b c h1 h2 fault same last =
    Told-weaker b c (Moves blocks to next h1 h2 (Err fault)) (λ rest left. Loses rest left × Keeps h1 h2)
    (λ rest left m. (lost_by (segmenting blocks to) h1 h2 (fault_ending fault) rest left m.0, same m.1)) last

flush_failed : (blocks k : ℕ) (from to next : Place) (a b c h h1 h2 h3 : Option (List ℕ)) (fault : SegFault) → Told a b (Segmented blocks k from to h h1)
    → Told b c (Moves blocks to next h1 h2 (Err fault)) → Keeps h2 h3 → Told a c (Passes (segmenting blocks from) h h3 WriteFault)
flush_failed blocks k from to next a b c h h1 h2 h3 (faults.Malformed fault) before last kept =
    front_all blocks k from to a b c h h1 h2 h3 before (none_written blocks to next b c h1 h2 (faults.Malformed fault) (λ n. n) last) kept
flush_failed blocks k from to next a b c h h1 h2 h3 (faults.PoolEmpty need) before last kept =
    front_all blocks k from to a b c h h1 h2 h3 before (none_written blocks to next b c h1 h2 (faults.PoolEmpty need) (λ n. n) last) kept
flush_failed blocks k from to next a b c h h1 h2 h3 faults.ReadFault before last kept =
    front_all blocks k from to a b c h h1 h2 h3 before (none_written blocks to next b c h1 h2 faults.ReadFault (λ n. n) last) kept
flush_failed blocks k from to next a b c h h1 h2 h3 faults.WriteFault before last kept =
    fault_passes blocks k from to next a b c h h1 h2 h3 faults.WriteFault before last kept
flush_failed blocks k from to next a b c h h1 h2 h3 faults.NoMemory before last kept =
    Told-weaker a c (Passes (segmenting blocks from) h h3 NoMemory) (Passes (segmenting blocks from) h h3 WriteFault) (λ bytes left p. p)
    (fault_passes blocks k from to next a b c h h1 h2 h3 faults.NoMemory before last kept)

pub fault_given : (blocks k : ℕ) (from to next : Place) (a b c h h1 h2 h3 : Option (List ℕ)) (fault : SegFault) (status : Status)
    → Told a b (Segmented blocks k from to h h1) → Told b c (Moves blocks to next h1 h2 (Err fault)) → Keeps h2 h3 → GivesUp k fault status
    → Told a c (Ends (Passes (segmenting blocks from) h h3) (ending_of status))
fault_given blocks k from to next a b c h h1 h2 h3 fault status before last kept answer =
    let Says : Option Ending → Type 0 = λ o. Told a c (Ends (Passes (segmenting blocks from) h h3) o) in
    ⊎_elim
    (λ (e : ending_of status ≡ Some (ending_behind k (fault_ending fault))). subst Says (sym e)
    (fault_passes blocks k from to next a b c h h1 h2 h3 fault before last kept))
    (λ (e : status ≡ statuses.WriteFault). subst Says (sym (ap ending_of e))
    (flush_failed blocks k from to next a b c h h1 h2 h3 fault before last kept)) answer

-- ---- what was taken

pub took_none : (a : Option (List ℕ)) (taken : ℕ) (place : Place) → Told a a (TookThem taken taken place place)
took_none a taken place = Told-same a (TookThem taken taken place place) (λ bytes. ([], [], refl, λ tail. refl, omega arith))

need_more : (rs : List Packet) (r : Packet) → records_need (rs ++ r ∷ []) ≡ records_need rs + need_of (length r.frame - off_head_size)
need_more rs r =
    let parts = ap needed (map-append (λ (p : Packet). length p.frame - off_head_size) rs (r ∷ []))
    ∙ needed_append (map (λ (p : Packet). length p.frame - off_head_size) rs) (need_list r) in
    omega (arith, parts)
  where
    need_list : Packet → List ℕ
    need_list p = (length p.frame - off_head_size) ∷ []

abbrev found_of : List Packet → Option CapFault → Found
found_of packets fault = record { packets = packets; fault = fault }

front_more_one : (rs : List Packet) (r : Packet) (found : Found) → in_front rs (one_more r found) ≡ in_front (rs ++ r ∷ []) found
front_more_one rs r found = ap (λ (ps : List Packet). found_of ps found.fault) (sym (append_assoc rs (r ∷ []) found.packets))

pub took_more : (t0 t1 t2 : ℕ) (from mid to : Place) (a b c : Option (List ℕ)) → Told a b (TookThem t0 t1 from mid) → Told b c (TakesOne t1 t2 mid to)
    → Told a c (TookThem t0 t2 from to)
took_more t0 t1 t2 from mid to a b c before next =
    Told-then a b c (TookThem t0 t1 from mid) (TakesOne t1 t2 mid to) (TookThem t0 t2 from to)
    (λ bytes rest left s m. (
      s.0 ++ m.0,
      s.1 ++ m.1.0 ∷ [],
      s.2 ∙ ap (λ l. s.0 ++ l) m.1.1.0 ∙ sym (append_assoc s.0 m.0 left),
      λ tail.
          ap (found_at from) (append_assoc s.0 m.0 tail) ∙ s.3 (m.0 ++ tail) ∙ ap (in_front s.1) (m.1.1.1 tail) ∙ front_more_one s.1 m.1.0 (found_at to tail),
      omega (arith, s.4, m.1.1.2, need_more s.1 m.1.0),
    )) before next

pub took_all : (blocks t0 t1 t2 : ℕ) (from to next : Place) (a b c h1 h2 : Option (List ℕ)) → Told a b (TookThem t0 t1 from to)
    → Told b c (Moves blocks to next h1 h2 (Ok End)) → t1 ≤ t2
    → Told a c (λ bytes left. min (t0 + records_need (found_at from bytes).packets) (2 ^ 64 - 1) ≤ t2)
took_all blocks t0 t1 t2 from to next a b c h1 h2 before last more =
    Told-then a b c (TookThem t0 t1 from to) (Moves blocks to next h1 h2 (Ok End))
    (λ bytes left. min (t0 + records_need (found_at from bytes).packets) (2 ^ 64 - 1) ≤ t2)
    (λ bytes rest left s m.
    let found : found_at from bytes ≡ in_front s.1 (found_at to []) =
    ap (found_at from) (s.2 ∙ ap (λ l. s.0 ++ l) m.0) ∙ s.3 [] in
    let packets : (found_at from bytes).packets ≡ s.1 =
    ap (λ (f : Found). f.packets) (found ∙ ap (in_front s.1) (none_left to)) ∙ append-nil s.1 in
    subst (λ (ps : List Packet). min (t0 + records_need ps) (2 ^ 64 - 1) ≤ t2) (sym packets) (omega (arith, s.4, more))) before last
