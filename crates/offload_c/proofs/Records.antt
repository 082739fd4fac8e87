-- Records that are segmented one after the other, and how that ends.
use Rattle.std.proofs.Common.{◌≡◌, ℕ, ◌+◌, List, [], ◌++◌, refl, sym, ap, ◌∙◌, subst, append_assoc, Option, None, Result, Err, Ok}
use Rattle.std.specs.Io.KnownBytes.{Appends}
use Rattle.std.proofs.KnownBytes.{Appends-nil, Appends-trans, Appends-kept}
use Rattle.off_io.specs.Content.{AppendsPrefix}
use Rattle.off_io.specs.Told.{Told}
use Rattle.off_io.proofs.Telling.{Told-weaker, Told-then, Told-same}
use Rattle.pcap_io.specs.declared.faults.InFault.{InFault}
use Rattle.pcap_io.specs.declared.faults.InFault.TheVariants as faults
use Rattle.pcap_io.specs.declared.heads.FileHead.{FileHead}
use Rattle.pcap_io.specs.declared.heads.Link.TheVariants.{Ethernet, Offload}
use Rattle.pcap_io.specs.declared.place.Place.{Place}
use Rattle.pcap_io.specs.Places.{first_place}
use Rattle.pcap_io.specs.Reading.{GivesFile}
use Rattle.pcap_io.specs.Written.{file_bytes}
use Rattle.pcap_io.proofs.LengthLaws.{lengths_none}
use Rattle.pcap_io.proofs.RecordLaws.{records_none}
use Rattle.offload_model.specs.Passing.{Ending, Stopped, Nowhere, AtFault, AtRound, Passed, ReadFault, WriteFault, NoMemory, segmenting, segmenting_whole, Passes}
use Rattle.offload_model.specs.Steps.{GoesOn, ending_behind}
use Rattle.offload_model.proofs.Steps.{commands_pass_on, segmenting_goes_by_record}
use Rattle.segmenting.specs.declared.segment.Moved.{Moved}
use Rattle.segmenting.specs.declared.segment.Moved.TheVariants.{One, End}
use Rattle.segmenting.specs.declared.segment.SegFault.{SegFault}
use Rattle.segmenting.specs.declared.segment.SegFault.TheVariants as segments
use Rattle.segmenting.specs.Segmenting.{Moves}
use Rattle.offload_c.specs.Ends.{IsSegFault, EndsAs}
use Rattle.offload_c.proofs.Headers.{no_file, head_failed, behind_head}

-- the bytes that are gone are k records, whatever follows them, and this was written of them
pub record Ahead (blocks : ℕ) (from to : Place) (old new : Option (List ℕ)) (bytes left : List ℕ) : Type 0 where
  pub k : ℕ
  pub gone : List ℕ
  pub done : List ℕ
  pub split : bytes ≡ gone ++ left
  pub goes : GoesOn (segmenting blocks from) (segmenting blocks to) k gone done
  pub wrote : Appends old new done

pub ahead_none : (blocks : ℕ) (place : Place) (a h : Option (List ℕ)) → Told a a (Ahead blocks place place h h)
ahead_none blocks place a h =
    let passing = segmenting blocks place in
    Told-same a (Ahead blocks place place h h)
    (λ bytes. record { k = 0; gone = []; done = []; split = refl; goes = (commands_pass_on passing passing 0 [] []).none; wrote = Appends-nil h })

pub moves_is : (n blocks : ℕ) (b c h1 h2 : Option (List ℕ)) (p1 p2 : Place) (x y : Result Moved SegFault) → n ≡ blocks → x ≡ y → Told b c (Moves n p1 p2 h1 h2 x)
    → Told b c (Moves blocks p1 p2 h1 h2 y)
moves_is n blocks b c h1 h2 p1 p2 x y same is told =
    subst (λ (k : ℕ). Told b c (Moves k p1 p2 h1 h2 y)) same (subst (λ (r : Result Moved SegFault). Told b c (Moves n p1 p2 h1 h2 r)) is told)

module _ (blocks : ℕ) (p0 p1 p2 : Place) (a b c h h1 h2 : Option (List ℕ)) where
  one_ahead : (bytes rest left : List ℕ) → Ahead blocks p0 p1 h h1 bytes rest → Moves blocks p1 p2 h1 h2 (Ok One) rest left → Ahead blocks p0 p2 h h2 bytes left
  one_ahead bytes rest left x y = record {
    k = x.k + 1;
    gone = x.gone ++ y.0;
    done = x.done ++ y.1.0;
    split = x.split ∙ ap (λ (l : List ℕ). x.gone ++ l) y.1.1.0 ∙ sym (append_assoc x.gone y.0 left);
    goes = (commands_pass_on (segmenting blocks p0) (segmenting blocks p1) x.k x.gone x.done).more (segmenting blocks p2) 1 y.0 y.1.0 x.goes y.1.1.1;
    wrote = Appends-trans h h1 h2 x.done y.1.0 x.wrote y.1.1.2;
  }

  pub goes_then : Told a b (Ahead blocks p0 p1 h h1) → Told b c (Moves blocks p1 p2 h1 h2 (Ok One)) → Told a c (Ahead blocks p0 p2 h h2)
  goes_then first more =
      Told-then a b c (Ahead blocks p0 p1 h h1) (Moves blocks p1 p2 h1 h2 (Ok One)) (Ahead blocks p0 p2 h h2) (λ bytes rest left x y. one_ahead bytes rest left x y) first more

  -- how it ends behind k records
  behind : (ending : Ending) (bytes rest left : List ℕ) (x : Ahead blocks p0 p1 h h1 bytes rest) → Passes (segmenting blocks p1) h1 h2 ending rest left
      → Passes (segmenting blocks p0) h h2 (ending_behind x.k ending) bytes left
  behind ending bytes rest left x p =
      let from = segmenting blocks p0 in
      subst (λ (l : List ℕ). Passes from h h2 (ending_behind x.k ending) l left) (sym x.split)
      ((commands_pass_on from (segmenting blocks p1) x.k x.gone x.done).passes h h1 h2 ending rest left x.goes x.wrote p)

  -- behind the last record
  at_end : (rest left : List ℕ) → Moves blocks p1 p2 h1 h2 (Ok End) rest left → Passes (segmenting blocks p1) h1 h2 (Stopped Nowhere) rest left
  at_end rest left y =
      let none = (segmenting_goes_by_record blocks p1 []).none None (records_none p1.file.order p1.link p1.number p1.offset) (lengths_none p1.file.order p1.link p1.number) in
      let is = ap (segmenting blocks p1) y.0 ∙ none in (
        ap (λ (x : Passed). x.stop) is,
        y.1,
        subst (Appends h1 h2) (sym (ap (λ (x : Passed). x.output) is)) (Appends-kept h1 h1 h2 [] (Appends-nil h1) y.2),
      )

  one_end : (bytes rest left : List ℕ) → Ahead blocks p0 p1 h h1 bytes rest → Moves blocks p1 p2 h1 h2 (Ok End) rest left → EndsAs (segmenting blocks p0) h h2 (Ok tt) bytes left
  one_end bytes rest left x y = (Stopped Nowhere, refl, behind (Stopped Nowhere) bytes rest left x (at_end rest left y))

  pub end_then : Told a b (Ahead blocks p0 p1 h h1) → Told b c (Moves blocks p1 p2 h1 h2 (Ok End)) → Told a c (EndsAs (segmenting blocks p0) h h2 (Ok tt))
  end_then first more =
      Told-then a b c (Ahead blocks p0 p1 h h1) (Moves blocks p1 p2 h1 h2 (Ok End)) (EndsAs (segmenting blocks p0) h h2 (Ok tt)) (λ bytes rest left x y. one_end bytes rest left x y) first more

  one_stop : (fault : SegFault) (bytes rest left : List ℕ) → Ahead blocks p0 p1 h h1 bytes rest → Moves blocks p1 p2 h1 h2 (Err fault) rest left
      → EndsAs (segmenting blocks p0) h h2 (Err fault) bytes left
  one_stop (segments.Malformed fault) bytes rest left x y = (Stopped (AtFault fault), refl, behind (Stopped (AtFault fault)) bytes rest left x y.0)
  one_stop (segments.PoolEmpty need) bytes rest left x y = (Stopped (AtRound (x.k + 0) need), (x.k + 0, refl), behind (Stopped (AtRound 0 need)) bytes rest left x y.0)
  one_stop segments.ReadFault bytes rest left x y = (ReadFault, refl, behind ReadFault bytes rest left x y.0)
  one_stop segments.WriteFault bytes rest left x y = (WriteFault, refl, behind WriteFault bytes rest left x y.0)
  one_stop segments.NoMemory bytes rest left x y = (NoMemory, refl, behind NoMemory bytes rest left x y.0)

  pub stop_then : (fault : SegFault) → Told a b (Ahead blocks p0 p1 h h1) → Told b c (Moves blocks p1 p2 h1 h2 (Err fault)) → Told a c (EndsAs (segmenting blocks p0) h h2 (Err fault))
  stop_then fault first more =
      Told-then a b c (Ahead blocks p0 p1 h h1) (Moves blocks p1 p2 h1 h2 (Err fault)) (EndsAs (segmenting blocks p0) h h2 (Err fault))
      (λ bytes rest left x y. one_stop fault bytes rest left x y) first more

-- ---- with the file header

pub not_taken_given : (blocks : ℕ) (a b h : Option (List ℕ)) (fault : InFault) (end : SegFault) → IsSegFault fault end → Told a b (GivesFile Offload (Err fault))
    → Told a b (EndsAs (segmenting_whole blocks) h h (Err end))
not_taken_given blocks a b h (faults.Cap fault) end is told =
    Told-weaker a b (Passes (segmenting_whole blocks) h h (Stopped (AtFault fault))) (EndsAs (segmenting_whole blocks) h h (Err end))
    (λ given left p. rw is (Stopped (AtFault fault), refl, p)) (no_file Offload Ethernet (segmenting blocks) a b h (faults.Cap fault) told)
not_taken_given blocks a b h faults.ReadFault end is told =
    Told-weaker a b (Passes (segmenting_whole blocks) h h ReadFault) (EndsAs (segmenting_whole blocks) h h (Err end))
    (λ given left p. rw is (ReadFault, refl, p)) (no_file Offload Ethernet (segmenting blocks) a b h faults.ReadFault told)

pub not_written_given : (blocks : ℕ) (a b h h1 : Option (List ℕ)) (file : FileHead) → AppendsPrefix h h1 (file_bytes file Ethernet) → Told a b (GivesFile Offload (Ok file))
    → Told a b (EndsAs (segmenting_whole blocks) h h1 (Err segments.WriteFault))
not_written_given blocks a b h h1 file wrote told =
    Told-weaker a b (Passes (segmenting_whole blocks) h h1 WriteFault) (EndsAs (segmenting_whole blocks) h h1 (Err segments.WriteFault))
    (λ given left p. (WriteFault, refl, p)) (head_failed Offload Ethernet (segmenting blocks) a b h h1 file wrote told)

pub ends_given : (blocks : ℕ) (a b c h h1 h2 : Option (List ℕ)) (file : FileHead) (end : Result (Unit {0}) SegFault) → Appends h h1 (file_bytes file Ethernet) → Told a b (GivesFile Offload (Ok file))
    → Told b c (EndsAs (segmenting blocks (first_place file Offload 0)) h1 h2 end) → Told a c (EndsAs (segmenting_whole blocks) h h2 end)
ends_given blocks a b c h h1 h2 file end wrote first more =
    Told-then a b c (GivesFile Offload (Ok file)) (EndsAs (segmenting blocks (first_place file Offload 0)) h1 h2 end) (EndsAs (segmenting_whole blocks) h h2 end)
    (λ given rest left gives y. (y.0, y.1, behind_head Offload Ethernet (segmenting blocks) h h1 h2 file y.0 given rest left wrote gives y.2)) first more
