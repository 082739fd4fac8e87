-- The packets of a record, written one after another.
use Rattle.std.proofs.Common.{◌≡◌, ℕ, ◌+◌, ◌-◌, Bool, true, false, List, [], ◌∷◌, ◌++◌, length, map, refl, sym, ap, ◌∙◌, subst, Option, None, Some, Result, Ok, Err}
use Rattle.std.specs.Prelude.{◌==◌, ◌&&◌, ◌||◌, ◌↔◌, nat_le, IsOk, is_ok}
use Rattle.std.specs.List.{flat_map, range_with_len}
use Rattle.std.specs.Io.KnownBytes.{Appends}
use Rattle.std.proofs.lemmas.Bool.{and_parts}
use Rattle.off_io.specs.Content.{AppendsPrefix}
use Rattle.net_bytes.specs.declared.order.Order.{Order}
use Rattle.pcap_io.specs.Capture.{Packet, packet}
use Rattle.pcap_io.specs.Headers.{fields_in, head_size}
use Rattle.pcap_io.specs.declared.off_head.AnyHead.{AnyHead}
use Rattle.pcap_io.specs.declared.off_head.OffHead2.{OffHead2}
use Rattle.frame_layout.specs.Shape.{Layout, shape_of}
use Rattle.offload_model.specs.Segments.{IsOpenedBy, merged_in, packet_in, segments_by, segments_of, with_frame}
use Rattle.offload_model.specs.Tests.{is_cuttable_as, is_lawful_single, is_lawful_window, is_lawful_by, is_lawful_record, is_opened_by}
use Rattle.offload_model.proofs.Decides.{decides_opened}
use Rattle.offload_model.specs.Written.{record_bytes}
use Rattle.skb.specs.SkbState.{buffer_bytes}
use Rattle.segment_rule.specs.Segmentations.{segment_at}
use Rattle.gro.specs.declared.slot.Slot.{Slot as Held}
use Rattle.gso.specs.Places.{SegmentsState}
use Rattle.gso.specs.Planning.{IsLawfulBehind, packets_by}
use Rattle.gso.specs.declared.judging.Plan.TheVariants.{Segments}
use Rattle.records.specs.Records.{segment_bytes}
use Rattle.records.specs.declared.record.Time.{Time}
use Rattle.segmenting.specs.declared.cut.Refused.{Refused}
use Rattle.segmenting.specs.declared.cut.Refused.TheVariants as refusals
use Rattle.segmenting.specs.Cutting.{IsBehind, Writes, WritesRecord, packet_behind, packets_bytes}

-- ---- the packets of a plan

segments_bytes : (order : Order) (p : Packet) (time : Time) (g : SegmentsState) (is : List ℕ) → p.sec ≡ time.sec → p.frac ≡ time.frac → p.frame ≡ buffer_bytes g.skb
    → flat_map (segment_bytes order time g) is ≡ packets_bytes order (map (λ j. with_frame p (segment_at g.cut p.frame j)) is)
segments_bytes order p time g [] sec frac frame = refl
segments_bytes order p time g (i ∷ is) sec frac frame =
    let f = segment_at g.cut p.frame i in
    let one : segment_bytes order time g i ≡ record_bytes order (with_frame p f) = rw (sym sec, sym frac, sym frame) refl in
    ap (λ (z : List ℕ). z ++ flat_map (segment_bytes order time g) is) one ∙ ap (λ (z : List ℕ). record_bytes order (with_frame p f) ++ z) (segments_bytes order p time g is sec frac frame)

-- what is written of the segments of a merged frame is what is written of a plan's packets
pub plan_bytes : (order : Order) (p : Packet) (time : Time) (g : SegmentsState) → p.sec ≡ time.sec → p.frac ≡ time.frac → p.frame ≡ buffer_bytes g.skb
    → flat_map (segment_bytes order time g) (range_with_len 0 g.cut.n) ≡ packets_bytes order (packets_by (Segments g.cut g.sums) p)
plan_bytes order p time g sec frac frame = segments_bytes order p time g (range_with_len 0 g.cut.n) sec frac frame

pub writes_at : (xs ys : List ℕ) (a b : Option (List ℕ)) (r : Result (Unit {0}) Refused) → xs ≡ ys → Writes ys a b r → Writes xs a b r
writes_at xs ys a b r e w = subst (λ (z : List ℕ). Writes z a b r) (sym e) w

-- ---- a record and its offload header

cuttable_alike : (o : Option Layout) (number sec frac n : ℕ) (f : List ℕ) (h : OffHead2)
    → is_cuttable_as o (merged_in h (packet number sec frac n f)) ≡ is_cuttable_as o (merged_in h (packet 0 0 0 n f))
cuttable_alike None number sec frac n f h = refl
cuttable_alike (Some layout) number sec frac n f h = refl

-- number and time don't make a record lawful
lawful_alike : (number sec frac n : ℕ) (f : List ℕ) (h : OffHead2) → is_lawful_by h (packet number sec frac n f) ≡ is_lawful_by h (packet 0 0 0 n f)
lawful_alike number sec frac n f h =
    ap (λ (v : Bool). is_lawful_single h || ((h.kind == 1 && (nat_le h.lane 63 && v)) || is_lawful_window h)) (cuttable_alike (shape_of f) number sec frac n f h)

-- whether a record is lawful whose header is this, and whose packet is behind it
abbrev is_lawful_behind : AnyHead → ℕ → List ℕ → Bool
is_lawful_behind head original f =
    is_opened_by head (head_size head + length f) original && is_lawful_by (fields_in head) (packet 0 0 0 (original - head_size head) f)

pub opened : (head : AnyHead) (original : ℕ) (f : List ℕ) → IsLawfulBehind head original f → IsOpenedBy head (head_size head + length f) original
opened head original f lawful =
    (decides_opened head (head_size head + length f) original).0 (and_parts (is_opened_by head (head_size head + length f) original) _ lawful).0

module _ (r : Packet) (head : AnyHead) (p : Held) (is : IsBehind r head p) where
  pub lawful_is : is_lawful_record r ≡ is_lawful_behind head p.original (buffer_bytes p.skb)
  lawful_is =
      ap (λ (h : AnyHead). is_opened_by h (length r.frame) r.original && is_lawful_by (fields_in h) (packet_in r)) is.head_is
      ∙ ap (λ (n : ℕ). is_opened_by head n r.original && is_lawful_by (fields_in head) (packet_in r)) is.size
      ∙ ap (λ (n : ℕ). is_opened_by head (head_size head + length (buffer_bytes p.skb)) n && is_lawful_by (fields_in head) (packet_in r)) is.original
      ∙ ap (λ (q : Packet). is_opened_by head (head_size head + length (buffer_bytes p.skb)) p.original && is_lawful_by (fields_in head) q) is.behind
      ∙ ap (λ (b : Bool). is_opened_by head (head_size head + length (buffer_bytes p.skb)) p.original && b)
      (lawful_alike p.number p.sec p.frac (p.original - head_size head) (buffer_bytes p.skb) (fields_in head))

  pub segments_are : segments_of r ≡ segments_by (fields_in head) (packet_behind (head_size head) p)
  segments_are = ap (λ (h : AnyHead). segments_by (fields_in h) (packet_in r)) is.head_is ∙ ap (segments_by (fields_in head)) is.behind

-- a test that answers as another is true
pub taken_by : {T E : Type 0} (r : Result T E) (own : Bool) (x : T) {all : Bool} → r ≡ Ok x → (IsOk r ↔ (own ≡ true)) → all ≡ own → all ≡ true
taken_by r own x is answers same = same ∙ answers.0 (ap is_ok is)

pub refused_by : {T E : Type 0} (r : Result T E) (own : Bool) (x : E) {all : Bool} → r ≡ Err x → (IsOk r ↔ (own ≡ true)) → all ≡ own → all ≡ false
refused_by r own x is answers same = same ∙ not_true own (λ e. let both : false ≡ true = sym (ap is_ok is) ∙ answers.1 e in cc)
  where
    not_true : (b : Bool) → (b ≡ true → ⊥) → b ≡ false
    not_true true n = absurd (n refl)
    not_true false n = refl

-- a lawful record's packets were written, as far as they were
pub writes_record : (order : Order) (r : Packet) (ps : List Packet) (a b : Option (List ℕ)) (x : Result (Unit {0}) Refused) → is_lawful_record r ≡ true → segments_of r ≡ ps
    → Writes (packets_bytes order ps) a b x
    → WritesRecord order r a b x
writes_record order r ps a b (Ok u) lawful e w = (lawful, subst (λ (z : List Packet). Appends a b (packets_bytes order z)) (sym e) w)
writes_record order r ps a b (Err refusals.BadOffload) lawful e w = absurd w
writes_record order r ps a b (Err refusals.WriteFault) lawful e w = (lawful, subst (λ (z : List Packet). AppendsPrefix a b (packets_bytes order z)) (sym e) w)
