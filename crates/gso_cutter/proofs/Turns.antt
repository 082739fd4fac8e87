-- The frames that are still to be given, and one of them less.
use Rattle.std.proofs.Common.{◌≡◌, ◌≢◌, ℕ, suc, ◌+◌, ◌-◌, ◌<◌, List, [], ◌∷◌, map, sym, ap, ◌∙◌, subst, arith, Ok, Err}
use Rattle.std.specs.List.{range_with_len}
use Rattle.std.specs.declared.result.Result.{Result}
use Rattle.std.specs.declared.alloc.AllocError.{AllocError}
use Rattle.std.proofs.lemmas.Simd.{map-map}
use Rattle.pcap_io.specs.Capture.{Packet}
use Rattle.offload_model.specs.Segments.{with_frame}
use Rattle.raw_block.specs.Views.{SoleState}
use Rattle.segment_rule.specs.declared.segmentation.Segmentation.{Segmentation}
use Rattle.segment_rule.specs.Segmentations.{segment_at, segments_at}
use Rattle.gso_cutter.specs.Merged.{MergedState, IsAt, IsGiven}
use Rattle.gso_cutter.specs.Cutting.{IsLeft, IsNext, segments_from}
use Rattle.gso.specs.Planning.{packets_by}
use Rattle.gso.specs.declared.judging.Plan.{Plan}
use Rattle.gso_cutter.specs.declared.cutter.Cut.{Cut}
use Rattle.gso_cutter.specs.declared.cutter.Cut.TheVariants.{Segment, Done}
use Rattle.gso_cutter.specs.declared.cutter.Work.{Work}
use Rattle.gso_cutter.specs.declared.cutter.Work.TheVariants.{Merged}

-- one segment, and those behind it
pub one_more : (cut : Segmentation) (f : List ℕ) (i n : ℕ) → i < n → segments_from cut f i (n - i) ≡ segment_at cut f i ∷ segments_from cut f (i + 1) (n - (i + 1))
one_more cut f i n less =
    let k : n - i ≡ suc (n - (i + 1)) = omega arith in
    ap (segments_from cut f i) k

not_empty : (x : List ℕ) (xs : List (List ℕ)) → x ∷ xs ≢ []
not_empty x xs e = absurd cc

pub in_turn : (frames : List (List ℕ)) (a b : MergedState) (spare : SoleState) (r : Result Cut (SoleState × AllocError)) → IsLeft frames (Merged a) → ((f : List ℕ) → IsAt f a → IsGiven f a spare b r)
    → IsNext frames (Merged a) spare (Merged b) r
in_turn frames a b spare (Ok (Segment s)) l g =
    let k = g l.0 l.1 in
    record {
      left = segments_from a.cut l.0 (a.i + 1) (a.cut.n - (a.i + 1));
      first = l.2 ∙ one_more a.cut l.0 a.i a.cut.n k.there ∙ ap (λ (z : List ℕ). z ∷ segments_from a.cut l.0 (a.i + 1) (a.cut.n - (a.i + 1))) (sym k.bytes);
      still = (l.0, k.at, ap (λ (z : ℕ). segments_from a.cut l.0 z (a.cut.n - z)) (sym k.i) ∙ ap (λ (z : Segmentation). segments_from z l.0 b.i (z.n - b.i)) (sym k.cut));
      head = k.head;
    }
in_turn frames a b spare (Ok (Done u)) l g =
    let k = g l.0 l.1 in
    let none : a.cut.n - a.i ≡ 0 = omega (arith, k.0) in
    (l.2 ∙ ap (segments_from a.cut l.0 a.i) none, k.1, ap Merged k.2)
in_turn frames a b spare (Err e) l g =
    let k = g l.0 l.1 in (
      λ n. not_empty (segment_at a.cut l.0 a.i) (segments_from a.cut l.0 (a.i + 1) (a.cut.n - (a.i + 1))) (sym (one_more a.cut l.0 a.i a.cut.n k.0) ∙ sym l.2 ∙ n),
      k.1,
      (l.0, k.2, l.2 ∙ ap (λ (z : ℕ). segments_from a.cut l.0 z (a.cut.n - z)) (sym k.4) ∙ ap (λ (z : Segmentation). segments_from z l.0 b.i (z.n - b.i)) (sym k.3)),
    )

-- the same of equal states and answers
pub moved : (frames : List (List ℕ)) (a x b y : Work) (spare : SoleState) (r q : Result Cut (SoleState × AllocError)) → a ≡ x → b ≡ y → r ≡ q → IsNext frames a spare b r → IsNext frames x spare y q
moved frames a x b y spare r q e f g h =
    subst (λ (z : Work). IsNext frames z spare y q) e (subst (λ (z : Work). IsNext frames a spare z q) f (subst (IsNext frames a spare b) g h))

-- a plan, and what its record is cut as
pub started : (plan q : Plan) (p : Packet) (work x : Work) → plan ≡ q → x ≡ work → IsLeft (map (λ (r : Packet). r.frame) (packets_by q p)) x
    → IsLeft (map (λ (r : Packet). r.frame) (packets_by plan p)) work
started plan q p work x e f l = subst (IsLeft (map (λ (r : Packet). r.frame) (packets_by plan p))) f (subst (λ (z : Plan). IsLeft (map (λ (r : Packet). r.frame) (packets_by z p)) x) (sym e) l)

-- the frames of the packets of a merged frame
pub frames_are : (cut : Segmentation) (p : Packet) → map (λ (q : Packet). q.frame) (segments_at cut p) ≡ segments_from cut p.frame 0 cut.n
frames_are cut p = map-map (λ (q : Packet). q.frame) (λ i. with_frame p (segment_at cut p.frame i)) (range_with_len 0 cut.n)
