-- A merged frame is cut into its frames.
use Rattle.std.proofs.Common.{◌≡◌, ℕ, zero, suc, ◌+◌, ◌-◌, ◌*◌, ◌<◌, ◌≤◌, inl, inr, List, [], ◌∷◌, length, map}
use Rattle.std.proofs.Common.{Option, Some, refl, sym, ap, ◌∙◌, subst, arith}
use Rattle.std.specs.Prelude.{unwrap_or}
use Rattle.std.specs.List.{AllByRecursion}
use Rattle.std.proofs.lemmas.Bool.{cases_lt}
use Rattle.net_bytes.specs.Bytes.{byte}
use Rattle.frame_layout.specs.Candidate.{IsCandidate}
use Rattle.frame_layout.specs.Shape.{Layout, shape_of}
use Rattle.pcap_io.specs.Capture.{Packet}
use Rattle.offload_model.specs.Captured.{IsCaptured}
use Rattle.offload_model.specs.Mergeable.{IsMergeable}
use Rattle.offload_model.specs.Merged.{Merged, merged_of}
use Rattle.offload_model.specs.Rounds.{runs_within}
use Rattle.offload_model.specs.Segments.{frames_of as segments_in, merged_in, with_frame, IsCuttable}
use Rattle.offload_model.proofs.Flows.{IsItem, all_items}
use Rattle.offload_model.proofs.Lists.{all_of}
use Rattle.offload_model.proofs.Records.{merged_of_is, merged_run, IsMergedRun}
use Rattle.frame_bursts.specs.Burst.{frames_of, Says}
use Rattle.frame_bursts.specs.declared.told.BurstRun.{BurstRun}
use Rattle.offload_model.proofs.Items.{within_are}
use Rattle.frame_cuts.specs.Cuts.{bytes_of, cut_head, whole, Cuts}
use Rattle.frame_cuts.specs.declared.cut.CutSegment.{CutSegment}
use Rattle.burst_c.specs.Inverse.{merged_frame, ComesApart, MergedComesApart}

-- ---- so many segments of m bytes, and no other number, hold a payload

times_least : (a b m : ℕ) → a ≤ b → a * m ≤ b * m
times_least zero b m h = omega arith
times_least (suc a) zero m h = absurd (omega (arith, h))
times_least (suc a) (suc b) m h =
    let left : suc a * m ≡ m + a * m = omega arith in
    let right : suc b * m ≡ m + b * m = omega arith in
    omega (arith, left, right, times_least a b m (omega (arith, h)))

never_fewer : (n k m payload : ℕ) → (n - 1) * m < payload → payload ≤ k * m → n ≤ k
never_fewer n k m payload above within = elim (cases_lt k n) [
  | inl less ↦ absurd (omega (arith, above, within, times_least k (n - 1) m (omega (arith, less))))
  | inr least ↦ omega (arith, least)
]

same_number : (n k m payload : ℕ) → (n - 1) * m < payload → payload ≤ n * m → (k - 1) * m < payload → payload ≤ k * m
    → n ≡ k
same_number n k m payload above within over room =
    omega (arith, never_fewer n k m payload above room, never_fewer k n m payload over within)

-- ---- a merged frame may be cut by the numbers of its run

cuttable_as : (layout : Layout) (r : Merged) (n m modes : ℕ) → r.packet.original ≡ length r.packet.frame → n ≡ r.n
    → m ≡ r.m → modes ≡ r.modes → IsCuttable layout r
    → IsCuttable layout (merged_in (cut_head n m modes) (whole r.packet.frame))
cuttable_as layout r n m modes all en em emodes c = rw (en, em, emodes) (record {
  shape_is = c.shape_is;
  candidate = subst (λ (z : ℕ). IsCandidate r.packet.frame z layout) all c.candidate;
  several = c.several;
  full = c.full;
  above = c.above;
  within = c.within;
  modes = c.modes;
  only = c.only;
})

same_layout : (f : List ℕ) (a b : Layout) → shape_of f ≡ Some a → shape_of f ≡ Some b → a ≡ b
same_layout f a b x y = ap (λ (z : Option Layout). unwrap_or z a) (sym x ∙ y)

frames_back : (p : Packet) (fs : List (List ℕ)) → map (λ (q : Packet). q.frame) (map (with_frame p) fs) ≡ fs
frames_back p [] = refl
frames_back p (f ∷ fs) = ap (λ (z : List (List ℕ)). f ∷ z) (frames_back p fs)

frames_same : (a b : Merged) → a.packet.frame ≡ b.packet.frame → a.n ≡ b.n → a.m ≡ b.m → a.modes ≡ b.modes
    → segments_in a ≡ segments_in b
frames_same a b f n m modes = rw (f, n, m, modes) refl

-- what is known of what a run of several comes to
record IsKnown (layout : Layout) (run : List Packet) (r : Merged) : Type 0 where
  original : r.packet.original ≡ length r.packet.frame
  short : length r.packet.frame ≤ 262144
  cuttable : IsCuttable layout r
  back : segments_in r ≡ map (λ (p : Packet). p.frame) run

known_of : (p q : Packet) (ps : List Packet) (m : IsMergeable (p ∷ q ∷ ps)) → AllByRecursion IsCaptured (p ∷ q ∷ ps)
    → IsKnown m.0 (p ∷ q ∷ ps) (merged_of (p ∷ q ∷ ps))
known_of p q ps m captured =
    let run : List Packet = p ∷ q ∷ ps in
    let k : IsMergedRun m.0 p run = merged_run p q ps m
    (all_of IsCaptured (λ (x : Packet). (k : ℕ) → byte x.frame k < 256) run (λ x c. c.in_bytes) captured) in
    subst (IsKnown m.0 run) (sym (merged_of_is p q ps m.0 k.first_shape)) (record {
      original = refl;
      short = omega (arith, k.short, m.1.short);
      cuttable = k.cuttable;
      back = k.back;
    })

module _ (s : BurstRun) (p q : Packet) (ps : List Packet) (says : Says s (p ∷ q ∷ ps)) (m : IsMergeable (p ∷ q ∷ ps))
    (captured : AllByRecursion IsCaptured (p ∷ q ∷ ps)) where
  abbrev run : List Packet
  run = p ∷ q ∷ ps

  abbrev r : Merged
  r = merged_of run

  abbrev f : List ℕ
  f = merged_frame run

  known : IsKnown m.0 run r
  known = known_of p q ps m captured

  cuttable : IsCuttable m.0 (merged_in (cut_head s.n s.m s.modes) (whole f))
  cuttable = cuttable_as m.0 r s.n s.m s.modes known.original says.n says.m says.modes known.cuttable

  number : (cut : List CutSegment) → Cuts s.m s.modes f cut → length cut ≡ s.n
  number cut c =
      let same : c.lawful.layout ≡ m.0 = same_layout f c.lawful.layout m.0 c.lawful.cuttable.shape_is cuttable.shape_is in
      let at : c.lawful.layout.payload_at ≡ m.0.payload_at = ap (λ (z : Layout). z.payload_at) same in
      same_number (length cut) s.n s.m (length f - m.0.payload_at)
      (omega (arith, at, c.lawful.cuttable.above)) (omega (arith, at, c.lawful.cuttable.within)) cuttable.above cuttable.within

  again : (cut : List CutSegment) → Cuts s.m s.modes f cut → map (bytes_of f) cut ≡ map (λ (x : Packet). x.frame) run
  again cut c =
      let head = cut_head (length cut) s.m s.modes in
      let same : segments_in (merged_in head (whole f)) ≡ segments_in r
      = frames_same (merged_in head (whole f)) r refl (number cut c ∙ says.n) says.m says.modes in
      c.segments
      ∙ frames_back (whole f) (segments_in (merged_in head (whole f))) ∙ same ∙ known.back

  apart : ComesApart s run
  apart = record {
    may = (cuttable.full, known.short);
    lawful = record { kind = refl; lane = omega arith; layout = m.0; cuttable = cuttable };
    frames = again;
  }

comes_apart : (s : BurstRun) (run : List Packet) → Says s run → IsItem run → 2 ≤ s.n → ComesApart s run
comes_apart s [] says item two = absurd (omega (arith, item.full))
comes_apart s (p ∷ []) says item two = absurd (omega (arith, says.n, two))
comes_apart s (p ∷ q ∷ ps) says item two = elim item.allowed [
  | inl one ↦ absurd (omega (arith, one))
  | inr m ↦ apart s p q ps says m item.captured
]

all_apart : (F : BurstRun → List Packet) (told : List BurstRun) → AllByRecursion (λ r. Says r (F r)) told
    → AllByRecursion IsItem (map F told) → AllByRecursion (λ r. 2 ≤ r.n → ComesApart r (F r)) told
all_apart F [] says items = tt
all_apart F (r ∷ told) says items = (comes_apart r (F r) says.0 items.0, all_apart F told says.1 items.1)

pub merged_comes_apart : MergedComesApart
merged_comes_apart limits ps next told c m =
    all_apart (frames_of ps next) told m.each
    (subst (AllByRecursion IsItem) (sym m.runs) (all_items ps (runs_within limits ps) c.each (within_are limits ps c.rising)))
