-- What a run of packets comes to, and how its merged frame is cut.
use Rattle.std.proofs.Common.{◌≡◌, ℕ, ◌+◌, ◌-◌, ◌*◌, ◌<◌, ◌≤◌, Option, None, Some, List, [], ◌∷◌, length, get_or, map, refl, sym, ap, ◌∙◌, subst, arith, length-append}
use Rattle.std.specs.List.{AllByRecursion}
use Rattle.std.proofs.lemmas.List.{get_or-map, get_or_append_left, length-map}
use Rattle.inet_sum.specs.Stands.{FoldAndLength}
use Rattle.frame_layout.specs.Headers.{AtHeaders}
use Rattle.frame_layout.specs.Key.{key_of, IsHeadOf}
use Rattle.frame_layout.specs.Candidate.{IsCandidate}
use Rattle.frame_layout.specs.Shape.{Layout, shape_of}
use Rattle.pcap_io.specs.Capture.{Packet}
use Rattle.skb.specs.Checksum.{AreBytes}
use Rattle.frags.specs.PieceList.{bytes_of}
use Rattle.skb.specs.SkbState.{buffer_bytes, head_bytes, head_size}
use Rattle.offload_model.specs.Mergeable.{IsMergeable}
use Rattle.offload_model.specs.Merged.{Merged, merged_of, is_fixed, modes_of}
use Rattle.offload_model.specs.Segments.{IsModeLawful, IsCuttable}
use Rattle.offload_model.specs.Written.{head_of}
use Rattle.offload_model.proofs.Records.{IsMergedRun, merged_run, merged_of_is, merged_by}
use Rattle.merge_rule.specs.declared.rule.Progress.{Progress}
use Rattle.merge_rule.specs.Runs.{IsRunBy}
use Rattle.segment_rule.specs.declared.segmentation.Segmentation.{Segmentation}
use Rattle.segment_rule.specs.Segmentations.{HasNumbersOf, IsSegmentationOf}
use Rattle.segment_rule.proofs.Judged.{segments_are}
use Rattle.frame_runs.specs.declared.run.Run.{Run}
use Rattle.gro.specs.declared.slot.Slot.{Slot}
use Rattle.frame_runs.specs.Chains.{chain_of, indices, no_packet, packet_at, run_of}
use Rattle.frame_runs.specs.Engine.{Knows, KnowsSome, IsChain}
use Rattle.gro.specs.Slots.{packet_of, IsHeld}
use Rattle.frame_runs.proofs.Payloads.{all_at}
use Rattle.comparing.specs.Items.{AreInBytes}
use Rattle.check_totals.specs.Returned.{packets_in}
use Rattle.comparing.specs.Segments.{IsCutOf}
use Rattle.check_totals.proofs.RunItems.{kind_is}

-- ---- packets of a list

pub there : (slots : List Slot) (i : ℕ) (d : Slot) → i < length slots → packet_at (map packet_of slots) i ≡ packet_of (get_or slots i d)
there slots i d l = get_or-map packet_of slots i d no_packet l

pub here : (slots : List Slot) (i : ℕ) (s : Slot) → i < length slots → s ≡ get_or slots i s → packet_at (map packet_of slots) i ≡ packet_of s
here slots i s l is = there slots i s l ∙ ap packet_of (sym is)

-- a run's first packet is one of them
pub first_inside : (slots : List Slot) (next : List ℕ) (run : Run) → IsChain (map packet_of slots) next run → run.first < length slots
first_inside slots next run c = omega (arith, c.inside.0, length-map slots packet_of)

all_chosen : {A : Type 0} (P : A → Type 0) (xs : List A) (d : A) (ks : List ℕ) → AllByRecursion (λ k. k < length xs) ks → AllByRecursion P xs
    → AllByRecursion P (map (λ k. get_or xs k d) ks)
all_chosen P xs d [] l a = tt
all_chosen P xs d (k ∷ ks) l a = (all_at P xs k d a l.0, all_chosen P xs d ks l.1 a)

frames_in_bytes : (slots : List Slot) → AreInBytes slots → AllByRecursion (λ (x : Packet). AreBytes x.frame) (map packet_of slots)
frames_in_bytes [] a = tt
frames_in_bytes (s ∷ slots) a = (a.0, frames_in_bytes slots a.1)

-- what a run's packets hold are bytes
pub run_in_bytes : (slots : List Slot) (next : List ℕ) (run : Run) → IsChain (map packet_of slots) next run → AreInBytes slots
    → AllByRecursion (λ (x : Packet). AreBytes x.frame) (run_of (map packet_of slots) next run)
run_in_bytes slots next run c a =
    all_chosen (λ (x : Packet). AreBytes x.frame) (map packet_of slots) no_packet (indices next run) c.inside (frames_in_bytes slots a)

-- ---- one packet

-- which stands for itself
pub alone : (ps : List Packet) (next : List ℕ) (run : Run) → run.more ≡ 0 → packets_in (merged_of (run_of ps next run)) ≡ packet_at ps run.first ∷ []
alone ps next run e = ap (λ (n : ℕ). packets_in (merged_of (packet_at ps run.first ∷ map (packet_at ps) (chain_of next n (get_or next run.first 0))))) e

-- ---- several packets

-- a buffer's head tells the shape of its frame
pub head_is : (s : Slot) → IsHeld s → (head : List ℕ) → head ≡ head_bytes s.skb → length head ≡ head_size s.skb → IsHeadOf head (buffer_bytes s.skb)
head_is s is head e long = record {
  begins = λ k l. get_or_append_left (head_bytes s.skb) (bytes_of s.skb.rest) 0 k (omega (arith, l, ap length e)) ∙ ap (λ (z : List ℕ). get_or z k 0) (sym e);
  more = omega (arith, length-append (head_bytes s.skb) (bytes_of s.skb.rest), ap length e);
  enough = omega (arith, is.front, is.size, long);
}

shaped : (found : Option Layout) (sum : FoldAndLength) (bits : ℕ) (state : Progress) (p : Packet) (rest : List Packet) → IsRunBy found sum bits state p (p ∷ rest) → 1 ≤ length rest
    → found ≡ shape_of p.frame
shaped None sum bits state p rest r several = absurd (omega (arith, r.0, several))
shaped (Some layout) sum bits state p rest r several = sym r.shape

-- the layout of a run is the first packet's, which has one
pub layout_is : (run : Run) (s : Slot) → KnowsSome run (packet_of s) → 1 ≤ run.more → run.layout ≡ shape_of (buffer_bytes s.skb)
layout_is run s k several = shaped run.layout run.payload run.flags run.progress (packet_of s) k.0 k.1.is (omega (arith, k.1.more, several))

has_layout : (found : Option Layout) (sum : FoldAndLength) (bits : ℕ) (state : Progress) (p : Packet) (rest : List Packet) → IsRunBy found sum bits state p (p ∷ rest) → 1 ≤ length rest
    → found ≡ None → ⊥
has_layout None sum bits state p rest r several e = omega (arith, r.0, several)
has_layout (Some layout) sum bits state p rest r several e = cc

pub has_shape : (run : Run) (s : Slot) → KnowsSome run (packet_of s) → 1 ≤ run.more → shape_of (buffer_bytes s.skb) ≡ None → ⊥
has_shape run s k several none =
    has_layout run.layout run.payload run.flags run.progress (packet_of s) k.0 k.1.is (omega (arith, k.1.more, several)) (layout_is run s k several ∙ none)

mergeable : (found : Option Layout) (sum : FoldAndLength) (bits : ℕ) (state : Progress) (p q : Packet) (rest : List Packet)
    → IsRunBy found sum bits state p (p ∷ q ∷ rest) → IsMergeable (p ∷ q ∷ rest)
mergeable None sum bits state p q rest r = absurd (omega (arith, r.0))
mergeable (Some layout) sum bits state p q rest r = (layout, record { several = omega arith; line = r.progress.line })

cuttable_by : (cut : Segmentation) (r : Merged) → r.packet.original ≡ length r.packet.frame → cut.n ≡ r.n → cut.m ≡ r.m → cut.modes ≡ r.modes
    → IsCuttable cut.layout r → IsSegmentationOf cut r.packet.frame
cuttable_by cut r whole n m modes k =
    let f = r.packet.frame in
    let hs = cut.layout.headers in
    record {
      shape_is = k.shape_is;
      candidate = subst (λ (z : ℕ). IsCandidate f z cut.layout) whole k.candidate;
      several = omega (arith, n, k.several);
      full = omega (arith, m, k.full);
      above = subst (λ (z : ℕ). (z - 1) * cut.m < length f - cut.layout.payload_at) (sym n) (subst (λ (z : ℕ). (r.n - 1) * z < length f - cut.layout.payload_at) (sym m) k.above);
      within = subst (λ (z : ℕ). length f - cut.layout.payload_at ≤ z * cut.m) (sym n) (subst (λ (z : ℕ). length f - cut.layout.payload_at ≤ r.n * z) (sym m) k.within);
      modes = subst (λ (z : ℕ). AtHeaders (IsModeLawful z f hs) hs) (sym modes) k.modes;
      only = subst (λ (z : ℕ). modes_of (is_fixed z hs) hs ≡ z) (sym modes) k.only;
    }

module _ (run : Run) (p q : Packet) (qs : List Packet) (own : Knows run p (q ∷ qs)) (small : AllByRecursion (λ (x : Packet). AreBytes x.frame) (p ∷ q ∷ qs)) where
  m : IsMergeable (p ∷ q ∷ qs)
  m = mergeable run.layout run.payload run.flags run.progress p q qs own.is

  known : IsMergedRun m.0 p (p ∷ q ∷ qs)
  known = merged_run p q qs m small

  same : merged_of (p ∷ q ∷ qs) ≡ merged_by m.0 p (p ∷ q ∷ qs)
  same = merged_of_is p q qs m.0 known.first_shape

  cut_by : (cut : Segmentation) → m.0 ≡ cut.layout → HasNumbersOf (head_of 0 (merged_by m.0 p (p ∷ q ∷ qs))) cut → IsCutOf cut (merged_by m.0 p (p ∷ q ∷ qs))
  cut_by cut layout has =
      let r : Merged = merged_by m.0 p (p ∷ q ∷ qs) in
      let cuttable : IsCuttable cut.layout r = subst (λ (l : Layout). IsCuttable l r) layout known.cuttable in
      record {
        in_bytes = known.merged.like.in_bytes;
        short = omega (arith, known.short, m.1.short);
        of = cuttable_by cut r refl has.n has.m has.modes cuttable;
        packets = segments_are (head_of 0 r) r.packet cut (kind_is r m.1.several) has cuttable.shape_is;
      }

  cut_several : (cut : Segmentation) → shape_of p.frame ≡ Some cut.layout → HasNumbersOf (head_of 0 (merged_of (p ∷ q ∷ qs))) cut → IsCutOf cut (merged_of (p ∷ q ∷ qs))
  cut_several cut shape has =
      let layout : m.0 ≡ cut.layout = let both : Some m.0 ≡ Some cut.layout = sym known.first_shape ∙ shape in cc in
      subst (IsCutOf cut) (sym same) (cut_by cut layout (subst (λ (r : Merged). HasNumbersOf (head_of 0 r) cut) same has))

  flow_several : key_of (merged_of (p ∷ q ∷ qs)).packet.frame ≡ key_of p.frame
  flow_several = ap (λ (r : Merged). key_of r.packet.frame) same ∙ known.same_key

-- ---- any number

module _ (run : Run) (p : Packet) where
  -- the cut that has the numbers of the run's record
  pub cut_is : (rest : List Packet) (cut : Segmentation) → Knows run p rest → 1 ≤ run.more → AllByRecursion (λ (x : Packet). AreBytes x.frame) (p ∷ rest)
      → shape_of p.frame ≡ Some cut.layout → HasNumbersOf (head_of 0 (merged_of (p ∷ rest))) cut → IsCutOf cut (merged_of (p ∷ rest))
  cut_is [] cut own several small shape has = absurd (omega (arith, own.more))
  cut_is (q ∷ qs) cut own several small shape has = cut_several run p q qs own small cut shape has

  -- it is of the first packet's flow
  pub flow_is : (rest : List Packet) → Knows run p rest → AllByRecursion (λ (x : Packet). AreBytes x.frame) (p ∷ rest) → key_of (merged_of (p ∷ rest)).packet.frame ≡ key_of p.frame
  flow_is [] own small = refl
  flow_is (q ∷ qs) own small = flow_several run p q qs own small

  -- and stands for all packets
  pub size_is : (rest : List Packet) → Knows run p rest → (merged_of (p ∷ rest)).n ≡ run.more + 1
  size_is [] own = omega (arith, own.more)
  size_is (q ∷ qs) own = omega (arith, own.more)
