-- What a run of packets comes to, as its packets lie.
use Rattle.std.proofs.Common.{suc, ◌≡◌, ℕ, ◌+◌, ◌-◌, ◌<◌, ◌≤◌, Option, Some, None, List, [], ◌∷◌, ◌++◌, length, get_or, take, refl, sym, ap, ◌∙◌, subst, arith}
use Rattle.std.specs.List.{AllByRecursion}
use Rattle.std.proofs.lemmas.List.{length-take-le, take-append-le}
use Rattle.inet_sum.specs.Stands.{FoldAndLength, StandsFor}
use Rattle.frame_layout.specs.Shape.{Layout}
use Rattle.frame_layout.specs.Headers.{AtHeaders, AreLaid}
use Rattle.frame_layout.specs.Segment.{HasFlags}
use Rattle.pcap_io.specs.Capture.{Packet}
use Rattle.offload_model.specs.Frames.{merged_frame}
use Rattle.offload_model.specs.Mergeable.{payloads_of, IsLengthInRange}
use Rattle.offload_model.specs.Merged.{Merged, frame_at, frame_of_run, merged_of}
use Rattle.offload_model.proofs.Within.{merged_long}
use Rattle.merge_rule.specs.declared.rule.Progress.{Progress}
use Rattle.merge_rule.specs.Runs.{IsRunOf, IsRunBy}
use Rattle.merge_rule.proofs.Knows.{run_some, bounded, within}
use Rattle.merge_rule.proofs.Merge.{made, laid_out, in_range}
use Rattle.frame_runs.specs.declared.run.Run.{Run}
use Rattle.frame_runs.specs.Engine.{Knows}
use Rattle.frame_runs.specs.Frames.{IsFrontOf}
use Rattle.frame_runs.specs.MergedRun.{payload_place, headers_size, payloads_behind}
use Rattle.frame_runs.proofs.Comes.{all_inside, comes_to}

-- ---- a run of several

-- it has a layout
laid_by : (found : Option Layout) (sum : FoldAndLength) (bits : ℕ) (state : Progress) (p : Packet) (rest : List Packet) → IsRunBy found sum bits state p (p ∷ rest)
    → 1 ≤ length rest → (layout : Layout) × (found ≡ Some layout)
laid_by None sum bits state p rest r several = absurd (omega (arith, r.0, several))
laid_by (Some layout) sum bits state p rest r several = (layout, refl)

pub has_layout : (run : Run) (p : Packet) (rest : List Packet) → Knows run p rest → 1 ≤ run.more → (layout : Layout) × (run.layout ≡ Some layout)
has_layout run p rest k several = laid_by run.layout run.payload run.flags run.progress p rest k.is (omega (arith, k.more, several))

each_within : (at : ℕ) (ps : List Packet) → ((i : ℕ) (d : Packet) → i < length ps → at ≤ length (get_or ps i d).frame)
    → AllByRecursion (λ (q : Packet). at ≤ length q.frame) ps
each_within at [] f = tt
each_within at (p ∷ ps) f = (f 0 p (omega arith), each_within at ps (λ i d h. f (suc i) d (omega (arith, h))))

module _ (run : Run) (p : Packet) (rest : List Packet) (k : Knows run p rest) (layout : Layout) (is : run.layout ≡ Some layout) where
  abbrev all : List Packet
  all = p ∷ rest

  of_run : IsRunOf layout run.payload run.flags run.progress p all
  of_run = run_some run.layout run.payload run.flags run.progress p all layout k.is is

  pub place : headers_size run ≡ layout.payload_at
  place = ap payload_place is

  pub is_low : layout.payload_at ≤ 200
  is_low = (bounded p rest layout run.payload run.flags run.progress of_run).2

  pub is_inside : layout.payload_at ≤ length p.frame
  is_inside = within p.frame layout of_run.shape

  pub is_laid : AreLaid 0 layout.headers layout.payload_at
  is_laid = laid_out p rest layout run.payload run.flags run.progress of_run

  pub is_in_range : AtHeaders (IsLengthInRange (layout.payload_at + run.payload.len)) layout.headers
  is_in_range = in_range p rest layout run.payload run.flags run.progress of_run (layout.payload_at + run.payload.len) refl

  pub all_within : AllByRecursion (λ (q : Packet). headers_size run ≤ length q.frame) all
  all_within =
      subst (λ (z : ℕ). AllByRecursion (λ (q : Packet). z ≤ length q.frame) all) (sym place)
      (each_within layout.payload_at all (all_inside p rest layout run.payload run.flags run.progress of_run))

  module _ (several : 1 ≤ run.more) where
    abbrev frame : List ℕ
    frame = frame_of_run layout all

    merged : made p.number p.sec p.frac (length frame) (run.more + 1) (length p.frame - headers_size run) run.progress.modes frame ≡ merged_of all
    merged =
        comes_to p rest layout run.payload run.flags run.progress of_run frame (length frame) (run.more + 1) (length p.frame - headers_size run) run.progress.modes
        (omega (arith, k.more, several)) refl refl (omega (arith, k.more)) (ap (λ (z : ℕ). length p.frame - z) place) refl

    pub frame_is : (merged_of all).packet.frame ≡ frame
    frame_is = ap (λ (z : Merged). z.packet.frame) (sym merged)

    -- headers that were filled in stand before all payloads
    pub frame_by : (headers head : List ℕ) → take layout.payload_at p.frame ≡ take layout.payload_at head
        → ((first last bytes : List ℕ) → take layout.payload_at first ≡ take layout.payload_at head → AtHeaders (HasFlags run.flags last) layout.headers
        → StandsFor run.payload bytes → headers ++ bytes ≡ merged_frame layout first last bytes)
        → headers ++ payloads_behind (headers_size run) all ≡ (merged_of all).packet.frame
    frame_by headers head begins filled =
        ap (λ (z : ℕ). headers ++ payloads_behind z all) place
        ∙ filled p.frame (frame_at all (length all - 1)) (payloads_of layout all) begins of_run.flags of_run.payload
        ∙ sym frame_is

    pub long_is : (n : ℕ) → n ≡ headers_size run → length (merged_of all).packet.frame ≡ n + run.payload.len
    long_is n e =
        ap length frame_is ∙ merged_long layout p.frame (frame_at all (length all - 1)) (payloads_of layout all)
        ∙ (let s : length (take layout.payload_at p.frame) + length (payloads_of layout all) ≡ n + run.payload.len
        = omega (arith, length-take-le layout.payload_at p.frame is_inside, of_run.payload.1, place, e) in s)

-- the first bytes of a frame lie in its head
pub begins_with : (head f : List ℕ) (at : ℕ) → IsFrontOf head f → at ≤ length head → take at f ≡ take at head
begins_with head f at front h = ap (take at) front.joined ∙ take-append-le at head front.rest h
