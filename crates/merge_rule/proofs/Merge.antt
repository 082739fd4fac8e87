-- What a run of several packets comes to.
use Rattle.std.proofs.Common.{suc, ◌≡◌, ℕ, suc, ◌+◌, ◌-◌, ◌<◌, ◌≤◌, Some, List, [], ◌∷◌, length, get_or, drop, refl, sym, ap, ◌∙◌, subst, arith, length-append}
use Rattle.std.specs.Option.{unwrap_or}
use Rattle.std.proofs.lemmas.List.{length-drop}
use Rattle.inet_sum.specs.Stands.{FoldAndLength}
use Rattle.frame_layout.specs.Shape.{Layout, shape_of}
use Rattle.frame_layout.specs.Headers.{AtHeaders, AreLaid}
use Rattle.frame_layout.proofs.Lemmas.{laid}
use Rattle.pcap_io.specs.Capture.{Packet}
use Rattle.offload_model.specs.Mergeable.{IsLengthInRange, payloads_of}
use Rattle.offload_model.specs.Merged.{frame_of_run, layout_of, is_fixed_in, modes_of, Merged, merged_of}
use Rattle.merge_rule.specs.declared.rule.Progress.{Progress}
use Rattle.merge_rule.specs.Runs.{IsRunOf}
use Rattle.merge_rule.proofs.Knows.{bounded}

count : (at : ℕ) (layout : Layout) (ps : List Packet) → at ≡ layout.payload_at → ((i : ℕ) (d : Packet) → i < length ps → at < length (get_or ps i d).frame)
    → length ps ≤ length (payloads_of layout ps)
count at layout [] e f = omega arith
count at layout (p ∷ ps) e f =
    omega (
      arith,
      e,
      f 0 p (omega arith),
      count at layout ps e (λ i d h. f (suc i) d (omega arith)),
      length-append (drop layout.payload_at p.frame) (payloads_of layout ps),
      length-drop layout.payload_at p.frame,
    )

abbrev pub made : ℕ → ℕ → ℕ → ℕ → ℕ → ℕ → ℕ → List ℕ → Merged
made number sec frac original n m modes frame =
    record { packet = record { number = number; sec = sec; frac = frac; original = original; frame = frame }; n = n; m = m; modes = modes }

module _ (p : Packet) (ps : List Packet) (layout : Layout) (sum : FoldAndLength) (bits : ℕ) (state : Progress) (r : IsRunOf layout sum bits state p (p ∷ ps)) where
  pub laid_out : AreLaid 0 layout.headers layout.payload_at
  laid_out = (laid p.frame layout r.shape).0

  pub in_range : (n : ℕ) → n ≡ layout.payload_at + sum.len → AtHeaders (IsLengthInRange n) layout.headers
  in_range n e = subst (λ z. AtHeaders (IsLengthInRange z) layout.headers) (ap (λ z. layout.payload_at + z) (sym r.payload.1) ∙ sym e) r.progress.line.fits

  sums : (layout.payload_at ≤ state.total) × (state.total ≤ layout.payload_at + 262070) × (layout.payload_at ≤ 200)
  sums = bounded p ps layout sum bits state r

  pub total_short : state.total ≤ 262144
  total_short = omega (arith, r.progress.long, r.progress.line.short)

  pub payload_short : layout.payload_at + sum.len ≤ 262144
  payload_short = omega (arith, total_short, r.progress.long, r.payload.1)

  pub first_short : length p.frame - layout.payload_at ≤ 262070
  first_short =
      omega (arith, sums.1, r.progress.long, length-append (drop layout.payload_at p.frame) (payloads_of layout ps), length-drop layout.payload_at p.frame)

  pub few : length (p ∷ ps) ≤ 262070
  few =
      omega (arith, sums.1, r.progress.long, count layout.payload_at layout (p ∷ ps) refl (λ i d h. (r.progress.line.candidates.at i d h).payload))

-- a frame that is that of a run of several packets, with the numbers of that run, is its merged packet
pub made_is : (p : Packet) (ps : List Packet) (layout : Layout) (frame : List ℕ) (original n m modes : ℕ) → shape_of p.frame ≡ Some layout → 1 ≤ length ps
    → frame ≡ frame_of_run layout (p ∷ ps) → original ≡ length frame → n ≡ length (p ∷ ps) → m ≡ length p.frame - layout.payload_at
    → modes ≡ modes_of (is_fixed_in (p ∷ ps)) layout.headers → made p.number p.sec p.frac original n m modes frame ≡ merged_of (p ∷ ps)
made_is p [] layout frame original n m modes shape several ef eo en em es = absurd (omega arith)
made_is p (q ∷ qs) layout frame original n m modes shape several ef eo en em es =
    let run : List Packet = p ∷ q ∷ qs in
    let own : layout ≡ layout_of p.frame = sym (ap (λ z. unwrap_or z (record { headers = []; payload_at = 0 })) shape) in
    ap (made p.number p.sec p.frac original n m modes) ef
    ∙ ap (λ z. made p.number p.sec p.frac z n m modes (frame_of_run layout run)) (eo ∙ ap length ef)
    ∙ ap (λ z. made p.number p.sec p.frac (length (frame_of_run layout run)) z m modes (frame_of_run layout run)) en
    ∙ ap (λ z. made p.number p.sec p.frac (length (frame_of_run layout run)) (length run) z modes (frame_of_run layout run)) em
    ∙ ap (λ z. made p.number p.sec p.frac (length (frame_of_run layout run)) (length run) (length p.frame - layout.payload_at) z (frame_of_run layout run)) es
    ∙ ap (λ (l : Layout). made p.number p.sec p.frac (length (frame_of_run l run)) (length run) (length p.frame - l.payload_at) (modes_of (is_fixed_in run) l.headers) (frame_of_run l run)) own
