-- What a run of packets comes to.
use Rattle.std.proofs.Common.{◌≡◌, ℕ, ◌-◌, ◌<◌, ◌≤◌, List, ◌∷◌, length, get_or, arith, ◌∙◌}
use Rattle.inet_sum.specs.Stands.{FoldAndLength}
use Rattle.frame_layout.specs.Shape.{Layout}
use Rattle.frame_layout.proofs.Lemmas.{laid}
use Rattle.pcap_io.specs.Capture.{Packet}
use Rattle.offload_model.specs.Merged.{frame_of_run, merged_of}
use Rattle.merge_rule.specs.declared.rule.Progress.{Progress}
use Rattle.merge_rule.specs.Runs.{IsRunOf}
use Rattle.merge_rule.proofs.Merge.{made, made_is}

module _ (p : Packet) (ps : List Packet) (layout : Layout) (sum : FoldAndLength) (bits : ℕ) (state : Progress) (r : IsRunOf layout sum bits state p (p ∷ ps)) where
  pub all_inside : (i : ℕ) (d : Packet) → i < length (p ∷ ps) → layout.payload_at ≤ length (get_or (p ∷ ps) i d).frame
  all_inside i d h = (laid (get_or (p ∷ ps) i d).frame layout (r.progress.line.shapes.at i d h)).1

  pub comes_to : (frame : List ℕ) (original n m modes : ℕ) → 1 ≤ length ps → frame ≡ frame_of_run layout (p ∷ ps)
      → original ≡ length frame → n ≡ length (p ∷ ps) → m ≡ length p.frame - layout.payload_at → modes ≡ state.modes
      → made p.number p.sec p.frac original n m modes frame ≡ merged_of (p ∷ ps)
  comes_to frame original n m modes several ef eo en em es =
      made_is p ps layout frame original n m modes r.shape several ef eo en em (es ∙ r.progress.staying (omega arith))
