-- The headers of a run, and where its last ones stand.
use Rattle.std.proofs.Common.{◌≡◌, ℕ, ◌≤◌, Some, List, ◌∷◌, length, take}
use Rattle.std.proofs.Common.{sym, ◌∙◌, subst, arith}
use Rattle.std.proofs.lemmas.List.{length-take-le}
use Rattle.frame_layout.specs.Headers.{AreLaid}
use Rattle.frame_layout.specs.Shape.{Layout}
use Rattle.merge_rule.proofs.Knows.{run_some, bounded}
use Rattle.merge_rule.proofs.Merge.{laid_out}
use Rattle.merge_rule.specs.Runs.{IsRunOf}
use Rattle.pcap_io.specs.Capture.{Packet}
use Rattle.frame_runs.specs.declared.run.Run.{Run}
use Rattle.frame_runs.specs.Engine.{Knows}

module _ (run : Run) (p : Packet) (rest : List Packet) (k : Knows run p rest) (layout : Layout)
    (is : run.layout ≡ Some layout) (at : ℕ) (at_is : at ≡ layout.payload_at) where
  of_run : IsRunOf layout run.payload run.flags run.progress p (p ∷ rest)
  of_run = run_some run.layout run.payload run.flags run.progress p (p ∷ rest) layout k.is is

  pub is_low : at ≤ 200
  is_low = omega (arith, at_is, (bounded p rest layout run.payload run.flags run.progress of_run).2)

  module _ (headers : List ℕ) (room : length headers ≡ 200) where
    pub is_laid : AreLaid 0 layout.headers (length (take at headers))
    is_laid =
        subst (AreLaid 0 layout.headers)
        (sym at_is ∙ sym (length-take-le at headers (omega (arith, is_low, room))))
        (laid_out p rest layout run.payload run.flags run.progress of_run)
