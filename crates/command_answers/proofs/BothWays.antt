-- Merging and then segmenting brings every flow back.
use Rattle.std.proofs.Common.{◌≡◌, ℕ, ◌+◌, ◌<◌, inl, inr, Option, List, [], take, drop, sym, ap, subst, arith, if◌then◌else◌}
use Rattle.std.specs.Prelude.{is_some}
use Rattle.std.proofs.lemmas.List.{get_or-take, get_or_past, get_or-drop, length-take}
use Rattle.std.proofs.lemmas.Bool.{cases_lt}
use Rattle.pcap_io.specs.declared.faults.CapKind.{CapKind}
use Rattle.pcap_io.specs.declared.heads.FileHead.{FileHead}
use Rattle.pcap_io.specs.declared.heads.Link.TheVariants.{Ethernet}
use Rattle.pcap_io.specs.Headers.{file_head, order_of}
use Rattle.pcap_io.specs.Capture.{Packet, reads}
use Rattle.offload_model.specs.Laws.{InBytes}
use Rattle.offload_model.specs.Written.{written}
use Rattle.offload_model.specs.Captured.{AreCaptured}
use Rattle.offload_model.proofs.Captured.{number_small, captures_are_captured}
use Rattle.offload_model.specs.Tested.{segmented_of}
use Rattle.offload_model.specs.CaptureLaws.{BringsBack}
use Rattle.offload_model.specs.PassingLaws.{written_of}
use Rattle.offload_model.proofs.ComesBack.{captures_come_back, records_are_few}
use Rattle.command_answers.specs.Laws.{EveryFlowComesBack}

small_take : (n : ℕ) (f : List ℕ) → InBytes f → InBytes (take n f)
small_take n f s k = elim (cases_lt k n) [
  | inl l ↦ subst (λ b. b < 256) (sym (get_or-take n f k 0 l)) (s k)
  | inr l ↦ subst (λ b. b < 256) (sym (get_or_past (take n f) k 0 (omega (arith, length-take n f)))) (omega arith)
]

small_drop : (n : ℕ) (f : List ℕ) → InBytes f → InBytes (drop n f)
small_drop n f s k = subst (λ b. b < 256) (sym (get_or-drop n f k 0)) (s (n + k))

pub every_flow_comes_back : EveryFlowComesBack
every_flow_comes_back o given lawful bytes header few =
    let head : FileHead = file_head (take 24 given) in
    let ps : List Packet = (reads Ethernet given).packets in
    let front : InBytes (take 24 given) = small_take 24 given bytes in
    let captured : AreCaptured ps = captures_are_captured given bytes in
    let is : written_of o given ≡ written head o ps
    = ap (λ (r : Option CapKind). if is_some r then [] else written head o ps) header in
    subst (λ xs. BringsBack ps (reads Ethernet (segmented_of xs))) (sym is)
    (captures_come_back head o ps
    (number_small (order_of (take 24 given)) (drop 8 (take 24 given)) (small_drop 8 (take 24 given) front))
    (number_small (order_of (take 24 given)) (drop 12 (take 24 given)) (small_drop 12 (take 24 given) front))
    lawful captured (elim (cases_lt 0 o.taps) [
      | inl some ↦ few (omega (arith, some))
      | inr none ↦ records_are_few o ps lawful captured (omega (arith, none))
    ]))
