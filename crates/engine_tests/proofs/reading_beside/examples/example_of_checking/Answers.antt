use Rattle.std.proofs.Common.{◌≡◌, ◌∙◌, ◌≤◌, ◌^◌, List, ap, sym, subst, length, map, arith}
use Rattle.std.proofs.lemmas.List.{length-map}
use Rattle.offload_model.specs.Captured.{AreCaptured}
use Rattle.gro.specs.declared.slot.Slot.{Slot as Held}
use Rattle.gro.specs.Slots.{packet_of}
use Rattle.check_totals.proofs.Bounds.{totals_are_few}
use Rattle.check_totals.specs.Counts.{Counts, round_totals, IsWithin}
use Rattle.rounds.specs.Lanes.{IsKeptWorkOf}
use Rattle.rounds.specs.Merging.{options_of}
use Rattle.rounds.specs.RoundsState.{RoundsState}
use Rattle.checking.proofs.Kept.{may_compare}
use Rattle.checking.proofs.RoundsCounted.{captured_of, end_within}
use Rattle.checking.specs.Handling.{AreOf}
use Rattle.engine_tests.proofs.reading_beside.examples.example_of_checking.Goals as goal

-- the totals of one round are small
are_small : (r s : RoundsState) (ps : List Held) (c : Counts) → r ≡ s → AreCaptured (map packet_of ps) → length ps ≤ 4096
    → c ≡ round_totals (options_of r) (map packet_of ps) → IsWithin (2 ^ 50) (2 ^ 62) c
are_small r s ps c same captured few is =
    let n = length (map packet_of ps) in
    end_within n c (omega (arith, few, length-map ps packet_of))
    (subst (AreOf n) (sym is) (totals_are_few (options_of r) (map packet_of ps) captured))

pub check_round-totals-requires : goal.check_round-totals-requires
check_round-totals-requires g c =
    let read = c.read_round-round in
    let ps = read.result.round.packets in
    let keep = read.ensures.same.2 ∙ ap (λ (r : RoundsState). r.keep) c.in_ok-rounds.ensures.made in
    record {
      worked = may_compare (options_of read.new.self) (map packet_of ps) c.in_ok-worked.worked (c.in_ok-worked.ensures.checked keep) read.ensures.read.captured
          (omega (arith, read.ensures.read.size, read.ensures.budget.1, length-map ps packet_of));
    }

pub write_totals-requires-clause-within : goal.write_totals-requires-clause-within
write_totals-requires-clause-within g c =
    let read = c.read_round-round in
    let ps = read.result.round.packets in
    let worked = c.in_ok-worked in
    let keep = read.ensures.same.2 ∙ ap (λ (r : RoundsState). r.keep) c.in_ok-rounds.ensures.made in
    let kept = subst (λ (r : RoundsState). IsKeptWorkOf (options_of r) (map packet_of ps) worked.worked) (sym worked.ensures.same) (worked.ensures.checked keep) in
    let captured = captured_of _ ps read.ensures.read.captured read.ensures.read.numbers in
    (are_small _ _ ps c.in_ok-totals.field-0 worked.ensures.same captured (omega (arith, read.ensures.read.size, read.ensures.budget.1)) (c.in_ok-totals.ensures.totals (map packet_of ps) kept)).queues
