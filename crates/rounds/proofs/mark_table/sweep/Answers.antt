use Rattle.std.proofs.Common.{length}
use Rattle.frags.specs.Account.{both, of_outcomes}
use Rattle.rounds.specs.Table.{of_places}
use Rattle.rounds.proofs.Places.{marked_at}
use Rattle.rounds.proofs.mark_table.sweep.Goals as goal

pub sweep_receipts-requires-clause-marked : goal.sweep_receipts-requires-clause-marked
sweep_receipts-requires-clause-marked c =
    let s = c.sweep_soles.new in
    marked_at (length c.args.places.now) (length s.places) (both (of_places c.args.places.now) (of_outcomes c.args.out.now)) (both (of_places s.places) (of_outcomes s.out)) c.sweep_soles.ensures.size
    (λ f m. (c.sweep_soles.ensures.settles m).0 f) c.requires.may.marked
