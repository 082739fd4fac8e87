use Rattle.engine_tests.proofs.rounds_in_turn.sides.in_turn.Goals as goal

pub read_shelved-last-requires-clause-ready : goal.read_shelved-last-requires-clause-ready
read_shelved-last-requires-clause-ready g c = (c.read_shelved-read.ensures.full c.full-round-2.ensures.full.0).ready
