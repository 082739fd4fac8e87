use Rattle.std.proofs.Common.{arith}
use Rattle.frame_layout.proofs.Lemmas.{laid}
use Rattle.frame_causes.proofs.Deciding.{before_payload}
use Rattle.frame_causes.proofs.apart.are_alike.Goals as goal

pub are_places_alike-requires : goal.are_places_alike-requires
are_places_alike-requires c = record {
  there = record {
    inside = before_payload c.args.first.now.bytes.now c.args.layout.now c.requires.shape;
    first_has = (laid c.args.first.now.bytes.now c.args.layout.now c.requires.shape).1;
    second_has = omega (arith, c.if-payload_at-second.true, c.payload_at.ensures.place);
    first_few = c.requires.first;
    second_few = c.requires.second;
  };
}

pub returns-then-payload_at-second-clause-there : goal.returns-then-payload_at-second-clause-there
returns-then-payload_at-second-clause-there c = λ _. record {
  inside = before_payload c.args.first.now.bytes.now c.args.layout.now c.requires.shape;
  first_has = (laid c.args.first.now.bytes.now c.args.layout.now c.requires.shape).1;
  second_has = omega (arith, c.if-payload_at-second.true, c.payload_at.ensures.place);
  first_few = c.requires.first;
  second_few = c.requires.second;
}
