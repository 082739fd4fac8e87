use Rattle.frame_layout.specs.Shape.{network_from, inner_from}
use Rattle.frame_layout.proofs.Readers.{carried_behind}
use Rattle.frame_layout.proofs.read.encapsulated.Goals as goal

pub returns-in_default : goal.returns-in_default
returns-in_default c = record { found = c.in_default.ensures.found (inner_from c.args.frame.now) }

pub returns : goal.returns
returns c = record {
  found = let f = c.args.frame.now in
      carried_behind f c.args.found.now.items c.network.new.found.items c.inner.new.found.items (c.in-Some.protocol, c.in-Some.place) c.inner.result
      (inner_from f) (λ others. network_from f others c.args.kind c.args.at) c.in-Some.ensures.found c.inner.ensures.found;
}
