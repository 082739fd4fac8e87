use Rattle.std.proofs.Common.{map, sym, ap, ◌∙◌}
use Rattle.slab.specs.Slab.{get}
use Rattle.frame_layout.specs.Key.{key_of}
use Rattle.frame_runs.specs.declared.flows.Flows.{Flows}
use Rattle.frame_runs.proofs.Flowing.{finds}
use Rattle.frame_runs.proofs.flows.Flows.run_at.Goals as goal

pub is_of-requires-clause-hashed : goal.is_of-requires-clause-hashed
is_of-requires-clause-hashed g c =
    c.requires.flows.hashed c.args.at c.in-Some.group.now (ap (λ (z : Flows). get z.groups c.args.at) (sym c.self.view_is) ∙ sym c.in-Some.ensures)

pub returns-then-is_of-clause-some : goal.returns-then-is_of-clause-some
returns-then-is_of-clause-some g c =
    finds (map g.F.Frame.packet c.args.packets.now) (key_of (g.F.Frame.packet c.args.slot.now).frame) c.args.self.now.groups.slots c.args.at c.in-Some.group.now
    c.requires.flows.alone (ap (λ (z : Flows). get z.groups c.args.at) (sym c.self.view_is) ∙ sym c.in-Some.ensures) (c.is_of.ensures.same.0 c.if-is_of.true)
