use Rattle.std.proofs.Common.{map, sym, subst}
use Rattle.frame_runs.proofs.Merging.{latest_inside, latest_finds, slot_at, all_at}
use Rattle.frame_runs.proofs.engine.Engine.receive.Goals as goal

pub addition_at-requires-clause-inside : goal.addition_at-requires-clause-inside
addition_at-requires-clause-inside g c = latest_inside (map g.F.Frame.packet c.args.packets.now) c.args.i c.args.self.now c.in-Some.place c.requires.runs c.in-Some.is

pub extend-requires-clause-found : goal.extend-requires-clause-found
extend-requires-clause-found g c = latest_finds (map g.F.Frame.packet c.args.packets.now) c.args.i c.args.self.now c.in-Some.place c.requires.runs c.in-Some.is _ c.in-Some-addition_at.ensures.flow

pub returns-in-Some-addition_at : goal.returns-in-Some-addition_at
returns-in-Some-addition_at g c = record { takes = c.extend.ensures.takes c.args.limits c.in-Some-addition_at.ensures.takes }

pub extend-requires-clause-inside : goal.extend-requires-clause-inside
extend-requires-clause-inside g c = latest_inside (map g.F.Frame.packet c.args.packets.now) c.args.i c.args.self.now c.in-Some.place c.requires.runs c.in-Some.is

pub extend-requires-clause-here : goal.extend-requires-clause-here
extend-requires-clause-here g c = (c.requires.inside, slot_at g.F.Frame.packet c.args.packets.now c.args.i c.index-packets-i.result c.requires.inside c.index-packets-i.is)

pub receive_apart-requires-clause-here : goal.receive_apart-requires-clause-here
receive_apart-requires-clause-here g c = (c.requires.inside, slot_at g.F.Frame.packet c.args.packets.now c.args.i c.index-packets-i.result c.requires.inside c.index-packets-i.is)

pub extend-requires-clause-slot : goal.extend-requires-clause-slot
extend-requires-clause-slot g c =
    subst g.F.Frame.is_held (sym c.index-packets-i.is) (all_at g.F.Frame.is_held c.args.packets.now c.args.i c.index-packets-i.result c.requires.slots c.requires.inside)
