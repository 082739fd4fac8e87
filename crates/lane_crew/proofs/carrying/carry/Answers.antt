use Rattle.std.proofs.Common.{max}
use Rattle.lane_crew.proofs.Dividing.{part_none, parts_are}
use Rattle.lane_crew.proofs.carrying.carry.Goals as goal

pub returns-in-Some : goal.returns-in-Some
returns-in-Some c = record {
  carried = parts_are (max 1 c.args.among) c.in-Some.own c.part_for.new.own c.args.giver.now c.part_for.result c.in-Some.is c.part_for.ensures.part c.part_for.ensures.even;
}

pub returns-in-None : goal.returns-in-None
returns-in-None c = record { carried = part_none (max 1 c.args.among) c.args.giver.now c.in-None.is }
