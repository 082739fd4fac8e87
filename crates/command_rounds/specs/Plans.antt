-- How the work of a round is divided, by the options of a command.
use Rattle.offload_words.specs.declared.merge.MergeOptions.{MergeOptions}
use Rattle.lanes.specs.declared.plan.LanePlan.{LanePlan}

abbrev pub plan_of : MergeOptions → LanePlan
plan_of o = record {
  queues = o.queues;
  taps = o.taps;
  snap = o.snap;
  choice = o.choice;
  segs = o.segs;
  filter = o.filter;
}
