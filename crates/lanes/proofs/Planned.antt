-- Each flow has a queue that there is.
use Rattle.std.proofs.Common.{ℕ, ◌<◌, Option, List}
use Rattle.frame_layout.proofs.Choices.{queue_below}
use Rattle.lanes.specs.declared.plan.LanePlan.{LanePlan}
use Rattle.lanes.specs.Work.{IsPlan, spread_of}

pub spread_below : (plan : LanePlan) (key : Option (List ℕ)) → IsPlan plan → spread_of plan key < plan.queues
spread_below plan key is = queue_below plan.choice plan.queues key is.0.0 is.3
