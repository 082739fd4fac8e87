use Rattle.std.proofs.Common.{ℕ, Some, Option, List, subst}
use Rattle.std.specs.HashMap.{Updates}
use Rattle.frame_layout.specs.Key.{key_eq}
use Rattle.frame_runs.proofs.Flowing.{on_ok}
use Rattle.frame_runs.proofs.flows.enter_key.Goals as goal

pub returns-clause-entered : goal.returns-clause-entered
returns-clause-entered g c =
    subst (λ (z : Option (List ℕ)). Updates key_eq c.args.keys.now c.insert-none.new.self z (Some c.args.at)) c.key_in-key.ensures.key
    (on_ok c.insert-none.result c.insert-none.ensures.updates (c.insert-none.ensures.succeeds c.requires.room))
