use Rattle.std.proofs.Common.{◌∙◌, ap, codes}
use Rattle.std.proofs.lemmas.Result.{IfOk-weaker}
use Rattle.clap.specs.Words.{App, Rule, with_rule}
use Rattle.offload_words.specs.Blocks.{blocks_rule}
use Rattle.offload_words.specs.Numbers.{number_rule}
use Rattle.offload_words.proofs.merge.with_merge_numbers.Goals as goal

pub returns-clause-app : goal.returns-clause-app
returns-clause-app c =
    let with = λ (rule : Rule) (app : App). with_rule app rule in
    let budget_rule = number_rule (codes "budget") 1 4096 (codes "64") in
    let taps_rule = number_rule (codes "taps") 0 8 (codes "0") in
    let snap_rule = number_rule (codes "snap") 1 2048 (codes "64") in
    let segs_rule = number_rule (codes "segs") 1 4096 (codes "4096") in
    let budget = c.in_ok-budget.ensures.app ∙ ap (with budget_rule) c.in_ok-queues.ensures.app in
    let blocks = c.in_ok-blocks.ensures.app ∙ ap (with blocks_rule) budget in
    let taps = c.in_ok-taps.ensures.app ∙ ap (with taps_rule) blocks in
    let snap = c.in_ok-snap.ensures.app ∙ ap (with snap_rule) taps in
    IfOk-weaker c.with_number-5.result _ _ (λ _ e. e ∙ ap (with segs_rule) snap) c.with_number-5.ensures.app

pub returns-clause-local : goal.returns-clause-local
returns-clause-local c = c.with_number-5.ensures.local

pub with_number-requires-2 : goal.with_number-requires-2
with_number-requires-2 c = record { local = c.in_ok-queues.ensures.local }

pub with_number-requires-3 : goal.with_number-requires-3
with_number-requires-3 c = record { local = c.in_ok-blocks.ensures.local }

pub with_number-requires-4 : goal.with_number-requires-4
with_number-requires-4 c = record { local = c.in_ok-taps.ensures.local }

pub with_number-requires-5 : goal.with_number-requires-5
with_number-requires-5 c = record { local = c.in_ok-snap.ensures.local }
