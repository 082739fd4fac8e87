use Rattle.std.proofs.Common.{◌∙◌, ap, codes}
use Rattle.std.proofs.lemmas.Result.{IfOk-weaker}
use Rattle.clap.specs.Words.{App, with_rule}
use Rattle.offload_words.specs.Merge.{with_merge_rules}
use Rattle.offload_words.specs.Numbers.{number_rule, plain_number_rule}
use Rattle.offload_words.proofs.check.check_subcommand.Goals as goal

pub returns-clause-app : goal.returns-clause-app
returns-clause-app c =
    let seed_rule = plain_number_rule (codes "seed") 0 18446744073709551615 in
    let count_rule = number_rule (codes "count") 0 10000000 (codes "1000") in
    let merge = c.in_ok-merge.ensures.app ∙ ap (λ (a : App). with_merge_rules a) c.new.ensures.app in
    let seed = c.in_ok-seed.ensures.app ∙ ap (λ (a : App). with_rule a seed_rule) merge in
    let all = ap (λ (a : App). with_rule a count_rule) seed in
    IfOk-weaker c.with_number.result _ _ (λ _ e. e ∙ all) c.with_number.ensures.app

pub with_number-requires : goal.with_number-requires
with_number-requires c = record { local = c.in_ok-seed.ensures.local }
