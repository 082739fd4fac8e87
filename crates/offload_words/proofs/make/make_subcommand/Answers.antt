use Rattle.std.proofs.Common.{◌∙◌, ◌||◌, ap, ap₂, codes}
use Rattle.clap.specs.Words.{App, app_of, new_app, with_rule}
use Rattle.offload_words.specs.Numbers.{number_rule}
use Rattle.offload_words.proofs.Adding.{with_local, with_option}
use Rattle.offload_words.proofs.make.make_subcommand.Goals as goal

pub returns-clause-app : goal.returns-clause-app
returns-clause-app c =
    let seed = c.number_option.ensures in
    let count = c.number_option-2.ensures in
    let seed_rule = number_rule (codes "seed") 0 18446744073709551615 (codes "1") in
    let with_seed = c.in_ok-arg.ensures.shape seed.local ∙ ap (with_rule (app_of c.new.result)) seed.rule ∙ ap (λ (a : App). with_rule a seed_rule) c.new.ensures.app in
    with_option (with_rule (new_app (codes "make")) seed_rule) c.in_ok-arg.field-0 c.number_option-2.result count.local c.arg-2.result c.arg-2.ensures _ with_seed count.rule

pub returns-clause-local : goal.returns-clause-local
returns-clause-local c =
    with_local (app_of c.in_ok-arg.field-0) c.in_ok-arg.field-0 c.number_option-2.result c.number_option-2.ensures.local c.arg-2.result c.arg-2.ensures
    (c.in_ok-arg.ensures.globals ∙ ap₂ ◌||◌ c.new.ensures.local c.number_option.ensures.local)
