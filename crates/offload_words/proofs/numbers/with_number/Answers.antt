use Rattle.std.proofs.Common.{refl}
use Rattle.clap.specs.Words.{app_of}
use Rattle.offload_words.proofs.Adding.{with_local, with_option}
use Rattle.offload_words.proofs.numbers.with_number.Goals as goal

pub returns-clause-app : goal.returns-clause-app
returns-clause-app c =
    let option = c.number_option in
    with_option (app_of c.args.app) c.args.app option.result option.ensures.local c.arg.result c.arg.ensures _ refl option.ensures.rule

pub returns-clause-local : goal.returns-clause-local
returns-clause-local c = with_local (app_of c.args.app) c.args.app c.number_option.result c.number_option.ensures.local c.arg.result c.arg.ensures c.requires.local
