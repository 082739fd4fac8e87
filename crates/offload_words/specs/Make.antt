-- The subcommand make.
use Rattle.std.specs.Prelude.{◌≤◌, List, Option, codes, option_and_then, option_map}
use Rattle.clap.specs.Words.{App, Row, new_app, with_rule}
use Rattle.offload_words.specs.Numbers.{number_in, number_rule}
use Rattle.offload_words.specs.declared.make.MakeOptions.{MakeOptions}

abbrev pub make_app : App
make_app =
    with_rule (with_rule (new_app (codes "make")) (number_rule (codes "seed") 0 18446744073709551615 (codes "1")))
    (number_rule (codes "count") 0 10000000 (codes "1000"))

-- the options among its matches
abbrev pub make_options_in : List Row → Option MakeOptions
make_options_in rows =
    option_and_then (λ seed. option_map (λ count. record { seed = seed; count = count })
    (number_in 4294967295 (codes "count") rows))
    (number_in 18446744073709551615 (codes "seed") rows)

abbrev pub IsInRange : MakeOptions → Type 0
IsInRange options = (options.seed ≤ 18446744073709551615) × (options.count ≤ 10000000)
