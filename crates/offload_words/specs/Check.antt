-- The subcommand check: the options of merge, and those of a generated capture.
use Rattle.std.specs.Prelude.{◌≤◌, List, Option, IfSome, codes, option_and_then, option_map}
use Rattle.clap.specs.Words.{App, Row, new_app, with_rule}
use Rattle.offload_words.specs.Numbers.{number_in, number_rule, plain_number_rule}
use Rattle.offload_words.specs.Merge.{merge_options_in, with_merge_rules}
use Rattle.offload_words.specs.Merge as merge
use Rattle.offload_words.specs.declared.check.CheckOptions.{CheckOptions}

abbrev pub check_app : App
check_app =
    with_rule (with_rule (with_merge_rules (new_app (codes "check")))
    (plain_number_rule (codes "seed") 0 18446744073709551615))
    (number_rule (codes "count") 0 10000000 (codes "1000"))

-- the options among its matches: there is no seed where none was given
abbrev pub check_options_in : List Row → Option CheckOptions
check_options_in rows =
    option_and_then (λ m. option_map (λ count. record {
      merge = m;
      seed = number_in 18446744073709551615
          (codes "seed") rows;
      count = count;
    })
    (number_in 4294967295 (codes "count") rows)) (merge_options_in rows)

abbrev pub IsInRange : CheckOptions → Type 0
IsInRange options = merge.IsInRange options.merge × IfSome options.seed (λ seed. seed ≤ 18446744073709551615)
    × (options.count ≤ 10000000)
