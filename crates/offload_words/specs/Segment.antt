-- The subcommand segment.
use Rattle.std.specs.Prelude.{List, Option, codes, option_map}
use Rattle.clap.specs.Words.{App, Row, new_app, with_rule}
use Rattle.offload_words.specs.Numbers.{number_in}
use Rattle.offload_words.specs.Blocks.{blocks_rule, AreBlocks}
use Rattle.offload_words.specs.declared.segment.SegmentOptions.{SegmentOptions}

abbrev pub segment_app : App
segment_app = with_rule (new_app (codes "segment")) blocks_rule

-- the options among its matches
abbrev pub segment_options_in : List Row → Option SegmentOptions
segment_options_in rows = option_map (λ n. record { blocks = n }) (number_in 4294967295 (codes "blocks") rows)

abbrev pub IsInRange : SegmentOptions → Type 0
IsInRange options = AreBlocks options.blocks
