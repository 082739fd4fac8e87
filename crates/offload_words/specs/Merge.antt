-- The subcommand merge.
use Rattle.std.specs.Prelude.{ℕ, ◌≤◌, Bool, true, ◌&&◌, is_some, List, Option, IfSome, codes, option_and_then}
use Rattle.std.specs.Prelude.{option_map}
use Rattle.std.specs.Option.{option_map_or}
use Rattle.clap.specs.Words.{App, Row, new_app, with_rule}
use Rattle.frame_layout.specs.Choice.{IsChoice}
use Rattle.frame_layout.specs.declared.choice.Choice.{Choice}
use Rattle.tap_filter.specs.declared.instr.Instr.{Instr}
use Rattle.offload_words.specs.Numbers.{number_in, number_rule}
use Rattle.offload_words.specs.Texts.{text_rule}
use Rattle.offload_words.specs.Blocks.{blocks_rule, AreBlocks}
use Rattle.offload_words.specs.Filter.{filter_in}
use Rattle.offload_words.specs.Rss.{choice_in}
use Rattle.offload_words.specs.declared.merge.MergeOptions.{MergeOptions}

-- ---- what clap is told

-- the options that take a number
abbrev pub with_merge_numbers : App → App
with_merge_numbers a =
    with_rule (with_rule (with_rule (with_rule (with_rule (with_rule a (number_rule (codes "queues") 1 64 (codes "1")))
    (number_rule (codes "budget") 1 4096 (codes "64"))) blocks_rule) (number_rule (codes "taps") 0 8 (codes "0")))
    (number_rule (codes "snap") 1 2048 (codes "64"))) (number_rule (codes "segs") 1 4096 (codes "4096"))

-- a subcommand with the options of merge
abbrev pub with_merge_rules : App → App
with_merge_rules a =
    with_rule (with_rule (with_rule (with_merge_numbers a) (text_rule (codes "filter"))) (text_rule (codes "rss")))
    (text_rule (codes "table"))

abbrev pub merge_app : App
merge_app = with_merge_rules (new_app (codes "merge"))

-- ---- the options among its matches

abbrev pub queues_in : List Row → Option ℕ
queues_in rows = number_in 4294967295 (codes "queues") rows

-- over these queues, with this choice and this filter
abbrev pub merge_numbers_in : List Row → ℕ → Choice → Option (List Instr) → Option MergeOptions
merge_numbers_in rows queues choice filter =
    option_and_then (λ budget. option_and_then (λ blocks. option_and_then (λ taps. option_and_then (λ snap.
    option_map (λ segs. record {
      queues = queues;
      budget = budget;
      blocks = blocks;
      taps = taps;
      snap = snap;
      segs = segs;
      choice = choice;
      filter = filter;
    }) (number_in 4294967295 (codes "segs") rows)) (number_in 4294967295 (codes "snap") rows))
    (number_in 4294967295 (codes "taps") rows)) (number_in 4294967295 (codes "blocks") rows))
    (number_in 4294967295 (codes "budget") rows)

-- none where a text isn't as it must be
abbrev pub merge_options_in : List Row → Option MergeOptions
merge_options_in rows =
    option_and_then (λ queues. option_and_then (λ choice. option_and_then (λ filter.
    merge_numbers_in rows queues choice filter) (filter_in rows)) (choice_in queues rows)) (queues_in rows)

-- the texts are as they must be: a filter that no test refuses, a hash key and a table of queues, and no table without
-- a key
abbrev pub are_right_texts : List Row → Bool
are_right_texts rows =
    option_map_or (λ queues. is_some (choice_in queues rows)) (queues_in rows) true && is_some (filter_in rows)

-- ---- what holds of them

abbrev pub AreQueues : ℕ → Type 0
AreQueues queues = (1 ≤ queues) × (queues ≤ 64)

abbrev pub AreQueuesIn : List Row → Type 0
AreQueuesIn rows = IfSome (queues_in rows) AreQueues

abbrev pub IsInRange : MergeOptions → Type 0
IsInRange options =
    (1 ≤ options.queues) × (options.queues ≤ 64) × (1 ≤ options.budget) × (options.budget ≤ 4096)
    × AreBlocks options.blocks × (options.taps ≤ 8) × (1 ≤ options.snap) × (options.snap ≤ 2048)
    × (1 ≤ options.segs) × (options.segs ≤ 4096) × IsChoice options.queues options.choice
