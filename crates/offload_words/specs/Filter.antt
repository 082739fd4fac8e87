-- The option --filter: what taps are shown of each record.
use Rattle.std.specs.Prelude.{List, Option, Some, None, codes, option_map}
use Rattle.tap_filter.specs.declared.instr.Instr.{Instr}
use Rattle.tap_filter.specs.Refusal.{program_in}
use Rattle.clap.specs.Words.{Row, Text, first_of}

abbrev pub filter_by : Option Text → Option (Option (List Instr))
filter_by None = Some None
filter_by (Some text) = option_map Some (program_in text)

-- the program that the text at the option lists, none within where it isn't given; none at all where the text is
-- refused
unfoldable pub filter_in : List Row → Option (Option (List Instr))
filter_in rows = filter_by (first_of (codes "filter") rows)
