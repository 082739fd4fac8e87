-- The command set of offload, as clap's own functions read it.
use Rattle.std.specs.Prelude.{◌≡◌, ◌↔◌, Bool, true, List, [], ◌∷◌, Option, None, IsSome, codes, if◌then◌else◌}
use Rattle.std.specs.Prelude.{option_and_then, option_map}
use Rattle.std.specs.Option.{option_map_or}
use Rattle.std.specs.Str.{bytes_eq}
use Rattle.clap.specs.Words.{App, Kinds, Row, Text, fault_of, new_app, subcommand_of, with_subcommand}
use Rattle.clap.specs.declared.builder.Command as clap_command
use Rattle.clap.specs.declared.builder.Command.TheViews.{out-Command}
use Rattle.offload_words.specs.Merge.{IsInRange, are_right_texts, merge_app, merge_options_in}
use Rattle.offload_words.specs.Segment.{segment_app, segment_options_in}
use Rattle.offload_words.specs.Segment as segment
use Rattle.offload_words.specs.Check.{check_app, check_options_in}
use Rattle.offload_words.specs.Check as check
use Rattle.offload_words.specs.Make.{make_app, make_options_in}
use Rattle.offload_words.specs.Make as make
use Rattle.offload_words.specs.declared.words.Command.{Command}
use Rattle.offload_words.specs.declared.words.Command.TheVariants.{Merge, Segment, Check, Make}

-- ---- what clap is told

-- one subcommand is required
abbrev pub needs_subcommand : App → App
needs_subcommand a = record a { top = record a.top { subcommand_required = true } }

-- the program, with a subcommand for each command that reads a capture
abbrev pub reading_app : App
reading_app = with_subcommand (with_subcommand (with_subcommand
    (needs_subcommand (new_app (codes "offload"))) merge_app.top) segment_app.top) check_app.top

-- and with one for the command that makes a capture
abbrev pub offload_app : App
offload_app = with_subcommand reading_app make_app.top

-- whether clap's command passes options down to its subcommands
abbrev pub has_globals_of : clap_command.Command → Bool
has_globals_of c = (out-Command c).has_globals

-- ---- what a line asks for

-- the command of a subcommand's name and its matches
unfoldable pub command_named : Text → List Row → Option Command
command_named name rows =
    if bytes_eq name (codes "merge") then option_map Merge (merge_options_in rows)
    else (if bytes_eq name (codes "segment") then option_map Segment (segment_options_in rows)
    else (if bytes_eq name (codes "check") then option_map Check (check_options_in rows)
    else (if bytes_eq name (codes "make") then option_map Make (make_options_in rows)
    else None)))

abbrev pub command_unless : Kinds → Option Command → Option Command
command_unless [] command = command
command_unless (fault ∷ faults) command = None

-- the command of a line by a command set: none where clap finds a fault, else that of the subcommand and its matches
unfoldable pub command_by : App → List Text → Option Command
command_by a words = command_unless (fault_of a words) (option_and_then (λ p. command_named p.0 p.1)
    (subcommand_of a words))

-- the command of a line of offload
abbrev pub command_of : List Text → Option Command
command_of words = command_by offload_app words

-- what holds of the values of a command
abbrev pub HasRanges : Command → Type 0
HasRanges (Merge options) = IsInRange options
HasRanges (Segment options) = segment.IsInRange options
HasRanges (Check options) = check.IsInRange options
HasRanges (Make options) = make.IsInRange options

-- whether the texts of a line are as they must be, at the subcommand that it names
abbrev pub has_right_texts : List Text → Bool
has_right_texts words = option_map_or (λ p. are_right_texts p.1) (subcommand_of offload_app words) true

-- a line without a fault asks for a command exactly where its texts are as they must be
abbrev pub FaultlessLinesAreCommands : Type 0
FaultlessLinesAreCommands =
    (words : List Text) → fault_of offload_app words ≡ [] → (has_right_texts words ≡ true) ↔ IsSome (command_of words)
