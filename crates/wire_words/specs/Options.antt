-- The command line of wire, as clap's own functions read it.
use Rattle.std.specs.Prelude.{ℕ, ◌≤◌, Bool, false, true, ◌&&◌, nat_le, List, [], ◌∷◌, Option, Some, None, codes}
use Rattle.std.specs.Prelude.{if◌then◌else◌, option_and_then}
use Rattle.std.specs.Str.{bytes_eq}
use Rattle.clap.specs.Words.{App, Kinds, Row, Rule, Text, fault_of, first_of, matches_of, new_app, new_rule, with_rule}
use Rattle.clap.specs.declared.builder.ArgAction.TheVariants.{Set, SetTrue}
use Rattle.clap.specs.declared.builder.Command as clap_command
use Rattle.clap.specs.declared.builder.Command.TheViews.{out-Command}
use Rattle.offload_words.specs.Numbers.{number_in, number_rule}
use Rattle.wire_words.specs.declared.words.WireOptions.{WireOptions}

-- ---- what clap is told

-- an option --id with one value, any text, and a text where it isn't given
abbrev pub default_text_rule : Text → Text → Rule
default_text_rule id default = record (new_rule id) { long = Some id; action = Some Set; defaults = default ∷ [] }

-- a flag --id
abbrev pub flag_rule : Text → Rule
flag_rule id = record (new_rule id) { long = Some id; action = Some SetTrue }

abbrev pub numbers_app : App
numbers_app = with_rule (with_rule (new_app (codes "wire")) (number_rule (codes "mss") 1 65535 (codes "1448")))
    (number_rule (codes "blocks") 1 65536 (codes "131"))

abbrev pub wire_app : App
wire_app = with_rule (with_rule numbers_app (default_text_rule (codes "sums") (codes "partial")))
    (flag_rule (codes "summary"))

-- whether clap's command passes options down to its subcommands
abbrev pub has_globals_of : clap_command.Command → Bool
has_globals_of c = (out-Command c).has_globals

-- ---- what a line asks for

-- which sums are filled: all, or the partial ones alone
abbrev pub fills_all_by : Option Text → Option Bool
fills_all_by None = None
fills_all_by (Some text) = if bytes_eq text (codes "all") then Some true
    else (if bytes_eq text (codes "partial") then Some false else None)

-- a flag's text is "true" where it is given
abbrev pub is_set_by : Option Text → Bool
is_set_by None = false
is_set_by (Some text) = bytes_eq text (codes "true")

abbrev pub are_in_range : ℕ → ℕ → Bool
are_in_range mss blocks = nat_le 1 mss && (nat_le mss 65535 && (nat_le 1 blocks && nat_le blocks 65536))

abbrev pub options_of : ℕ → Bool → ℕ → Bool → Option WireOptions
options_of mss all blocks summary =
    if are_in_range mss blocks
    then Some (record { wiring = record { mss = mss; fills_all = all }; blocks = blocks; has_summary = summary })
    else None

-- the options among the matches
abbrev pub options_in : List Row → Option WireOptions
options_in rows =
    option_and_then (λ mss. option_and_then (λ blocks. option_and_then
    (λ all. options_of mss all blocks (is_set_by (first_of (codes "summary") rows)))
    (fills_all_by (first_of (codes "sums") rows)))
    (number_in 4294967295 (codes "blocks") rows)) (number_in 4294967295 (codes "mss") rows)

abbrev pub options_unless : Kinds → Option WireOptions → Option WireOptions
options_unless [] options = options
options_unless (fault ∷ faults) options = None

-- the options of a line by a command set: none where clap finds a fault
unfoldable pub options_by : App → List Text → Option WireOptions
options_by a words = options_unless (fault_of a words) (options_in (matches_of a words))

-- the options of a line of wire
abbrev pub wire_options_of : List Text → Option WireOptions
wire_options_of words = options_by wire_app words

-- ---- their ranges

abbrev pub AreInRange : WireOptions → Type 0
AreInRange o = (1 ≤ o.wiring.mss) × (o.wiring.mss ≤ 65535) × (1 ≤ o.blocks) × (o.blocks ≤ 65536)
