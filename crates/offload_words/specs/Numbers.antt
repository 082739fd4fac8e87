-- An option that takes one number: what clap is told of it, and the number that stands at it among the matches.
use Rattle.std.specs.Prelude.{false, ℕ, List, [], ◌∷◌, Option, Some, None, if◌then◌else◌, option_and_then}
use Rattle.std.specs.Str.Parse.{digits_value, without_leading_plus}
use Rattle.clap.specs.ValueTests.{accepts}
use Rattle.clap.specs.Words.{Row, Rule, Text, new_rule, one_of}
use Rattle.clap.specs.declared.builder.ArgAction.TheVariants.{Set}
use Rattle.clap.specs.declared.builder.value_parser.ValueParser.TheVariants as vp

-- an option --id with one value, a number from low to high
abbrev pub plain_number_rule : Text → ℕ → ℕ → Rule
plain_number_rule id low high = record (new_rule id) {
  long = Some id;
  action = Some Set;
  parser = Some
      (vp.Unsigned low high);
}

-- the same, where the value is the default if the option isn't given
abbrev pub number_rule : Text → ℕ → ℕ → Text → Rule
number_rule id low high default = record (plain_number_rule id low high) { defaults = default ∷ [] }

-- the number that a text writes, where clap takes the text for a number of at most `limit`: decimal digits, with
-- leading zeros and one plus sign as one likes
unfoldable pub number_of : ℕ → Text → Option ℕ
number_of limit text = if accepts false (vp.Unsigned 0 limit) text
    then Some (digits_value 10 (without_leading_plus text)) else None

-- the number that stands at an option among the matches of a level
abbrev pub number_in : ℕ → Text → List Row → Option ℕ
number_in limit id rows = option_and_then (number_of limit) (one_of id rows)
