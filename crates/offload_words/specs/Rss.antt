-- The options --rss and --table: how flows go to queues. As receive-side scaling has it, a Toeplitz hash under a key is
-- a place in a table of queues.
use Rattle.std.specs.Prelude.{◌≡◌, ◌<◌, ◌++◌, ℕ, ◌+◌, ◌-◌, ◌*◌, Bool, ◌&&◌, ◌==◌, nat_le, nat_lt, if◌then◌else◌, Option}
use Rattle.std.specs.Prelude.{Some, None, option_and_then, option_map, List, [], ◌∷◌, length, codes}
use Rattle.std.specs.List.{fold, list_all, slice_split}
use Rattle.clap.specs.Words.{Row, Text, first_of}
use Rattle.frame_layout.specs.Choice.{even_table_of}
use Rattle.frame_layout.specs.declared.choice.Choice.{Choice}
use Rattle.frame_layout.specs.declared.choice.Choice.TheVariants.{Fold, Toeplitz}

-- ---- a hash key: 80 lower-case hexadecimal digits, two for each byte

abbrev pub hex_digit : ℕ → Option ℕ
hex_digit c =
    if nat_le 48 c && nat_le c 57 then Some (c - 48) else (if nat_le 97 c && nat_le c 102 then Some (c - 87) else None)

abbrev pub hex_byte : ℕ → ℕ → Option ℕ
hex_byte a b = option_and_then (λ high. option_map (λ low. 16 * high + low) (hex_digit b)) (hex_digit a)

abbrev pub hex_bytes : Text → Option (List ℕ)
hex_bytes [] = Some []
hex_bytes (a ∷ []) = None
hex_bytes (a ∷ b ∷ text) = option_and_then (λ byte. option_map (λ bytes. byte ∷ bytes) (hex_bytes text)) (hex_byte a b)

abbrev pub hash_key_in : Text → Option (List ℕ)
hash_key_in text = if length text == 80 then hex_bytes text else None

-- ---- a table: 1 to 128 decimal numbers with commas between, each the number of a queue

abbrev pub entry_texts : Text → List Text
entry_texts text = slice_split (λ c. c == 44) text

abbrev pub is_digit : ℕ → Bool
is_digit c = nat_le 48 c && nat_le c 57

abbrev pub value_of : Text → ℕ
value_of digits = fold (λ n c. n * 10 + (c - 48)) 0 digits

-- one to three digits, of a number below this many queues
abbrev pub entry_in : ℕ → Text → Option ℕ
entry_in queues text =
    if (nat_le 1 (length text) && nat_le (length text) 3) && (list_all is_digit text && nat_lt (value_of text) queues)
    then Some (value_of text) else None

abbrev pub entries_in : ℕ → List Text → Option (List ℕ)
entries_in queues [] = Some []
entries_in queues (text ∷ texts) = option_and_then (λ n. option_map (λ ns. n ∷ ns) (entries_in queues texts))
    (entry_in queues text)

abbrev pub at_most : ℕ → List ℕ → Option (List ℕ)
at_most most entries = if nat_le (length entries) most then Some entries else None

abbrev pub table_in : ℕ → Text → Option (List ℕ)
table_in queues text = option_and_then (at_most 128) (entries_in queues (entry_texts text))

-- an entry more, which is what the text writes, where there is room for it
abbrev pub Adds : ℕ → Text → List ℕ → List ℕ → Type 0
Adds queues text old new = (n : ℕ) × (entry_in queues text ≡ Some n) × (length old < 128) × (new ≡ old ++ n ∷ [])

-- where no text says one, the queues stand in it in turn
abbrev pub table_by : ℕ → Option Text → Option (List ℕ)
table_by queues None = Some (even_table_of queues)
table_by queues (Some text) = table_in queues text

-- ---- the choice by the texts of both options: none where one isn't as it must be, or a table stands without a key

unfoldable pub choice_by : ℕ → Option Text → Option Text → Option Choice
choice_by queues None None = Some Fold
choice_by queues None (Some table) = None
choice_by queues (Some key) table =
    option_and_then (λ k. option_map (λ t. Toeplitz k (record { items = t })) (table_by queues table)) (hash_key_in key)

abbrev pub choice_in : ℕ → List Row → Option Choice
choice_in queues rows = choice_by queues (first_of (codes "rss") rows) (first_of (codes "table") rows)
