-- The text of a filter has digits, spaces and commas alone, so it is UTF-8.
use Rattle.std.proofs.Common.{◌≡◌, ℕ, ◌<◌, Bool, true, false, ◌&&◌, if◌then◌else◌, List, [], ◌∷◌, Option, None, Some, IsSome, is_some, option_and_then, IsUtf8, IsAscii, refl, ap, subst, arith}
use Rattle.std.specs.Prelude.{◌==◌, ◌^◌, length}
use Rattle.std.specs.List.{slice_split, join_with_byte, AllByRecursion}
use Rattle.std.specs.Str.{all_ascii_digits}
use Rattle.std.specs.Str.Parse.{digits_value}
use Rattle.std.proofs.lemmas.List.Splits.{join_with_byte-slice_split}
use Rattle.std.proofs.lemmas.Str.{IsUtf8-from_ascii, IsAscii-append}
use Rattle.std.proofs.lemmas.Str.Ascii.{IsAscii-nil, IsAscii-cons}
use Rattle.std.proofs.lemmas.Str.Parse.{tells_all_ascii_digits}
use Rattle.tap_filter.specs.declared.instr.Instr.{Instr}
use Rattle.tap_filter.specs.Text.{is_number, number_in, if_below, field_in, instr_of, instr_by, instr_in, words_of, in_front, instrs_by, lines_of, if_counted, code_by, code_in}
use Rattle.tap_filter.specs.Refusal.{program_by}
use Rattle.offload_c.specs.Options.{IsFilter}

nothing : {A : Type 0} → false ≡ true → A
nothing e = absurd cc

-- ---- parts

joined : (c : ℕ) → c < 128 → (parts : List (List ℕ)) → AllByRecursion IsAscii parts → IsAscii (join_with_byte c parts)
joined c small [] all = IsAscii-nil
joined c small (x ∷ []) all = all.0
joined c small (x ∷ y ∷ xs) all =
    IsAscii-append x (c ∷ join_with_byte c (y ∷ xs)) all.0 (IsAscii-cons c (join_with_byte c (y ∷ xs)) small (joined c small (y ∷ xs) all.1))

parted : (c : ℕ) → c < 128 → (bs : List ℕ) → AllByRecursion IsAscii (slice_split (λ b. b == c) bs) → IsAscii bs
parted c small bs all = subst IsAscii (join_with_byte-slice_split c bs) (joined c small (slice_split (λ b. b == c) bs) all)

-- ---- numbers

last_of : (a b c : Bool) → (a && (b && c)) ≡ true → c ≡ true
last_of true true c e = e
last_of true false c e = absurd cc
last_of false b c e = absurd cc

of_digits : (ds : List ℕ) → all_ascii_digits ds ≡ true → IsAscii ds
of_digits [] e = IsAscii-nil
of_digits (d ∷ ds) e = let k = tells_all_ascii_digits.parts d ds e in IsAscii-cons d ds (omega (arith, k.0.1)) (of_digits ds k.1)

of_number : (word : List ℕ) → IsSome (number_in word) → IsAscii word
of_number word some = by (is_number word) refl some
  where
    by : (v : Bool) → is_number word ≡ v → IsSome (if v then Some (digits_value 10 word) else None) → IsAscii word
    by true e s = of_digits word (last_of _ _ (all_ascii_digits word) e)
    by false e s = nothing s

of_field : (limit : ℕ) (word : List ℕ) → IsSome (field_in limit word) → IsAscii word
of_field limit word some = by (number_in word) refl some
  where
    by : (r : Option ℕ) → number_in word ≡ r → IsSome (option_and_then (if_below limit) r) → IsAscii word
    by None e s = nothing s
    by (Some n) e s = of_number word (ap is_some e)

-- ---- lines

all_four : (a b c d : Option ℕ) → IsSome (instr_of a b c d) → IsSome a × IsSome b × IsSome c × IsSome d
all_four (Some a) (Some b) (Some c) (Some d) some = (refl, refl, refl, refl)
all_four None b c d some = nothing some
all_four (Some a) None c d some = nothing some
all_four (Some a) (Some b) None d some = nothing some
all_four (Some a) (Some b) (Some c) None some = nothing some

of_words : (words : List (List ℕ)) → IsSome (instr_by words) → AllByRecursion IsAscii words
of_words [] some = nothing some
of_words (a ∷ []) some = nothing some
of_words (a ∷ b ∷ []) some = nothing some
of_words (a ∷ b ∷ c ∷ []) some = nothing some
of_words (a ∷ b ∷ c ∷ d ∷ []) some =
    let all = all_four (field_in (2 ^ 16) a) (field_in (2 ^ 8) b) (field_in (2 ^ 8) c) (field_in (2 ^ 32) d) some in
    (of_field (2 ^ 16) a all.0, (of_field (2 ^ 8) b all.1, (of_field (2 ^ 8) c all.2, (of_field (2 ^ 32) d all.3, tt))))
of_words (a ∷ b ∷ c ∷ d ∷ e ∷ words) some = nothing some

both_some : (i : Option Instr) (more : Option (List Instr)) → IsSome (in_front i more) → IsSome i × IsSome more
both_some None more some = nothing some
both_some (Some i) None some = nothing some
both_some (Some i) (Some is) some = (refl, refl)

of_lines : (lines : List (List ℕ)) → IsSome (instrs_by lines) → AllByRecursion IsAscii lines
of_lines [] some = tt
of_lines (line ∷ lines) some =
    let both = both_some (instr_in line) (instrs_by lines) some in
    (parted 32 (omega arith) line (of_words (words_of line) both.0), of_lines lines both.1)

-- ---- the text

of_counted : (count : List ℕ) (lines : List (List ℕ)) → IsSome (if_counted (number_in count) lines) → AllByRecursion IsAscii (count ∷ lines)
of_counted count lines some = by (number_in count) refl some
  where
    same : (v : Bool) → IsSome (if v then instrs_by lines else None) → IsSome (instrs_by lines)
    same true s = s
    same false s = nothing s

    by : (r : Option ℕ) → number_in count ≡ r → IsSome (if_counted r lines) → AllByRecursion IsAscii (count ∷ lines)
    by None e s = nothing s
    by (Some n) e s = (of_number count (ap is_some e), of_lines lines (same (n == length lines) s))

of_parts : (parts : List (List ℕ)) → IsSome (code_by parts) → AllByRecursion IsAscii parts
of_parts [] some = nothing some
of_parts (count ∷ lines) some = of_counted count lines some

read_first : (r : Option (List Instr)) → IsSome (program_by r) → IsSome r
read_first None some = nothing some
read_first (Some code) some = refl

pub filters_are_utf8 : (text : List ℕ) → IsFilter text → IsUtf8 text
filters_are_utf8 [] filter = IsUtf8-from_ascii [] IsAscii-nil
filters_are_utf8 (c ∷ text) filter =
    IsUtf8-from_ascii (c ∷ text) (parted 44 (omega arith) (c ∷ text) (of_parts (lines_of (c ∷ text)) (read_first (code_in (c ∷ text)) filter)))
