-- The number at an option that takes one and has a default: there is one, in the option's range.
use Rattle.std.proofs.Common.{◌≡◌, ◌∙◌, ◌==◌, ◌&&◌, ◌||◌, ◌<◌, ◌≤◌, ◌^◌, ℕ, Bool, eqb-true, true, false, not, true≢false, refl, sym, ap, subst, arith, List, [], ◌∷◌, Option, Some, None, ⊎_elim}
use Rattle.std.proofs.Common.{if◌then◌else◌}
use Rattle.std.specs.Prelude.{find, option_and_then, IfSome}
use Rattle.std.specs.List.{list_all}
use Rattle.std.specs.Str.Parse.{IsNumeral, digits_value, without_leading_plus}
use Rattle.clap.specs.ValueTests.{accepts}
use Rattle.clap.proofs.WalkLemmas.{both}
use Rattle.clap.proofs.ValueTestLemmas.{accepts-Accepts, Accepts-accepts}
use Rattle.clap.specs.declared.builder.value_parser.ValueParser.{ValueParser}
use Rattle.clap.specs.declared.builder.value_parser.ValueParser.TheVariants as vp
use Rattle.offload_words.specs.Numbers.{number_in, number_of}
use Rattle.std.specs.Str.{bytes_eq}
use Rattle.clap.specs.Facts.{parser_of_value}
use Rattle.clap.specs.Walk.{Row, Rule, Text, has_row, one_of, row_text}
use Rattle.clap.specs.Takes.{value_passes}
use Rattle.offload_words.proofs.OptionRows.{AllFit, Fits, FitsOne}

abbrev is_unsigned : ℕ → ℕ → Option ValueParser → Bool
is_unsigned low high (Some (vp.Unsigned l h)) = (l == low) && (h == high)
is_unsigned low high _ = false

-- an argument of this id takes the numbers from low to high
abbrev pub is_ranged : Text → ℕ → ℕ → Rule → Bool
is_ranged id low high a = not (bytes_eq a.id id) || (not a.ignore_case && is_unsigned low high a.parser)

abbrev pub InBounds : ℕ → ℕ → Text → Type 0
InBounds low high v = IsNumeral 10 (without_leading_plus v) × (digits_value 10 (without_leading_plus v) < 2 ^ 64)
    × (low ≤ digits_value 10 (without_leading_plus v)) × (digits_value 10 (without_leading_plus v) ≤ high)

bounds_of : (low high : ℕ) (a : Rule) (v : Text) → (not a.ignore_case && is_unsigned low high a.parser) ≡ true → value_passes a v ≡ true → InBounds low high v
bounds_of low high a v is ok = go a.parser (both _ _ is).1 ok
  where
    go : (p : Option ValueParser) → is_unsigned low high p ≡ true → accepts a.ignore_case (parser_of_value p) v ≡ true → InBounds low high v
    go (Some (vp.Unsigned l h)) is ok =
        let b = both (l == low) (h == high) is in
        let q = accepts-Accepts a.ignore_case (vp.Unsigned l h) v ok in
        let x : l ≡ low = eqb-true _ _ b.0 in
        let y : h ≡ high = eqb-true _ _ b.1 in
        subst (λ (n : ℕ). InBounds n high v) x (subst (λ (n : ℕ). InBounds l n v) y q)
    go None is ok = absurd (true≢false (sym is))
    go (Some (vp.Signed l h)) is ok = absurd (true≢false (sym is))
    go (Some vp.String) is ok = absurd (true≢false (sym is))
    go (Some vp.Falsey) is ok = absurd (true≢false (sym is))
    go (Some vp.NonEmptyString) is ok = absurd (true≢false (sym is))
    go (Some vp.Bool) is ok = absurd (true≢false (sym is))
    go (Some vp.Boolish) is ok = absurd (true≢false (sym is))
    go (Some vp.Float) is ok = absurd (true≢false (sym is))
    go (Some vp.Char) is ok = absurd (true≢false (sym is))
    go (Some (vp.Names names)) is ok = absurd (true≢false (sym is))
    go (Some (vp.Values values)) is ok = absurd (true≢false (sym is))

-- the first row of an id
row_found : (c : List Rule) (id : Text) (rows : List Row) → AllFit c rows → has_row id rows ≡ true
    → (r : Row) × (find (λ (x : Row). bytes_eq x.id id) rows ≡ Some r) × FitsOne c r × (bytes_eq r.id id ≡ true)
row_found c id [] fit e = absurd (true≢false (sym e))
row_found c id (x ∷ xs) fit e = go (bytes_eq x.id id) refl e (row_found c id xs fit.1)
  where
    go : (b : Bool) → bytes_eq x.id id ≡ b → (b || has_row id xs) ≡ true
        → (has_row id xs ≡ true → (r : Row) × (find (λ (y : Row). bytes_eq y.id id) xs ≡ Some r) × FitsOne c r × (bytes_eq r.id id ≡ true))
        → (r : Row) × ((if b then Some x else find (λ (y : Row). bytes_eq y.id id) xs) ≡ Some r) × FitsOne c r × (bytes_eq r.id id ≡ true)
    go true is e later = (x, refl, fit.0, is)
    go false is e later = later e

-- its value
value_of : (c : List Rule) (id : Text) (low high : ℕ) (r : Row) → list_all (is_ranged id low high) c ≡ true → bytes_eq r.id id ≡ true → FitsOne c r
    → (v : Text) × (row_text r ≡ Some v) × InBounds low high v
value_of [] id low high r ranged is good = absurd good
value_of (a ∷ c) id low high r ranged is good = ⊎_elim here (value_of c id low high r (both _ _ ranged).1 is) good
  where
    here : Fits a r → (v : Text) × (row_text r ≡ Some v) × InBounds low high v
    here f =
        let mine : bytes_eq a.id id ≡ true = subst (λ (t : Text). bytes_eq t id ≡ true) f.0 is in
        let bound : (not a.ignore_case && is_unsigned low high a.parser) ≡ true = subst (λ (b : Bool). (not b || (not a.ignore_case && is_unsigned low high a.parser)) ≡ true) mine
        (both _ _ ranged).0 in
        let first : row_text r ≡ Some f.2.0 = rw (f.1, f.2.1) refl in
        (f.2.0, first, bounds_of low high a f.2.0 bound f.2.2)

-- whatever stands at an option, a number that is read there is within the limit
of_at_most : (limit : ℕ) (t : Text) → IfSome (number_of limit t) (λ n. n ≤ limit)
unfolding number_of
of_at_most limit t = go (accepts false (vp.Unsigned 0 limit) t) refl
  where
    go : (b : Bool) → accepts false (vp.Unsigned 0 limit) t ≡ b → IfSome (if b then Some (digits_value 10 (without_leading_plus t)) else None) (λ n. n ≤ limit)
    go true e = (accepts-Accepts false (vp.Unsigned 0 limit) t e).3
    go false e = tt

pub at_most_limit : (limit : ℕ) (id : Text) (rows : List Row) → IfSome (number_in limit id rows) (λ n. n ≤ limit)
at_most_limit limit id rows = go (one_of id rows)
  where
    go : (o : Option Text) → IfSome (option_and_then (number_of limit) o) (λ n. n ≤ limit)
    go None = tt
    go (Some t) = of_at_most limit t

-- at an option with a default there is a number in its range
pub number_read : (c : List Rule) (id : Text) (limit low high : ℕ) (rows : List Row) → high ≤ limit → list_all (is_ranged id low high) c ≡ true → AllFit c rows → has_row id rows ≡ true
    → (n : ℕ) × (number_in limit id rows ≡ Some n) × (low ≤ n) × (n ≤ high)
unfolding number_of
number_read c id limit low high rows within ranged fit has =
    let f = row_found c id rows fit has in
    let v = value_of c id low high f.0 ranged f.3 f.2 in
    let text : one_of id rows ≡ Some v.0 = ap (option_and_then row_text) f.1 ∙ v.1 in
    let b = v.2 in
    let n = digits_value 10 (without_leading_plus v.0) in
    let most : n ≤ high = b.3 in
    let all : accepts false (vp.Unsigned 0 limit) v.0 ≡ true = Accepts-accepts false (vp.Unsigned 0 limit) v.0 (b.0, b.1, omega arith, omega (arith, most, within)) in
    let is : number_of limit v.0 ≡ Some n = rw all refl in
    (n, ap (option_and_then (number_of limit)) text ∙ is, b.2, b.3)

-- and where no text stands there is none
pub no_number : (limit : ℕ) (id : Text) (rows : List Row) → one_of id rows ≡ None → number_in limit id rows ≡ None
no_number limit id rows e = ap (option_and_then (number_of limit)) e
