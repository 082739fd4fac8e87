-- What `get_one` reads is the number of the definition.
use Rattle.std.proofs.Common.{◌≡◌, ℕ, ◌+◌, ◌<◌, ◌^◌, Bool, true, false, true≢false, List, Option, Some, None, Result, Ok, Err, sym, refl, ap, ◌∙◌, arith, if◌then◌else◌, option_and_then}
use Rattle.std.specs.Str.Parse.{ParsesUnsigned, digits_value, without_leading_plus}
use Rattle.clap.specs.ValueTests.{accepts}
use Rattle.clap.specs.Words.{Text}
use Rattle.clap.specs.Matches.{ReadsOne}
use Rattle.clap.specs.declared.builder.value_parser.ValueParser.TheVariants as vp
use Rattle.clap.proofs.ValueTestLemmas.{accepts-Accepts, Accepts-accepts}
use Rattle.offload_words.specs.Numbers.{number_of}

read_number : {E : Type 0} (w limit : ℕ) (G : List ℕ → Result ℕ E → Type 0) (t : Text) (r : Option ℕ) → limit + 1 ≡ 2 ^ w → limit < 2 ^ 64
    → ((u : Text) (x : Result ℕ E) → G u x → ParsesUnsigned w 10 u x) → ReadsOne G t r → r ≡ number_of limit t
unfolding number_of
read_number {E} w limit G t r fits wide only h = go (accepts false (vp.Unsigned 0 limit) t) refl r h
  where
    go : (b : Bool) → accepts false (vp.Unsigned 0 limit) t ≡ b → (o : Option ℕ) → ReadsOne G t o → o ≡ (if b then Some (digits_value 10 (without_leading_plus t)) else None)
    go true e (Some v) g = ap Some (only t (Ok v) g).1
    go true e None g =
        let a = accepts-Accepts false (vp.Unsigned 0 limit) t e in
        let small : digits_value 10 (without_leading_plus t) < 2 ^ w = omega (arith, a.3) in
        absurd (only t (Err g.0) g.1 (a.0, small))
    go false e (Some v) g =
        let p = (only t (Ok v) g).0 in
        let small : digits_value 10 (without_leading_plus t) < 2 ^ w = p.1 in
        let back = Accepts-accepts false (vp.Unsigned 0 limit) t (p.0, omega (arith, small), omega arith, omega (arith, small)) in
        absurd (true≢false (sym back ∙ e))
    go false e None g = refl

-- `get_one`, where the option has a text and where it has none
pub one_number : {E : Type 0} (w limit : ℕ) (G : List ℕ → Result ℕ E → Type 0) (o : Option Text) (r : Option ℕ) → limit + 1 ≡ 2 ^ w → limit < 2 ^ 64
    → ((u : Text) (x : Result ℕ E) → G u x → ParsesUnsigned w 10 u x) → (o ≡ None → r ≡ None) → ((t : Text) → o ≡ Some t → ReadsOne G t r)
    → r ≡ option_and_then (number_of limit) o
one_number w limit G None r fits wide only none some = none refl
one_number w limit G (Some t) r fits wide only none some = read_number w limit G t r fits wide only (some t refl)
