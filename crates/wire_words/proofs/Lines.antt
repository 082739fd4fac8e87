-- A line of words, by what clap answers.
use Rattle.std.proofs.Common.{◌≡◌, ◌≢◌, ◌∙◌, true, refl, sym, ap, subst, List, [], ◌∷◌, Option, Some, None, ⊎_elim, Result, Ok, Err, IfOk}
use Rattle.clap.specs.Walk.{Row, Text}
use Rattle.clap.specs.Simple.{App}
use Rattle.clap.specs.Words.{HasKind, IsAmong, is_simple, is_simple_and_free, kind_of, matches_of}
use Rattle.clap.specs.Kinds.{Kinds}
use Rattle.clap.specs.Faults.{fault_of}
use Rattle.clap.specs.declared.Error.{Error}
use Rattle.clap.specs.declared.error.ErrorKind.TheVariants.{OutOfMemory}
use Rattle.clap.proofs.OnLiterals.{clap_on_literals}
use Rattle.clap.proofs.WalkLemmas.{both}
use Rattle.offload_words.specs.Reading.{Reads}
use Rattle.offload_words.specs.declared.fault.WordsFault.{WordsFault}
use Rattle.offload_words.specs.declared.fault.WordsFault.TheVariants.{Usage, NoMemory}
use Rattle.wire_words.specs.declared.words.WireOptions.{WireOptions}
use Rattle.wire_words.specs.Options.{options_by, options_in, options_unless, wire_app, wire_options_of}

-- a line without a fault asks for what its matches say
asks : (a : App) (words : List Text) → fault_of a words ≡ [] → options_by a words ≡ options_in (matches_of a words)
unfolding options_by
asks a words none = rw none refl

-- and one with a fault asks for nothing
asks_nothing : (a : App) (words : List Text) → fault_of a words ≢ [] → options_by a words ≡ None
unfolding options_by
asks_nothing a words faulty = go (fault_of a words) (options_in (matches_of a words)) faulty
  where
    go : (k : Kinds) (r : Option WireOptions) → k ≢ [] → options_unless k r ≡ None
    go [] r faulty = absurd (faulty refl)
    go (x ∷ xs) r faulty = refl

pub simple_of : (a : App) → is_simple_and_free a ≡ true → is_simple a ≡ true
simple_of a e = (both _ _ e).0

pub wire_is_simple : is_simple_and_free wire_app ≡ true
unfolding clap_on_literals
wire_is_simple = refl

-- what clap's `Ok` and `Err` say of the options
pub of_ok : (a : App) (words : List Text) (rows : List Row) (r : Result WireOptions WordsFault) → a ≡ wire_app → fault_of a words ≡ [] → rows ≡ matches_of a words
    → Reads r (options_in rows) → Reads r (wire_options_of words)
of_ok a words rows r is none same h =
    subst (λ (x : App). Reads r (options_by x words)) is
    (subst (λ (o : Option WireOptions). Reads r o) (sym (asks a words none ∙ ap options_in (sym same))) h)

pub of_err : (a : App) (words : List Text) (e : Error) → a ≡ wire_app → HasKind (fault_of a words) e → kind_of e ≢ OutOfMemory → wire_options_of words ≡ None
of_err a words e is has other =
    subst (λ (x : App). options_by x words ≡ None) is
    (asks_nothing a words (λ none. ⊎_elim other (λ (among : IsAmong (kind_of e) (fault_of a words)). subst (λ (k : Kinds). IsAmong (kind_of e) k) none among) has))
