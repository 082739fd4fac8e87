-- What a level of a parse without a fault leaves, where each argument is an option with one value or a call for help:
-- each row is of an option, and has a first value that this option takes.
use Rattle.std.proofs.Common.{◌≡◌, ◌∙◌, ◌⊎◌, ◌==◌, ◌&&◌, ◌||◌, ℕ, Bool, Decides, ne_eqb, true, false, not, zero, suc, true≢false, refl, sym, ap, subst, arith, List, [], ◌∷◌, ◌++◌, length, drop}
use Rattle.std.proofs.Common.{Option, Some, None, is_some, inl, inr, ⊎_elim, unwrap_or, if◌then◌else◌, append-nil, codes, option_and_then}
use Rattle.std.specs.Prelude.{encode_utf8, slice_get, find, fold, IfSome, ⊤}
use Rattle.std.specs.List.{list_all, list_any}
use Rattle.std.proofs.lemmas.Slice.Eq.{bytes_eq-Decides}
use Rattle.clap.specs.Values.{refused_kind}
use Rattle.clap.proofs.WalkLemmas.{both}
use Rattle.std.specs.Option.{option_map_or}
use Rattle.std.specs.Str.{bytes_eq, chars}
use Rattle.clap.specs.Lexer.{long_of, short_of}
use Rattle.clap.specs.Facts.{parser_of_value, unwrap_or_range}
use Rattle.clap.specs.Walk.{Held, Names, Outcome, Row, Rule, Step, Text, Waiting, Walk, action_of, after_flag, after_step, arg_by_id, arg_by_index, arg_by_long, arg_by_short, at_row, attached_value}
use Rattle.clap.specs.Walk.{bundle, bundle_met, bundle_step, default_rows, done, first_of, flag_met, has_row, idle, is_empty, long_met, long_or_other, more_values, next, nothing_held, one_of, option}
use Rattle.clap.specs.Walk.{option_met, option_word, plain, plain_word, positional, reacted, reading_by, refused, row_text, rows_after, settled, settled_rows, short_met, short_or_plain, subcommand}
use Rattle.clap.specs.Walk.{subcommand_met, subcommand_or_other, takes_values, trailing, used, used_as, used_by_id, value, values_or_missing, waits, walk, walk_from, walked, walked_from, with_default}
use Rattle.clap.specs.Walk.{with_values, without, word_met}
use Rattle.clap.specs.Simple.{Shape}
use Rattle.clap.specs.Takes.{value_passes}
use Rattle.clap.specs.Kinds.{Kinds, or_else, range_kinds, request_kinds, value_kinds}
use Rattle.clap.specs.Faults.{action_fault, bundle_fault, bundle_step_fault, default_fault, defaults_fault, flag_word_fault, flags_fault, given_default_fault, level_fault, long_fault, option_fault}
use Rattle.clap.specs.Faults.{other_fault, positional_fault, react_fault, settle_fault, short_fault, step_fault, stray_fault, turn_fault, use_fault, values_fault, walk_fault, word_fault}
use Rattle.clap.specs.declared.builder.action.ArgAction.{ArgAction}
use Rattle.clap.specs.declared.builder.action.ArgAction.TheVariants.{Set, Help}
use Rattle.clap.specs.declared.builder.range.ValueRange.{ValueRange}
use Rattle.clap.specs.declared.builder.value_parser.Reading.{Reading}
use Rattle.clap.specs.declared.builder.value_parser.Reading.TheVariants.{AsWritten}
use Rattle.clap.specs.declared.error.kind.ErrorKind.{ErrorKind}
use Rattle.clap.specs.declared.error.kind.ErrorKind.TheVariants.{DisplayHelp, InvalidSubcommand, TooManyValues, UnknownArgument}
use Rattle.clap.specs.declared.parser.matches.ValueSource.{ValueSource}
use Rattle.clap.specs.declared.parser.matches.ValueSource.TheVariants.{DefaultValue, CommandLine}

-- ---- small laws

abbrev is_cons : Kinds → Bool
is_cons [] = false
is_cons (k ∷ ks) = true

pub no_kinds : {A : Type 0} (k : ErrorKind) (ks : Kinds) → k ∷ ks ≡ [] → A
no_kinds k ks e = absurd (true≢false (ap is_cons e))

pub parts : (a b : Kinds) → or_else a b ≡ [] → (a ≡ []) × (b ≡ [])
parts [] b e = (refl, e)
parts (k ∷ ks) b e = no_kinds k ks e

neither : (a b : Bool) → (a || b) ≡ false → (a ≡ false) × (b ≡ false)
neither true b e = absurd (true≢false e)
neither false b e = (refl, e)

not_again : (again b : Bool) (k : ErrorKind) → again ≡ false → (if b && not again then k ∷ [] else []) ≡ [] → b ≡ false
not_again again false k off e = refl
not_again true true k off e = absurd (true≢false off)
not_again false true k off e = no_kinds k [] e

passed : (b : Bool) (k : ErrorKind) → (if b then [] else k ∷ []) ≡ [] → b ≡ true
passed true k e = refl
passed false k e = no_kinds k [] e

abbrev pub Exists : {X : Type 0} → (X → Type 0) → List X → Type 0
Exists P [] = ⊥
Exists P (x ∷ xs) = P x ⊎ Exists P xs

abbrev pub Each : {X : Type 0} → (X → Type 0) → List X → Type 0
Each P [] = ⊤
Each P (x ∷ xs) = P x × Each P xs

each_snoc : {X : Type 0} (P : X → Type 0) (xs : List X) (x : X) → Each P xs → P x → Each P (xs ++ x ∷ [])
each_snoc P [] x all here = (here, tt)
each_snoc P (y ∷ ys) x all here = (all.0, each_snoc P ys x all.1 here)

-- what holds of each holds of the one that is found
pub found_each : {X : Type 0} (P : X → Type 0) (p : X → Bool) (xs : List X) (x : X) → Each P xs → find p xs ≡ Some x → P x
found_each P p [] x all e = absurd (true≢false (sym (ap is_some e)))
found_each {X} P p (y ∷ ys) x all e = go (p y) (found_each P p ys x all.1) e
  where
    go : (b : Bool) → (find p ys ≡ Some x → P x) → (if b then Some y else find p ys) ≡ Some x → P x
    go true later e = subst P (ap (λ (o : Option X). unwrap_or o y) e) all.0
    go false later e = later e

none_found : {X : Type 0} (p : X → Bool) (xs : List X) → Each (λ x. p x ≡ false) xs → find p xs ≡ None
none_found p [] all = refl
none_found p (x ∷ xs) all = rw all.0 (none_found p xs all.1)

-- ---- one use

-- the row is of the argument, and its first value passes
abbrev pub Fits : Rule → Row → Type 0
Fits a r = (r.id ≡ a.id) × (r.reading ≡ AsWritten) × ((v : Text) × (slice_get r.values 0 ≡ Some v) × (value_passes a v ≡ true))

abbrev pub FitsOne : List Rule → Row → Type 0
FitsOne c r = Exists (λ a. Fits a r) c

abbrev pub AllFit : List Rule → List Row → Type 0
AllFit c rows = Each (FitsOne c) rows

abbrev TakesOneValue : Rule → Type 0
TakesOneValue a = (a.action ≡ Some Set) × (a.range ≡ Some (record { start_inclusive = 1; end_inclusive = 1 }))

-- an option with one value, or a call for help
abbrev pub IsValueOrHelp : Rule → Type 0
IsValueOrHelp a = (a.index ≡ None) × (reading_by a ≡ AsWritten) × (TakesOneValue a ⊎ (a.action ≡ Some Help))

-- a row that fits the argument is one of the command's
abbrev Covers : List Rule → Rule → Type 0
Covers c a = (r : Row) → Fits a r → FitsOne c r

abbrev pub IsLawful : List Rule → Rule → Type 0
IsLawful c a = IsValueOrHelp a × Covers c a

weaker : {X : Type 0} (P Q : X → Type 0) → ((x : X) → P x → Q x) → (xs : List X) → Each P xs → Each Q xs
weaker P Q f [] all = tt
weaker P Q f (x ∷ xs) all = (f x all.0, weaker P Q f xs all.1)

pub lawful : (c : List Rule) → Each IsValueOrHelp c → Each (IsLawful c) c
lawful [] all = tt
lawful (a ∷ c) all = ((all.0, λ r f. inl f), weaker (IsLawful c) (IsLawful (a ∷ c)) (λ x l. (l.0, λ r f. inr (l.1 r f))) c (lawful c all.1))

at_none : (id : Text) (change : Row → List Row) (missing rows : List Row) → has_row id rows ≡ false → at_row id change missing rows ≡ rows ++ missing
at_none id change missing [] e = refl
at_none id change missing (r ∷ rs) e = let p = neither (bytes_eq r.id id) (has_row id rs) e in rw p.0 (ap (λ (xs : List Row). r ∷ xs) (at_none id change missing rs p.1))

abbrev row_for : Text → Reading → ValueSource → List Text → Row
row_for id how s values = record { id = id; values = values; count = None; source = Some s; reading = how }

with_new : (id : Text) (how : Reading) (s : ValueSource) (values : List Text) (rows : List Row) → has_row id rows ≡ false
    → with_values id how s values rows ≡ rows ++ row_for id how s values ∷ []
with_new id how s values rows e = at_none id (more_values s values) (row_for id how s values ∷ []) rows e

replaced : (id : Text) (how : Reading) (s : ValueSource) (values : List Text) (rows : List Row) → has_row id rows ≡ false
    → with_values id how s values (without id rows) ≡ rows ++ row_for id how s values ∷ []
replaced id how s values rows e =
    let same : without id rows ≡ rows = at_none id (λ _. []) [] rows e ∙ append-nil rows in
    ap (with_values id how s values) same ∙ with_new id how s values rows e

set_fits : (c : List Rule) (again : Bool) (a : Rule) (values : List Text) (rows : List Row) → again ≡ false → IsLawful c a → TakesOneValue a
    → use_fault again a values rows ≡ [] → AllFit c rows → AllFit c (used a values rows)
set_fits c again a [] rows off law one e fit =
    no_kinds _ _ (subst (λ (o : Option ValueRange). range_kinds (unwrap_or_range o).start_inclusive (unwrap_or_range o).end_inclusive 0 ≡ []) one.1 (parts _ _ e).0)
set_fits c again a (v ∷ vs) rows off law one e fit =
    let is : action_of a ≡ Set = ap (λ (o : Option ArgAction). unwrap_or o Set) one.0 in
    let f = subst (λ (x : ArgAction). action_fault x again a (v ∷ vs) rows ≡ []) is (parts _ _ e).1 in
    let g = parts _ _ f in
    let fresh : has_row a.id rows ≡ false = not_again again _ _ off g.0 in
    let ok : value_passes a v ≡ true = passed _ _ (parts _ _ g.1).0 in
    let last = each_snoc (FitsOne c) rows _ fit (law.1 (row_for a.id (reading_by a) CommandLine (v ∷ vs)) (refl, law.0.1, (v, refl, ok))) in
    subst (λ (x : ArgAction). AllFit c (used_as x a.id (reading_by a) (v ∷ vs) rows)) (sym is) (subst (AllFit c) (sym (replaced a.id (reading_by a) CommandLine (v ∷ vs) rows fresh)) last)

use_fits : (c : List Rule) (again : Bool) (a : Rule) (values : List Text) (rows : List Row) → again ≡ false → IsLawful c a
    → use_fault again a values rows ≡ [] → AllFit c rows → AllFit c (used a values rows)
use_fits c again a values rows off law e fit = ⊎_elim (λ one. set_fits c again a values rows off law one e fit) (λ help.
    let is : action_of a ≡ Help = ap (λ (o : Option ArgAction). unwrap_or o Set) help in
    no_kinds _ _ (subst (λ (x : ArgAction). action_fault x again a (values_or_missing a values) rows ≡ []) is (parts _ _ e).1)) law.0.2

-- ---- the walk

module _ (c : List Rule) (again : Bool) (off : again ≡ false) (laws : Each (IsLawful c) c) where
  law_of : (p : Rule → Bool) (a : Rule) → find p c ≡ Some a → IsLawful c a
  law_of p a e = found_each (IsLawful c) p c a laws e

  settled_fits : (h : Held) → settle_fault c again h ≡ [] → AllFit c h.rows → AllFit c (settled_rows c h.pending h.rows)
  settled_fits h = go h.pending
    where
      found : (p : Text × List Text) (f : Option Rule) → arg_by_id c p.0 ≡ f → option_map_or (λ a. use_fault again a p.1 h.rows) f [] ≡ []
          → AllFit c h.rows → AllFit c (used_by_id f p.1 h.rows)
      found p None is e fit = fit
      found p (Some a) is e fit = use_fits c again a p.1 h.rows off (law_of _ a is) e fit

      go : (o : Option (Text × List Text)) → option_map_or (λ (p : Text × List Text). option_map_or (λ a. use_fault again a p.1 h.rows) (arg_by_id c p.0) []) o [] ≡ []
          → AllFit c h.rows → AllFit c (settled_rows c o h.rows)
      go None e fit = fit
      go (Some p) e fit = found p (arg_by_id c p.0) refl e fit

  reacted_fits : (a : Rule) (values : List Text) (h : Held) → IsLawful c a → react_fault c again a values h ≡ [] → AllFit c h.rows → AllFit c (reacted c a values h).rows
  reacted_fits a values h law e fit =
      let p = parts _ _ e in
      use_fits c again a values (settled c h).rows off law p.1 (settled_fits h p.0 fit)

  option_fits : (a : Rule) (v : Option Text) (h : Held) → IsLawful c a → option_fault c again a v h ≡ [] → AllFit c h.rows → AllFit c (option_met c a v h).0.rows
  option_fits a (Some v) h law e fit = reacted_fits a (v ∷ []) h law e fit
  option_fits a None h law e fit = settled_fits h e fit

  long_fits : (f : Option Rule) (v : Option Text) (h : Held) → ((a : Rule) → f ≡ Some a → IsLawful c a) → long_fault c again f v h ≡ [] → AllFit c h.rows → AllFit c (long_met c f v h).0.rows
  long_fits None v h law e fit = fit
  long_fits (Some a) v h law e fit = go (takes_values a) v e
    where
      go : (b : Bool) (v : Option Text) → (if b then option_fault c again a v h else (if is_some v then TooManyValues ∷ [] else react_fault c again a [] h)) ≡ []
          → AllFit c (if b then option_met c a v h else flag_met c a v h).0.rows
      go true v e = option_fits a v h (law a refl) e fit
      go false (Some v) e = fit
      go false None e = reacted_fits a [] h (law a refl) e fit

  short_fits : (f : Option Rule) (rest : Text) (h : Held) (next_fault : Held → Kinds) (next_met : Held → Held × Outcome) → ((a : Rule) → f ≡ Some a → IsLawful c a)
      → ((g : Held) → next_fault g ≡ [] → AllFit c g.rows → AllFit c (next_met g).0.rows)
      → short_fault c again f rest h next_fault ≡ [] → AllFit c h.rows → AllFit c (short_met c f rest h next_met).0.rows
  short_fits None rest h nf nm law more e fit = fit
  short_fits (Some a) rest h nf nm law more e fit = go (takes_values a) e
    where
      go : (b : Bool) → (if b then option_fault c again a (attached_value rest) h else or_else (react_fault c again a [] h) (nf (reacted c a [] h))) ≡ []
          → AllFit c (if b then option_met c a (attached_value rest) h else nm (reacted c a [] h)).0.rows
      go true e = option_fits a (attached_value rest) h (law a refl) e fit
      go false e = let p = parts _ _ e in more (reacted c a [] h) p.1 (reacted_fits a [] h (law a refl) p.0 fit)

  step_fits : (o : Option ℕ) (flags : Text) (skip : ℕ) (so_far : Outcome) (h : Held) (next_fault : Text → ℕ → Held → Kinds) (next_met : Text → ℕ → Outcome → Held → Held × Outcome)
      → ((t : Text) (s : ℕ) (x : Outcome) (g : Held) → next_fault t s g ≡ [] → AllFit c g.rows → AllFit c (next_met t s x g).0.rows)
      → bundle_step_fault c again o flags skip h next_fault ≡ [] → AllFit c h.rows → AllFit c (bundle_step c o flags skip so_far h next_met).0.rows
  step_fits None flags skip so_far h nf nm more e fit = fit
  step_fits (Some x) flags zero so_far h nf nm more e fit =
      let rest = drop (length (encode_utf8 x)) flags in
      short_fits (arg_by_short c x) rest h (nf rest 0) (nm rest 0 done) (λ a is. law_of _ a is) (λ g. more rest 0 done g) e fit
  step_fits (Some x) flags (suc skip) so_far h nf nm more e fit = more (drop (length (encode_utf8 x)) flags) skip so_far h e fit

  flags_fits : (k : ℕ) (flags : Text) (skip : ℕ) (so_far : Outcome) (h : Held) → flags_fault c again k flags skip h ≡ [] → AllFit c h.rows → AllFit c (bundle_met c k flags skip so_far h).0.rows
  unfolding flags_fault bundle_met
  flags_fits zero flags skip so_far h e fit = fit
  flags_fits (suc k) flags skip so_far h e fit =
      step_fits (slice_get (chars flags) 0) flags skip so_far h (flags_fault c again k) (bundle_met c k) (λ t s x g. flags_fits k t s x g) e fit

  option_word_fits : (f : Option Rule) (id word : Text) (h : Held) → AllFit c h.rows → AllFit c (option_word f id word h).0.rows
  option_word_fits None id word h fit = fit
  option_word_fits (Some a) id word h fit = fit

  plain_fits : (waiting : Waiting) (word : Text) (h : Held) → AllFit c h.rows → AllFit c (plain_word c waiting word h).0.rows
  plain_fits idle word h fit = fit
  plain_fits positional word h fit = fit
  plain_fits (option id) word h fit = option_word_fits (arg_by_id c id) id word h fit

  after_fits : (waiting : Waiting) (word : Text) (h : Held) (o : Outcome) → AllFit c h.rows → AllFit c (after_flag c waiting word h o).0.rows
  after_fits waiting word h done fit = fit
  after_fits waiting word h (waits id) fit = fit
  after_fits waiting word h plain fit = plain_fits waiting word h fit
  after_fits waiting word h refused fit = plain_fits waiting word h fit

  flag_fits : (waiting : Waiting) (word : Text) (l : Option (Text × Option Text)) (h : Held) → flag_word_fault c again l word h ≡ [] → AllFit c h.rows
      → AllFit c (long_or_other c waiting word l h).0.rows
  flag_fits waiting word (Some p) h e fit =
      after_fits waiting word (long_met c (arg_by_long c p.0) p.1 h).0 (long_met c (arg_by_long c p.0) p.1 h).1 (long_fits (arg_by_long c p.0) p.1 h (λ a is. law_of _ a is) e fit)
  flag_fits waiting word None h e fit = go (short_of word) e
    where
      go : (o : Option Text) → option_map_or (λ flags. bundle_fault c again flags h) o [] ≡ [] → AllFit c (short_or_plain c waiting word o h).0.rows
      go None e = plain_fits waiting word h fit
      go (Some flags) e = after_fits waiting word (bundle c flags h).0 (bundle c flags h).1 (flags_fits (length flags) flags h.skip plain (record h { skip = 0 }) e fit)

  -- no argument has a place
  no_place : (i : ℕ) → arg_by_index c i ≡ None
  no_place i = none_found _ c (weaker (IsLawful c) (λ a. option_map_or (λ k. k == i) a.index false ≡ false) (λ a law. rw law.0.0 refl) c laws)

-- one level of a parse, whose arguments are lawful, and where a second use is refused
module _ (s : Shape) (names : Names) (off : s.args_override_self ≡ false) (laws : Each (IsLawful s.rules) s.rules) where
  abbrev met_of : Walk → Text → Held × Step
  met_of w word = word_met s.rules names w.is_trailing w.waiting w.position word w.held

  other_fits : (o : Option Text) (waiting : Waiting) (position : ℕ) (word : Text) (h : Held) → other_fault s o word h ≡ [] → AllFit s.rules h.rows
      → AllFit s.rules (subcommand_or_other s.rules o waiting position word h).0.rows
  other_fits (Some name) waiting position word h e fit = fit
  other_fits None waiting position word h e fit = go (bytes_eq word (45 ∷ 45 ∷ [])) e
    where
      go : (b : Bool) → (if b then [] else flag_word_fault s.rules s.args_override_self (long_of word) word h) ≡ []
          → AllFit s.rules (if b then (h, trailing position) else long_or_other s.rules waiting word (long_of word) h).0.rows
      go true e = fit
      go false e = flag_fits s.rules s.args_override_self off laws waiting word (long_of word) h e fit

  met_fits : (is_trailing : Bool) (waiting : Waiting) (position : ℕ) (word : Text) (h : Held) → word_fault s names is_trailing waiting word h ≡ [] → AllFit s.rules h.rows
      → AllFit s.rules (word_met s.rules names is_trailing waiting position word h).0.rows
  met_fits true waiting position word h e fit = fit
  met_fits false waiting position word h e fit = other_fits (subcommand_met names waiting word) waiting position word h e fit

  -- a word that no flag takes is refused
  no_value : (position : ℕ) (h : Held) → step_fault s position h value ≡ [] → ⊥
  no_value position h e = go s.is_leaf (subst (λ (o : Option Rule). option_map_or (λ a. positional_fault s.rules s.args_override_self a h) o (stray_fault s) ≡ [])
      (no_place s.rules s.args_override_self off laws position) e)
    where
      go : (b : Bool) → (if b then UnknownArgument ∷ [] else UnknownArgument ∷ InvalidSubcommand ∷ []) ≡ [] → ⊥
      go true e = no_kinds _ _ e
      go false e = no_kinds _ _ e

  after_held : (word : Text) (w : Walk) (h : Held) (step : Step) → step_fault s w.position h step ≡ [] → AllFit s.rules h.rows
      → AllFit s.rules (after_step s.rules word w h step).held.rows
  after_held word w h (next waiting) e fit = fit
  after_held word w h (trailing position) e fit = fit
  after_held word w h (subcommand name) e fit = fit
  after_held word w h value e fit = absurd (no_value w.position h e)

  turn_fits : (w : Walk) (word : Text) → turn_fault s names w word ≡ [] → AllFit s.rules w.held.rows → AllFit s.rules (walked s.rules names w word).held.rows
  unfolding walked
  turn_fits w word e fit = go w.stopped e
    where
      go : (o : Option (Text × List Text))
          → (if is_some o then [] else or_else (word_fault s names w.is_trailing w.waiting word w.held) (step_fault s w.position (met_of w word).0 (met_of w word).1)) ≡ []
          → AllFit s.rules (walked_from s.rules names o w word).held.rows
      go (Some p) e = fit
      go None e =
          let p = parts _ _ e in
          after_held word w (met_of w word).0 (met_of w word).1 p.1 (met_fits w.is_trailing w.waiting w.position word w.held p.0 fit)

  pub walk_fits : (w : Walk) (words : List Text) → walk_fault s names w words ≡ [] → AllFit s.rules w.held.rows → AllFit s.rules (fold (walked s.rules names) w words).held.rows
  unfolding walk_fault
  walk_fits w [] e fit = fit
  walk_fits w (word ∷ rest) e fit = let p = parts _ _ e in walk_fits (walked s.rules names w word) rest p.1 (turn_fits w word p.0 fit)

  -- ---- no call for help was met

  abbrev IsNoHelp : Option (Text × List Text) → Type 0
  IsNoHelp o = IfSome o (λ p. bytes_eq p.0 (codes "help") ≡ false)

  abbrev NamesNoHelp : Step → Type 0
  NamesNoHelp (subcommand name) = bytes_eq name (codes "help") ≡ false
  NamesNoHelp _ = ⊤

  module _ (helps : s.disable_help_subcommand ≡ false) where
    plain_names : (waiting : Waiting) (word : Text) (h : Held) → NamesNoHelp (plain_word s.rules waiting word h).1
    plain_names idle word h = tt
    plain_names positional word h = tt
    plain_names (option id) word h = tt

    after_names : (waiting : Waiting) (word : Text) (h : Held) (o : Outcome) → NamesNoHelp (after_flag s.rules waiting word h o).1
    after_names waiting word h done = tt
    after_names waiting word h (waits id) = tt
    after_names waiting word h plain = plain_names waiting word h
    after_names waiting word h refused = plain_names waiting word h

    flag_names : (waiting : Waiting) (word : Text) (l : Option (Text × Option Text)) (h : Held) → NamesNoHelp (long_or_other s.rules waiting word l h).1
    flag_names waiting word (Some p) h = after_names waiting word (long_met s.rules (arg_by_long s.rules p.0) p.1 h).0 (long_met s.rules (arg_by_long s.rules p.0) p.1 h).1
    flag_names waiting word None h = go (short_of word)
      where
        go : (o : Option Text) → NamesNoHelp (short_or_plain s.rules waiting word o h).1
        go None = plain_names waiting word h
        go (Some flags) = after_names waiting word (bundle s.rules flags h).0 (bundle s.rules flags h).1

    other_names : (o : Option Text) (waiting : Waiting) (position : ℕ) (word : Text) (h : Held) → other_fault s o word h ≡ []
        → NamesNoHelp (subcommand_or_other s.rules o waiting position word h).1
    other_names (Some name) waiting position word h e = not_again s.disable_help_subcommand (bytes_eq name (codes "help")) DisplayHelp helps
        (shorter (bytes_eq name (codes "help") && not s.disable_help_subcommand) e)
      where
        shorter : (b : Bool) → (if b then DisplayHelp ∷ InvalidSubcommand ∷ [] else []) ≡ [] → (if b then DisplayHelp ∷ [] else []) ≡ []
        shorter true e = no_kinds _ _ e
        shorter false e = refl
    other_names None waiting position word h e = go (bytes_eq word (45 ∷ 45 ∷ []))
      where
        go : (b : Bool) → NamesNoHelp (if b then (h, trailing position) else long_or_other s.rules waiting word (long_of word) h).1
        go true = tt
        go false = flag_names waiting word (long_of word) h

    met_names : (is_trailing : Bool) (waiting : Waiting) (position : ℕ) (word : Text) (h : Held) → word_fault s names is_trailing waiting word h ≡ []
        → NamesNoHelp (word_met s.rules names is_trailing waiting position word h).1
    met_names true waiting position word h e = tt
    met_names false waiting position word h e = other_names (subcommand_met names waiting word) waiting position word h e

    after_stop : (word : Text) (w : Walk) (h : Held) (step : Step) → IsNoHelp w.stopped → NamesNoHelp step → step_fault s w.position h step ≡ []
        → IsNoHelp (after_step s.rules word w h step).stopped
    after_stop word w h (next waiting) ok is e = ok
    after_stop word w h (trailing position) ok is e = ok
    after_stop word w h (subcommand name) ok is e = is
    after_stop word w h value ok is e = absurd (no_value w.position h e)

    turn_stop : (w : Walk) (word : Text) → turn_fault s names w word ≡ [] → IsNoHelp w.stopped → IsNoHelp (walked s.rules names w word).stopped
    unfolding walked
    turn_stop w word e ok = go w.stopped e ok
      where
        go : (o : Option (Text × List Text))
            → (if is_some o then [] else or_else (word_fault s names w.is_trailing w.waiting word w.held) (step_fault s w.position (met_of w word).0 (met_of w word).1)) ≡ []
            → IsNoHelp o → IsNoHelp (walked_from s.rules names o w word).stopped
        go (Some p) e here = here
        go None e here =
            let p = parts _ _ e in
            after_stop word w (met_of w word).0 (met_of w word).1 ok (met_names w.is_trailing w.waiting w.position word w.held p.0) p.1

    pub walk_stop : (w : Walk) (words : List Text) → walk_fault s names w words ≡ [] → IsNoHelp w.stopped → IsNoHelp (fold (walked s.rules names) w words).stopped
    unfolding walk_fault
    walk_stop w [] e ok = ok
    walk_stop w (word ∷ rest) e ok = let p = parts _ _ e in walk_stop (walked s.rules names w word) rest p.1 (turn_stop w word p.0 ok)

-- ---- after the walk

same_text : (t : Text) → bytes_eq t t ≡ true
same_text t = (bytes_eq-Decides t t).1 refl

full : (v : Text) (vs : List Text) → is_empty (v ∷ vs) ≡ false
full v vs = ne_eqb (length (v ∷ vs)) 0 (λ e. absurd (omega (arith, e)))

abbrev has_default : Rule → Bool
has_default a = not (is_empty a.defaults)

default_fits : (c : List Rule) (rows : List Row) (a : Rule) → IsLawful c a → default_fault rows a ≡ [] → AllFit c rows → AllFit c (with_default rows a)
default_fits c rows a law e fit = go (has_row a.id rows) refl a.defaults refl e
  where
    go : (b : Bool) → has_row a.id rows ≡ b → (d : List Text) → a.defaults ≡ d → (if b || is_empty d then [] else given_default_fault a d) ≡ []
        → AllFit c (if b then rows else default_rows a.id (reading_by a) d rows)
    go true is d same e = fit
    go false is [] same e = fit
    go false is (v ∷ vs) same e =
        let wanted : given_default_fault a (v ∷ vs) ≡ [] = subst (λ (b : Bool). (if b then [] else given_default_fault a (v ∷ vs)) ≡ []) (full v vs) e in
        let ok : value_passes a v ≡ true = passed (value_passes a v) (refused_kind (parser_of_value a.parser))
        (parts (value_kinds a.ignore_case (parser_of_value a.parser) v) (values_fault a vs) (parts (request_kinds (action_of a)) (values_fault a (v ∷ vs)) wanted).1).0 in
        let last = each_snoc (FitsOne c) rows (row_for a.id (reading_by a) DefaultValue (v ∷ vs)) fit (law.1 (row_for a.id (reading_by a) DefaultValue (v ∷ vs)) (refl, law.0.1, (v, refl, ok))) in
        subst (AllFit c) (sym (with_new a.id (reading_by a) DefaultValue (v ∷ vs) rows is)) last

defaults_fits : (c xs : List Rule) (rows : List Row) → Each (IsLawful c) xs → defaults_fault rows xs ≡ [] → AllFit c rows → AllFit c (fold with_default rows xs)
unfolding defaults_fault
defaults_fits c [] rows laws e fit = fit
defaults_fits c (a ∷ xs) rows laws e fit = let p = parts _ _ e in defaults_fits c xs (with_default rows a) laws.1 p.1 (default_fits c rows a laws.0 p.0 fit)

has_last : (id : Text) (rows : List Row) (r : Row) → bytes_eq r.id id ≡ true → has_row id (rows ++ r ∷ []) ≡ true
has_last id [] r e = rw e refl
has_last id (x ∷ xs) r e = go (bytes_eq x.id id) (has_last id xs r e)
  where
    go : (b : Bool) → has_row id (xs ++ r ∷ []) ≡ true → (b || has_row id (xs ++ r ∷ [])) ≡ true
    go true h = refl
    go false h = h

has_more : (id : Text) (rows : List Row) (r : Row) → has_row id rows ≡ true → has_row id (rows ++ r ∷ []) ≡ true
has_more id [] r e = absurd (true≢false (sym e))
has_more id (x ∷ xs) r e = go (bytes_eq x.id id) e (has_more id xs r)
  where
    go : (b : Bool) → (b || has_row id xs) ≡ true → (has_row id xs ≡ true → has_row id (xs ++ r ∷ []) ≡ true) → (b || has_row id (xs ++ r ∷ [])) ≡ true
    go true e more = refl
    go false e more = more e

default_has : (rows : List Row) (a : Rule) → has_default a ≡ true → has_row a.id (with_default rows a) ≡ true
default_has rows a wants = go (has_row a.id rows) refl a.defaults wants
  where
    go : (b : Bool) → has_row a.id rows ≡ b → (d : List Text) → not (is_empty d) ≡ true → has_row a.id (if b then rows else default_rows a.id (reading_by a) d rows) ≡ true
    go true is d wants = is
    go false is [] wants = absurd (true≢false (sym wants))
    go false is (v ∷ vs) wants =
        subst (λ (xs : List Row). has_row a.id xs ≡ true) (sym (with_new a.id (reading_by a) DefaultValue (v ∷ vs) rows is)) (has_last a.id rows (row_for a.id (reading_by a) DefaultValue (v ∷ vs))
        (same_text a.id))

default_keeps : (id : Text) (rows : List Row) (a : Rule) → has_row id rows ≡ true → has_row id (with_default rows a) ≡ true
default_keeps id rows a has = go (has_row a.id rows) refl a.defaults
  where
    go : (b : Bool) → has_row a.id rows ≡ b → (d : List Text) → has_row id (if b then rows else default_rows a.id (reading_by a) d rows) ≡ true
    go true is d = has
    go false is [] = has
    go false is (v ∷ vs) =
        subst (λ (xs : List Row). has_row id xs ≡ true) (sym (with_new a.id (reading_by a) DefaultValue (v ∷ vs) rows is)) (has_more id rows (row_for a.id (reading_by a) DefaultValue (v ∷ vs)) has)

defaults_keep : (id : Text) (xs : List Rule) (rows : List Row) → has_row id rows ≡ true → has_row id (fold with_default rows xs) ≡ true
defaults_keep id [] rows has = has
defaults_keep id (a ∷ xs) rows has = defaults_keep id xs (with_default rows a) (default_keeps id rows a has)

-- whether an argument with this id has a default
abbrev pub defaults_for : Text → List Rule → Bool
defaults_for id xs = list_any (λ a. bytes_eq a.id id && has_default a) xs

defaults_have : (id : Text) (xs : List Rule) (rows : List Row) → defaults_for id xs ≡ true → has_row id (fold with_default rows xs) ≡ true
defaults_have id [] rows e = absurd (true≢false (sym e))
defaults_have id (a ∷ xs) rows e = go (bytes_eq a.id id && has_default a) refl e (defaults_have id xs (with_default rows a))
  where
    here : (b : Bool) → bytes_eq a.id id ≡ b → Decides b (a.id ≡ id) → (b && has_default a) ≡ true → has_row id (with_default rows a) ≡ true
    here true is d both = subst (λ (t : Text). has_row t (with_default rows a) ≡ true) (d.0 refl) (default_has rows a both)
    here false is d both = absurd (true≢false (sym both))

    go : (b : Bool) → (bytes_eq a.id id && has_default a) ≡ b → (b || defaults_for id xs) ≡ true → (defaults_for id xs ≡ true → has_row id (fold with_default (with_default rows a) xs) ≡ true)
        → has_row id (fold with_default (with_default rows a) xs) ≡ true
    go true is e later = defaults_keep id xs (with_default rows a) (here (bytes_eq a.id id) refl (bytes_eq-Decides a.id id) is)
    go false is e later = later e

-- what a level without subcommands, and without a fault, leaves
pub level_fits : (s : Shape) (words : List Text) (has : Bool) (below : Kinds) → s.args_override_self ≡ false → Each IsValueOrHelp s.rules
    → level_fault s [] nothing_held words has below ≡ [] → AllFit s.rules (rows_after s.rules [] words)
level_fits s words has below off ones e =
    let laws = lawful s.rules ones in
    let end = (walk s.rules [] nothing_held words).held in
    let p = parts _ _ e in
    let q = parts _ _ (parts _ _ p.1).1 in
    let d = parts _ _ q.1 in
    defaults_fits s.rules s.rules (settled s.rules end).rows laws d.0
    (settled_fits s.rules s.args_override_self off laws end q.0 (walk_fits s [] off laws (walk_from nothing_held) words p.0 tt))

pub level_has : (s : Shape) (words : List Text) (id : Text) → defaults_for id s.rules ≡ true → has_row id (rows_after s.rules [] words) ≡ true
level_has s words id e = defaults_have id s.rules (settled s.rules (walk s.rules [] nothing_held words).held).rows e

-- ---- an option that there isn't

-- no argument has this id
abbrev pub lacks : Text → List Rule → Bool
lacks id c = list_all (λ a. not (bytes_eq a.id id)) c

other_id : (c : List Rule) (id : Text) (r : Row) → lacks id c ≡ true → FitsOne c r → bytes_eq r.id id ≡ false
other_id [] id r lacking fits = absurd fits
other_id (a ∷ c) id r lacking fits = ⊎_elim here (other_id c id r (both _ _ lacking).1) fits
  where
    negated : (b : Bool) → not b ≡ true → b ≡ false
    negated true e = sym e
    negated false e = refl

    here : Fits a r → bytes_eq r.id id ≡ false
    here f = negated (bytes_eq r.id id) (subst (λ (t : Text). not (bytes_eq t id) ≡ true) (sym f.0) (both _ _ lacking).0)

-- then no text stands at it
pub no_text : (c : List Rule) (id : Text) (rows : List Row) → lacks id c ≡ true → AllFit c rows → (one_of id rows ≡ None) × (first_of id rows ≡ None)
no_text c id rows lacking fit =
    let none : find (λ (r : Row). bytes_eq r.id id) rows ≡ None = none_found (λ (r : Row). bytes_eq r.id id) rows
    (weaker (FitsOne c) (λ r. bytes_eq r.id id ≡ false) (λ r fits. other_id c id r lacking fits) rows fit) in
    (ap (option_and_then row_text) none, ap (option_and_then (λ (r : Row). slice_get r.values 0)) none)
