-- A line without a fault, at a command set with one required subcommand: it names a subcommand, and what holds of
-- each subcommand's own level, where that has no fault, holds of what the line gives.
use Rattle.std.proofs.Common.{◌≡◌, ◌∙◌, ◌&&◌, ◌||◌, Bool, true, false, not, true≢false, refl, sym, ap, subst, List, [], ◌∷◌, Option, Some, None, is_some, if◌then◌else◌, codes, option_map, unwrap_or}
use Rattle.std.specs.Prelude.{find, IfSome}
use Rattle.std.specs.List.{list_any}
use Rattle.std.specs.Option.{option_map_or}
use Rattle.std.specs.Str.{bytes_eq}
use Rattle.std.proofs.lemmas.Slice.Eq.{bytes_eq-Decides}
use Rattle.clap.specs.Walk.{Row, Text, answers_to, finished, nothing_held, settled, walk, walk_from}
use Rattle.clap.specs.Simple.{App, Shape, entered, label_of, names_of, rows_at}
use Rattle.clap.specs.Kinds.{check_kinds}
use Rattle.clap.specs.Takes.{is_given}
use Rattle.clap.specs.Facts.{explicit_source}
use Rattle.clap.specs.Faults.{built_fault, check_fault, defaults_fault, settle_fault, entered_fault, level_fault}
use Rattle.offload_words.proofs.OptionRows.{Each, IsValueOrHelp, found_each, lawful, no_kinds, parts, walk_stop}

found_passes : {X : Type 0} (p : X → Bool) (xs : List X) (x : X) → find p xs ≡ Some x → p x ≡ true
found_passes p [] x e = absurd (true≢false (sym (ap is_some e)))
found_passes {X} p (y ∷ ys) x e = go (p y) refl (found_passes p ys x) e
  where
    go : (b : Bool) → p y ≡ b → (find p ys ≡ Some x → p x ≡ true) → (if b then Some y else find p ys) ≡ Some x → p x ≡ true
    go true is later e = subst (λ (z : X). p z ≡ true) (ap (λ (o : Option X). unwrap_or o y) e) is
    go false is later e = later e

wanted : (has required x z : Bool) → required ≡ true → check_kinds x (not has && required) z ≡ [] → has ≡ true
wanted true required x z is e = refl
wanted false true true z is e = no_kinds _ _ e
wanted false true false z is e = no_kinds _ _ e
wanted false false x z is e = absurd (true≢false (sym is))

checked : (s : Shape) (rows : List Row) (has : Bool) → s.subcommand_required ≡ true → check_fault s rows has ≡ [] → has ≡ true
checked s rows has required e = wanted has s.subcommand_required (not has && (s.arg_required_else_help && not (list_any (λ r. explicit_source r.source) rows)))
    (not (s.subcommand_negates_reqs && has) && list_any (λ a. a.required && not (is_given a.id rows)) s.rules) required e

-- what a subcommand's level gives, where it has no fault
abbrev pub Gives : (Text × List Row → Type 0) → Shape → Type 0
Gives Q s = (ws : List Text) (name : Text) → level_fault s [] nothing_held ws false [] ≡ [] → bytes_eq name (codes "help") ≡ false → answers_to name (label_of s) ≡ true → Q (rows_at s ws)

found_fits : (Q : Text × List Row → Type 0) (a : App) (p : Text × List Text) (f : Option Shape) → Each (Gives Q) a.subs → bytes_eq p.0 (codes "help") ≡ false
    → find (λ s. answers_to p.0 (label_of s)) a.subs ≡ f → option_map_or (λ s. level_fault s [] nothing_held p.1 false []) f [] ≡ [] → is_some (option_map (λ s. rows_at s p.1) f) ≡ true
    → (r : Text × List Row) × (option_map (λ s. rows_at s p.1) f ≡ Some r) × Q r
found_fits Q a p None gives no_help is below has = absurd (true≢false (sym has))
found_fits Q a p (Some s) gives no_help is below has =
    (rows_at s p.1, refl, found_each (Gives Q) (λ x. answers_to p.0 (label_of x)) a.subs s gives is p.1 p.0 below no_help (found_passes (λ x. answers_to p.0 (label_of x)) a.subs s is))

entered_fits : (Q : Text × List Row → Type 0) (a : App) (o : Option (Text × List Text)) → Each (Gives Q) a.subs → IfSome o (λ p. bytes_eq p.0 (codes "help") ≡ false)
    → entered_fault a o ≡ [] → is_some (entered a o) ≡ true → (r : Text × List Row) × (entered a o ≡ Some r) × Q r
entered_fits Q a None gives no_help below has = absurd (true≢false (sym has))
entered_fits Q a (Some p) gives no_help below has = found_fits Q a p (find (λ s. answers_to p.0 (label_of s)) a.subs) gives no_help refl below has

pub line_fits : (Q : Text × List Row → Type 0) (a : App) (ws : List Text) → a.top.args_override_self ≡ false → Each IsValueOrHelp a.top.rules → a.top.disable_help_subcommand ≡ false
    → a.top.subcommand_required ≡ true → Each (Gives Q) a.subs → built_fault a nothing_held ws ≡ []
    → (p : Text × List Row) × (entered a (walk a.top.rules (names_of a) nothing_held ws).stopped ≡ Some p) × Q p
line_fits Q a ws off ones helps required gives e =
    let stop = (walk a.top.rules (names_of a) nothing_held ws).stopped in
    let end = (walk a.top.rules (names_of a) nothing_held ws).held in
    let p = parts _ _ e in
    let q = parts _ _ p.1 in
    let d = parts (defaults_fault (settled a.top.rules end).rows a.top.rules) (check_fault a.top (finished a.top.rules end) (is_some (entered a stop)))
    (parts (settle_fault a.top.rules a.top.args_override_self end) _ q.1).1 in
    entered_fits Q a stop gives (walk_stop a.top (names_of a) off (lawful a.top.rules ones) helps (walk_from nothing_held) ws p.0 tt) q.0
    (checked a.top (finished a.top.rules end) (is_some (entered a stop)) required d.1)

-- a call for help is a fault
pub help_level : (Q : Text × List Row → Type 0) (s : Shape) → s.name ≡ codes "help" → s.aliases ≡ [] → Gives Q s
help_level Q s name aliases = λ ws word e no_help is.
    let here : (bytes_eq (codes "help") word || false) ≡ true = subst (λ (t : Text). (bytes_eq t word || false) ≡ true) name (subst (λ (ts : List Text).
    (bytes_eq s.name word || list_any (λ t. bytes_eq t word) ts) ≡ true) aliases is) in
    let same : codes "help" ≡ word = (bytes_eq-Decides (codes "help") word).0 (either (bytes_eq (codes "help") word) here) in
    absurd (true≢false (sym ((bytes_eq-Decides word (codes "help")).1 (sym same)) ∙ no_help))
  where
    either : (b : Bool) → (b || false) ≡ true → b ≡ true
    either true e = refl
    either false e = e
