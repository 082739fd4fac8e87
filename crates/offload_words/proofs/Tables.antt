-- The entries of a table, text by text; and each table is one of queues.
use Rattle.std.proofs.Common.{◌≡◌, ◌≢◌, ◌⊎◌, ◌&&◌, ◌==◌, ℕ, zero, suc, ◌%◌, ◌<◌, ◌≤◌, inl, inr, Bool, true, false, Option, Some, None, List, [], ◌∷◌, ◌++◌, length, get_or, refl, sym, ap, ◌∙◌, subst}
use Rattle.std.proofs.Common.{arith, option_and_then, append_assoc, length-append}
use Rattle.std.specs.Prelude.{option_map, if◌then◌else◌, nat_le, nat_lt}
use Rattle.std.specs.List.{list_all}
use Rattle.std.proofs.lemmas.Bool.{ne_eqb, le-leb, leb-true, ltb-true}
use Rattle.std.proofs.lemmas.List.{append-nil}
use Rattle.std.proofs.lemmas.List.Elements.{All-from_get_or}
use Rattle.std.proofs.lemmas.List.FromFn.{get_or-map-range_with_len, length-map-range_with_len}
use Rattle.std.proofs.lemmas.List.Splits.{length-slice_split, slice_split_at, slice_split_none}
use Rattle.clap.proofs.WalkLemmas.{both}
use Rattle.frame_layout.specs.Choice.{IsTable, even_table_of}
use Rattle.offload_words.specs.Rss.{Adds, at_most, entries_in, entry_in, entry_texts, is_digit, table_by, table_in, value_of}

-- ---- the texts, one by one

abbrev is_comma : ℕ → Bool
is_comma c = c == 44

-- a text without a comma, and one with a comma behind its first part
pub one_text : (text : List ℕ) → ((i : ℕ) → i < length text → get_or text i 0 ≢ 44) → entry_texts text ≡ text ∷ []
one_text text none = slice_split_none is_comma text (All-from_get_or (λ c. is_comma c ≡ false) text 0 (λ i l. ne_eqb (get_or text i 0) 44 (none i l)))

pub first_text : (text first behind : List ℕ) → text ≡ first ++ 44 ∷ behind → ((i : ℕ) → i < length first → get_or first i 0 ≢ 44)
    → entry_texts text ≡ first ∷ entry_texts behind
first_text text first behind e none =
    ap entry_texts e
    ∙ slice_split_at is_comma first 44 behind (All-from_get_or (λ c. is_comma c ≡ false) first 0 (λ i l. ne_eqb (get_or first i 0) 44 (none i l))) refl

-- ---- the entries, one by one: `old` was read of all texts, and `rest` is left

abbrev pub AreLeft : ℕ → Option (List ℕ) → List ℕ → List (List ℕ) → Type 0
AreLeft queues all old rest = all ≡ option_map (λ ns. old ++ ns) (entries_in queues rest)

pub all_left : (queues : ℕ) (old : List ℕ) (texts : List (List ℕ)) → old ≡ [] → AreLeft queues (entries_in queues texts) old texts
all_left queues old texts e = none_read (entries_in queues texts) ∙ ap (λ (z : List ℕ). option_map (λ ns. z ++ ns) (entries_in queues texts)) (sym e)
  where
    none_read : (o : Option (List ℕ)) → o ≡ option_map (λ ns. [] ++ ns) o
    none_read None = refl
    none_read (Some ns) = refl

module _ (queues : ℕ) (all : Option (List ℕ)) (old : List ℕ) (rest behind : List (List ℕ)) (text : List ℕ)
    (left : AreLeft queues all old rest) (is : rest ≡ text ∷ behind) where
  -- what all are, by what the next text writes
  by_next : (o : Option ℕ) → entry_in queues text ≡ o → all ≡ option_map (λ ns. old ++ ns) (option_and_then (λ n. option_map (λ ns. n ∷ ns) (entries_in queues behind)) o)
  by_next o e =
      left
      ∙ ap (λ (z : List (List ℕ)). option_map (λ ns. old ++ ns) (entries_in queues z)) is
      ∙ ap (λ (z : Option ℕ). option_map (λ ns. old ++ ns) (option_and_then (λ n. option_map (λ ns. n ∷ ns) (entries_in queues behind)) z)) e

  moved : (n : ℕ) (o : Option (List ℕ)) → option_map (λ ns. old ++ ns) (option_map (λ ns. n ∷ ns) o) ≡ option_map (λ ns. (old ++ n ∷ []) ++ ns) o
  moved n None = refl
  moved n (Some ns) = ap Some (sym (append_assoc old (n ∷ []) ns))

  pub one_more : (new : List ℕ) → Adds queues text old new → AreLeft queues all new behind
  one_more new (n, e, room, more) =
      by_next (Some n) e ∙ moved n (entries_in queues behind) ∙ ap (λ (z : List ℕ). option_map (λ ns. z ++ ns) (entries_in queues behind)) (sym more)

  -- behind a text that writes no entry, and where there is no room for one, there is no table
  no_room : 128 ≤ length old → (o : Option ℕ) → entry_in queues text ≡ o → option_and_then (at_most 128) all ≡ None
  no_room full None e = ap (option_and_then (at_most 128)) (by_next None e)
  no_room full (Some n) e = ap (option_and_then (at_most 128)) (by_next (Some n) e ∙ moved n (entries_in queues behind)) ∙ go (entries_in queues behind)
    where
      go : (o : Option (List ℕ)) → option_and_then (at_most 128) (option_map (λ ns. (old ++ n ∷ []) ++ ns) o) ≡ None
      go None = refl
      go (Some ns) =
          let long : 128 < length ((old ++ n ∷ []) ++ ns) = omega (arith, length-append (old ++ n ∷ []) ns, length-append old (n ∷ []), full) in
          ap (λ (b : Bool). if b then Some ((old ++ n ∷ []) ++ ns) else None) (too_long (length ((old ++ n ∷ []) ++ ns)) 128 long)
        where
          too_long : (a b : ℕ) → b < a → nat_le a b ≡ false
          too_long a b l = elim (nat_le a b) as (λ v. nat_le a b ≡ v → v ≡ false) [ true ↦ λ t. absurd (omega (arith, leb-true a b t)) | false ↦ λ t. refl ] refl

  pub no_table : (entry_in queues text ≡ None) ⊎ (128 ≤ length old) → option_and_then (at_most 128) all ≡ None
  no_table (inl none) = ap (option_and_then (at_most 128)) (by_next None none)
  no_table (inr full) = no_room full (entry_in queues text) refl

pub all_read : (queues : ℕ) (all : Option (List ℕ)) (new : List ℕ) → AreLeft queues all new [] → length new ≤ 128 → option_and_then (at_most 128) all ≡ Some new
all_read queues all new left few =
    ap (option_and_then (at_most 128)) (left ∙ ap Some (append-nil new))
    ∙ ap (λ (b : Bool). if b then Some new else None) (le-leb (length new) 128 few)

-- one more is at most 128
pub room_left : (queues : ℕ) (text old new : List ℕ) → Adds queues text old new → length new ≤ 128
room_left queues text old new (n, e, room, more) = omega (arith, ap length more, length-append old (n ∷ []), room)

-- ---- a table is one of queues

entry_below : (queues : ℕ) (text : List ℕ) (n : ℕ) → entry_in queues text ≡ Some n → n < queues
entry_below queues text n = go ((nat_le 1 (length text) && nat_le (length text) 3) && (list_all is_digit text && nat_lt (value_of text) queues)) refl
  where
    go : (b : Bool) → ((nat_le 1 (length text) && nat_le (length text) 3) && (list_all is_digit text && nat_lt (value_of text) queues)) ≡ b
        → (if b then Some (value_of text) else None) ≡ Some n → n < queues
    go true is e =
        let same : value_of text ≡ n = (cc) in
        let tests : ((list_all is_digit text && nat_lt (value_of text) queues) ≡ true) = (both (nat_le 1 (length text) && nat_le (length text) 3) _ is).1 in
        let less : value_of text < queues = ltb-true (value_of text) queues (both (list_all is_digit text) _ tests).1 in
        omega (arith, same, less)
    go false is e = let no : ⊥ = (cc) in absurd no

-- as many as their texts, and each below the number of queues
abbrev AreEntries : ℕ → List (List ℕ) → List ℕ → Type 0
AreEntries queues texts ns = (length ns ≡ length texts) × ((i : ℕ) → i < length ns → get_or ns i 0 < queues)

entries_are : (queues : ℕ) (texts : List (List ℕ)) (ns : List ℕ) → entries_in queues texts ≡ Some ns → AreEntries queues texts ns
entries_are queues [] ns e = let same : ns ≡ [] = (cc) in (ap length same, λ i l. absurd (omega (arith, ap length same, l)))
entries_are queues (text ∷ texts) ns e = go (entry_in queues text) refl (entries_in queues texts) (entries_are queues texts) e
  where
    go : (n : Option ℕ) → entry_in queues text ≡ n → (o : Option (List ℕ)) → ((ms : List ℕ) → o ≡ Some ms → AreEntries queues texts ms)
        → option_and_then (λ n. option_map (λ ns. n ∷ ns) o) n ≡ Some ns → AreEntries queues (text ∷ texts) ns
    go None is o later e = let no : ⊥ = (cc) in absurd no
    go (Some n) is None later e = let no : ⊥ = (cc) in absurd no
    go (Some n) is (Some ms) later e =
        let same : n ∷ ms ≡ ns = (cc) in
        subst (AreEntries queues (text ∷ texts)) same (omega (arith, (later ms refl).0), λ i l. at i l)
      where
        at : (i : ℕ) → i < length (n ∷ ms) → get_or (n ∷ ms) i 0 < queues
        at zero l = entry_below queues text n is
        at (suc i) l = (later ms refl).1 i (omega arith)

even_is_table : (queues : ℕ) → 1 ≤ queues → IsTable queues (even_table_of queues)
even_is_table queues some =
    let turn : ℕ → ℕ = λ i. i % queues in
    record {
      some = omega (arith, length-map-range_with_len turn 0 128);
      few = omega (arith, length-map-range_with_len turn 0 128);
      below = λ i h.
          let l : i < 128 = omega (arith, h, length-map-range_with_len turn 0 128) in
          omega (arith, get_or-map-range_with_len turn 0 128 i i 0 l (omega arith));
    }

text_is_table : (queues : ℕ) (text table : List ℕ) → table_in queues text ≡ Some table → IsTable queues table
text_is_table queues text table = go (entries_in queues (entry_texts text)) (entries_are queues (entry_texts text))
  where
    few : (ns : List ℕ) → AreEntries queues (entry_texts text) ns → (b : Bool) → nat_le (length ns) 128 ≡ b → (if b then Some ns else None) ≡ Some table → IsTable queues table
    few ns are true is e =
        let same : ns ≡ table = (cc) in
        let most : length ns ≤ 128 = leb-true (length ns) 128 is in
        subst (IsTable queues) same (record { some = omega (arith, are.0, length-slice_split is_comma text); few = most; below = are.1 })
    few ns are false is e = let no : ⊥ = (cc) in absurd no

    go : (o : Option (List ℕ)) → ((ns : List ℕ) → o ≡ Some ns → AreEntries queues (entry_texts text) ns) → option_and_then (at_most 128) o ≡ Some table → IsTable queues table
    go None are e = let no : ⊥ = (cc) in absurd no
    go (Some ns) are e = few ns (are ns refl) (nat_le (length ns) 128) refl e

pub by_text_is_table : (queues : ℕ) (text : Option (List ℕ)) (table : List ℕ) → 1 ≤ queues → table_by queues text ≡ Some table → IsTable queues table
by_text_is_table queues None table some e = let same : even_table_of queues ≡ table = (cc) in subst (IsTable queues) same (even_is_table queues some)
by_text_is_table queues (Some text) table some e = text_is_table queues text table e
