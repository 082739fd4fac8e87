-- A choice that texts say is one for the queues.
use Rattle.std.proofs.Common.{◌≡◌, ℕ, ◌≤◌, List, Option, Some, None, refl, subst, option_and_then}
use Rattle.std.specs.Prelude.{option_map}
use Rattle.frame_layout.specs.Choice.{IsChoice}
use Rattle.frame_layout.specs.declared.choice.Choice.{Choice}
use Rattle.frame_layout.specs.declared.choice.Choice.TheVariants.{Fold, Toeplitz}
use Rattle.offload_words.specs.Rss.{choice_by, hash_key_in, table_by}
use Rattle.offload_words.proofs.Tables.{by_text_is_table}

pub is_choice : (queues : ℕ) (key table : Option (List ℕ)) (choice : Choice) → 1 ≤ queues → choice_by queues key table ≡ Some choice → IsChoice queues choice
unfolding choice_by
is_choice queues None None choice some e = let same : Fold ≡ choice = (cc) in subst (IsChoice queues) same tt
is_choice queues None (Some table) choice some e = let no : ⊥ = (cc) in absurd no
is_choice queues (Some key) table choice some e = go (hash_key_in key) (table_by queues table) refl e
  where
    go : (k t : Option (List ℕ)) → table_by queues table ≡ t → option_and_then (λ k. option_map (λ t. Toeplitz k (record { items = t })) t) k ≡ Some choice → IsChoice queues choice
    go None t is e = let no : ⊥ = (cc) in absurd no
    go (Some k) None is e = let no : ⊥ = (cc) in absurd no
    go (Some k) (Some t) is e =
        let same : Toeplitz k (record { items = t }) ≡ choice = (cc) in
        subst (IsChoice queues) same (by_text_is_table queues table t some is)
