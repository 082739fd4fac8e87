-- The items of a queue are the cuts of its flows.
use Rattle.std.proofs.Common.{◌≡◌, ℕ, ◌<◌, ◌⊎◌, inl, inr, true, Option, List, [], ◌∷◌, ◌++◌, length, take, refl, sym, ap, subst}
use Rattle.std.specs.List.{filter}
use Rattle.maximal_runs.specs.Cut.{AllNeighbours, IsCut, cut_of}
use Rattle.maximal_runs.specs.Items.{begins_in, AreFlows, AreItems}
use Rattle.maximal_runs.proofs.Unique.{unique}
use Rattle.maximal_runs.proofs.Pass.{one_pass}
use Rattle.maximal_runs.proofs.Items.{unique_items}
use Rattle.maximal_runs.proofs.Ordered.{items_are_runs}
use Rattle.offload_model.proofs.Fronts.{fronts_too}
use Rattle.offload_model.specs.Laws.{HasOneCut}
use Rattle.frame_layout.specs.Key.{key_eq, key_of}
use Rattle.frame_layout.proofs.Lemmas.{decides_key}
use Rattle.pcap_io.specs.Capture.{Packet}
use Rattle.offload_model.specs.Mergeable.{up_to, IsMergeableWithin}
use Rattle.offload_model.specs.declared.limits.Limits.{Limits}
use Rattle.offload_model.specs.Tests.{is_mergeable_within}
use Rattle.offload_model.specs.Rounds.{Spread, key_in, is_of, is_queued, number_of, items_of, runs_within}
use Rattle.offload_model.specs.CaptureLaws.{ItemsAreRuns}
use Rattle.offload_model.proofs.Lists.{all_of, rising_filtered}
use Rattle.offload_model.proofs.Decides.{decides_within}

pub key_eq_self : (key : Option (List ℕ)) → key_eq key key ≡ true
key_eq_self key = (decides_key key key).1 refl

pub key_eq_same : (a b : Option (List ℕ)) → key_eq a b ≡ true → a ≡ b
key_eq_same a b e = (decides_key a b).0 e

pub are_flows : AreFlows is_of key_in
are_flows = record {
  own = λ p. key_eq_self (key_of p.frame);
  one = λ key p x e. ap (λ k. key_eq k (key_of x.frame)) (key_eq_same key (key_of p.frame) e);
}

-- a cut by one rule is a cut by another that says the same
near_of : {A : Type 0} (R S : A → A → Type 0) (xs : List A) → ((x y : A) → R x y → S x y) → AllNeighbours R xs → AllNeighbours S xs
near_of R S [] f a = tt
near_of R S (x ∷ []) f a = tt
near_of R S (x ∷ y ∷ xs) f a = (f x y a.0, near_of R S (y ∷ xs) f a.1)

same_cut : {A : Type 0} (M N : List A → Type 0) → ((r : List A) → M r → N r) → ((r : List A) → N r → M r) → (xs : List A) (runs : List (List A)) → IsCut M xs runs → IsCut N xs runs
same_cut M N to from xs runs c = record {
  filled = c.filled;
  joined = c.joined;
  each = all_of (λ run. (length run ≡ 1) ⊎ M run) (λ run. (length run ≡ 1) ⊎ N run) runs (λ run e. elim e [ inl one ↦ inl one | inr m ↦ inr (to run m) ]) c.each;
  maximal = near_of (λ run next. M (run ++ take 1 next) → ⊥) (λ run next. N (run ++ take 1 next) → ⊥) runs (λ run next f m. f (from (run ++ take 1 next) m)) c.maximal;
}

-- the runs of packets whose numbers rise, within any limits
pub within_are : (limits : Limits) (ps : List Packet) → AllNeighbours (λ p q. p.number < q.number) ps
    → AreItems (IsMergeableWithin limits) is_of number_of ps (runs_within limits ps)
within_are limits ps rising =
    let i : AreItems (λ run. is_mergeable_within limits run ≡ true) is_of number_of ps (runs_within limits ps) =
    items_are_runs (is_mergeable_within limits) is_of key_in number_of ps are_flows rising in
    record {
      full = i.full;
      flows = λ key. same_cut (λ run. is_mergeable_within limits run ≡ true) (IsMergeableWithin limits) (λ r. (decides_within limits r).0) (λ r. (decides_within limits r).1)
          (filter (is_of key) ps) (filter (begins_in (is_of key)) (runs_within limits ps)) (i.flows key);
      ordered = i.ordered;
    }

-- and they alone
pub within_alone : (limits : Limits) (ps : List Packet) (runs : List (List Packet)) → AllNeighbours (λ p q. p.number < q.number) ps
    → AreItems (IsMergeableWithin limits) is_of number_of ps runs → runs ≡ runs_within limits ps
within_alone limits ps runs rising i =
    unique_items is_of number_of key_in (λ p. key_eq_self (key_of p.frame)) (IsMergeableWithin limits) (fronts_too limits) ps runs (runs_within limits ps) i (within_are limits ps rising)

pub items_are : (segs : ℕ) (spread : Spread) (q : ℕ) (ps : List Packet) → AllNeighbours (λ p q. p.number < q.number) ps
    → AreItems (IsMergeableWithin (up_to segs)) is_of number_of (filter (is_queued spread q) ps) (items_of segs spread q ps)
items_are segs spread q ps rising =
    within_are (up_to segs) (filter (is_queued spread q) ps) (rising_filtered number_of (is_queued spread q) ps rising)

pub items_are_runs_alone : ItemsAreRuns
items_are_runs_alone segs spread q ps items rising = (
  within_alone (up_to segs) (filter (is_queued spread q) ps) items (rising_filtered number_of (is_queued spread q) ps rising),
  λ e. subst (AreItems (IsMergeableWithin (up_to segs)) is_of number_of (filter (is_queued spread q) ps)) (sym e) (items_are segs spread q ps rising),
)

pub one_cut : HasOneCut
one_cut limits ps runs =
    let own : IsCut (IsMergeableWithin limits) ps (cut_of (is_mergeable_within limits) ps) = one_pass (IsMergeableWithin limits) (is_mergeable_within limits) (decides_within limits) ps in
    (λ c. unique (IsMergeableWithin limits) (fronts_too limits) ps runs (cut_of (is_mergeable_within limits) ps) c own, λ e. subst (IsCut (IsMergeableWithin limits) ps) (sym e) own)
