-- The totals of a queue's items, one item after the other.
use Rattle.std.proofs.Common.{◌≡◌, ℕ, zero, suc, ◌+◌, ◌<◌, ◌≤◌, true, List, [], ◌∷◌, length, map, get_or, drop, refl, sym, ap, ◌∙◌, subst, arith, ◌++◌, take}
use Rattle.std.specs.Prelude.{if◌then◌else◌, nat_le}
use Rattle.std.specs.Bool.{one_answer}
use Rattle.std.specs.Int.{from_bool}
use Rattle.std.specs.List.{AllByRecursion}
use Rattle.std.proofs.lemmas.Bool.{leb-true, le-leb}
use Rattle.std.proofs.lemmas.List.{length-map, get_or-map, drop_more, drop_all, take_more, map-append}
use Rattle.pcap_io.specs.Capture.{Packet}
use Rattle.offload_model.specs.Merged.{Merged}
use Rattle.check_totals.specs.declared.totals.QueueTotals.{QueueTotals}
use Rattle.check_totals.specs.Counts.{queue_plus}
use Rattle.comparing.specs.declared.kept_flows.KeptFlows.{KeptFlows}
use Rattle.check_totals.specs.Returned.{Lefts, packets_in, flow_in, equal_in, behind_item, behind_items}
use Rattle.comparing.specs.Items.{AreLeft, totals_of_item, totals_of_items}
use Rattle.comparing.proofs.Chains.{ones}
use Rattle.comparing.proofs.Comparing.{same_totals, none_behind, plus_more}

-- of two packets or more
pub several_is : (more n : ℕ) → n ≡ more + 1 → from_bool (nat_le 1 more) ≡ from_bool (nat_le 2 n)
several_is more n e =
    ap from_bool (one_answer (nat_le 1 more) (nat_le 2 n)
    (λ (t : nat_le 1 more ≡ true). leb-true 1 more t, λ (l : 1 ≤ more). le-leb 1 more l)
    (λ t. (let l : 2 ≤ n = leb-true 2 n t in omega (arith, e, l)), λ l. le-leb 2 n (omega (arith, e, l))))

pub one_added : (t : QueueTotals) (left : Lefts) (r : Merged) (count : ℕ) → count ≡ equal_in (packets_in r) (left (flow_in r))
    → record { records = t.records + r.n; items = t.items + 1; merged = t.merged + from_bool (nat_le 2 r.n); returned = t.returned + count } ≡ queue_plus t (totals_of_item left r)
one_added t left r count c =
    same_totals (t.records + r.n) (t.items + 1) (t.merged + from_bool (nat_le 2 r.n)) (t.returned + count)
    (t.records + r.n) (t.items + 1) (t.merged + (if nat_le 2 r.n then 1 else 0)) (t.returned + equal_in (packets_in r) (left (flow_in r)))
    refl refl (ap (λ z. t.merged + z) (ones (nat_le 2 r.n))) (ap (λ z. t.returned + z) c)

pub all_get : {A : Type 0} (P : A → Type 0) (xs : List A) (i : ℕ) (d : A) → i < length xs → AllByRecursion P xs → P (get_or xs i d)
all_get P [] i d l a = absurd (omega arith)
all_get P (x ∷ xs) zero d l a = a.0
all_get P (x ∷ xs) (suc i) d l a = all_get P xs i d (omega arith) a.1

-- What some items came to, of which those from item i on are still to be counted.
pub record SoFar (ps : List Packet) (left : Lefts) (rs todo : List Merged) (f : KeptFlows) (t : QueueTotals) : Type 0 where
  pub now : Lefts
  pub are : AreLeft ps f now
  pub totals : queue_plus t (totals_of_items now todo) ≡ totals_of_items left rs
  pub behind : behind_items now todo ≡ behind_items left rs

pub so_next : (ps : List Packet) (left : Lefts) (rs : List Merged) (i : ℕ) (r : Merged) (f g : KeptFlows) (t u : QueueTotals) (x : SoFar ps left rs (drop i rs) f t) → drop i rs ≡ r ∷ drop (i + 1) rs
    → (u ≡ queue_plus t (totals_of_item x.now r)) × AreLeft ps g (behind_item x.now r) → SoFar ps left rs (drop (i + 1) rs) g u
so_next ps left rs i r f g t u x e a = record {
  now = behind_item x.now r;
  are = a.1;
  totals = ap (λ z. queue_plus z (totals_of_items (behind_item x.now r) (drop (i + 1) rs))) a.0
      ∙ plus_more t (totals_of_item x.now r) (totals_of_items (behind_item x.now r) (drop (i + 1) rs))
      ∙ ap (λ z. queue_plus t (totals_of_items x.now z)) (sym e) ∙ x.totals;
  behind = ap (behind_items x.now) (sym e) ∙ x.behind;
}

pub so_all : (ps : List Packet) (left : Lefts) (rs : List Merged) (i : ℕ) (f : KeptFlows) (t : QueueTotals) → drop i rs ≡ [] → SoFar ps left rs (drop i rs) f t
    → (t ≡ totals_of_items left rs) × AreLeft ps f (behind_items left rs)
so_all ps left rs i f t e x = (
  none_behind t ∙ ap (λ z. queue_plus t (totals_of_items x.now z)) (sym e) ∙ x.totals,
  subst (AreLeft ps f) (ap (behind_items x.now) (sym e) ∙ x.behind) x.are,
)

pub mapped_next : {X Y : Type 0} (f : X → Y) (xs : List X) (i : ℕ) (x : X) → i < length xs → x ≡ get_or xs i x → drop i (map f xs) ≡ f x ∷ drop (i + 1) (map f xs)
mapped_next f xs i x l at =
    let m : i < length (map f xs) = omega (arith, l, length-map xs f) in
    drop_more (map f xs) i (f x) m ∙ ap (λ z. z ∷ drop (i + 1) (map f xs)) (get_or-map f xs i x (f x) l ∙ ap f (sym at))

pub mapped_gone : {X Y : Type 0} (f : X → Y) (xs : List X) (i : ℕ) → length xs ≤ i → drop i (map f xs) ≡ []
mapped_gone f xs i l = drop_all i (map f xs) (omega (arith, l, length-map xs f))

pub mapped_more : {X Y : Type 0} (f : X → Y) (xs : List X) (i : ℕ) (x : X) (old new : List Y) (y : Y) → i < length xs → x ≡ get_or xs i x → y ≡ f x → old ≡ map f (take i xs) → new ≡ old ++ y ∷ []
    → new ≡ map f (take (i + 1) xs)
mapped_more f xs i x old new y l at is e grown =
    grown ∙ ap (λ z. z ++ y ∷ []) e ∙ ap (λ z. map f (take i xs) ++ z ∷ []) (is ∙ ap f at) ∙ sym (ap (map f) (take_more xs i x l) ∙ map-append f (take i xs) (get_or xs i x ∷ []))
