-- What all items of a table come to, and what they hold together.
use Rattle.std.proofs.Common.{◌≡◌, ℕ, ◌-◌, ◌≤◌, Bool, true, false, List, [], ◌∷◌, map, ◌∙◌, refl, sym, ap, subst, arith}
use Rattle.std.specs.List.{AllByRecursion}
use Rattle.block_weight.specs.WeightRule.{full_weight}
use Rattle.skb.specs.SkbState.{buffer_least, is_sole}
use Rattle.offload_model.specs.Merged.{merged_of}
use Rattle.offload_model.specs.Rounds.{runs_in}
use Rattle.frags.specs.Account.{Tests, Keeps}
use Rattle.gro_table.specs.declared.packet.Packet.{Packet as Held}
use Rattle.gro_table.specs.declared.item.Item.{Item}
use Rattle.gro.specs.Slots.{of_nothing}
use Rattle.gro_table.specs.Held.{of_packet, of_packets, packet_of, count_of, counts_of, AreShared, WeighAtLeast}
use Rattle.gro_table.specs.Items.{item_of}
use Rattle.gro_table.specs.Totals.{total, totals, AreSame}
use Rattle.gro_table.specs.Table.{TableState, Received, of_runs, counts_in, counts_of_items, of_items, AreItemsFrom, KeepsTable, AreReady, ItemsWeighAtLeast}
use Rattle.gro_table.specs.declared.packet_list.PacketList.{PacketList}
use Rattle.frame_runs.specs.declared.engine.Engine.{Engine}
use Rattle.gro_table.specs.Lists.{held_of}
use Rattle.gro_table.specs.Waiting.{held_in, AreTogether}
use Rattle.gro_table.proofs.Lining.{counts_total, same_sums}
use Rattle.offload_model.specs.Mergeable.{up_to}
use Rattle.offload_model.proofs.Items.{within_alone}
use Rattle.gro_table.proofs.Tables.{counts_totals}

-- ---- run by run

items_count : (rs : List (List Held)) (is : List Item) → AreItemsFrom rs is → counts_of_items is ≡ counts_in rs
items_count [] is a = ap counts_of_items a
items_count (r ∷ rs) [] a = absurd a
items_count (r ∷ rs) (i ∷ is) a = omega (arith, a.0.1.count, items_count rs is a.1)

pub items_account : (rs : List (List Held)) (is : List Item) → AreItemsFrom rs is → KeepsTable rs is
items_account [] is a = ([], (refl, subst (λ (z : List Item). Keeps of_nothing (of_items z)) (sym a) (λ t m. (omega arith, omega arith))))
items_account (r ∷ rs) [] a = absurd a
items_account (r ∷ rs) (i ∷ is) a =
    let own = a.0.1.account in
    let more = items_account rs is a.1 in (
      own.0 ∷ more.0,
      (
        (own.0, (more.0, (own.1.0, refl, more.1.0))),
        λ t m.
            let k = own.1.1 t m in
            let j = more.1.1 t m in
            (omega arith, omega arith),
      ),
    )

pub items_ready : (rs : List (List Held)) (is : List Item) → AreItemsFrom rs is → AreReady is
items_ready [] is a = subst AreReady (sym a) tt
items_ready (r ∷ rs) [] a = absurd a
items_ready (r ∷ rs) (i ∷ is) a = ((a.0.1.front, a.0.1.soles), items_ready rs is a.1)

runs_shared : (rs : List (List Held)) (is : List Item) → AllByRecursion AreShared rs → AreItemsFrom rs is → Keeps (of_runs rs) (of_items is)
runs_shared [] is s a = subst (λ (z : List Item). Keeps of_nothing (of_items z)) (sym a) (λ t m. (omega arith, omega arith))
runs_shared (r ∷ rs) [] s a = absurd a
runs_shared (r ∷ rs) (i ∷ is) s a = λ t m.
    let k = a.0.1.shared s.0 t m in
    let j = runs_shared rs is s.1 a.1 t m in
    (omega arith, omega arith)

runs_least : (w : ℕ) (rs : List (List Held)) (is : List Item) → w ≤ full_weight → AllByRecursion (WeighAtLeast w) rs → AreItemsFrom rs is → ItemsWeighAtLeast w is
runs_least w [] is f s a = subst (ItemsWeighAtLeast w) (sym a) tt
runs_least w (r ∷ rs) [] f s a = absurd a
runs_least w (r ∷ rs) (i ∷ is) f s a = (a.0.1.least w f s.0, runs_least w rs is f s.1 a.1)

-- ---- over the packets in the order in which they came

packets_held : (t : Tests) (m : ℕ) (ps : List Held) → (of_packets ps).held t m ≡ total (λ p. (of_packet p).held t m) ps
packets_held t m [] = refl
packets_held t m (p ∷ ps) = omega (arith, packets_held t m ps)

runs_held : (t : Tests) (m : ℕ) (rs : List (List Held)) → (of_runs rs).held t m ≡ totals (λ p. (of_packet p).held t m) rs
runs_held t m [] = refl
runs_held t m (r ∷ rs) = omega (arith, packets_held t m r, runs_held t m rs)

packets_home : (bs : ℕ → Bool) (m : ℕ) (ps : List Held) → (of_packets ps).homes bs m ≡ total (λ p. (of_packet p).homes bs m) ps
packets_home bs m [] = refl
packets_home bs m (p ∷ ps) = omega (arith, packets_home bs m ps)

runs_home : (bs : ℕ → Bool) (m : ℕ) (rs : List (List Held)) → (of_runs rs).homes bs m ≡ totals (λ p. (of_packet p).homes bs m) rs
runs_home bs m [] = refl
runs_home bs m (r ∷ rs) = omega (arith, packets_home bs m r, runs_home bs m rs)

-- a fact of each packet, as a number that is 0
none_total : (P : Held → Type 0) (f : Held → ℕ) → ((p : Held) → P p → f p ≡ 0) → (ps : List Held) → AllByRecursion P ps → total f ps ≡ 0
none_total P f to [] a = refl
none_total P f to (p ∷ ps) a = omega (arith, to p a.0, none_total P f to ps a.1)

total_none : (P : Held → Type 0) (f : Held → ℕ) → ((p : Held) → f p ≡ 0 → P p) → (ps : List Held) → total f ps ≡ 0 → AllByRecursion P ps
total_none P f from [] e = tt
total_none P f from (p ∷ ps) e = (from p (omega arith), total_none P f from ps (omega arith))

totals_none : (P : Held → Type 0) (f : Held → ℕ) → ((p : Held) → f p ≡ 0 → P p) → (rs : List (List Held)) → totals f rs ≡ 0 → AllByRecursion (AllByRecursion P) rs
totals_none P f from [] e = tt
totals_none P f from (r ∷ rs) e = (total_none P f from r (omega arith), totals_none P f from rs (omega arith))

-- a fact of all packets is one of all runs
facts_too : (P : Held → Type 0) (f : Held → ℕ) → ((p : Held) → P p → f p ≡ 0) → ((p : Held) → f p ≡ 0 → P p) → (ps : List Held) (rs : List (List Held)) → AreSame ps rs
    → AllByRecursion P ps → AllByRecursion (AllByRecursion P) rs
facts_too P f to from ps rs same a = totals_none P f from rs (sym (same f) ∙ none_total P f to ps a)

abbrev one_if : Bool → ℕ
one_if true = 1
one_if false = 0

is_zero : (b : Bool) → one_if b ≡ 0 → b ≡ false
is_zero true e = absurd (omega arith)
is_zero false e = refl

shared_too : (ps : List Held) (rs : List (List Held)) → AreSame ps rs → AreShared ps → AllByRecursion AreShared rs
shared_too ps rs same a = facts_too (λ p. is_sole p.skb.head ≡ false) (λ p. one_if (is_sole p.skb.head)) (λ p e. ap one_if e) (λ p e. is_zero (is_sole p.skb.head) e) ps rs same a

least_too : (w : ℕ) (ps : List Held) (rs : List (List Held)) → AreSame ps rs → WeighAtLeast w ps → AllByRecursion (WeighAtLeast w) rs
least_too w ps rs same a = facts_too (λ p. w ≤ buffer_least p.skb) (λ p. w - buffer_least p.skb) (λ p h. omega (arith, h)) (λ p e. omega (arith, e)) ps rs same a

pub received_count : (ps : List Held) (t : TableState) (is : List Item) → Received ps t → AreItemsFrom t.runs is → counts_of_items is ≡ counts_of ps
received_count ps t is r a = items_count t.runs is a ∙ counts_totals t.runs ∙ sym (r.same count_of) ∙ sym (counts_total ps)

pub received_shared : (ps : List Held) (t : TableState) (is : List Item) → Received ps t → AreShared ps → AreItemsFrom t.runs is → Keeps (of_packets ps) (of_items is)
received_shared ps t is r s a = λ u m.
    let k = runs_shared t.runs is (shared_too ps t.runs r.same s) a u m in
    let h : (of_packets ps).held u m ≡ (of_runs t.runs).held u m = packets_held u m ps ∙ r.same (λ p. (of_packet p).held u m) ∙ sym (runs_held u m t.runs) in
    let g : (of_packets ps).homes u.blocks m ≡ (of_runs t.runs).homes u.blocks m
    = packets_home u.blocks m ps ∙ r.same (λ p. (of_packet p).homes u.blocks m) ∙ sym (runs_home u.blocks m t.runs) in
    (omega (arith, k, h), omega (arith, k, h, g))

pub received_least : (ps : List Held) (w : ℕ) (t : TableState) (is : List Item) → Received ps t → w ≤ full_weight → WeighAtLeast w ps → AreItemsFrom t.runs is → ItemsWeighAtLeast w is
received_least ps w t is r f s a = runs_least w t.runs is f (least_too w ps t.runs r.same s) a

-- ---- the records

items_model : (rs : List (List Held)) (is : List Item) → AreItemsFrom rs is → map item_of is ≡ map merged_of (map (λ (r : List Held). map packet_of r) rs)
items_model [] is a = ap (map item_of) a
items_model (r ∷ rs) [] a = absurd a
items_model (r ∷ rs) (i ∷ is) a = ap (λ z. z ∷ map item_of is) a.0.0 ∙ ap (λ z. merged_of (map packet_of r) ∷ z) (items_model rs is a.1)

pub received_merged : (ps : List Held) (t : TableState) (is : List Item) → Received ps t → AreItemsFrom t.runs is → map item_of is ≡ map merged_of (runs_in t.segs (map packet_of ps))
received_merged ps t is r a = items_model t.runs is a ∙ ap (map merged_of) (within_alone (up_to t.segs) (map packet_of ps) (map (λ (r : List Held). map packet_of r) t.runs) r.are.rising r.are.runs)

-- what runs hold is what the packets of the list do
pub account_same : (l : PacketList) (e : Engine) → AreTogether l e → (u : Tests) (m : ℕ)
    → ((of_runs (held_in l e)).held u m ≡ (of_packets (held_of l)).held u m) × ((of_runs (held_in l e)).homes u.blocks m ≡ (of_packets (held_of l)).homes u.blocks m)
account_same l e a u m = (
  runs_held u m (held_in l e) ∙ same_sums l e a (λ p. (of_packet p).held u m) ∙ sym (packets_held u m (held_of l)),
  runs_home u.blocks m (held_in l e) ∙ same_sums l e a (λ p. (of_packet p).homes u.blocks m) ∙ sym (packets_home u.blocks m (held_of l)),
)
