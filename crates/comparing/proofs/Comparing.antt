-- What runs come to, compared with the packets of their flows.
use Rattle.std.proofs.Common.{◌≡◌, ℕ, suc, ◌+◌, Bool, true, false, cond, Option, List, [], ◌∷◌, ◌++◌, length, map, drop, refl, sym, ap, ◌∙◌, subst, arith}
use Rattle.std.specs.Prelude.{if◌then◌else◌, nat_le}
use Rattle.std.specs.List.{filter, AllByRecursion}
use Rattle.pcap_io.specs.Capture.{Packet}
use Rattle.offload_model.specs.Merged.{Merged, merged_of}
use Rattle.frame_layout.specs.Key.{key_eq}
use Rattle.offload_model.proofs.Flows.{IsItem}
use Rattle.offload_model.proofs.Items.{key_eq_self, key_eq_same}
use Rattle.check_totals.specs.declared.totals.QueueTotals.{QueueTotals}
use Rattle.check_totals.specs.Counts.{queue_plus, is_merged}
use Rattle.comparing.specs.declared.kept_flows.KeptFlows.{KeptFlows}
use Rattle.check_totals.specs.Returned.{Lefts, packets_in, flow_in, equal_in, behind_item, behind_items}
use Rattle.comparing.specs.KeptFlows.{left_in, CountsIn}
use Rattle.comparing.specs.Items.{AreLeft, totals_of_item, no_totals, totals_of_items}
use Rattle.check_totals.proofs.Flowing.{of_flow, sizes}
use Rattle.check_totals.proofs.Returning.{compared, left_behind}
use Rattle.check_totals.proofs.RunItems.{IsRunItem, run_item}

-- an item that was compared: so many are the same, and its flow has as many fewer left
pub item_counted : (ps : List Packet) (f g : KeptFlows) (left : Lefts) (r : Merged) (n : ℕ) → AreLeft ps f left → CountsIn ps f (flow_in r) (packets_in r) g n
    → (n ≡ equal_in (packets_in r) (left (flow_in r))) × AreLeft ps g (behind_item left r)
item_counted ps f g left r n a c = (c.count ∙ ap (equal_in (packets_in r)) (a.are (flow_in r)), record { are = λ q. by q (key_eq q (flow_in r)) refl })
  where
    by : (q : Option (List ℕ)) (v : Bool) → key_eq q (flow_in r) ≡ v → left_in ps g q ≡ behind_item left r q
    by q true e =
        let own : q ≡ flow_in r = key_eq_same q (flow_in r) e in
        subst (λ z. left_in ps g z ≡ drop (length (packets_in r)) (left z)) (sym own) (c.left ∙ ap (drop (length (packets_in r))) (a.are (flow_in r)))
        ∙ ap (λ v. if v then drop (length (packets_in r)) (left q) else left q) (sym e)
    by q false e =
        let apart : q ≡ flow_in r → ⊥ = λ h. (let t : true ≡ false = sym (key_eq_self q) ∙ ap (λ z. key_eq q z) h ∙ e in cc) in
        c.others q apart ∙ a.are q ∙ ap (λ v. if v then drop (length (packets_in r)) (left q) else left q) (sym e)

-- ---- totals

abbrev pub totals : ℕ → ℕ → ℕ → ℕ → QueueTotals
totals a b c d = record { records = a; items = b; merged = c; returned = d }

pub same_totals : (a b c d e f g h : ℕ) → a ≡ e → b ≡ f → c ≡ g → d ≡ h → totals a b c d ≡ totals e f g h
same_totals a b c d e f g h p q r s = ap (λ z. totals z b c d) p ∙ ap (λ z. totals e z c d) q ∙ ap (λ z. totals e f z d) r ∙ ap (λ z. totals e f g z) s

pub none_behind : (t : QueueTotals) → t ≡ queue_plus t no_totals
none_behind t =
    same_totals t.records t.items t.merged t.returned (t.records + 0) (t.items + 0) (t.merged + 0) (t.returned + 0) (omega arith) (omega arith) (omega arith) (omega arith)

pub none_before : (t : QueueTotals) → queue_plus no_totals t ≡ t
none_before t =
    same_totals (0 + t.records) (0 + t.items) (0 + t.merged) (0 + t.returned) t.records t.items t.merged t.returned (omega arith) (omega arith) (omega arith) (omega arith)

pub plus_more : (t a b : QueueTotals) → queue_plus (queue_plus t a) b ≡ queue_plus t (queue_plus a b)
plus_more t a b =
    same_totals ((t.records + a.records) + b.records) ((t.items + a.items) + b.items) ((t.merged + a.merged) + b.merged) ((t.returned + a.returned) + b.returned)
    (t.records + (a.records + b.records)) (t.items + (a.items + b.items)) (t.merged + (a.merged + b.merged)) (t.returned + (a.returned + b.returned))
    (omega arith) (omega arith) (omega arith) (omega arith)

-- ---- where the items are those of runs

-- what is counted of runs of which each packet comes back
abbrev pub totals_of_runs : List (List Packet) → QueueTotals
totals_of_runs runs = record { records = sizes runs; items = length runs; merged = length (filter is_merged runs); returned = sizes runs }

run_totals : (left : Lefts) (p : Packet) (ps : List Packet) (runs : List (List Packet)) → (merged_of (p ∷ ps)).n ≡ length (p ∷ ps) → equal_in (packets_in (merged_of (p ∷ ps)))
    (left (flow_in (merged_of (p ∷ ps)))) ≡ length (p ∷ ps)
    → queue_plus (totals_of_item left (merged_of (p ∷ ps))) (totals_of_runs runs) ≡ totals_of_runs ((p ∷ ps) ∷ runs)
run_totals left p ps runs count back =
    let r : Merged = merged_of (p ∷ ps) in
    same_totals (r.n + sizes runs) (1 + length runs) ((if nat_le 2 r.n then 1 else 0) + length (filter is_merged runs)) (equal_in (packets_in r) (left (flow_in r)) + sizes runs)
    (length (p ∷ ps) + sizes runs) (suc (length runs)) (length (filter is_merged ((p ∷ ps) ∷ runs))) (length (p ∷ ps) + sizes runs)
    (omega (arith, count)) (omega arith) (ap (λ n. (if nat_le 2 n then 1 else 0) + length (filter is_merged runs)) count ∙ by (is_merged (p ∷ ps))) (omega (arith, back))
  where
    by : (v : Bool) → (if v then 1 else 0) + length (filter is_merged runs) ≡ length (cond v ((p ∷ ps) ∷ filter is_merged runs) (filter is_merged runs))
    by true = omega arith
    by false = omega arith

-- the totals of a queue, and what its flows then have left
pub runs_counted : (runs : List (List Packet)) (left more : Lefts) → AllByRecursion IsItem runs → ((q : Option (List ℕ)) → left q ≡ of_flow q runs ++ more q)
    → (totals_of_items left (map merged_of runs) ≡ totals_of_runs runs) × ((q : Option (List ℕ)) → behind_items left (map merged_of runs) q ≡ more q)
runs_counted [] left more own is = (refl, is)
runs_counted ([] ∷ runs) left more own is = absurd (omega (arith, own.0.full))
runs_counted ((p ∷ ps) ∷ runs) left more own is =
    let k : IsRunItem p (p ∷ ps) (merged_of (p ∷ ps)) = run_item p ps own.0 in
    let rest = runs_counted runs (behind_item left (merged_of (p ∷ ps))) more own.1 (λ q. left_behind left more p ps runs k is q) in
    (ap (queue_plus (totals_of_item left (merged_of (p ∷ ps)))) rest.0 ∙ run_totals left p ps runs k.count (compared left more p ps runs k is), rest.1)
