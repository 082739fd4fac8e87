-- Each record of a queue comes back.
use Rattle.std.proofs.Common.{◌≡◌, ℕ, ◌+◌, Bool, true, false, cond, Option, List, [], ◌∷◌, ◌++◌, length, map, drop, refl, sym, ap, ◌∙◌, subst, arith, bytes_eq, append-nil, append_assoc}
use Rattle.std.specs.Prelude.{◌==◌, if◌then◌else◌, Decides}
use Rattle.std.specs.List.{flat_map, filter, AllByRecursion}
use Rattle.std.proofs.lemmas.Bool.{eqb-true, eq-eqb}
use Rattle.std.proofs.lemmas.Bool.Decides.{Decides-and}
use Rattle.std.proofs.lemmas.List.{length-map}
use Rattle.std.proofs.lemmas.Slice.Eq.{bytes_eq-Decides}
use Rattle.std.proofs.Math.Seq.{drop-append_seam}
use Rattle.maximal_runs.specs.Items.{begins_in, AreItems}
use Rattle.frame_layout.specs.Key.{key_eq, key_of}
use Rattle.pcap_io.specs.Capture.{Packet}
use Rattle.offload_model.specs.Captured.{AreCaptured, content}
use Rattle.offload_model.specs.Merged.{Merged, merged_of}
use Rattle.offload_model.specs.Mergeable.{up_to, IsMergeableWithin}
use Rattle.offload_model.specs.Rounds.{Spread, is_of, is_queued, number_of, items_of}
use Rattle.offload_model.proofs.Flows.{IsItem, own_queue, other_queue}
use Rattle.offload_model.proofs.Items.{key_eq_self, key_eq_same, items_are}
use Rattle.check_totals.specs.Returned.{is_same, equal_in, packets_in, flow_in, Lefts, flows_of, behind_item, returned_in}
use Rattle.check_totals.specs.Tallies.{RecordsReturn}
use Rattle.check_totals.proofs.RunItems.{IsRunItem, run_item}
use Rattle.check_totals.proofs.Flowing.{of_flow, sizes, queue_items, queue_size}

-- ---- the same packet

eq_decides : (n m : ℕ) → Decides (n == m) (m ≡ n)
eq_decides n m = (λ e. sym (eqb-true n m e), λ e. eq-eqb n m (sym e))

pub decides_same : (x y : Packet) → Decides (is_same x y) ((y.original ≡ x.original) × (y.frame ≡ x.frame))
decides_same x y =
    Decides-and (x.original == y.original) (bytes_eq x.frame y.frame) (eq_decides x.original y.original)
    (λ e. sym ((bytes_eq-Decides x.frame y.frame).0 e), λ e. (bytes_eq-Decides x.frame y.frame).1 (sym e))

-- where each packet has the bytes and the original length of the one in its place, all are the same
equal_all : (xs ys zs : List Packet) → map content xs ≡ map content ys → equal_in xs (ys ++ zs) ≡ length ys
equal_all [] [] zs e = refl
equal_all [] (y ∷ ys) zs e = absurd cc
equal_all (x ∷ xs) [] zs e = absurd cc
equal_all (x ∷ xs) (y ∷ ys) zs e =
    let t : content x ∷ map content xs ≡ content y ∷ map content ys = e in
    let first : content x ≡ content y = cc in
    let rest : map content xs ≡ map content ys = cc in
    let same : is_same x y ≡ true = (decides_same x y).1 (sym (ap (λ c. c.0) first), sym (ap (λ c. c.1) first)) in
    ap (λ v. (if v then 1 else 0) + equal_in xs (ys ++ zs)) same ∙ omega (arith, equal_all xs ys zs rest)

-- ---- one run after the other

-- the next run is its flow's, and no other's
module _ (p : Packet) (ps : List Packet) (runs : List (List Packet)) where
  own_next : of_flow (key_of p.frame) ((p ∷ ps) ∷ runs) ≡ (p ∷ ps) ++ of_flow (key_of p.frame) runs
  own_next =
      ap (λ v. flat_map (λ (run : List Packet). run) (cond v ((p ∷ ps) ∷ filter (begins_in (is_of (key_of p.frame))) runs) (filter (begins_in (is_of (key_of p.frame))) runs)))
      (key_eq_self (key_of p.frame))

  other_next : (q : Option (List ℕ)) → (q ≡ key_of p.frame → ⊥) → of_flow q ((p ∷ ps) ∷ runs) ≡ of_flow q runs
  other_next q n = by (is_of q p) refl
    where
      by : (v : Bool) → is_of q p ≡ v → of_flow q ((p ∷ ps) ∷ runs) ≡ of_flow q runs
      by true e = absurd (n (key_eq_same q (key_of p.frame) e))
      by false e = ap (λ v. flat_map (λ (run : List Packet). run) (cond v ((p ∷ ps) ∷ filter (begins_in (is_of q)) runs) (filter (begins_in (is_of q)) runs))) e

module _ (left more : Lefts) (p : Packet) (ps : List Packet) (runs : List (List Packet)) (k : IsRunItem p (p ∷ ps) (merged_of (p ∷ ps)))
    (is : (q : Option (List ℕ)) → left q ≡ of_flow q ((p ∷ ps) ∷ runs) ++ more q) where
  abbrev item : Merged
  item = merged_of (p ∷ ps)

  size : length (packets_in item) ≡ length (p ∷ ps)
  size = sym (length-map (packets_in item) content) ∙ ap length k.back ∙ length-map (p ∷ ps) content

  -- what its flow has left begins with the run
  own_left : (q : Option (List ℕ)) → q ≡ key_of p.frame → left q ≡ (p ∷ ps) ++ (of_flow q runs ++ more q)
  own_left q e =
      let own : of_flow q ((p ∷ ps) ∷ runs) ≡ (p ∷ ps) ++ of_flow q runs = subst (λ z. of_flow z ((p ∷ ps) ∷ runs) ≡ (p ∷ ps) ++ of_flow z runs) (sym e) (own_next p ps runs) in
      is q ∙ ap (λ z. z ++ more q) own ∙ append_assoc (p ∷ ps) (of_flow q runs) (more q)

  pub compared : equal_in (packets_in item) (left (flow_in item)) ≡ length (p ∷ ps)
  compared =
      ap (equal_in (packets_in item)) (own_left (flow_in item) k.key)
      ∙ equal_all (packets_in item) (p ∷ ps) (of_flow (flow_in item) runs ++ more (flow_in item)) k.back

  pub left_behind : (q : Option (List ℕ)) → behind_item left item q ≡ of_flow q runs ++ more q
  left_behind q = by (key_eq q (flow_in item)) refl
    where
      by : (v : Bool) → key_eq q (flow_in item) ≡ v → behind_item left item q ≡ of_flow q runs ++ more q
      by true e =
          ap (λ v. if v then drop (length (packets_in item)) (left q) else left q) e
          ∙ ap (λ n. drop n (left q)) size
          ∙ ap (drop (length (p ∷ ps))) (own_left q (key_eq_same q (flow_in item) e ∙ k.key))
          ∙ drop-append_seam (p ∷ ps) (of_flow q runs ++ more q)
      by false e =
          let apart : q ≡ key_of p.frame → ⊥ = λ h. (let t : true ≡ false = sym (key_eq_self q) ∙ ap (λ z. key_eq q z) (h ∙ sym k.key) ∙ e in cc) in
          ap (λ v. if v then drop (length (packets_in item)) (left q) else left q) e ∙ is q ∙ ap (λ z. z ++ more q) (other_next p ps runs q apart)

returned_runs : (runs : List (List Packet)) (left more : Lefts) → AllByRecursion IsItem runs → ((q : Option (List ℕ)) → left q ≡ of_flow q runs ++ more q)
    → returned_in left (map merged_of runs) ≡ sizes runs
returned_runs [] left more own is = refl
returned_runs ([] ∷ runs) left more own is = absurd (omega (arith, own.0.full))
returned_runs ((p ∷ ps) ∷ runs) left more own is =
    let k : IsRunItem p (p ∷ ps) (merged_of (p ∷ ps)) = run_item p ps own.0 in
    let first = compared left more p ps runs k is in
    let rest = returned_runs runs (behind_item left (merged_of (p ∷ ps))) more own.1 (λ q. left_behind left more p ps runs k is q) in
    omega (arith, first, rest)

-- ---- a queue

-- the packets of the flows of other queues
abbrev elsewhere : Spread → ℕ → List Packet → Lefts
elsewhere spread q ps k = if spread k == q then [] else filter (is_of k) ps

queue_left : (segs : ℕ) (spread : Spread) (q : ℕ) (ps : List Packet) → AreCaptured ps → (k : Option (List ℕ)) → flows_of ps k ≡ of_flow k (items_of segs spread q ps) ++ elsewhere spread q ps k
queue_left segs spread q ps c k = by (spread k == q) refl
  where
    joined : of_flow k (items_of segs spread q ps) ≡ filter (is_of k) (filter (is_queued spread q) ps)
    joined = let i : AreItems (IsMergeableWithin (up_to segs)) is_of number_of (filter (is_queued spread q) ps) (items_of segs spread q ps) = items_are segs spread q ps c.rising in (i.flows k).joined

    by : (v : Bool) → (spread k == q) ≡ v → flows_of ps k ≡ of_flow k (items_of segs spread q ps) ++ elsewhere spread q ps k
    by true e =
        let same : spread k ≡ q = eqb-true (spread k) q e in
        let own : filter (is_of k) (filter (is_queued spread q) ps) ≡ filter (is_of k) ps = subst (λ n. filter (is_of k) (filter (is_queued spread n) ps) ≡ filter (is_of k) ps) same
        (own_queue k spread ps) in
        sym (append-nil (filter (is_of k) ps)) ∙ ap (λ z. z ++ []) (sym (joined ∙ own))
        ∙ ap (λ v. of_flow k (items_of segs spread q ps) ++ (if v then [] else filter (is_of k) ps)) (sym e)
    by false e =
        let apart : q ≡ spread k → ⊥ = λ h. (let t : true ≡ false = sym (eq-eqb (spread k) q (sym h)) ∙ e in cc) in
        ap (λ z. z ++ filter (is_of k) ps) (sym (joined ∙ other_queue k spread q ps apart))
        ∙ ap (λ v. of_flow k (items_of segs spread q ps) ++ (if v then [] else filter (is_of k) ps)) (sym e)

pub queue_returns : (segs : ℕ) (spread : Spread) (q : ℕ) (ps : List Packet) → AreCaptured ps → returned_in (flows_of ps) (map merged_of (items_of segs spread q ps))
    ≡ length (filter (is_queued spread q) ps)
queue_returns segs spread q ps c =
    returned_runs (items_of segs spread q ps) (flows_of ps) (elsewhere spread q ps) (queue_items segs spread q ps c) (queue_left segs spread q ps c) ∙ queue_size segs spread q ps c

pub records_return : RecordsReturn
records_return options q ps c = queue_returns options.segs options.spread q ps c
