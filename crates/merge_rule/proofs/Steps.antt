-- One more packet, on lists of runs: a run of its flow takes it, or it opens one.
use Rattle.std.proofs.Common.{◌≡◌, ℕ, zero, suc, ◌+◌, ◌<◌, ◌≢◌, true, false, Option, Some, None, List, [], ◌∷◌, ◌++◌, length, get_or, set, take, drop, refl, sym, ap, ◌∙◌, subst, arith, length-append}
use Rattle.std.specs.List.{AllByRecursion, filter}
use Rattle.std.proofs.lemmas.List.{set_split, take-append-drop, drop_more, get_or-drop, length-drop, same_from_push}
use Rattle.std.proofs.lemmas.List.Elements.{filter-append}
use Rattle.maximal_runs.specs.Items.{begins_in, first_number, AreItems}
use Rattle.maximal_runs.proofs.Items.{opens_item, extends_item, filter_none}
use Rattle.pcap_io.specs.Capture.{Packet}
use Rattle.frame_layout.specs.Key.{key_eq, key_of}
use Rattle.offload_model.specs.Mergeable.{IsMergeableWithin}
use Rattle.offload_model.specs.declared.limits.Limits.{Limits}
use Rattle.offload_model.specs.Rounds.{is_of, number_of}
use Rattle.offload_model.proofs.Items.{key_eq_same}
use Rattle.merge_rule.specs.Steps.{IsLastBelow, TakesPacket, KeepsEarly}

all_from_index : {X : Type 0} (P : X → Type 0) (xs : List X) → ((k : ℕ) (d : X) → k < length xs → P (get_or xs k d)) → AllByRecursion P xs
all_from_index P [] f = tt
all_from_index P (x ∷ xs) f = (f 0 x (omega arith), all_from_index P xs (λ k d h. f (suc k) d (omega arith)))

whole : (rs : List (List Packet)) (i : ℕ) → i < length rs → rs ≡ take i rs ++ (get_or rs i [] ∷ drop (i + 1) rs)
whole rs i h = sym (take-append-drop i rs) ∙ ap (λ z. take i rs ++ z) (drop_more rs i [] h)

-- behind the last run of a flow there is none of it
none_behind : (rs : List (List Packet)) (key : Option (List ℕ)) (i : ℕ) → ((k : ℕ) (d : List Packet) → i < k → k < length rs → begins_in (is_of key) (get_or rs k d) ≡ false)
    → AllByRecursion (λ r. begins_in (is_of key) r ≡ false) (drop (i + 1) rs)
none_behind rs key i f = all_from_index (λ r. begins_in (is_of key) r ≡ false) (drop (i + 1) rs) (λ k d h.
    subst (λ z. begins_in (is_of key) z ≡ false) (sym (get_or-drop (i + 1) rs k d)) (f (i + 1 + k) d (omega arith) (omega (arith, length-drop (i + 1) rs))))

-- `key` is the new packet's
module _ (limits : Limits) (x : Packet) (key : Option (List ℕ)) (is : key_of x.frame ≡ key) where
  of_flow : (k : Option (List ℕ)) → is_of k x ≡ true → key ≡ k
  of_flow k t = sym is ∙ sym (key_eq_same k (key_of x.frame) t)

  pub run_grows : (rs : List (List Packet)) (i : ℕ) (run : List Packet) → run ≡ get_or rs i []
      → IsLastBelow (begins_in (is_of key)) rs (length rs) (Some i) → IsMergeableWithin limits (run ++ (x ∷ []))
      → TakesPacket limits rs x (set rs i (run ++ (x ∷ [])))
  run_grows rs i [] e last m = λ packets later items. absurd (let t : false ≡ true = ap (begins_in (is_of key)) e ∙ last.1 [] in cc)
  run_grows rs i (y ∷ rest) e last m = λ packets later items.
      let split : rs ≡ take i rs ++ ((y ∷ rest) ∷ drop (i + 1) rs) = whole rs i last.0 ∙ ap (λ z. take i rs ++ (z ∷ drop (i + 1) rs)) (sym e) in
      let n : suc i ≡ i + 1 = omega arith in
      let same : key_of y.frame ≡ key = sym (key_eq_same key (key_of y.frame) (ap (begins_in (is_of key)) e ∙ last.1 [])) in
      subst (λ z. AreItems (IsMergeableWithin limits) is_of number_of (packets ++ (x ∷ [])) z)
      (sym (set_split rs i ((y ∷ rest) ++ (x ∷ [])) last.0 ∙ ap (λ z. take i rs ++ (((y ∷ rest) ++ (x ∷ [])) ∷ drop z rs)) n))
      (extends_item (IsMergeableWithin limits) is_of number_of packets x (take i rs) (drop (i + 1) rs) y rest
      (λ k. ap (key_eq k) (is ∙ sym same))
      (λ k t. subst (λ z. AllByRecursion (λ r. begins_in (is_of z) r ≡ false) (drop (i + 1) rs)) (of_flow k t) (none_behind rs key i last.2))
      m
      (subst (λ z. AreItems (IsMergeableWithin limits) is_of number_of packets z) split items))

  pub run_opens : (rs : List (List Packet)) (o : Option ℕ)
      → IsLastBelow (begins_in (is_of key)) rs (length rs) o
      → ((i : ℕ) → o ≡ Some i → IsMergeableWithin limits (get_or rs i [] ++ (x ∷ [])) → ⊥)
      → TakesPacket limits rs x (rs ++ ((x ∷ []) ∷ []))
  run_opens rs None last full = λ packets later items.
      opens_item (IsMergeableWithin limits) is_of number_of packets x rs later
      (λ k t front run e few.
      let none : filter (begins_in (is_of k)) rs ≡ [] = filter_none (begins_in (is_of k)) rs
      (all_from_index (λ r. begins_in (is_of k) r ≡ false) rs (λ j d h. subst (λ z. begins_in (is_of z) (get_or rs j d) ≡ false) (of_flow k t) (last j d h))) in
      omega (arith, ap length (sym none ∙ e), length-append front (run ∷ [])))
      items
  run_opens rs (Some i) last full = λ packets later items.
      opens_item (IsMergeableWithin limits) is_of number_of packets x rs later
      (λ k t front run e few.
      let none : filter (begins_in (is_of k)) (drop (i + 1) rs) ≡ [] = filter_none (begins_in (is_of k)) (drop (i + 1) rs)
      (subst (λ z. AllByRecursion (λ r. begins_in (is_of z) r ≡ false) (drop (i + 1) rs)) (of_flow k t) (none_behind rs key i last.2)) in
      let mine : begins_in (is_of k) (get_or rs i []) ≡ true = subst (λ z. begins_in (is_of z) (get_or rs i []) ≡ true) (of_flow k t) (last.1 []) in
      let kept : filter (begins_in (is_of k)) rs ≡ filter (begins_in (is_of k)) (take i rs) ++ (get_or rs i [] ∷ [])
      = ap (filter (begins_in (is_of k))) (whole rs i last.0) ∙ filter-append (begins_in (is_of k)) (take i rs) (get_or rs i [] ∷ drop (i + 1) rs) ∙ rw (mine, none) in
      let same : run ≡ get_or rs i [] = (same_from_push front (filter (begins_in (is_of k)) (take i rs)) run (get_or rs i []) (sym e ∙ kept)).1 in
      full i refl (subst (λ z. IsMergeableWithin limits (z ++ (x ∷ []))) same few))
      items

early_set : (n : ℕ) (rs : List (List Packet)) (i : ℕ) (x : Packet) → length (get_or rs i []) ≢ 0
    → AllByRecursion (λ run. first_number number_of run < n) rs → AllByRecursion (λ run. first_number number_of run < n) (set rs i (get_or rs i [] ++ (x ∷ [])))
early_set n [] i x f a = tt
early_set n ([] ∷ rs) zero x f a = absurd (f refl)
early_set n ((y ∷ r) ∷ rs) zero x f a = (a.0, a.1)
early_set n (r ∷ rs) (suc i) x f a = (a.0, early_set n rs i x f a.1)

filled_run : (rs : List (List Packet)) (i : ℕ) (key : Option (List ℕ)) → begins_in (is_of key) (get_or rs i []) ≡ true → length (get_or rs i []) ≢ 0
filled_run rs i key = at (get_or rs i [])
  where
    at : (r : List Packet) → begins_in (is_of key) r ≡ true → length r ≢ 0
    at [] e = absurd cc
    at (y ∷ r) e = λ z. omega arith

pub early_grows : (rs : List (List Packet)) (key : Option (List ℕ)) (i : ℕ) (x : Packet) (run : List Packet) → run ≡ get_or rs i []
    → IsLastBelow (begins_in (is_of key)) rs (length rs) (Some i) → KeepsEarly rs x (set rs i (run ++ (x ∷ [])))
early_grows rs key i x run e last = λ n a b.
    subst (λ z. AllByRecursion (λ run. first_number number_of run < n) (set rs i (z ++ (x ∷ [])))) (sym e)
    (early_set n rs i x (filled_run rs i key (last.1 [])) a)
