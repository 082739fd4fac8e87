-- A number of each element of a list, added up.
use Rattle.std.proofs.Common.{◌≡◌, ℕ, zero, suc, ◌+◌, ◌<◌, ◌≤◌, Bool, true, false, cond, Option, List, [], ◌∷◌, ◌++◌, length, take, refl, sym, ap, ◌∙◌, arith}
use Rattle.std.specs.List.{flat_map, filter, AllByRecursion}
use Rattle.maximal_runs.specs.Items.{begins_in}
use Rattle.pcap_io.specs.Capture.{Packet}
use Rattle.frame_layout.specs.Key.{key_eq, key_of}
use Rattle.offload_model.specs.Rounds.{is_of}
use Rattle.offload_model.proofs.Items.{key_eq_self, key_eq_same}

abbrev pub total : {A : Type 0} → (A → ℕ) → List A → ℕ
total w [] = 0
total w (x ∷ xs) = w x + total w xs

pub total_append : {A : Type 0} (w : A → ℕ) (xs ys : List A) → total w (xs ++ ys) ≡ total w xs + total w ys
total_append w [] ys = omega arith
total_append w (x ∷ xs) ys = omega (arith, total_append w xs ys)

pub total_take : {A : Type 0} (w : A → ℕ) (n : ℕ) (xs : List A) → total w (take n xs) ≤ total w xs
total_take w zero xs = omega arith
total_take w (suc n) [] = omega arith
total_take w (suc n) (x ∷ xs) = omega (arith, total_take w n xs)

-- what each element gives is no more than that element
pub total_joined : {A B : Type 0} (v : B → ℕ) (w : A → ℕ) (f : A → List B) (xs : List A) → AllByRecursion (λ x. total v (f x) ≤ w x) xs
    → total v (flat_map f xs) ≤ total w xs
total_joined v w f [] a = omega arith
total_joined v w f (x ∷ xs) a = omega (arith, total_append v (f x) (flat_map f xs), a.0, total_joined v w f xs a.1)

-- ---- of all flows' runs, which are all packets

-- some packets of a flow, and what is left without them
record Taken (w : Packet → ℕ) (key : Option (List ℕ)) (run rest xs : List Packet) : Type 0 where
  left : List Packet
  sum : total w xs ≡ total w run + total w left
  own : filter (is_of key) left ≡ rest
  others : (other : Option (List ℕ)) → (other ≡ key → ⊥) → filter (is_of other) left ≡ filter (is_of other) xs

take_one : (w : Packet → ℕ) (key : Option (List ℕ)) (x : Packet) (rest xs : List Packet) → filter (is_of key) xs ≡ x ∷ rest → Taken w key (x ∷ []) rest xs
take_one w key x rest [] e = absurd cc
take_one w key x rest (p ∷ ps) e = by (is_of key p) refl e (λ h. take_one w key x rest ps h)
  where
    no : (other : Option (List ℕ)) (v : Bool) → is_of other p ≡ v → key ≡ key_of p.frame → (other ≡ key → ⊥) → is_of other p ≡ false
    no other true t own n = absurd (n (key_eq_same other (key_of p.frame) t ∙ sym own))
    no other false t own n = t

    by : (v : Bool) → is_of key p ≡ v → cond v (p ∷ filter (is_of key) ps) (filter (is_of key) ps) ≡ x ∷ rest
        → (filter (is_of key) ps ≡ x ∷ rest → Taken w key (x ∷ []) rest ps) → Taken w key (x ∷ []) rest (p ∷ ps)
    by true s e f =
        let own : key ≡ key_of p.frame = key_eq_same key (key_of p.frame) s in
        let same : p ∷ filter (is_of key) ps ≡ x ∷ rest = e in
        let first : p ≡ x = cc in
        record {
          left = ps;
          sum = omega (arith, ap w first);
          own = cc;
          others = λ other n. sym (ap (λ v. cond v (p ∷ filter (is_of other) ps) (filter (is_of other) ps)) (no other (is_of other p) refl own n));
        }
    by false s e f =
        let t = f e in
        record {
          left = p ∷ t.left;
          sum = omega (arith, t.sum);
          own = ap (λ v. cond v (p ∷ filter (is_of key) t.left) (filter (is_of key) t.left)) s ∙ t.own;
          others = λ other n. ap (λ z. cond (is_of other p) (p ∷ z) z) (t.others other n);
        }

take_run : (w : Packet → ℕ) (key : Option (List ℕ)) (run rest xs : List Packet) → filter (is_of key) xs ≡ run ++ rest → Taken w key run rest xs
take_run w key [] rest xs e = record { left = xs; sum = omega arith; own = e; others = λ other n. refl }
take_run w key (x ∷ run) rest xs e =
    let t = take_one w key x (run ++ rest) xs e in
    let u = take_run w key run rest t.left t.own in
    record { left = u.left; sum = omega (arith, t.sum, u.sum); own = u.own; others = λ other n. u.others other n ∙ t.others other n }

-- the joined runs that begin in a flow
abbrev joined_of : Option (List ℕ) → List (List Packet) → List Packet
joined_of key items = flat_map (λ run. run) (filter (begins_in (is_of key)) items)

pub runs_total : (w : Packet → ℕ) (items : List (List Packet)) (xs : List Packet) → AllByRecursion (λ run. 0 < length run) items
    → ((key : Option (List ℕ)) → joined_of key items ≡ filter (is_of key) xs) → total (total w) items ≤ total w xs
runs_total w [] xs full same = omega arith
runs_total w ([] ∷ items) xs full same = absurd (omega (arith, full.0))
runs_total w ((p ∷ run) ∷ items) xs full same =
    let key : Option (List ℕ) = key_of p.frame in
    let here : (p ∷ run) ++ joined_of key items ≡ filter (is_of key) xs
    = sym (ap (λ v. flat_map (λ u. u) (cond v ((p ∷ run) ∷ filter (begins_in (is_of key)) items) (filter (begins_in (is_of key)) items))) (key_eq_self key)) ∙ same key in
    let t = take_run w key (p ∷ run) (joined_of key items) xs (sym here) in
    omega (arith, t.sum, runs_total w items t.left full.1 (λ other. by other (is_of other p) refl t.left t.own (t.others other)))
  where
    by : (other : Option (List ℕ)) (v : Bool) → is_of other p ≡ v → (left : List Packet) → filter (is_of (key_of p.frame)) left ≡ joined_of (key_of p.frame) items
        → ((other ≡ key_of p.frame → ⊥) → filter (is_of other) left ≡ filter (is_of other) xs) → joined_of other items ≡ filter (is_of other) left
    by other true s left own others =
        let is : other ≡ key_of p.frame = key_eq_same other (key_of p.frame) s in
        ap (λ k. joined_of k items) is ∙ sym own ∙ ap (λ k. filter (is_of k) left) (sym is)
    by other false s left own others =
        let apart : other ≡ key_of p.frame → ⊥ = λ h. (let both : true ≡ false = sym (key_eq_self (key_of p.frame)) ∙ ap (λ k. key_eq k (key_of p.frame)) (sym h) ∙ s in cc) in
        sym (ap (λ v. flat_map (λ u. u) (cond v ((p ∷ run) ∷ filter (begins_in (is_of other)) items) (filter (begins_in (is_of other)) items))) s)
        ∙ same other ∙ sym (others apart)
