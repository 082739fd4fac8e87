-- The open runs, as runs grow, are closed and are opened.
use Rattle.std.proofs.Common.{◌≡◌, ◌≢◌, ℕ, ◌<◌, ◌≤◌, inl, inr, Bool, true, false, Option, Some, None, List, [], ◌∷◌, ◌++◌, length, get_or, set, refl, sym, ap, ◌∙◌, subst, arith, length-append}
use Rattle.std.specs.Prelude.{if◌then◌else◌}
use Rattle.std.proofs.lemmas.Bool.{cases_eq, cases_Bool}
use Rattle.std.proofs.lemmas.List.{length-set, get_or-set_same, get_or-set_other, get_or_append_left, get_or_push, get_or_default}
use Rattle.maximal_runs.specs.Items.{begins_in}
use Rattle.offload_model.specs.declared.limits.Limits.{Limits}
use Rattle.pcap_io.specs.Capture.{Packet}
use Rattle.frame_layout.specs.Key.{key_eq, key_of}
use Rattle.offload_model.specs.Mergeable.{IsMergeable, IsMergeableWithin}
use Rattle.offload_model.specs.Rounds.{is_of}
use Rattle.offload_model.proofs.Items.{key_eq_same}
use Rattle.merge_rule.specs.Steps.{IsLastBelow, TakesPacket}
use Rattle.merge_rule.proofs.Steps.{run_grows, run_opens}
use Rattle.frame_runs.specs.Index.{IsShut, IsFound, IsIndexOf, IsLatest}
use Rattle.frame_runs.proofs.Keys.{keys_equiv}

-- the run's first packet is of the flow with this key
abbrev pub is_run_of : Option (List ℕ) → List Packet → Bool
is_run_of q run = begins_in (is_of q) run

picks : {A : Type 0} (b : Bool) (x y : A) → b ≡ true → (if b then x else y) ≡ x
picks true x y e = refl
picks false x y e = absurd cc

skips : {A : Type 0} (b : Bool) (x y : A) → b ≡ false → (if b then x else y) ≡ y
skips true x y e = absurd cc
skips false x y e = refl

-- two lists on which the test gives the same
same_last : {X : Type 0} (test : X → Bool) (xs ys : List X) (o : Option ℕ) → length ys ≡ length xs
    → ((k : ℕ) (d : X) → k < length xs → test (get_or ys k d) ≡ test (get_or xs k d))
    → IsLastBelow test xs (length xs) o → IsLastBelow test ys (length ys) o
same_last test xs ys None n same h = λ k d l. let m : k < length xs = omega arith in same k d m ∙ h k d m
same_last test xs ys (Some i) n same h =
    (omega (arith, h.0), λ d. same i d h.0 ∙ h.1 d, λ k d a l. let m : k < length xs = omega arith in same k d m ∙ h.2 k d a m)

begins_same : (q : Option (List ℕ)) (run : List Packet) (x : Packet) → 1 ≤ length run → is_run_of q (run ++ (x ∷ [])) ≡ is_run_of q run
begins_same q [] x h = absurd (omega arith)
begins_same q (y ∷ run) x h = refl

-- a run is of one flow
one_flow : (q r : Option (List ℕ)) (run : List Packet) → is_run_of q run ≡ true → is_run_of r run ≡ true → q ≡ r
one_flow q r [] e f = absurd cc
one_flow q r (y ∷ run) e f =
    key_eq_same q (key_of y.frame) e ∙ sym (key_eq_same r (key_of y.frame) f)

-- a run that is found is its flow's last
pub found_last : (look : Option (List ℕ) → Option ℕ) (rs : List (List Packet)) (q : Option (List ℕ)) (i : ℕ)
    → IsIndexOf look rs → look q ≡ Some i
    → IsLastBelow (is_run_of q) rs (length rs) (Some i)
found_last look rs q i index e = at (index q).0 (index q).1.0 (index q).1.1
  where
    at : (o : Option ℕ) → IsLastBelow (is_run_of q) rs (length rs) o → IsFound rs o (look q)
        → IsLastBelow (is_run_of q) rs (length rs) (Some i)
    at None l f = absurd (let t : None ≡ Some i = sym f ∙ e in cc)
    at (Some j) l (inl f) = let t : Some j ≡ Some i = sym f ∙ e in subst (λ z. IsLastBelow (is_run_of q) rs (length rs) z) t l
    at (Some j) l (inr f) = absurd (let t : None ≡ Some i = sym f.0 ∙ e in cc)

-- and is found of no other flow
pub own_last : (look : Option (List ℕ) → Option ℕ) (rs : List (List Packet)) (key : Option (List ℕ)) (i : ℕ) → IsIndexOf look rs
    → look key ≡ Some i → (q : Option (List ℕ)) → look q ≡ Some i → key ≡ q
own_last look rs key i index e q f =
    one_flow key q (get_or rs i []) ((found_last look rs key i index e).1 []) ((found_last look rs q i index f).1 [])

-- ---- a run takes a packet

module _ (look : Option (List ℕ) → Option ℕ) (rs : List (List Packet)) (key : Option (List ℕ)) (i : ℕ) (run : List Packet) (x : Packet)
    (index : IsIndexOf look rs) (found : look key ≡ Some i) (is : run ≡ get_or rs i []) where
  abbrev grown : List (List Packet)
  grown = set rs i (run ++ (x ∷ []))

  own : IsLastBelow (is_run_of key) rs (length rs) (Some i)
  own = found_last look rs key i index found

  filled : 1 ≤ length run
  filled = at run (ap (is_run_of key) is ∙ own.1 [])
    where
      at : (r : List Packet) → is_run_of key r ≡ true → 1 ≤ length r
      at [] e = absurd cc
      at (y ∷ r) e = omega arith

  last_stays : (q : Option (List ℕ)) (o : Option ℕ) → IsLastBelow (is_run_of q) rs (length rs) o
      → IsLastBelow (is_run_of q) grown (length grown) o
  last_stays q o l =
      same_last (is_run_of q) rs grown o (length-set rs i (run ++ (x ∷ []))) (λ k d h. elim (cases_eq k i) [
        | inl same ↦ rw same (
            ap (is_run_of q) (get_or-set_same rs i (run ++ (x ∷ [])) d own.0) ∙ begins_same q run x filled
            ∙ ap (is_run_of q) (is ∙ get_or_default rs i [] d own.0))
        | inr other ↦ ap (is_run_of q) (get_or-set_other rs i k (run ++ (x ∷ [])) d other)
      ]) l

  found_stays : (q : Option (List ℕ)) (o : Option ℕ) → IsLastBelow (is_run_of q) rs (length rs) o
      → IsFound rs o (look q) → IsFound grown o (look q)
  found_stays q None l f = f
  found_stays q (Some j) l (inl e) = inl e
  found_stays q (Some j) l (inr e) =
      let other : j ≢ i = λ s.
      let t : q ≡ key = one_flow q key (get_or rs i []) (ap (λ z. is_run_of q (get_or rs z [])) (sym s) ∙ l.1 []) (own.1 []) in
      let u : None ≡ Some i = sym e.0 ∙ ap look t ∙ found in cc in
      inr (e.0, subst IsShut (sym (get_or-set_other rs i j (run ++ (x ∷ [])) [] other)) e.1)

  -- the run is found as long as it is open
  pub index_grows : (next : Option (List ℕ) → Option ℕ) (is_open : Bool)
      → ((q : Option (List ℕ)) → next q ≡ (if key_eq key q then (if is_open then Some i else None) else look q))
      → (is_open ≡ false → IsShut (run ++ (x ∷ []))) → IsIndexOf next grown
  index_grows next is_open puts shut = λ q. elim (cases_Bool (key_eq key q)) [
    | inl e ↦
        let same : key ≡ q = key_eq_same key q e in (
          Some i,
          (
            last_stays q (Some i) (subst (λ z. IsLastBelow (is_run_of z) rs (length rs) (Some i)) same own),
            subst (IsFound grown (Some i)) (sym (puts q ∙ picks (key_eq key q) (if is_open then Some i else None)
                (look q) e)) (at is_open shut),
          ),
        )
    | inr e ↦
        let o : Option ℕ = (index q).0 in (
          o,
          (
            last_stays q o (index q).1.0,
            subst (IsFound grown o) (sym (puts q ∙ skips (key_eq key q) (if is_open then Some i else None) (look q) e))
                (found_stays q o (index q).1.0 (index q).1.1),
          ),
        )
  ]
    where
      at : (b : Bool) → (b ≡ false → IsShut (run ++ (x ∷ []))) → IsFound grown (Some i) (if b then Some i else None)
      at true shut = inl refl
      at false shut = inr (refl, subst IsShut (sym (get_or-set_same rs i (run ++ (x ∷ [])) [] own.0)) (shut refl))

  pub takes_grows : (limits : Limits) → key_of x.frame ≡ key → IsMergeableWithin limits (run ++ (x ∷ [])) → TakesPacket limits rs x grown
  takes_grows limits k m = run_grows limits x key k rs i run is own m

-- ---- a packet opens a run

one_more_other : (test : List Packet → Bool) (rs : List (List Packet)) (r : List Packet) (o : Option ℕ) → test r ≡ false
    → IsLastBelow test rs (length rs) o → IsLastBelow test (rs ++ (r ∷ [])) (length (rs ++ (r ∷ []))) o
one_more_other test rs r None e h = λ k d l. elim (cases_eq k (length rs)) [
  | inl same ↦ rw (same, get_or_push rs r d (length rs) refl) e
  | inr other ↦ let m : k < length rs = omega (arith, length-append rs (r ∷ [])) in ap test (get_or_append_left rs (r ∷ []) d k m) ∙ h k d m
]
one_more_other test rs r (Some i) e h = (
  omega (arith, h.0, length-append rs (r ∷ [])),
  λ d. ap test (get_or_append_left rs (r ∷ []) d i h.0) ∙ h.1 d,
  λ k d a l. elim (cases_eq k (length rs)) [
    | inl same ↦ rw (same, get_or_push rs r d (length rs) refl) e
    | inr other ↦ let m : k < length rs = omega (arith, length-append rs (r ∷ [])) in ap test
        (get_or_append_left rs (r ∷ []) d k m) ∙ h.2 k d a m
  ],
)

one_more_own : (test : List Packet → Bool) (rs : List (List Packet)) (r : List Packet) → test r ≡ true
    → IsLastBelow test (rs ++ (r ∷ [])) (length (rs ++ (r ∷ []))) (Some (length rs))
one_more_own test rs r e = (
  omega (arith, length-append rs (r ∷ [])),
  λ d. ap test (get_or_push rs r d (length rs) refl) ∙ e,
  λ k d a l. absurd (omega (arith, length-append rs (r ∷ []))),
)

found_more : (rs : List (List Packet)) (r : List Packet) (test : List Packet → Bool) (o found : Option ℕ)
    → IsLastBelow test rs (length rs) o → IsFound rs o found
    → IsFound (rs ++ (r ∷ [])) o found
found_more rs r test None found l f = f
found_more rs r test (Some i) found l (inl e) = inl e
found_more rs r test (Some i) found l (inr e) = inr (e.0, subst IsShut (sym (get_or_append_left rs (r ∷ []) [] i l.0)) e.1)

module _ (look next : Option (List ℕ) → Option ℕ) (rs : List (List Packet)) (x : Packet) (key : Option (List ℕ))
    (index : IsIndexOf look rs) (is : key_of x.frame ≡ key) where
  abbrev opened : List (List Packet)
  opened = rs ++ ((x ∷ []) ∷ [])

  of_key : (q : Option (List ℕ)) → is_run_of q (x ∷ []) ≡ key_eq key q
  of_key q = ap (key_eq q) is ∙ keys_equiv.symm q key

  -- what the flow with this key finds is `place`; another finds what it found
  opens : (place : Option ℕ) → ((q : Option (List ℕ)) → next q ≡ (if key_eq key q then place else look q))
      → IsFound opened (Some (length rs)) place → IsIndexOf next opened
  opens place puts f = λ q. elim (cases_Bool (key_eq key q)) [
    | inl e ↦ (
      Some (length rs),
      (
        one_more_own (is_run_of q) rs (x ∷ []) (of_key q ∙ e),
        subst (IsFound opened (Some (length rs))) (sym (puts q ∙ picks (key_eq key q) place (look q) e)) f,
      ),
    )
    | inr e ↦
        let o : Option ℕ = (index q).0 in (
          o,
          (
            one_more_other (is_run_of q) rs (x ∷ []) o (of_key q ∙ e) (index q).1.0,
            subst (IsFound opened o) (sym (puts q ∙ skips (key_eq key q) place (look q) e))
                (found_more rs (x ∷ []) (is_run_of q) o (look q) (index q).1.0 (index q).1.1),
          ),
        )
  ]

  pub index_opens : (i : ℕ) (is_open : Bool) → i ≡ length rs
      → ((q : Option (List ℕ)) → next q ≡ (if key_eq key q then (if is_open then Some i else None) else look q))
      → (is_open ≡ false → IsShut (x ∷ [])) → IsIndexOf next opened
  index_opens i is_open e puts shut = opens (if is_open then Some i else None) puts (at is_open shut)
    where
      at : (b : Bool) → (b ≡ false → IsShut (x ∷ [])) → IsFound opened (Some (length rs)) (if b then Some i else None)
      at true shut = inl (ap Some e)
      at false shut = inr (refl, subst IsShut (sym (get_or_push rs (x ∷ []) [] (length rs) refl)) (shut refl))

  -- where the flow finds no run that takes the packet
  pub takes_opens : (limits : Limits) → ((i : ℕ) → look key ≡ Some i → IsMergeableWithin limits (get_or rs i [] ++ (x ∷ [])) → ⊥) → TakesPacket limits rs x opened
  takes_opens limits not = run_opens limits x key is rs (index key).0 (index key).1.0 (λ i e m. at (index key).0 (index key).1.1 i e m)
    where
      at : (o : Option ℕ) → IsFound rs o (look key) → (i : ℕ) → o ≡ Some i → IsMergeableWithin limits (get_or rs i [] ++ (x ∷ [])) → ⊥
      at None f i e m = absurd cc
      at (Some j) (inl f) i e m = not i (f ∙ e) m
      at (Some j) (inr f) i e m =
          let s : j ≡ i = cc in
          f.1 x (subst (λ z. IsMergeable (get_or rs z [] ++ (x ∷ []))) (sym s) m.0)

-- no runs yet
pub index_none : (look : Option (List ℕ) → Option ℕ) → ((q : Option (List ℕ)) → look q ≡ None) → IsIndexOf look []
index_none look none = λ q. (None, ((λ k d h. absurd (omega arith)), none q))

-- ---- the run that the last packet is in

pub latest_of : (look : Option (List ℕ) → Option ℕ) (rs : List (List Packet)) (key : Option (List ℕ)) (i : ℕ)
    (is_open : Bool) → i < length rs → is_run_of key (get_or rs i []) ≡ true
    → look key ≡ (if is_open then Some i else None) → IsLatest look rs (if is_open then Some i else None)
latest_of look rs key i true h b e = (h, λ q t. ap look (one_flow q key (get_or rs i []) t b) ∙ e)
latest_of look rs key i false h b e = tt
