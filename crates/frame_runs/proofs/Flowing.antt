-- What a flow finds, as groups are opened and closed.
use Rattle.std.proofs.Common.{◌≡◌, ◌≢◌, ℕ, zero, suc, ◌+◌, ◌-◌, ◌<◌, ◌≤◌, inl, inr, Bool, true, false, cond, Option, Some, None, Ok, Err, List, [], ◌∷◌, ◌++◌, length, take, replicate, set, refl, sym, ap, ◌∙◌, subst, arith, get_or, length-append}
use Rattle.std.specs.Prelude.{◌⊎◌, if◌then◌else◌, count_by, is_some, IfSome, IfNone, Result, OnOk}
use Rattle.std.specs.Result.{IsOk}
use Rattle.std.proofs.lemmas.Bool.{cases_eq, cases_Bool}
use Rattle.std.proofs.lemmas.List.{take_all, get_or-set_same, get_or-set_other, get_or_append_left}
use Rattle.pcap_io.specs.Capture.{Packet}
use Rattle.slab.specs.Slab.{get, Updates}
use Rattle.std.specs.List.{fold}
use Rattle.std.specs.Map.{lookup}
use Rattle.frame_layout.specs.Key.{key_of, key_eq}
use Rattle.offload_model.proofs.Items.{key_eq_same}
use Rattle.frame_runs.specs.Chains.{no_packet}
use Rattle.frame_runs.specs.declared.flows.Group.{Group}
use Rattle.frame_runs.specs.declared.flows.Flows.{Flows}
use Rattle.frame_runs.specs.Flows.{run_in, key_at, hash_of, bucket_in, place_at, slot_of, place_of, IsHashed, AreFlows, HasRun, IsTaken, IsOwn, Puts, HasRoom}
use Rattle.frame_runs.proofs.Keys.{keys_equiv}

pub picks : {A : Type 0} (b : Bool) (x y : A) → b ≡ true → (if b then x else y) ≡ x
picks true x y e = refl
picks false x y e = absurd cc

pub skips : {A : Type 0} (b : Bool) (x y : A) → b ≡ false → (if b then x else y) ≡ y
skips true x y e = absurd cc
skips false x y e = refl

cases_option : {A : Type 0} (o : Option A) → (o ≡ None) ⊎ ((a : A) × (o ≡ Some a))
cases_option None = inl refl
cases_option (Some a) = inr (a, refl)

pub on_ok : {T E P : Type 0} (r : Result T E) → OnOk r P → IsOk r → P
on_ok (Ok x) p h = p
on_ok (Err e) p h = absurd (let t : false ≡ true = h in cc)

-- ---- what a list of slots finds

abbrev slot : List (Option Group) → ℕ → Option Group
slot s k = get_or s k None

-- what is found is the run of a group with the key
found_some : (ps : List Packet) (q : Option (List ℕ)) (s : List (Option Group)) (r : ℕ) → run_in ps q s ≡ Some r
    → (k : ℕ) × ((g : Group) × ((slot s k ≡ Some g) × ((key_at ps g ≡ q) × (g.run ≡ r))))
found_some ps q [] r e = absurd cc
found_some ps q (None ∷ s) r e = let t = found_some ps q s r e in (suc t.0, t.1)
found_some ps q (Some g ∷ s) r e = elim (cases_Bool (key_eq (key_at ps g) q)) [
  | inl t ↦
      let u : Some g.run ≡ Some r = sym (picks (key_eq (key_at ps g) q) (Some g.run) (run_in ps q s) t) ∙ e in
      let v : g.run ≡ r = cc in
      (0, (g, (refl, (key_eq_same (key_at ps g) q t, v))))
  | inr n ↦
      let t = found_some ps q s r (sym (skips (key_eq (key_at ps g) q) (Some g.run) (run_in ps q s) n) ∙ e) in
      (suc t.0, t.1)
]

-- where a group has the key, something is found
pub found_any : (ps : List Packet) (q : Option (List ℕ)) (s : List (Option Group)) (k : ℕ) (g : Group) → slot s k ≡ Some g → key_at ps g ≡ q
    → (r : ℕ) × (run_in ps q s ≡ Some r)
found_any ps q [] k g e is = absurd cc
found_any ps q (None ∷ s) zero g e is = absurd cc
found_any ps q (None ∷ s) (suc k) g e is = found_any ps q s k g e is
found_any ps q (Some h ∷ s) zero g e is =
    let same : h ≡ g = cc in (
      h.run,
      picks (key_eq (key_at ps h) q) (Some h.run) (run_in ps q s)
          (subst (λ z. key_eq (key_at ps h) z ≡ true) (ap (key_at ps) same ∙ is) (keys_equiv.refl (key_at ps h))),
    )
found_any ps q (Some h ∷ s) (suc k) g e is = elim (cases_Bool (key_eq (key_at ps h) q)) [
  | inl t ↦ (h.run, picks (key_eq (key_at ps h) q) (Some h.run) (run_in ps q s) t)
  | inr n ↦
      let t = found_any ps q s k g e is in
      (t.0, skips (key_eq (key_at ps h) q) (Some h.run) (run_in ps q s) n ∙ t.1)
]

abbrev Alone : List Packet → List (Option Group) → Type 0
Alone ps s = (j k : ℕ) (g h : Group) → slot s j ≡ Some g → slot s k ≡ Some h → key_at ps g ≡ key_at ps h → j ≡ k

-- the group with the key is found
pub finds : (ps : List Packet) (q : Option (List ℕ)) (s : List (Option Group)) (k : ℕ) (g : Group) → Alone ps s → slot s k ≡ Some g
    → key_at ps g ≡ q → run_in ps q s ≡ Some g.run
finds ps q s k g alone at is =
    let any = found_any ps q s k g at is in
    let t = found_some ps q s any.0 any.1 in
    let same : t.0 ≡ k = alone t.0 k t.1.0 g t.1.1.0 at (t.1.1.1.0 ∙ sym is) in
    let both : Some t.1.0 ≡ Some g = sym t.1.1.0 ∙ ap (slot s) same ∙ at in
    let one : t.1.0 ≡ g = cc in
    any.1 ∙ ap Some (sym t.1.1.1.1 ∙ ap (λ (z : Group). z.run) one)

pub not_found : (ps : List Packet) (q : Option (List ℕ)) (s : List (Option Group)) → ((k : ℕ) (g : Group) → slot s k ≡ Some g → key_at ps g ≡ q → ⊥)
    → run_in ps q s ≡ None
not_found ps q s none = elim (cases_option (run_in ps q s)) [
  | inl e ↦ e
  | inr r ↦ let t = found_some ps q s r.0 r.1 in absurd (none t.0 t.1.0 t.1.1.0 t.1.1.1.0)
]

-- the same groups with the key
run_same : (ps : List Packet) (q : Option (List ℕ)) (s t : List (Option Group)) → Alone ps t
    → ((k : ℕ) (g : Group) → slot s k ≡ Some g → key_at ps g ≡ q → slot t k ≡ Some g)
    → ((k : ℕ) (g : Group) → slot t k ≡ Some g → key_at ps g ≡ q → slot s k ≡ Some g) → run_in ps q t ≡ run_in ps q s
run_same ps q s t alone to from = elim (cases_option (run_in ps q s)) [
  | inl e ↦
      not_found ps q t (λ k g at is.
      let any = found_any ps q s k g (from k g at is) is in
      let u : None ≡ Some any.0 = sym e ∙ any.1 in cc) ∙ sym e
  | inr r ↦
      let u = found_some ps q s r.0 r.1 in
      finds ps q t u.0 u.1.0 alone (to u.0 u.1.0 u.1.1.0 u.1.1.1.0) u.1.1.1.0 ∙ ap Some u.1.1.1.1 ∙ sym r.1
]

-- a count that has begun doesn't fall
fold_above : (s : List (Option Group)) (n : ℕ) → n ≤ fold (λ a x. a + cond (is_some x) 1 0) n s
fold_above [] n = omega arith
fold_above (None ∷ s) n = omega (arith, fold_above s (n + 0))
fold_above (Some g ∷ s) n = omega (arith, fold_above s (n + 1))

-- where no slot has a group, nothing is found
pub none_in : (ps : List Packet) (q : Option (List ℕ)) (s : List (Option Group)) → count_by is_some s ≡ 0 → run_in ps q s ≡ None
none_in ps q s e = not_found ps q s (λ k g there is. none_there s k g there e)
  where
    none_there : (t : List (Option Group)) (k : ℕ) (g : Group) → slot t k ≡ Some g → count_by is_some t ≡ 0 → ⊥
    none_there [] k g there e = cc
    none_there (None ∷ t) zero g there e = cc
    none_there (None ∷ t) (suc k) g there e = none_there t k g there e
    none_there (Some h ∷ t) k g there e = omega (arith, e, fold_above t 1)

-- ---- a group more

module _ (ps : List Packet) (f g : Flows) (key : Option (List ℕ)) (at : ℕ) (group : Group) (flows : AreFlows ps f)
    (none : place_of ps f key ≡ None) (is : key_at ps group ≡ key) (own : IsHashed ps group.packet group.hash)
    (vacant : get f.groups at ≡ None) (changed : get g.groups at ≡ Some group)
    (others : (k : ℕ) → k ≢ at → get g.groups k ≡ get f.groups k) where
  no_other : (k : ℕ) (h : Group) → get f.groups k ≡ Some h → key_at ps h ≡ key → ⊥
  no_other k h e same =
      let any = found_any ps key f.groups.slots k h e same in
      let u : None ≡ Some any.0 = sym none ∙ any.1 in cc

  not_key : (k : ℕ) (h : Group) → get f.groups k ≡ Some h → key_eq key (key_at ps h) ≡ false
  not_key k h e = elim (cases_Bool (key_eq key (key_at ps h))) [
    | inl t ↦ absurd (no_other k h e (sym (key_eq_same key (key_at ps h) t)))
    | inr n ↦ n
  ]

  old_or_new : (k : ℕ) (h : Group) → get g.groups k ≡ Some h → ((k ≡ at) × (h ≡ group)) ⊎ ((k ≢ at) × (get f.groups k ≡ Some h))
  old_or_new k h e = elim (cases_eq k at) [
    | inl same ↦
        let u : Some group ≡ Some h = sym changed ∙ sym (ap (get g.groups) same) ∙ e in
        let v : h ≡ group = cc in inl (same, v)
    | inr other ↦ inr (other, sym (others k other) ∙ e)
  ]

  not_at : (k : ℕ) (h : Group) → get f.groups k ≡ Some h → k ≢ at
  not_at k h e s = let u : None ≡ Some h = sym vacant ∙ sym (ap (get f.groups) s) ∙ e in cc

  stays : (k : ℕ) (h : Group) → get f.groups k ≡ Some h → get g.groups k ≡ Some h
  stays k h e = others k (not_at k h e) ∙ e

  hashed_opened : (k : ℕ) (h : Group) → get g.groups k ≡ Some h → IsHashed ps h.packet h.hash
  hashed_opened k h e = elim (old_or_new k h e) [
    | inl x ↦ subst (λ (z : Group). IsHashed ps z.packet z.hash) (sym x.1) own
    | inr x ↦ flows.hashed k h x.1
  ]

  alone_opened : (j k : ℕ) (a b : Group) → get g.groups j ≡ Some a → get g.groups k ≡ Some b → key_at ps a ≡ key_at ps b → j ≡ k
  alone_opened j k a b d e same = elim (old_or_new j a d) [
    | inl x ↦ elim (old_or_new k b e) [
      | inl y ↦ x.0 ∙ sym y.0
      | inr y ↦ absurd (no_other k b y.1 (sym same ∙ ap (key_at ps) x.1 ∙ is))
    ]
    | inr x ↦ elim (old_or_new k b e) [
      | inl y ↦ absurd (no_other j a x.1 (same ∙ ap (key_at ps) y.1 ∙ is))
      | inr y ↦ flows.alone j k a b x.1 y.1 same
    ]
  ]

  live_old : (q : Option (List ℕ)) (k : ℕ) → slot_of f q ≡ Some k → (h : Group) × ((get g.groups k ≡ Some h) × (key_at ps h ≡ q))
  live_old q k e = let l = flows.live q k e in (l.0, (stays k l.0 l.1.0, l.1.1))

  pub puts_opened : Puts ps f key (Some group.run) g
  puts_opened q = elim (cases_Bool (key_eq key q)) [
    | inl t ↦
        finds ps q g.groups.slots at group alone_opened changed (is ∙ key_eq_same key q t)
        ∙ sym (picks (key_eq key q) (Some group.run) (place_of ps f q) t)
    | inr n ↦
        run_same ps q f.groups.slots g.groups.slots alone_opened (λ k h e same. stays k h e) (λ k h e same. elim (old_or_new k h e) [
          | inl x ↦
              let one : key ≡ q = sym is ∙ ap (key_at ps) (sym x.1) ∙ same in
              let u : true ≡ false = sym (subst (λ z. key_eq key z ≡ true) one (keys_equiv.refl key)) ∙ n in absurd cc
          | inr x ↦ x.1
        ]) ∙ sym (skips (key_eq key q) (Some group.run) (place_of ps f q) n)
  ]

  -- the map has it, as its place is taken
  pub flows_mapped : ((q : Option (List ℕ)) → slot_of g q ≡ cond (key_eq key q) (Some at) (slot_of f q)) → g.places ≡ f.places
      → IsTaken f group.hash → AreFlows ps g
  flows_mapped slots places held = record {
    hashed = hashed_opened;
    alone = alone_opened;
    reached = λ k h e. elim (old_or_new k h e) [
      | inl x ↦
          inl (ap (slot_of g) (ap (key_at ps) x.1 ∙ is) ∙ slots key
          ∙ ap (λ b. cond b (Some at) (slot_of f key)) (keys_equiv.refl key) ∙ ap Some (sym x.0))
      | inr x ↦ elim (flows.reached k h x.1) [
        | inl m ↦ inl (slots (key_at ps h) ∙ ap (λ b. cond b (Some at) (slot_of f (key_at ps h))) (not_key k h x.1) ∙ m)
        | inr p ↦ inr (same_place h.hash ∙ p)
      ]
    ];
    live = λ q k e. elim (cases_Bool (key_eq key q)) [
      | inl t ↦
          let u : Some at ≡ Some k = sym (slots q ∙ ap (λ b. cond b (Some at) (slot_of f q)) t) ∙ e in
          let v : k ≡ at = cc in
          (group, (ap (get g.groups) v ∙ changed, is ∙ key_eq_same key q t))
      | inr n ↦ live_old q k (sym (slots q ∙ ap (λ b. cond b (Some at) (slot_of f q)) n) ∙ e)
    ];
    taken = λ q k e. elim (cases_Bool (key_eq key q)) [
      | inl t ↦
          let u : Some at ≡ Some k = sym (slots q ∙ ap (λ b. cond b (Some at) (slot_of f q)) t) ∙ e in
          let v : k ≡ at = cc in
          let w : place_at g (hash_of q) ≡ place_at f group.hash
          = same_place (hash_of q) ∙ ap (λ z. place_at f z) (ap hash_of (sym (key_eq_same key q t) ∙ sym is) ∙ sym own.1) in (
            subst (λ z. 1 ≤ z) (sym w) held.0,
            (λ s.
                let back : place_at f group.hash - 1 ≡ at = omega (arith, sym w ∙ s, v) in
                not_at (place_at f group.hash - 1) held.1.0 held.1.1.0 back),
          )
      | inr n ↦
          let o = flows.taken q k (sym (slots q ∙ ap (λ b. cond b (Some at) (slot_of f q)) n) ∙ e) in
          subst (λ z. (1 ≤ z) × (z ≢ k + 1)) (sym (same_place (hash_of q))) o
    ];
  }
    where
      same_place : (h : ℕ) → place_at g h ≡ place_at f h
      same_place h = ap (λ z. get_or z (bucket_in h) 0) places

  -- it stands at its place, which wasn't taken
  pub flows_placed : ((q : Option (List ℕ)) → slot_of g q ≡ slot_of f q) → g.places ≡ set f.places (bucket_in group.hash) (at + 1)
      → bucket_in group.hash < length f.places → (IsTaken f group.hash → ⊥) → AreFlows ps g
  flows_placed slots places inside free = record {
    hashed = hashed_opened;
    alone = alone_opened;
    reached = λ k h e. elim (old_or_new k h e) [
      | inl x ↦ inr (place_own h.hash (ap (λ (z : Group). bucket_in z.hash) x.1) ∙ ap (λ z. z + 1) (sym x.0))
      | inr x ↦ elim (flows.reached k h x.1) [
        | inl m ↦ inl (slots (key_at ps h) ∙ m)
        | inr p ↦ elim (cases_eq (bucket_in h.hash) (bucket_in group.hash)) [
          | inl same ↦
              let here : place_at f group.hash ≡ k + 1 = ap (λ z. get_or f.places z 0) (sym same) ∙ p in
              let back : place_at f group.hash - 1 ≡ k = omega (arith, here) in
              absurd (free (omega (arith, here), (h, (ap (get f.groups) back ∙ x.1, same))))
          | inr other ↦ inr (place_other h.hash other ∙ p)
        ]
      ]
    ];
    live = λ q k e. live_old q k (sym (slots q) ∙ e);
    taken = λ q k e.
        let was : slot_of f q ≡ Some k = sym (slots q) ∙ e in
        let o = flows.taken q k was in
        let l = flows.live q k was in
        elim (cases_eq (bucket_in (hash_of q)) (bucket_in group.hash)) [
          | inl same ↦
              let now : place_at g (hash_of q) ≡ at + 1 = place_own (hash_of q) same in
              (omega (arith, now), (λ s. not_at k l.0 l.1.0 (omega (arith, now, s))))
          | inr other ↦ subst (λ z. (1 ≤ z) × (z ≢ k + 1)) (sym (place_other (hash_of q) other)) o
        ];
  }
    where
      place_own : (h : ℕ) → bucket_in h ≡ bucket_in group.hash → place_at g h ≡ at + 1
      place_own h same =
          ap (λ z. get_or z (bucket_in h) 0) places ∙ ap (λ z. get_or (set f.places (bucket_in group.hash) (at + 1)) z 0) same
          ∙ get_or-set_same f.places (bucket_in group.hash) (at + 1) 0 inside

      place_other : (h : ℕ) → bucket_in h ≢ bucket_in group.hash → place_at g h ≡ place_at f h
      place_other h other =
          ap (λ z. get_or z (bucket_in h) 0) places ∙ get_or-set_other f.places (bucket_in group.hash) (bucket_in h) (at + 1) 0 other

-- ---- a group less

module _ (ps : List Packet) (f g : Flows) (key : Option (List ℕ)) (at : ℕ) (group : Group) (flows : AreFlows ps f)
    (there : get f.groups at ≡ Some group) (is : key_at ps group ≡ key) (gone : get g.groups at ≡ None)
    (others : (k : ℕ) → k ≢ at → get g.groups k ≡ get f.groups k) where
  rest : (k : ℕ) (h : Group) → get g.groups k ≡ Some h → (k ≢ at) × (get f.groups k ≡ Some h)
  rest k h e =
      let other : k ≢ at = λ s. let u : None ≡ Some h = sym gone ∙ sym (ap (get g.groups) s) ∙ e in cc in
      (other, sym (others k other) ∙ e)

  apart : (k : ℕ) (h : Group) → get g.groups k ≡ Some h → key_at ps h ≡ key → ⊥
  apart k h e same = let r = rest k h e in r.0 (flows.alone k at h group r.1 there (same ∙ sym is))

  not_at_key : (q : Option (List ℕ)) (k : ℕ) (h : Group) → key_eq key q ≡ false → get f.groups k ≡ Some h → key_at ps h ≡ q → k ≢ at
  not_at_key q k h n e same s =
      let u : Some h ≡ Some group = sym e ∙ ap (get f.groups) s ∙ there in
      let v : h ≡ group = cc in
      let one : key ≡ q = sym is ∙ ap (key_at ps) (sym v) ∙ same in
      let w : true ≡ false = sym (subst (λ z. key_eq key z ≡ true) one (keys_equiv.refl key)) ∙ n in cc

  alone_closed : (j k : ℕ) (a b : Group) → get g.groups j ≡ Some a → get g.groups k ≡ Some b → key_at ps a ≡ key_at ps b → j ≡ k
  alone_closed j k a b d e same = flows.alone j k a b (rest j a d).1 (rest k b e).1 same

  pub puts_closed : Puts ps f key None g
  puts_closed q = elim (cases_Bool (key_eq key q)) [
    | inl t ↦
        not_found ps q g.groups.slots (λ k h e same. apart k h e (same ∙ sym (key_eq_same key q t)))
        ∙ sym (picks (key_eq key q) None (place_of ps f q) t)
    | inr n ↦
        run_same ps q f.groups.slots g.groups.slots alone_closed (λ k h e same. others k (not_at_key q k h n e same) ∙ e) (λ k h e same. (rest k h e).1)
        ∙ sym (skips (key_eq key q) None (place_of ps f q) n)
  ]

  pub flows_closed : ((q : Option (List ℕ)) → key_eq key q ≡ false → slot_of g q ≡ slot_of f q)
      → ((k : ℕ) → slot_of g key ≡ Some k → ⊥) → g.places ≡ f.places → AreFlows ps g
  flows_closed slots none places = record {
    hashed = λ k h e. flows.hashed k h (rest k h e).1;
    alone = alone_closed;
    reached = λ k h e. elim (flows.reached k h (rest k h e).1) [
      | inl m ↦ inl (slots (key_at ps h) (elim (cases_Bool (key_eq key (key_at ps h))) [
        | inl t ↦ absurd (apart k h e (sym (key_eq_same key (key_at ps h) t)))
        | inr n ↦ n
      ]) ∙ m)
      | inr p ↦ inr (same_place h.hash ∙ p)
    ];
    live = λ q k e. elim (cases_Bool (key_eq key q)) [
      | inl t ↦ absurd (none k (ap (slot_of g) (key_eq_same key q t) ∙ e))
      | inr n ↦
          let l = flows.live q k (sym (slots q n) ∙ e) in
          (l.0, (others k (not_at_key q k l.0 n l.1.0 l.1.1) ∙ l.1.0, l.1.1))
    ];
    taken = λ q k e. elim (cases_Bool (key_eq key q)) [
      | inl t ↦ absurd (none k (ap (slot_of g) (key_eq_same key q t) ∙ e))
      | inr n ↦ subst (λ z. (1 ≤ z) × (z ≢ k + 1)) (sym (same_place (hash_of q))) (flows.taken q k (sym (slots q n) ∙ e))
    ];
  }
    where
      same_place : (h : ℕ) → place_at g h ≡ place_at f h
      same_place h = ap (λ z. get_or z (bucket_in h) 0) places

-- the group at its place isn't in the map
pub not_mapped : (ps : List Packet) (f : Flows) (key : Option (List ℕ)) (at : ℕ) (group : Group) → AreFlows ps f → get f.groups at ≡ Some group
    → key_at ps group ≡ key → place_at f (hash_of key) ≡ at + 1 → (k : ℕ) → slot_of f key ≡ Some k → ⊥
not_mapped ps f key at group flows there is here k e =
    let l = flows.live key k e in
    let same : k ≡ at = flows.alone k at l.0 group l.1.0 there (l.1.1 ∙ sym is) in
    (flows.taken key k e).1 (here ∙ ap (λ z. z + 1) (sym same))

-- where no group with the key stands at the place, the map has it
pub is_mapped : (ps : List Packet) (f : Flows) (key : Option (List ℕ)) (k : ℕ) (group : Group) → AreFlows ps f → get f.groups k ≡ Some group
    → key_at ps group ≡ key → (place_at f (hash_of key) ≡ k + 1 → ⊥) → slot_of f key ≡ Some k
is_mapped ps f key k group flows there is apart = elim (flows.reached k group there) [
  | inl m ↦ ap (slot_of f) (sym is) ∙ m
  | inr p ↦ absurd (apart (ap (place_at f) (sym ((flows.hashed k group there).1 ∙ ap hash_of is)) ∙ p))
]

-- where nothing stands at the place, the flow has no group
pub none_at : (ps : List Packet) (f : Flows) (key : Option (List ℕ)) → AreFlows ps f → place_at f (hash_of key) ≡ 0 → place_of ps f key ≡ None
none_at ps f key flows empty = not_found ps key f.groups.slots (λ k group there is.
    let m : slot_of f key ≡ Some k = is_mapped ps f key k group flows there is (λ e. omega (arith, empty, e)) in
    omega (arith, empty, (flows.taken key k m).0))

-- where another group stands there, the map tells
pub by_key : (ps : List Packet) (f : Flows) (key : Option (List ℕ)) → AreFlows ps f
    → ((g : Group) → get f.groups (place_at f (hash_of key) - 1) ≡ Some g → key_at ps g ≡ key → ⊥) → (o : Option ℕ)
    → IfSome o (λ run. (qs : List Packet) → AreFlows qs f → place_of qs f key ≡ Some run)
    → IfNone o ((qs : List Packet) → AreFlows qs f → slot_of f key ≡ None) → o ≡ place_of ps f key
by_key ps f key flows other None some none = sym (not_found ps key f.groups.slots (λ k group there is.
    let m : slot_of f key ≡ Some k = is_mapped ps f key k group flows there is (λ e.
    let back : place_at f (hash_of key) - 1 ≡ k = omega (arith, e) in
    other group (ap (get f.groups) back ∙ there) is) in
    let u : None ≡ Some k = sym (none ps flows) ∙ m in cc))
by_key ps f key flows other (Some run) some none = sym (some ps flows)

-- the flow that finds a run has its group
pub own_group : (ps : List Packet) (f : Flows) (key : Option (List ℕ)) (run : ℕ) → place_of ps f key ≡ Some run
    → (k : ℕ) × ((g : Group) × ((get f.groups k ≡ Some g) × ((key_at ps g ≡ key) × (g.run ≡ run))))
own_group ps f key run e = found_some ps key f.groups.slots run e

-- the group with a flow's own run is of the flow
pub own_key : (ps : List Packet) (f : Flows) (key : Option (List ℕ)) (run k : ℕ) (group : Group) → AreFlows ps f → IsOwn ps f key run
    → get f.groups k ≡ Some group → group.run ≡ run → key_at ps group ≡ key
own_key ps f key run k group flows own there same =
    sym (own.1 (key_at ps group) (finds ps (key_at ps group) f.groups.slots k group flows.alone there refl ∙ ap Some same))

-- the group that the map leads to is found
pub finds_live : (ps : List Packet) (f : Flows) (key : Option (List ℕ)) (k : ℕ) (group : Group) → AreFlows ps f → slot_of f key ≡ Some k
    → get f.groups k ≡ Some group → place_of ps f key ≡ Some group.run
finds_live ps f key k group flows held there =
    let l = flows.live key k held in
    let u : Some l.0 ≡ Some group = sym l.1.0 ∙ there in
    let v : l.0 ≡ group = cc in
    finds ps key f.groups.slots k group flows.alone there (ap (key_at ps) (sym v) ∙ l.1.1)

-- what finds nothing finds nothing else, and what is found is found again
pub puts_same : (ps : List Packet) (f : Flows) (key : Option (List ℕ)) (place : Option ℕ) → place_of ps f key ≡ place → Puts ps f key place f
puts_same ps f key place e q = elim (cases_Bool (key_eq key q)) [
  | inl t ↦ ap (place_of ps f) (sym (key_eq_same key q t)) ∙ e ∙ sym (picks (key_eq key q) place (place_of ps f q) t)
  | inr n ↦ sym (skips (key_eq key q) place (place_of ps f q) n)
]

-- a flow has one thing, and then another
pub puts_again : (ps : List Packet) (f g h : Flows) (key : Option (List ℕ)) (one two : Option ℕ) → Puts ps f key one g → Puts ps g key two h → Puts ps f key two h
puts_again ps f g h key one two first next q = elim (cases_Bool (key_eq key q)) [
  | inl t ↦ next q ∙ picks (key_eq key q) two (place_of ps g q) t ∙ sym (picks (key_eq key q) two (place_of ps f q) t)
  | inr n ↦
      next q ∙ skips (key_eq key q) two (place_of ps g q) n ∙ first q ∙ skips (key_eq key q) one (place_of ps f q) n
      ∙ sym (skips (key_eq key q) two (place_of ps f q) n)
]

-- the flow of which nothing is left finds nothing
pub puts_none : (ps : List Packet) (f g : Flows) (key : Option (List ℕ)) → Puts ps f key None g → place_of ps g key ≡ None
puts_none ps f g key puts = puts key ∙ picks (key_eq key key) None (place_of ps f key) (keys_equiv.refl key)

-- where more flows have room, fewer have
pub room_less : (f : Flows) (m n : ℕ) → m ≤ n → HasRoom f n → HasRoom f m
room_less f m n less room = record {
  groups = omega (arith, less, room.groups);
  entries = omega (arith, less, room.entries);
  places = λ o. room.places (omega (arith, o, less));
}

-- no groups yet
pub flows_none : (ps : List Packet) (f : Flows) → f.groups.slots ≡ [] → f.entries ≡ [] → AreFlows ps f
flows_none ps f none empty = record {
  hashed = λ k g e. absurd (vacant k g e);
  alone = λ j k g h d e same. absurd (vacant j g d);
  reached = λ k g e. absurd (vacant k g e);
  live = λ q k e. absurd (absent q k e);
  taken = λ q k e. absurd (absent q k e);
}
  where
    vacant : (k : ℕ) (g : Group) → get f.groups k ≡ Some g → ⊥
    vacant k g e = let u : None ≡ Some g = sym (ap (λ (z : List (Option Group)). get_or z k None) none) ∙ e in cc

    absent : (q : Option (List ℕ)) (k : ℕ) → slot_of f q ≡ Some k → ⊥
    absent q k e = let u : None ≡ Some k = sym (ap (lookup (key_eq q)) empty) ∙ e in cc

-- the same groups, found alike
pub flows_same : (ps : List Packet) (f g : Flows) → g.groups.slots ≡ f.groups.slots → ((q : Option (List ℕ)) → slot_of g q ≡ slot_of f q)
    → ((h : ℕ) → place_at g h ≡ place_at f h) → AreFlows ps f → AreFlows ps g
flows_same ps f g groups slots places flows = record {
  hashed = λ k h e. flows.hashed k h (back k h e);
  alone = λ j k a b d e same. flows.alone j k a b (back j a d) (back k b e) same;
  reached = λ k h e. elim (flows.reached k h (back k h e)) [
    | inl m ↦ inl (slots (key_at ps h) ∙ m)
    | inr p ↦ inr (places h.hash ∙ p)
  ];
  live = λ q k e.
      let l = flows.live q k (sym (slots q) ∙ e) in
      (l.0, (ap (λ (z : List (Option Group)). get_or z k None) groups ∙ l.1.0, l.1.1));
  taken = λ q k e. subst (λ z. (1 ≤ z) × (z ≢ k + 1)) (sym (places (hash_of q))) (flows.taken q k (sym (slots q) ∙ e));
}
  where
    back : (k : ℕ) (h : Group) → get g.groups k ≡ Some h → get f.groups k ≡ Some h
    back k h e = sym (ap (λ (z : List (Option Group)). get_or z k None) groups) ∙ e

-- places behind the last one have nothing
pub resized : (xs ys : List ℕ) (done : Bool) (n k : ℕ) → length xs ≤ n → ys ≡ (if done then take n xs ++ replicate k 0 else xs)
    → (i : ℕ) → get_or ys i 0 ≡ get_or xs i 0
resized xs ys done n k l e i = ap (λ z. get_or z i 0) e ∙ at done
  where
    zeros : (m j : ℕ) → get_or {A = ℕ} (replicate m zero) j zero ≡ zero
    zeros zero j = refl
    zeros (suc m) zero = refl
    zeros (suc m) (suc j) = zeros m j

    padded : (zs : List ℕ) (j : ℕ) → get_or (zs ++ replicate k 0) j 0 ≡ get_or zs j 0
    padded [] j = zeros k j
    padded (z ∷ zs) zero = refl
    padded (z ∷ zs) (suc j) = padded zs j

    at : (b : Bool) → get_or (if b then take n xs ++ replicate k 0 else xs) i 0 ≡ get_or xs i 0
    at true = ap (λ z. get_or (z ++ replicate k 0) i 0) (take_all n xs l) ∙ padded xs i
    at false = refl

-- ---- one packet more

key_more : (ps : List Packet) (x : Packet) (g : Group) → g.packet < length ps → key_at (ps ++ (x ∷ [])) g ≡ key_at ps g
key_more ps x g h = ap (λ (z : Packet). key_of z.frame) (get_or_append_left ps (x ∷ []) no_packet g.packet h)

run_more : (ps : List Packet) (x : Packet) (q : Option (List ℕ)) (s : List (Option Group)) → ((k : ℕ) (g : Group) → slot s k ≡ Some g → g.packet < length ps)
    → run_in (ps ++ (x ∷ [])) q s ≡ run_in ps q s
run_more ps x q [] h = refl
run_more ps x q (None ∷ s) h = run_more ps x q s (λ k g e. h (suc k) g e)
run_more ps x q (Some g ∷ s) h =
    ap (λ (z : Option ℕ). if key_eq (key_at (ps ++ (x ∷ [])) g) q then Some g.run else z) (run_more ps x q s (λ k a e. h (suc k) a e))
    ∙ ap (λ (z : Option (List ℕ)). if key_eq z q then Some g.run else run_in ps q s) (key_more ps x g (h 0 g refl))

-- the flows find what they found
pub place_more : (ps : List Packet) (x : Packet) (f : Flows) → AreFlows ps f → (q : Option (List ℕ)) → place_of (ps ++ (x ∷ [])) f q ≡ place_of ps f q
place_more ps x f flows q = run_more ps x q f.groups.slots (λ k g e. (flows.hashed k g e).0)

pub flows_more : (ps : List Packet) (x : Packet) (f : Flows) → AreFlows ps f → AreFlows (ps ++ (x ∷ [])) f
flows_more ps x f flows = record {
  hashed = λ k g e. (
    omega (arith, (flows.hashed k g e).0, length-append ps (x ∷ [])),
    (flows.hashed k g e).1 ∙ ap hash_of (sym (more k g e)),
  );
  alone = λ j k g h d e same. flows.alone j k g h d e (sym (more j g d) ∙ same ∙ more k h e);
  reached = λ k g e. elim (flows.reached k g e) [
    | inl m ↦ inl (ap (slot_of f) (more k g e) ∙ m)
    | inr p ↦ inr p
  ];
  live = λ q k e. let l = flows.live q k e in (l.0, (l.1.0, more k l.0 l.1.0 ∙ l.1.1));
  taken = flows.taken;
}
  where
    more : (k : ℕ) (g : Group) → get f.groups k ≡ Some g → key_at (ps ++ (x ∷ [])) g ≡ key_at ps g
    more k g e = key_more ps x g (flows.hashed k g e).0

-- ---- a run that is open no more

-- its flow finds nothing any more
pub record Closed (ps : List Packet) (f g : Flows) (key : Option (List ℕ)) : Type 0 where
  pub are : AreFlows ps g
  pub puts : Puts ps f key None g

-- its group stood at its place
pub closed_here : (ps : List Packet) (f g : Flows) (key : Option (List ℕ)) (hash at run : ℕ) → AreFlows ps f → IsOwn ps f key run → hash ≡ hash_of key
    → at ≡ place_at f hash → HasRun f at run → Updates f.groups g.groups (at - 1) None → g.entries ≡ f.entries → g.places ≡ f.places → Closed ps f g key
closed_here ps f g key hash at run flows own h e has updates entries places =
    let group : Group = has.1.0 in
    let is : key_at ps group ≡ key = own_key ps f key run (at - 1) group flows own has.1.1.0 has.1.1.1 in
    let here : place_at f (hash_of key) ≡ at - 1 + 1 = ap (place_at f) (sym h) ∙ sym e ∙ (let t : at ≡ at - 1 + 1 = omega (arith, has.0) in t) in
    let slots : (q : Option (List ℕ)) → slot_of g q ≡ slot_of f q = λ q. ap (lookup (key_eq q)) entries in
    record {
      are = flows_closed ps f g key (at - 1) group flows has.1.1.0 is updates.changed updates.others (λ q n. slots q)
          (λ k m. not_mapped ps f key (at - 1) group flows has.1.1.0 is here k (sym (slots key) ∙ m)) places;
      puts = puts_closed ps f g key (at - 1) group flows has.1.1.0 is updates.changed updates.others;
    }

-- the map had it
pub closed_by_key : (ps : List Packet) (f g : Flows) (key : Option (List ℕ)) (hash at run : ℕ) → AreFlows ps f → IsOwn ps f key run → hash ≡ hash_of key
    → at ≡ place_at f hash → (HasRun f at run → ⊥) → IfSome (slot_of f key) (λ k. Updates f.groups g.groups k None)
    → ((q : Option (List ℕ)) → slot_of g q ≡ (if key_eq key q then None else slot_of f q)) → g.places ≡ f.places → Closed ps f g key
closed_by_key ps f g key hash at run flows own h e apart groups slots places =
    let o = own_group ps f key run own.0 in
    let k : ℕ = o.0 in
    let group : Group = o.1.0 in
    let m : slot_of f key ≡ Some k = is_mapped ps f key k group flows o.1.1.0 o.1.1.1.0 (λ p.
    let there : at ≡ k + 1 = e ∙ ap (place_at f) h ∙ p in
    let back : at - 1 ≡ k = omega (arith, there) in
    apart (omega (arith, there), (group, (ap (get f.groups) back ∙ o.1.1.0, o.1.1.1.1)))) in
    let updates : Updates f.groups g.groups k None = subst (λ (z : Option ℕ). IfSome z (λ k. Updates f.groups g.groups k None)) m groups in
    let gone : slot_of g key ≡ None = slots key ∙ picks (key_eq key key) None (slot_of f key) (keys_equiv.refl key) in
    record {
      are = flows_closed ps f g key k group flows o.1.1.0 o.1.1.1.0 updates.changed updates.others
          (λ q n. slots q ∙ skips (key_eq key q) None (slot_of f q) n)
          (λ j s. let u : None ≡ Some j = sym gone ∙ s in cc) places;
      puts = puts_closed ps f g key k group flows o.1.1.0 o.1.1.1.0 updates.changed updates.others;
    }
