-- Packets that are entered, flow by flow, and places that move on.
use Rattle.std.proofs.Common.{◌≡◌, ℕ, ◌+◌, ◌<◌, inl, inr, Bool, true, false, cond, Option, Some, List, [], ◌∷◌, length, get_or, set, drop, refl, sym, ap, ◌∙◌, subst, arith, ◌-◌, ◌≤◌, map}
use Rattle.std.proofs.Common.{length-set}
use Rattle.std.specs.Option.{unwrap_or}
use Rattle.std.specs.List.{filter}
use Rattle.std.specs.HashMap.{get}
use Rattle.std.proofs.lemmas.List.{drop_more, drop_all, get_or-set_same, get_or-set_other, length-map}
use Rattle.std.proofs.lemmas.Bool.{cases_eq}
use Rattle.frame_layout.specs.Key.{key_eq, key_of}
use Rattle.pcap_io.specs.Capture.{Packet}
use Rattle.offload_model.specs.Rounds.{is_of, key_in}
use Rattle.offload_model.proofs.Items.{key_eq_self, key_eq_same}
use Rattle.comparing.specs.declared.kept_flows.KeptFlows.{KeptFlows}
use Rattle.check_totals.specs.Returned.{equal_in}
use Rattle.comparing.specs.Chain.{left_at, IsOwn, Leads, IsChain, Counts}
use Rattle.comparing.specs.KeptFlows.{place_of, left_in, AreFlows, AreFlowsFrom, Moves, CountsIn}
use Rattle.comparing.proofs.Chains.{none_left}
use Rattle.taps.specs.declared.clones.TapClone.{TapClone}
use Rattle.taps.specs.Clones.{packet_of}

other_key : (a b : Option (List ℕ)) → key_eq a b ≡ false → a ≡ b → ⊥
other_key a b e h = let t : true ≡ false = sym (key_eq_self b) ∙ ap (λ z. key_eq z b) (sym h) ∙ e in absurd cc

-- ---- entering

pub next_free : (kept : List TapClone) (f : KeptFlows) (i : ℕ) → i ≤ length kept → 0 < i → AreFlowsFrom (map packet_of kept) i f → i - 1 < length f.next.items
next_free kept f i l some a = omega (arith, l, some, a.long, length-map kept packet_of)

module _ (ps : List Packet) (f g : KeptFlows) (i : ℕ) (x : Packet) (k : Option (List ℕ)) (there : i < length f.next.items) (is : (d : Packet) → get_or ps i d ≡ x) (own : k ≡ key_of x.frame)
    (was : AreFlowsFrom ps (i + 1) f) (up : (q : Option (List ℕ)) → get key_eq g.first q ≡ cond (key_eq k q) (Some i) (get key_eq f.first q))
    (next : g.next.items ≡ set f.next.items i (place_of f k)) where
  same_long : length g.next.items ≡ length f.next.items
  same_long = ap length next ∙ length-set f.next.items i (place_of f k)

  place_new : (q : Option (List ℕ)) → place_of g q ≡ unwrap_or (cond (key_eq k q) (Some i) (get key_eq f.first q)) (length f.next.items)
  place_new q = ap (λ n. unwrap_or (get key_eq g.first q) n) same_long ∙ ap (λ z. unwrap_or z (length f.next.items)) (up q)

  first_new : (q : Option (List ℕ)) (v : Bool) → key_eq k q ≡ v → Leads ps q i (place_of g q)
  first_new q true e =
      let at : place_of g q ≡ i = place_new q ∙ ap (λ v. unwrap_or (cond v (Some i) (get key_eq f.first q)) (length f.next.items)) e in
      let mine : is_of q x ≡ true = ap (λ z. key_eq z (key_of x.frame)) (sym (key_eq_same k q e) ∙ own) ∙ key_eq_self (key_of x.frame) in
      subst (Leads ps q i) (sym at) (record { same = refl; own = λ d l. ap (is_of q) (is d) ∙ mine })
  first_new q false e =
      let at : place_of g q ≡ place_of f q = place_new q ∙ ap (λ v. unwrap_or (cond v (Some i) (get key_eq f.first q)) (length f.next.items)) e in
      let lead : Leads ps q (i + 1) (place_of f q) = was.first q in
      let l : i < length ps = omega (arith, there, was.long) in
      let none : (w : Bool) → is_of q x ≡ w → left_at ps q i ≡ left_at ps q (i + 1) = λ w s. passed q e w s l in
      subst (Leads ps q i) (sym at) (record { same = lead.same ∙ sym (none (is_of q x) refl); own = lead.own })
    where
      passed : (q : Option (List ℕ)) → key_eq k q ≡ false → (w : Bool) → is_of q x ≡ w → i < length ps → left_at ps q i ≡ left_at ps q (i + 1)
      passed q e true s l = absurd (other_key k q e (own ∙ sym (key_eq_same q (key_of x.frame) s)))
      passed q e false s l =
          ap (filter (is_of q)) (drop_more ps i x l ∙ ap (λ z. z ∷ drop (i + 1) ps) (is x)) ∙ ap (λ v. cond v (x ∷ left_at ps q (i + 1)) (left_at ps q (i + 1))) s

  pub entered : AreFlowsFrom ps i g
  entered = record {
    long = same_long ∙ was.long;
    leads = λ j d e a b. elim (cases_eq j i) [
      | inl h ↦
          let at : get_or g.next.items j e ≡ place_of f k = ap (λ z. get_or z j e) next ∙ ap (λ z. get_or (set f.next.items i (place_of f k)) z e) h ∙ get_or-set_same f.next.items i
          (place_of f k) e there in
          let mine : key_in (get_or ps j d) ≡ k = ap (λ z. key_in (get_or ps z d)) h ∙ ap key_in (is d) ∙ sym own in
          subst (Leads ps (key_in (get_or ps j d)) (j + 1)) (sym at)
          (subst (λ z. Leads ps z (j + 1) (place_of f k)) (sym mine) (subst (λ z. Leads ps k (z + 1) (place_of f k)) (sym h) (was.first k)))
      | inr n ↦
          let at : get_or g.next.items j e ≡ get_or f.next.items j e = ap (λ z. get_or z j e) next ∙ get_or-set_other f.next.items i j (place_of f k) e n in
          subst (Leads ps (key_in (get_or ps j d)) (j + 1)) (sym at) (was.leads j d e (omega arith) b)
    ];
    first = λ q. first_new q (key_eq k q) refl;
  }

pub all_entered : (ps : List Packet) (f : KeptFlows) → AreFlowsFrom ps 0 f → AreFlows ps f
all_entered ps f a = record {
  chain = record { long = a.long; leads = λ j d e l. a.leads j d e (omega arith) l };
  own = λ q. (a.first q).own;
}

-- ---- moving on

pub moves_on : (f g : KeptFlows) (k : Option (List ℕ)) (at : ℕ) → g.next ≡ f.next
    → ((q : Option (List ℕ)) → get key_eq g.first q ≡ cond (key_eq k q) (Some at) (get key_eq f.first q)) → Moves f k at g
moves_on f g k at next up =
    let long : length g.next.items ≡ length f.next.items = ap (λ z. length z.items) next in
    record {
      next = next;
      own = inl (ap (λ v. unwrap_or v (length g.next.items)) (up k ∙ ap (λ v. cond v (Some at) (get key_eq f.first k)) (key_eq_self k)));
      others = λ r n. ap (λ v. unwrap_or v (length g.next.items)) (up r ∙ ap (λ v. cond v (Some at) (get key_eq f.first r)) (not_key r n (key_eq k r) refl))
          ∙ ap (λ z. unwrap_or (get key_eq f.first r) z) long;
    }
  where
    not_key : (r : Option (List ℕ)) → (r ≡ k → ⊥) → (w : Bool) → key_eq k r ≡ w → key_eq k r ≡ false
    not_key r n true e = absurd (n (sym (key_eq_same k r e)))
    not_key r n false e = e

drop_none : {A : Type 0} (n : ℕ) → drop {A = A} n [] ≡ []
drop_none n = drop_all n [] (omega arith)

module _ (ps : List Packet) (f g : KeptFlows) (q : Option (List ℕ)) (xs : List Packet) (from to n : ℕ) (a : AreFlows ps f) (is : from ≡ place_of f q) (c : Counts ps q from xs to n)
    (m : Moves f q to g) where
  own_new : (r : Option (List ℕ)) (v : Bool) → key_eq r q ≡ v → IsOwn ps r (place_of g r)
  own_new r true e = subst (λ z. IsOwn ps z (place_of g z)) (sym (key_eq_same r q e)) (elim m.own [
    | inl h ↦ subst (IsOwn ps q) (sym h) c.own
    | inr h ↦ subst (IsOwn ps q) (sym h.0) (a.own q)
  ])
  own_new r false e = subst (IsOwn ps r) (sym (m.others r (other_key r q e))) (a.own r)

  pub flows_moved : AreFlows ps g
  flows_moved = record {
    chain = subst (λ z. IsChain ps z.items) (sym m.next) a.chain;
    own = λ r. own_new r (key_eq r q) refl;
  }

  pub counted : CountsIn ps f q xs g n
  counted = record {
    count = c.count ∙ ap (λ z. equal_in xs (left_at ps q z)) is;
    left = elim m.own [
      | inl h ↦ ap (left_at ps q) h ∙ c.left ∙ ap (λ z. drop (length xs) (left_at ps q z)) is
      | inr h ↦
          let none : left_in ps f q ≡ [] = ap (left_at ps q) h.1 ∙ none_left ps q (length f.next.items) (omega (arith, a.chain.long)) in
          ap (left_at ps q) h.0 ∙ none ∙ sym (ap (drop (length xs)) none ∙ drop_none (length xs))
    ];
    others = λ r o. ap (left_at ps r) (m.others r o);
  }
