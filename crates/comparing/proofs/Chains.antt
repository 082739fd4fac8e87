-- Packets compared one by one with those of a flow.
use Rattle.std.proofs.Common.{◌≡◌, ℕ, zero, suc, ◌+◌, ◌<◌, ◌≤◌, Bool, true, false, cond, Option, List, [], ◌∷◌, length, get_or, drop, refl, sym, ap, ◌∙◌, subst, arith, length-drop}
use Rattle.std.specs.Prelude.{if◌then◌else◌, Decides}
use Rattle.std.specs.List.{filter}
use Rattle.std.specs.Int.{from_bool}
use Rattle.std.specs.Bool.{one_answer}
use Rattle.std.proofs.lemmas.List.{drop_more, drop_all}
use Rattle.frame_layout.specs.Key.{key_of}
use Rattle.pcap_io.specs.Capture.{Packet}
use Rattle.offload_model.specs.Rounds.{is_of, key_in}
use Rattle.offload_model.proofs.Items.{key_eq_same}
use Rattle.check_totals.specs.Returned.{is_same, equal_in}
use Rattle.check_totals.proofs.Returning.{decides_same}
use Rattle.comparing.specs.Chain.{left_at, IsOwn, Leads, IsChain, Counts}

-- ---- a flow's packets

pub none_left : (ps : List Packet) (q : Option (List ℕ)) (at : ℕ) → length ps ≤ at → left_at ps q at ≡ []
none_left ps q at l = ap (filter (is_of q)) (drop_all at ps l)

pub next_in : (ps : List Packet) (next : List ℕ) (q : Option (List ℕ)) (at : ℕ) (d : Packet) (e : ℕ) → IsChain ps next → IsOwn ps q at → at < length ps
    → (left_at ps q at ≡ get_or ps at d ∷ left_at ps q (get_or next at e)) × IsOwn ps q (get_or next at e)
next_in ps next q at d e c own l =
    let x : Packet = get_or ps at d in
    let is : is_of q x ≡ true = own d l in
    let same : q ≡ key_in x = key_eq_same q (key_of x.frame) is in
    let lead : Leads ps q (at + 1) (get_or next at e) = subst (λ z. Leads ps z (at + 1) (get_or next at e)) (sym same) (c.leads at d e l) in
    (ap (filter (is_of q)) (drop_more ps at d l) ∙ ap (λ v. cond v (x ∷ left_at ps q (at + 1)) (left_at ps q (at + 1))) is ∙ ap (λ z. x ∷ z) (sym lead.same), lead.own)

-- ---- the same packet

pub same_packet : (b : Bool) (x y : Packet) → Decides b ((y.original ≡ x.original) × (y.frame ≡ x.frame)) → b ≡ is_same x y
same_packet b x y d = one_answer b (is_same x y) d (decides_same x y)

-- ---- so many are the same

none_equal : (xs : List Packet) → equal_in xs [] ≡ 0
none_equal [] = refl
none_equal (x ∷ xs) = refl

-- some of the packets xs were compared, and so many were the same; `todo` are left
pub record Counting (ps : List Packet) (q : Option (List ℕ)) (from : ℕ) (xs todo : List Packet) (at n : ℕ) : Type 0 where
  pub owed : n + equal_in todo (left_at ps q at) ≡ equal_in xs (left_at ps q from)
  pub done : ℕ
  pub long : done + length todo ≡ length xs
  pub left : left_at ps q at ≡ drop done (left_at ps q from)
  pub own : IsOwn ps q at

pub count_start : (ps : List Packet) (q : Option (List ℕ)) (from : ℕ) (xs : List Packet) → IsOwn ps q from → Counting ps q from xs xs from 0
count_start ps q from xs own = record { owed = omega arith; done = 0; long = omega arith; left = refl; own = own }

pub count_turn : (ps : List Packet) (next : List ℕ) (q : Option (List ℕ)) (from : ℕ) (xs : List Packet) (x : Packet) (todo : List Packet) (at to n : ℕ) (b : Bool) (d : Packet) (e : ℕ)
    → IsChain ps next → Counting ps q from xs (x ∷ todo) at n → at < length ps → to ≡ get_or next at e → b ≡ is_same x (get_or ps at d)
    → Counting ps q from xs todo to (n + (if b then 1 else 0))
count_turn ps next q from xs x todo at to n b d e c k l is same =
    let y : Packet = get_or ps at d in
    let step = next_in ps next q at d e c k.own l in
    let lead : left_at ps q at ≡ y ∷ left_at ps q to = step.0 ∙ ap (λ (z : ℕ). y ∷ left_at ps q z) (sym is) in
    let first : equal_in (x ∷ todo) (left_at ps q at) ≡ (if b then 1 else 0) + equal_in todo (left_at ps q to)
    = ap (equal_in (x ∷ todo)) lead ∙ ap (λ (v : Bool). (if v then 1 else 0) + equal_in todo (left_at ps q to)) (sym same) in
    let behind : drop (k.done + 1) (left_at ps q from) ≡ left_at ps q to = drop_next (left_at ps q from) k.done y (left_at ps q to) (sym k.left ∙ lead) in
    record {
      owed = omega (arith, first, k.owed);
      done = k.done + 1;
      long = omega (arith, k.long);
      left = sym behind;
      own = subst (IsOwn ps q) (sym is) step.1;
    }
  where
    drop_next : (zs : List Packet) (i : ℕ) (y : Packet) (ys : List Packet) → drop i zs ≡ y ∷ ys → drop (i + 1) zs ≡ ys
    drop_next [] zero y ys e = absurd cc
    drop_next [] (suc i) y ys e = absurd cc
    drop_next (z ∷ zs) zero y ys e = let t : z ∷ zs ≡ y ∷ ys = e in cc
    drop_next (z ∷ zs) (suc i) y ys e = ap (λ (k : ℕ). drop k (z ∷ zs)) (let k : suc i + 1 ≡ suc (i + 1) = omega arith in k) ∙ drop_next zs i y ys e

pub count_end : (ps : List Packet) (q : Option (List ℕ)) (from : ℕ) (xs todo : List Packet) (at n : ℕ) → todo ≡ [] → Counting ps q from xs todo at n → Counts ps q from xs at n
count_end ps q from xs todo at n none k =
    let zero_left : equal_in todo (left_at ps q at) ≡ 0 = ap (λ (z : List Packet). equal_in z (left_at ps q at)) none in
    record {
      count = omega (arith, zero_left, k.owed);
      left = k.left ∙ ap (λ (z : ℕ). drop z (left_at ps q from)) (omega (arith, k.long, ap length none));
      own = k.own;
    }

pub count_stop : (ps : List Packet) (q : Option (List ℕ)) (from : ℕ) (xs todo : List Packet) (at n : ℕ) → length ps ≤ at → Counting ps q from xs todo at n → Counts ps q from xs at n
count_stop ps q from xs todo at n l k =
    let none : left_at ps q at ≡ [] = none_left ps q at l in
    let zero_left : equal_in todo (left_at ps q at) ≡ 0 = ap (equal_in todo) none ∙ none_equal todo in
    record {
      count = omega (arith, zero_left, k.owed);
      left = none ∙ sym (drop_all (length xs) (left_at ps q from) (omega (arith, k.long, ap length (sym k.left ∙ none), length-drop k.done (left_at ps q from))));
      own = k.own;
    }

-- a test as a number
pub ones : (b : Bool) → from_bool b ≡ (if b then 1 else 0)
ones true = refl
ones false = refl

pub ones_few : (b : Bool) → from_bool b ≤ 1
ones_few true = omega arith
ones_few false = omega arith

pub count_one : (ps : List Packet) (next : List ℕ) (q : Option (List ℕ)) (x : Packet) (at to n : ℕ) (b : Bool) (d : Packet) (e : ℕ)
    → IsChain ps next → IsOwn ps q at → at < length ps → to ≡ get_or next at e → b ≡ is_same x (get_or ps at d) → n ≡ from_bool b
    → Counts ps q at (x ∷ []) to n
count_one ps next q x at to n b d z c own l is same num =
    subst (Counts ps q at (x ∷ []) to) (sym (num ∙ ones b ∙ sym (let e : 0 + (if b then 1 else 0) ≡ (if b then 1 else 0) = omega arith in e)))
    (count_end ps q at (x ∷ []) [] to (0 + (if b then 1 else 0)) refl
    (count_turn ps next q at (x ∷ []) x [] at to 0 b d z c (count_start ps q at (x ∷ []) own) l is same))
