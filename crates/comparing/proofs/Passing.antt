-- Bytes that are passed one piece after the other.
use Rattle.std.proofs.Common.{◌≡◌, ℕ, zero, suc, ◌+◌, ◌-◌, ◌≤◌, List, [], ◌∷◌, ◌++◌, length, take, drop, refl, sym, ap, ◌∙◌, arith, append_assoc, length-append, ◌<◌, length-drop, Bool}
use Rattle.std.proofs.lemmas.List.{take_all, take-append-drop}
use Rattle.std.proofs.Math.Seq.{take-add, take-append_seam, drop-append_seam}
use Rattle.inet_sum.specs.Stands.{FoldAndLength, StandsFor}
use Rattle.inet_sum.specs.Sum.{fold_of}
use Rattle.std.specs.Prelude.{Decides}

-- ---- a list that stands next

pub passed_more : (at n : ℕ) (bytes old new end : List ℕ) → old ≡ take at bytes ++ new → new ≡ take n (drop at bytes) ++ end → old ≡ take (at + n) bytes ++ end
passed_more at n bytes old new end e f =
    e ∙ ap (λ (z : List ℕ). take at bytes ++ z) f ∙ sym (append_assoc (take at bytes) (take n (drop at bytes)) end) ∙ ap (λ (z : List ℕ). z ++ end) (sym (take-add at n bytes))

rest_of : (at : ℕ) (bytes new : List ℕ) → at ≤ length bytes → take (length bytes) (take at bytes ++ new) ≡ bytes → take (length bytes - at) new ≡ drop at bytes
rest_of zero bytes new l e = ap (λ (k : ℕ). take k new) (omega arith) ∙ e
rest_of (suc at) [] new l e = absurd (omega arith)
rest_of (suc at) (b ∷ bytes) new l e = ap (λ (k : ℕ). take k new) (omega arith) ∙ rest_of at bytes new (omega arith) (ap (drop 1) e)

-- the next bytes of the list, where none of them stand, and where they do
pub not_begun : (at : ℕ) (bytes old new : List ℕ) → at < length bytes → old ≡ take at bytes ++ new
    → (1 ≤ length (take (length bytes - at) (drop at bytes)) → take (length (take (length bytes - at) (drop at bytes))) new ≡ take (length bytes - at) (drop at bytes) → ⊥)
    → take (length bytes) old ≡ bytes → ⊥
not_begun at bytes old new l e other same =
    let slice : take (length bytes - at) (drop at bytes) ≡ drop at bytes = take_all (length bytes - at) (drop at bytes) (omega (arith, length-drop at bytes)) in
    let long : length (take (length bytes - at) (drop at bytes)) ≡ length bytes - at = ap length slice ∙ length-drop at bytes in
    other (omega (arith, long, l)) (ap (λ (k : ℕ). take k new) long ∙ rest_of at bytes new (omega (arith, l)) (ap (take (length bytes)) (sym e) ∙ same) ∙ sym slice)

pub all_begun : (at : ℕ) (bytes old new : List ℕ) → length bytes ≤ at → old ≡ take at bytes ++ new → take (length bytes) old ≡ bytes
all_begun at bytes old new l e = ap (take (length bytes)) (e ∙ ap (λ (z : List ℕ). z ++ new) (take_all at bytes l)) ∙ take-append_seam bytes new

-- ---- two lists that are passed together

shorter : (j k : ℕ) (a b : List ℕ) → j ≤ k → take k a ≡ take k b → take j a ≡ take j b
shorter zero k a b l e = refl
shorter (suc j) zero a b l e = absurd (omega arith)
shorter (suc j) (suc k) [] [] l e = refl
shorter (suc j) (suc k) [] (y ∷ b) l e = absurd cc
shorter (suc j) (suc k) (x ∷ a) [] l e = absurd cc
shorter (suc j) (suc k) (x ∷ a) (y ∷ b) l e =
    let t : x ∷ take k a ≡ y ∷ take k b = e in
    let first : x ≡ y = cc in
    ap (λ (z : ℕ). z ∷ take j a) first ∙ ap (λ (z : List ℕ). y ∷ z) (shorter j k a b (omega arith) (ap (drop 1) e))

behind_front : (front a b : List ℕ) (left : ℕ) → take (length front + left) (front ++ a) ≡ take (length front + left) (front ++ b) → take left a ≡ take left b
behind_front [] a b left e = ap (λ (k : ℕ). take k a) (omega arith) ∙ e ∙ ap (λ (k : ℕ). take k b) (omega arith)
behind_front (x ∷ front) a b left e =
    let k : length (x ∷ front) + left ≡ suc (length front + left) = omega arith in
    behind_front front a b left (ap (drop 1) (ap (λ (n : ℕ). take n ((x ∷ front) ++ a)) (sym k) ∙ e ∙ ap (λ (n : ℕ). take n ((x ∷ front) ++ b)) k))

-- where all of a list stands next, a piece of what stands next is its front
pub own_front : (own bytes old new : List ℕ) → old ≡ own ++ new → length own ≤ length bytes → take (length bytes) old ≡ bytes → own ≡ take (length own) bytes
own_front own bytes old new e l same =
    sym (ap (take (length own)) e ∙ take-append_seam own new)
    ∙ shorter (length own) (length bytes) old bytes l (same ∙ sym (take_all (length bytes) bytes (omega arith)))

-- of two lists the same front was passed, and `left` of n bytes are left
pub record ArePassed (n left : ℕ) (u v a b : List ℕ) : Type 0 where
  pub front : List ℕ
  pub first : u ≡ front ++ a
  pub second : v ≡ front ++ b
  pub long : length front + left ≡ n

pub both_more : (n left : ℕ) (u v a b x c d : List ℕ) → ArePassed n left u v a b → length x ≤ left → a ≡ x ++ c → b ≡ x ++ d → ArePassed n (left - length x) u v c d
both_more n left u v a b x c d p l e f = record {
  front = p.front ++ x;
  first = p.first ∙ ap (λ (z : List ℕ). p.front ++ z) e ∙ sym (append_assoc p.front x c);
  second = p.second ∙ ap (λ (z : List ℕ). p.front ++ z) f ∙ sym (append_assoc p.front x d);
  long = omega (arith, length-append p.front x, p.long);
}

-- where n bytes are alike, the next ones are
pub next_alike : (n left : ℕ) (u v a b x d : List ℕ) → ArePassed n left u v a b → length x ≤ left → b ≡ x ++ d → take n u ≡ take n v → take (length x) a ≡ x
next_alike n left u v a b x d p l f same =
    let e : take (length p.front + left) (p.front ++ a) ≡ take (length p.front + left) (p.front ++ b)
    = ap (λ (k : ℕ). take k (p.front ++ a)) p.long ∙ ap (take n) (sym p.first) ∙ same ∙ ap (take n) p.second ∙ ap (λ (k : ℕ). take k (p.front ++ b)) (sym p.long) in
    shorter (length x) left a b l (behind_front p.front a b left e) ∙ ap (take (length x)) f ∙ take-append_seam x d

-- where none are left, n bytes are alike
pub all_alike : (n left : ℕ) (u v a b : List ℕ) → left ≤ 0 → ArePassed n left u v a b → take n u ≡ take n v
all_alike n left u v a b l p =
    let long : n ≡ length p.front = omega (arith, l, p.long) in
    ap (λ (k : ℕ). take k u) long ∙ ap (take (length p.front)) p.first ∙ take-append_seam p.front a
    ∙ sym (ap (λ (k : ℕ). take k v) long ∙ ap (take (length p.front)) p.second ∙ take-append_seam p.front b)

pub begun : (a x c : List ℕ) → take (length x) a ≡ x → c ≡ drop (length x) a → a ≡ x ++ c
begun a x c e f = sym (take-append-drop (length x) a) ∙ ap (λ (z : List ℕ). z ++ drop (length x) a) e ∙ ap (λ (z : List ℕ). x ++ z) (sym f)

-- all bytes are a header and n bytes of a payload, where they begin with the header and the n bytes behind it are the payload's
pub whole_alike : (whole bytes header rest payload : List ℕ) (n : ℕ) (r : Bool) → length whole ≡ length header + n → bytes ≡ whole → take (length header) bytes ≡ header
    → rest ≡ drop (length header) bytes → Decides r (take n rest ≡ take n payload) → Decides r (whole ≡ header ++ take n payload)
whole_alike whole bytes header rest payload n r long same front behind d =
    let left : take n rest ≡ rest = take_all n rest (omega (arith, long, ap length same, ap length behind, length-drop (length header) bytes)) in
    let parts : whole ≡ header ++ rest
    = sym same ∙ sym (take-append-drop (length header) bytes) ∙ ap (λ (z : List ℕ). z ++ drop (length header) bytes) front ∙ ap (λ (z : List ℕ). header ++ z) (sym behind) in (
      λ e. parts ∙ ap (λ (z : List ℕ). header ++ z) (sym left ∙ d.0 e),
      λ e. d.1 (left ∙ behind ∙ ap (drop (length header)) (same ∙ e) ∙ drop-append_seam header (take n payload)),
    )

pub header_begins : (whole bytes header payload : List ℕ) (n : ℕ) → bytes ≡ whole → whole ≡ header ++ take n payload → take (length header) bytes ≡ header
header_begins whole bytes header payload n same e = ap (take (length header)) (same ∙ e) ∙ take-append_seam header (take n payload)

-- ---- bytes that are summed

pub record AreSummed (n left : ℕ) (old new : List ℕ) (sum : FoldAndLength) : Type 0 where
  pub front : List ℕ
  pub whole : old ≡ front ++ new
  pub stands : StandsFor sum front
  pub long : length front + left ≡ n

pub summed_more : (n left : ℕ) (old now bytes new : List ℕ) (sum after : FoldAndLength) → AreSummed n left old now sum → left ≤ length now → length bytes ≤ left → now ≡ bytes ++ new
    → ((front : List ℕ) → StandsFor sum front → StandsFor after (front ++ bytes)) → (left - length bytes ≤ length new) × AreSummed n (left - length bytes) old new after
summed_more n left old now bytes new sum after s l most e adds = (
  omega (arith, l, ap length e, length-append bytes new),
  record {
    front = s.front ++ bytes;
    whole = s.whole ∙ ap (λ (z : List ℕ). s.front ++ z) e ∙ sym (append_assoc s.front bytes new);
    stands = adds s.front s.stands;
    long = omega (arith, length-append s.front bytes, s.long);
  },
)

-- where none are left, all n bytes are summed
pub all_summed : (n left : ℕ) (old new : List ℕ) (sum : FoldAndLength) → left ≤ 0 → AreSummed n left old new sum → StandsFor sum (take n old) × (new ≡ drop n old)
all_summed n left old new sum l s =
    let long : length s.front ≡ n = omega (arith, l, s.long) in
    let front : s.front ≡ take n old = sym (take-append_seam s.front new) ∙ ap (take (length s.front)) (sym s.whole) ∙ ap (λ (k : ℕ). take k old) long in (
      (s.stands.0 ∙ ap fold_of front, s.stands.1 ∙ ap length front),
      sym (drop-append_seam s.front new) ∙ ap (drop (length s.front)) (sym s.whole) ∙ ap (λ (k : ℕ). drop k old) long,
    )
