-- Sums of pieces of m bytes.
use Rattle.std.proofs.Common.{◌≡◌, ℕ, zero, suc, get_or, append_assoc, ◌*◌, ◌+◌, ◌<◌, ◌≤◌, List, [], ◌∷◌, ◌++◌, length, take, drop, sym, ap, ◌∙◌, subst, arith, length-append, length-drop}
use Rattle.std.proofs.lemmas.List.{drop_more, take-append-drop, drop-drop, take-append-le, drop-append-le, take_all, drop_all}
use Rattle.inet_sum.specs.Stands.{FoldAndLength, StandsFor}
use Rattle.gso.specs.Sums.{AreSums}

pub sums_more : (m : ℕ) (ss : List FoldAndLength) (last new : FoldAndLength) (b f : List ℕ) → ((front : List ℕ) → StandsFor last front → StandsFor new (front ++ b))
    → AreSums m ss last f → AreSums m ss new (f ++ b)
sums_more m [] last new b f k h = k f h
sums_more m (s ∷ ss) last new b f k h = (
  omega (arith, length-append f b, h.0),
  subst (StandsFor s) (sym (take-append-le m f b h.0)) h.1,
  subst (AreSums m ss new) (sym (drop-append-le m f b h.0)) (sums_more m ss last new b (drop m f) k h.2),
)

pub sums_close : (m : ℕ) (ss : List FoldAndLength) (last none : FoldAndLength) (f : List ℕ) → last.len ≡ m → StandsFor none [] → AreSums m ss last f → AreSums m (ss ++ last ∷ []) none f
sums_close m [] last none f e z h =
    let l : length f ≡ m = omega (arith, h.1, e) in
    (omega (arith, l), subst (StandsFor last) (sym (take_all m f (omega (arith, l)))) h, subst (StandsFor none) (sym (drop_all m f (omega (arith, l)))) z)
sums_close m (s ∷ ss) last none f e z h = (h.0, h.1, sums_close m ss last none (drop m f) e z h.2)

-- the i-th sum, and the one behind them
pub sum_at : (m : ℕ) (ss : List FoldAndLength) (rest d : FoldAndLength) (i : ℕ) (f : List ℕ) → AreSums m ss rest f → i < length ss → StandsFor (get_or ss i d) (take m (drop (i * m) f))
sum_at m [] rest d i f h k = absurd (omega arith)
sum_at m (s ∷ ss) rest d zero f h k = let e : 0 * m ≡ 0 = omega arith in subst (λ (z : ℕ). StandsFor s (take m (drop z f))) (sym e) h.1
sum_at m (s ∷ ss) rest d (suc i) f h k =
    let e : m + i * m ≡ (suc i) * m = grind arith in
    subst (λ (z : List ℕ). StandsFor (get_or ss i d) (take m z)) (drop-drop (i * m) m f ∙ ap (λ (z : ℕ). drop z f) e) (sum_at m ss rest d i (drop m f) h.2 (omega arith))

pub rest_at : (m : ℕ) (ss : List FoldAndLength) (rest : FoldAndLength) (f : List ℕ) → AreSums m ss rest f → StandsFor rest (drop (length ss * m) f)
rest_at m [] rest f h = let e : 0 * m ≡ 0 = omega arith in subst (λ (z : ℕ). StandsFor rest (drop z f)) (sym e) h
rest_at m (s ∷ ss) rest f h =
    let e : m + length ss * m ≡ length (s ∷ ss) * m = grind arith in
    subst (StandsFor rest) (drop-drop (length ss * m) m f ∙ ap (λ (z : ℕ). drop z f) e) (rest_at m ss rest (drop m f) h.2)

-- some of the sums are joined: what they stand for, and what is left
pub record IsJoining (m : ℕ) (ss : List FoldAndLength) (rest : FoldAndLength) (all : FoldAndLength) (f : List ℕ) : Type 0 where
  pub done : List ℕ
  pub left : List ℕ
  pub parts : done ++ left ≡ f
  pub stands : StandsFor all done
  pub sums : AreSums m ss rest left

pub joining_more : (m : ℕ) (s : FoldAndLength) (ss : List FoldAndLength) (rest all new : FoldAndLength) (f : List ℕ)
    → ((front back : List ℕ) → StandsFor all front → StandsFor s back → StandsFor new (front ++ back)) → IsJoining m (s ∷ ss) rest all f → IsJoining m ss rest new f
joining_more m s ss rest all new f k h = record {
  done = h.done ++ take m h.left;
  left = drop m h.left;
  parts = append_assoc h.done (take m h.left) (drop m h.left) ∙ ap (λ (z : List ℕ). h.done ++ z) (take-append-drop m h.left) ∙ h.parts;
  stands = k h.done (take m h.left) h.stands h.sums.1;
  sums = h.sums.2;
}

-- the sum of the last segment, where it is the one behind them
pub last_is : (m : ℕ) (ss : List FoldAndLength) (rest : FoldAndLength) (i : ℕ) (f : List ℕ) → i ≡ length ss → AreSums m ss rest f → length f ≤ (i + 1) * m
    → StandsFor rest (take m (drop (i * m) f))
last_is m ss rest i f e h short =
    let k : length ss * m ≡ i * m = ap (λ (z : ℕ). z * m) (sym e) in
    let j : (i + 1) * m ≡ i * m + m = grind arith in
    subst (StandsFor rest) (ap (λ (z : ℕ). drop z f) k ∙ sym (take_all m (drop (i * m) f) (omega (arith, length-drop (i * m) f, short, j)))) (rest_at m ss rest f h)

module _ (m : ℕ) (ss : List FoldAndLength) (rest d : FoldAndLength) where
  pub joining_step : (i : ℕ) (all new : FoldAndLength) (f : List ℕ) → i < length ss
      → ((front back : List ℕ) → StandsFor all front → StandsFor (get_or ss i d) back → StandsFor new (front ++ back))
      → IsJoining m (drop i ss) rest all f → IsJoining m (drop (i + 1) ss) rest new f
  joining_step i all new f l k h =
      joining_more m (get_or ss i d) (drop (i + 1) ss) rest all new f k (subst (λ (z : List FoldAndLength). IsJoining m z rest all f) (drop_more ss i d l) h)
