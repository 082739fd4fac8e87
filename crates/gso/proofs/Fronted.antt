-- A buffer's frame, of which the first bytes are known.
use Rattle.std.proofs.Common.{◌≡◌, ℕ, ◌+◌, ◌-◌, ◌<◌, ◌≤◌, ◌^◌, Some, List, ◌++◌, length, min, get_or, drop, sym, ap, subst, arith, ap, ◌∙◌, length-append, length-drop}
use Rattle.std.proofs.lemmas.List.{get_or-drop}
use Rattle.inet_sum.specs.Stands.{FoldAndLength, StandsFor}
use Rattle.frame_layout.specs.Shape.{Layout, shape_of}
use Rattle.frame_layout.specs.Front.{IsPayloadOf}
use Rattle.frame_layout.specs.Headers.{AtHeaders, size}
use Rattle.frame_layout.proofs.Lemmas.{headers_map, laid, shape_of_head, inside_all}
use Rattle.skb.specs.Checksum.{AreBytes}
use Rattle.gso.specs.Sums.{AreSumsOf}
use Rattle.gso.specs.declared.sums.Sums.{Sums}
use Rattle.skb.proofs.Summing.{bytes_more}

bytes_behind : (f : List ℕ) (at n : ℕ) → at ≤ n → AreBytes (drop at f) → AreBytes (drop n f)
bytes_behind f at n h b k =
    let e : at + ((n - at) + k) ≡ n + k = omega arith in
    omega (arith, get_or-drop n f k 0, get_or-drop at f ((n - at) + k) 0, b ((n - at) + k), ap (λ (z : ℕ). get_or f z 0) e)

all_small : (f front : List ℕ) → f ≡ front ++ drop (length front) f → AreBytes front → (at : ℕ) → at ≤ length front → AreBytes (drop at f) → AreBytes f
all_small f front joined small at within behind = subst AreBytes (sym joined) (bytes_more front (drop (length front) f) small (bytes_behind f at (length front) within behind))

pub same_shape : (f front : List ℕ) → f ≡ front ++ drop (length front) f → AreBytes front → min (length f) 200 ≤ length front → shape_of front ≡ shape_of f
same_shape f front joined small enough = shape_of_head front (drop (length front) f) f joined small enough

-- what the sums of the payload's segments say of a frame whose first bytes are known
pub record IsKnown (f front : List ℕ) (at m : ℕ) (sums : Sums) (payload : FoldAndLength) : Type 0 where
  pub small : AreBytes f
  pub known : AreSumsOf m sums (drop at f)
  pub payload_is : IsPayloadOf front at payload f
  pub same : shape_of front ≡ shape_of f

pub known : (f front : List ℕ) (at m place : ℕ) (sums : Sums) (payload : FoldAndLength) → f ≡ front ++ drop (length front) f → AreBytes front → min (length f) 200 ≤ length front → at ≤ length front
    → place ≡ at
    → AreBytes (drop place f) → AreSumsOf m sums (drop place f) → ((g : List ℕ) → AreSumsOf m sums g → StandsFor payload g) → IsKnown f front at m sums payload
known f front at m place sums payload joined small enough within is behind sum stands =
    let b : AreBytes (drop at f) = subst (λ (z : ℕ). AreBytes (drop z f)) is behind in
    let k : AreSumsOf m sums (drop at f) = subst (λ (z : ℕ). AreSumsOf m sums (drop z f)) is sum in
    let all : AreBytes f = all_small f front joined small at within b in
    record {
      small = all;
      known = k;
      payload_is = record { tail = drop (length front) f; joined = joined; sum = stands (drop at f) k; in_bytes = all };
      same = same_shape f front joined small enough;
    }

pub dropped_few : (f : List ℕ) (at : ℕ) → length f < 2 ^ 32 → length (drop at f) < 2 ^ 32
dropped_few f at few = omega (arith, few, length-drop at f)

-- how long a frame is by the length of its payload
pub whole_len : (f front : List ℕ) (at place len : ℕ) → f ≡ front ++ drop (length front) f → at ≤ length front → place ≡ at
    → len ≡ length (drop place f) → (length front ≤ at + len) × (length f ≡ at + len)
whole_len f front at place len joined within is size =
    let long = ap length joined ∙ length-append front (drop (length front) f) in
    (omega (arith, long, within, is, size, length-drop place f), omega (arith, long, within, is, size, length-drop place f))

-- headers stand in the bytes that have their shape
pub headers_in : (front : List ℕ) (l : Layout) → shape_of front ≡ Some l → AtHeaders (λ layer at. at + size layer ≤ length front) l.headers
headers_in front l e =
    let k = laid front l e in
    headers_map (λ layer at h. omega (arith, h, k.1)) l.headers (inside_all 0 l.payload_at l.headers k.0)
