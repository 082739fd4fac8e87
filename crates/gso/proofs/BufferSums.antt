-- The sums of the segments of a buffer's bytes.
use Rattle.std.proofs.Common.{◌≡◌, ℕ, ◌+◌, ◌≤◌, ◌<◌, ◌^◌, List, ◌++◌, length, get_or, drop, sym, ap, ◌∙◌, arith, append_assoc, append-nil, subst, length-append, length-drop}
use Rattle.std.proofs.lemmas.List.{drop_more, drop_all, drop-append-le}
use Rattle.frags.specs.PieceList.{bytes_of, piece_bytes}
use Rattle.frags.specs.declared.pieces.Piece.{Piece}
use Rattle.skb.specs.SkbState.{SkbState, head_bytes, buffer_bytes}
use Rattle.gso.specs.declared.sums.Sums.{Sums}
use Rattle.gso.specs.Sums.{AreSumsOf, IsRoom}
use Rattle.skb.specs.Checksum.{AreBytes}
use Rattle.skb.proofs.Summing.{bytes_more}

-- the sums are of some bytes, behind which those from piece i on stand
pub record AreBufferSums (s : SkbState) (m from i : ℕ) (sums : Sums) : Type 0 where
  pub done : List ℕ
  pub known : AreSumsOf m sums done
  pub whole : done ++ bytes_of (drop i s.rest) ≡ drop from (buffer_bytes s)
  pub in_bytes : AreBytes done
  pub room : IsRoom m sums
  pub short : sums.rest.len ≤ length done

-- no piece is left
pub parts_all : (s : SkbState) (m from i : ℕ) (sums : Sums) → AreBufferSums s m from i sums → length s.rest ≤ i
    → AreBytes (drop from (buffer_bytes s))
parts_all s m from i sums is end =
    subst AreBytes (sym (append-nil is.done) ∙ ap (λ (ps : List Piece). is.done ++ bytes_of ps) (sym (drop_all i s.rest end))
    ∙ is.whole) is.in_bytes

pub parts_front : (s : SkbState) (m from : ℕ) (sums : Sums) → from ≤ length (head_bytes s) → AreSumsOf m sums (drop from (head_bytes s)) → AreBytes (drop from (head_bytes s)) → IsRoom m sums
    → sums.rest.len ≤ length (drop from (head_bytes s)) → AreBufferSums s m from 0 sums
parts_front s m from sums h st b room short = record {
  done = drop from (head_bytes s);
  known = st;
  whole = sym (drop-append-le from (head_bytes s) (bytes_of s.rest) h);
  in_bytes = b;
  room = room;
  short = short;
}

module _ (s : SkbState) (m from i : ℕ) (d : Piece) (old : Sums) (p : List ℕ) (h : i < length s.rest) (was : AreBufferSums s m from i old) (is : p ≡ piece_bytes (get_or s.rest i d)) where
  more : bytes_of (drop i s.rest) ≡ p ++ bytes_of (drop (i + 1) s.rest)
  more = ap bytes_of (drop_more s.rest i d h) ∙ ap (λ (z : List ℕ). z ++ bytes_of (drop (i + 1) s.rest)) (sym is)

  pub parts_more : (new : Sums) → AreSumsOf m new (was.done ++ p) → AreBytes p → IsRoom m new → new.rest.len ≤ old.rest.len + length p → AreBufferSums s m from (i + 1) new
  parts_more new st b room len = record {
    done = was.done ++ p;
    known = st;
    whole = append_assoc was.done p (bytes_of (drop (i + 1) s.rest)) ∙ ap (λ (z : List ℕ). was.done ++ z) (sym more) ∙ was.whole;
    in_bytes = bytes_more was.done p was.in_bytes b;
    room = room;
    short = omega (arith, len, was.short, length-append was.done p);
  }

  pub parts_few : length (buffer_bytes s) < 2 ^ 32 → old.rest.len + length p < 2 ^ 32
  parts_few k =
      omega (
        arith,
        was.short,
        ap length was.whole,
        ap length more,
        length-append was.done (bytes_of (drop i s.rest)),
        length-append p (bytes_of (drop (i + 1) s.rest)),
        length-drop from
            (buffer_bytes s),
        k,
      )
