-- Lists of bytes that are taken piece by piece.
use Rattle.std.proofs.Common.{◌≡◌, ◌≤◌, ◌+◌, ◌-◌, ℕ, List, [], ◌++◌, length, take, drop, sym, ap, ◌∙◌, arith, Option, add-zero, append-nil}
use Rattle.std.proofs.lemmas.List.{take-append-drop, take-take, drop-take, length-take-le, take-append-le, length-append}
use Rattle.std.proofs.Math.Seq.{take-append-add}
use Rattle.std.proofs.KnownBytes.{Appends-trans, Consumes-trans}
use borrow.Rule.Slice.PartMut.{put_mid, post_of}
use Rattle.std.specs.Io.KnownBytes.{Appends, Consumes}
use Rattle.std.proofs.Common.{subst}

pub take_add : {X : Type 0} (n m : ℕ) (xs : List X) → take (n + m) xs ≡ take n xs ++ take m (drop n xs)
take_add n m xs =
    let le : n ≤ n + m = omega arith in
    let e : take n (take (n + m) xs) ++ drop n (take (n + m) xs) ≡ take (n + m) xs = take-append-drop n (take (n + m) xs) in
    sym (rw (take-take n (n + m) xs le, drop-take n m xs) at e)

pub wrote_more : (a b c : Option (List ℕ)) (bytes : List ℕ) (at n : ℕ) → Appends a b (take at bytes) → Appends b c (take n (drop at bytes)) → Appends a c (take (at + n) bytes)
wrote_more a b c bytes at n p q = subst (Appends a c) (sym (take_add at n bytes)) (Appends-trans a b c _ _ p q)

-- what was filled so far, after a read into the rest
pub filled_take : (into piece : List ℕ) (at n : ℕ) → at ≤ length into → n ≤ length piece → take (at + n) (put_mid at (length into - at) into piece) ≡ take at into ++ take n piece
filled_take into piece at n le room =
    let post = post_of at (length into - at) into in
    let len : length (take at into) ≡ at = length-take-le at into le in
    let e : take (length (take at into) + n) (take at into ++ (piece ++ post)) ≡ take at into ++ take n (piece ++ post) = take-append-add (take at into) (piece ++ post) n in
    let e2 : take (at + n) (take at into ++ (piece ++ post)) ≡ take at into ++ take n (piece ++ post) = subst (λ k. take (k + n) (take at into ++ (piece ++ post)) ≡ take at into
    ++ take n (piece ++ post)) len e in
    e2 ∙ ap (λ l. take at into ++ l) (take-append-le n piece post room)

pub filled_more : (a b c : Option (List ℕ)) (into piece : List ℕ) (at n : ℕ) → at ≤ length into → n ≤ length piece
    → Consumes a b (take at into) → Consumes b c (take n piece) → Consumes a c (take (at + n) (put_mid at (length into - at) into piece))
filled_more a b c into piece at n le room p q =
    subst (Consumes a c) (sym (filled_take into piece at n le room)) (Consumes-trans a b c _ _ p q)

pub filled_within : (into piece : List ℕ) (at n : ℕ) → at ≤ length into → n ≤ length piece → at + n ≤ length (put_mid at (length into - at) into piece)
filled_within into piece at n le room =
    let post = post_of at (length into - at) into in
    let len : length (take at into) ≡ at = length-take-le at into le in
    omega (arith, len, length-append (take at into) (piece ++ post), length-append piece post)

-- what was filled before stays
pub filled_same : (into piece : List ℕ) (at : ℕ) → at ≤ length into → take at (put_mid at (length into - at) into piece) ≡ take at into
filled_same into piece at le =
    let whole : take (at + 0) (put_mid at (length into - at) into piece) ≡ take at into ++ [] = filled_take into piece at 0 le (omega arith) in
    subst (λ k. take k (put_mid at (length into - at) into piece) ≡ take at into) (add-zero at) (whole ∙ append-nil (take at into))
