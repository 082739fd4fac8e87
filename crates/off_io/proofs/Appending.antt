-- Laws of what is appended to a sink, piece by piece.
use Rattle.std.proofs.Common.{◌≡◌, ◌+◌, ℕ, List, ◌++◌, length, take, sym, ◌∙◌, arith, Option, min, subst}
use Rattle.std.proofs.lemmas.List.{take-append-le, take_min}
use Rattle.std.proofs.Math.Seq.{take-append-add}
use Rattle.std.proofs.KnownBytes.{Appends-trans}
use Rattle.std.specs.Io.KnownBytes.{Appends}
use Rattle.off_io.specs.Content.{AppendsPrefix}

-- a write after whole writes
pub front_then : (a b c : Option (List ℕ)) (xs ys : List ℕ) → Appends a b xs → AppendsPrefix b c ys → AppendsPrefix a c (xs ++ ys)
front_then a b c xs ys p q =
    (length xs + q.0, subst (Appends a c) (sym (take-append-add xs ys q.0)) (Appends-trans a b c xs (take q.0 ys) p q.1))

-- what was written is a prefix of what was to follow, too
pub prefix_more : (a b : Option (List ℕ)) (xs ys : List ℕ) → AppendsPrefix a b xs → AppendsPrefix a b (xs ++ ys)
prefix_more a b xs ys p =
    let n = min p.0 (length xs) in
    let same : take n (xs ++ ys) ≡ take p.0 xs = take-append-le n xs ys (omega arith) ∙ take_min p.0 xs in
    (n, subst (Appends a b) (sym same) p.1)
