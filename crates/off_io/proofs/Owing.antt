-- Laws of what is still to be appended to a sink, and of writes in a row.
use Rattle.std.proofs.Common.{◌≡◌, ◌<◌, ◌+◌, ℕ, List, [], ◌∷◌, ◌++◌, length, take, drop, refl, sym, ap, ◌∙◌, arith, Option, Result, Ok, Err, subst, get_or, append_assoc, append-nil}
use Rattle.std.specs.Prelude.{OnOk, OnErr}
use Rattle.std.specs.List.{flat_map}
use Rattle.std.specs.Io.KnownBytes.{Appends}
use Rattle.std.proofs.KnownBytes.{Appends-trans, Appends-nil}
use Rattle.std.proofs.lemmas.List.{take_all, take_more, take-append-drop}
use Rattle.std.proofs.lemmas.Grind.{flat_map-append}
use Rattle.off_io.specs.Content.{AppendsPrefix, Owes}
use Rattle.off_io.proofs.Appending.{front_then, prefix_more}

pub Owes-all : (a : Option (List ℕ)) (all : List ℕ) → Owes a a all all
Owes-all a all = ([], Appends-nil a, refl)

pub Owes-less : (a b c : Option (List ℕ)) (all part rest : List ℕ) → Owes a b all (part ++ rest) → Appends b c part → Owes a c all rest
Owes-less a b c all part rest p q = (p.0 ++ part, Appends-trans a b c p.0 part p.1 q, append_assoc p.0 part rest ∙ p.2)

pub Owes-none : (a b : Option (List ℕ)) (all : List ℕ) → Owes a b all [] → Appends a b all
Owes-none a b all p = subst (Appends a b) (sym (append-nil p.0) ∙ p.2) p.1

-- a part of what is owed was written, and then the sink failed
pub Owes-failed : (a b c : Option (List ℕ)) (all part rest : List ℕ) → Owes a b all (part ++ rest) → AppendsPrefix b c part → AppendsPrefix a c all
Owes-failed a b c all part rest p q =
    subst (AppendsPrefix a c) (append_assoc p.0 part rest ∙ p.2) (prefix_more a c (p.0 ++ part) rest (front_then a b c p.0 part p.1 q))

-- all of it is a prefix of it
pub prefix_whole : (a b : Option (List ℕ)) (all : List ℕ) → Appends a b all → AppendsPrefix a b all
prefix_whole a b all p = (length all, subst (Appends a b) (sym (take_all (length all) all (omega arith))) p)

-- a write whose answer is handed on, behind a whole one
pub then_ok : {T E : Type 0} (r : Result T E) (a b c : Option (List ℕ)) (xs ys : List ℕ) → Appends a b xs → OnOk r (Appends b c ys) → OnOk r (Appends a c (xs ++ ys))
then_ok (Ok x) a b c xs ys p q = Appends-trans a b c xs ys p q
then_ok (Err x) a b c xs ys p q = tt

pub then_err : {T E : Type 0} (r : Result T E) (a b c : Option (List ℕ)) (xs ys : List ℕ) → Appends a b xs → OnErr r (AppendsPrefix b c ys) → OnErr r (AppendsPrefix a c (xs ++ ys))
then_err (Ok x) a b c xs ys p q = tt
then_err (Err x) a b c xs ys p q = front_then a b c xs ys p q

-- what comes of each element is written in turn, here of the one at i
module _ {X : Type 0} (f : X → List ℕ) (xs : List X) (i : ℕ) (x : X) (lt : i < length xs) (at : x ≡ get_or xs i x) where
  one_more : flat_map f (take (i + 1) xs) ≡ flat_map f (take i xs) ++ f x
  one_more =
      ap (flat_map f) (take_more xs i x lt ∙ ap (λ (y : X). take i xs ++ y ∷ []) (sym at))
      ∙ flat_map-append f (take i xs) (x ∷ []) ∙ ap (λ z. flat_map f (take i xs) ++ z) (append-nil (f x))

  split_at : flat_map f xs ≡ flat_map f (take (i + 1) xs) ++ flat_map f (drop (i + 1) xs)
  split_at = ap (flat_map f) (sym (take-append-drop (i + 1) xs)) ∙ flat_map-append f (take (i + 1) xs) (drop (i + 1) xs)

  pub wrote_one_more : (a b c : Option (List ℕ)) → Appends a b (flat_map f (take i xs)) → Appends b c (f x) → Appends a c (flat_map f (take (i + 1) xs))
  wrote_one_more a b c before one = subst (Appends a c) (sym one_more) (Appends-trans a b c _ _ before one)

  pub failed_at : (a b c : Option (List ℕ)) → Appends a b (flat_map f (take i xs)) → AppendsPrefix b c (f x) → AppendsPrefix a c (flat_map f xs)
  failed_at a b c before one =
      let front : AppendsPrefix a c (flat_map f (take (i + 1) xs)) = subst (AppendsPrefix a c) (sym one_more) (front_then a b c _ _ before one) in
      subst (AppendsPrefix a c) (sym split_at) (prefix_more a c _ _ front)
