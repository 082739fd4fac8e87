-- What a share of a part gives away, and what lists of pieces answer that are shared or split.
use Rattle.std.specs.Prelude.{ℕ, zero, suc, ◌≡◌, ◌+◌, ◌-◌, ◌/◌, ◌<◌, ◌≤◌, List, [], ◌∷◌, Bool, false, true, cond, ◌||◌}
use Rattle.std.specs.Prelude.{◌==◌, nat_lt, max, map, Ok, Err}
use Rattle.raw_block.specs.Views.{PartState}
use Rattle.frags.specs.declared.pieces.Piece.{Piece}
use Rattle.frags.specs.declared.pieces.ShareFault.{ShareFault}
use Rattle.frags.specs.declared.pieces.ShareFault.TheVariants.{Short, Worn, NoMemory}
use Rattle.std.specs.declared.result.Result.{Result}
use Rattle.frags.specs.PieceList.{size_of}

-- what a share of weight w gives away
abbrev pub gift : ℕ → ℕ
gift w = max (w / 4096) 1

-- a part that gave a share away, and the share
abbrev pub less : PartState → PartState
less p = record p { weight = p.weight - gift p.weight }

abbrev pub gave : PartState → PartState
gave p = record p { weight = gift p.weight }

abbrev pub reweighed : Piece → ℕ → Piece
reweighed p w = record p { part = record p.part { weight = w } }

abbrev pub given : Piece → Piece
given p = reweighed p (gift p.part.weight)

abbrev pub kept : Piece → Piece
kept p = reweighed p (p.part.weight - gift p.part.weight)

-- some part has nothing to give
abbrev pub worn : List Piece → Bool
worn [] = false
worn (p ∷ ps) = (p.part.weight == 1) || worn ps

-- what `share` answers, of the pieces before and after
abbrev pub IsShare : List Piece → List Piece → Result (List Piece) ShareFault → Type 0
IsShare a b (Ok c) = (worn a ≡ false) × (b ≡ map kept a) × (c ≡ map given a)
IsShare a b (Err (Short h n)) = ⊥
IsShare a b (Err Worn) = (worn a ≡ true) × (b ≡ a)
IsShare a b (Err NoMemory) = (worn a ≡ false) × (b ≡ a)

abbrev pub kept_first : ℕ → List Piece → List Piece
kept_first zero ps = ps
kept_first (suc i) [] = []
kept_first (suc i) (p ∷ ps) = kept p ∷ kept_first i ps

abbrev pub given_first : ℕ → List Piece → List Piece
given_first zero ps = []
given_first (suc i) [] = []
given_first (suc i) (p ∷ ps) = given p ∷ given_first i ps

-- the first n bytes, and the rest: the part that is cut leaves its gift in front
abbrev pub front : ℕ → List Piece → List Piece
front n [] = []
front n (p ∷ ps) = cond (nat_lt n (p.to - p.from)) (cond (n == 0) [] (record (given p) { to = p.from + n } ∷ []))
    (p ∷ front (n - (p.to - p.from)) ps)

abbrev pub back : ℕ → List Piece → List Piece
back n [] = []
back n (p ∷ ps) = cond (nat_lt n (p.to - p.from)) (cond (n == 0) (p ∷ ps) (record (kept p) { from = p.from + n } ∷ ps))
    (back (n - (p.to - p.from)) ps)

-- the part that is cut at n has nothing to give
abbrev pub cut_worn : ℕ → List Piece → Bool
cut_worn n [] = false
cut_worn n (p ∷ ps) = cond (nat_lt n (p.to - p.from)) (cond (n == 0) false (p.part.weight == 1))
    (cut_worn (n - (p.to - p.from)) ps)

-- what `split_at` answers, of the pieces before and after
abbrev pub IsSplit : ℕ → List Piece → List Piece → Result (List Piece) ShareFault → Type 0
IsSplit n a b (Ok c) = (n ≤ size_of a) × (cut_worn n a ≡ false) × (b ≡ front n a) × (c ≡ back n a)
IsSplit n a b (Err (Short h k)) = (size_of a < n) × (h ≡ size_of a) × (k ≡ n) × (b ≡ a)
IsSplit n a b (Err Worn) = (n ≤ size_of a) × (cut_worn n a ≡ true) × (b ≡ a)
IsSplit n a b (Err NoMemory) = (n ≤ size_of a) × (cut_worn n a ≡ false) × (b ≡ a)
