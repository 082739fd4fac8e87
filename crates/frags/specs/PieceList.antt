-- Pieces of shared blocks, as a list of bytes.
use Rattle.std.specs.Prelude.{ℕ, ◌≡◌, ◌+◌, ◌-◌, ◌<◌, ◌≤◌, List, [], ◌∷◌, ◌++◌, cond, ◌==◌, nat_lt, length, slice_range}
use Rattle.std.specs.Prelude.{slice_index_or, min}
use Rattle.std.specs.List.{AllByRecursion}
use Rattle.block_weight.specs.WeightRule.{full_weight, IsWeight}
use Rattle.frags.specs.Account.{Account, Tests, counted}
use Rattle.frags.specs.declared.pieces.Piece.{Piece}

abbrev pub piece_bytes : Piece → List ℕ
piece_bytes p = slice_range p.part.bytes p.from p.to

abbrev pub bytes_of : List Piece → List ℕ
bytes_of [] = []
bytes_of (p ∷ ps) = piece_bytes p ++ bytes_of ps

abbrev pub size_of : List Piece → ℕ
size_of [] = 0
size_of (p ∷ ps) = (p.to - p.from) + size_of ps

abbrev pub Fits : Piece → Type 0
Fits p = (p.from < p.to) × (p.to ≤ 2048) × (length p.part.bytes ≡ 2048) × IsWeight p.part.weight

abbrev pub AllFit : List Piece → Type 0
AllFit [] = Unit {0}
AllFit (p ∷ ps) = Fits p × AllFit ps

abbrev pub pieces_held : Tests → ℕ → List Piece → ℕ
pieces_held t m [] = 0
pieces_held t m (p ∷ ps) = counted t m p.part.life p.part.mark p.part.weight + pieces_held t m ps

abbrev pub of_pieces : List Piece → Account
of_pieces ps = record { held = λ t m. pieces_held t m ps; homes = λ bs m. 0 }

-- each part has all the weight of its block, so nobody else holds one
abbrev pub AreWhole : List Piece → Type 0
AreWhole ps = AllByRecursion (λ (p : Piece). p.part.weight ≡ full_weight) ps

-- the pieces without their first n bytes
abbrev pub cut_front : ℕ → List Piece → List Piece
cut_front n [] = []
cut_front n (p ∷ ps) = cond (nat_lt n (p.to - p.from)) (record p { from = p.from + n } ∷ ps)
    (cut_front (n - (p.to - p.from)) ps)

-- the pieces of the first n bytes
abbrev pub keep_front : ℕ → List Piece → List Piece
keep_front n [] = []
keep_front n (p ∷ ps) = cond (n == 0) [] (cond (nat_lt n (p.to - p.from)) (record p { to = p.from + n } ∷ [])
    (p ∷ keep_front (n - (p.to - p.from)) ps))

-- the byte at a place of the first piece that reaches so far
abbrev pub byte_in : ℕ → List Piece → ℕ
byte_in n [] = 0
byte_in n (p ∷ ps) = cond (nat_lt n (p.to - p.from)) (slice_index_or p.part.bytes (p.from + n) 0)
    (byte_in (n - (p.to - p.from)) ps)

-- the least weight of a part, the full weight where there is none
abbrev pub least_weight : List Piece → ℕ
least_weight [] = full_weight
least_weight (p ∷ ps) = min p.part.weight (least_weight ps)
