-- What the parts of a list give away and what they keep, all at once and one by one.
use Rattle.std.proofs.Common.{◌≡◌, ℕ, ◌+◌, ◌-◌, ◌<◌, ◌≤◌, List, [], ◌∷◌, ◌++◌, false, ◌≢◌, zero, suc, add-one, refl, ap}
use Rattle.std.proofs.Common.{◌∙◌, length, get_or, set, map, arith}
use Rattle.block_weight.specs.WeightRule.{IsWeight}
use Rattle.raw_block.specs.Views.{PartState}
use Rattle.frags.specs.Account.{Tests, counted}
use Rattle.frags.specs.Gifts.{kept, given, gift, kept_first, given_first, worn}
use Rattle.frags.specs.PieceList.{bytes_of, piece_bytes, size_of, AllFit, pieces_held}
use Rattle.frags.specs.declared.pieces.Piece.{Piece}

pub size_of-kept : (ps : List Piece) → size_of (map kept ps) ≡ size_of ps
size_of-kept [] = refl
size_of-kept (p ∷ ps) = omega (arith, size_of-kept ps)

pub size_of-given : (ps : List Piece) → size_of (map given ps) ≡ size_of ps
size_of-given [] = refl
size_of-given (p ∷ ps) = omega (arith, size_of-given ps)

-- of a weight above 1 both what is kept and what is given are weights
pub gift-weighs : (w : ℕ) → IsWeight w → w ≢ 1 → IsWeight (w - gift w) × IsWeight (gift w)
gift-weighs w h k = let a = h.0 in let b = h.1 in ((omega arith, omega arith), (omega arith, omega arith))

pub not_worn : (p : Piece) (ps : List Piece) → worn (p ∷ ps) ≡ false → (p.part.weight ≢ 1) × (worn ps ≡ false)
not_worn p ps h = ((λ k. grind (arith, h)), grind (arith, h))

pub AllFit-kept : (ps : List Piece) → AllFit ps → worn ps ≡ false → AllFit (map kept ps)
AllFit-kept [] h w = tt
AllFit-kept (p ∷ ps) h w = let n = not_worn p ps w in (
  (h.0.0, h.0.1, h.0.2, (gift-weighs p.part.weight h.0.3 n.0).0),
  AllFit-kept ps h.1 n.1,
)

pub AllFit-given : (ps : List Piece) → AllFit ps → worn ps ≡ false → AllFit (map given ps)
AllFit-given [] h w = tt
AllFit-given (p ∷ ps) h w = let n = not_worn p ps w in (
  (h.0.0, h.0.1, h.0.2, (gift-weighs p.part.weight h.0.3 n.0).1),
  AllFit-given ps h.1 n.1,
)

pub bytes_of-kept : (ps : List Piece) → bytes_of (map kept ps) ≡ bytes_of ps
bytes_of-kept [] = refl
bytes_of-kept (p ∷ ps) = ap (λ z. piece_bytes p ++ z) (bytes_of-kept ps)

pub bytes_of-given : (ps : List Piece) → bytes_of (map given ps) ≡ bytes_of ps
bytes_of-given [] = refl
bytes_of-given (p ∷ ps) = ap (λ z. piece_bytes p ++ z) (bytes_of-given ps)

pub kept_first-length : (i : ℕ) (ps : List Piece) → length (kept_first i ps) ≡ length ps
kept_first-length zero ps = refl
kept_first-length (suc i) [] = refl
kept_first-length (suc i) (p ∷ ps) = ap suc (kept_first-length i ps)

pub kept_first-at : (i : ℕ) (ps : List Piece) (d : Piece) → get_or (kept_first i ps) i d ≡ get_or ps i d
kept_first-at zero ps d = refl
kept_first-at (suc i) [] d = refl
kept_first-at (suc i) (p ∷ ps) d = kept_first-at i ps d

pub kept_first-step : (i : ℕ) (ps : List Piece) (d : Piece) → i < length ps
    → set (kept_first i ps) i (kept (get_or ps i d)) ≡ kept_first (suc i) ps
kept_first-step i [] d h = absurd (omega arith)
kept_first-step zero (p ∷ ps) d h = refl
kept_first-step (suc i) (p ∷ ps) d h = ap (λ z. kept p ∷ z) (kept_first-step i ps d (omega arith))

pub given_first-step : (i : ℕ) (ps : List Piece) (d : Piece) → i < length ps
    → given_first i ps ++ given (get_or ps i d) ∷ [] ≡ given_first (suc i) ps
given_first-step i [] d h = absurd (omega arith)
given_first-step zero (p ∷ ps) d h = refl
given_first-step (suc i) (p ∷ ps) d h = ap (λ z. given p ∷ z) (given_first-step i ps d (omega arith))

pub kept_first-all : (ps : List Piece) → kept_first (length ps) ps ≡ map kept ps
kept_first-all [] = refl
kept_first-all (p ∷ ps) = ap (λ z. kept p ∷ z) (kept_first-all ps)

pub given_first-all : (ps : List Piece) → given_first (length ps) ps ≡ map given ps
given_first-all [] = refl
given_first-all (p ∷ ps) = ap (λ z. given p ∷ z) (given_first-all ps)

pub worn-at : (ps : List Piece) (i : ℕ) (d : Piece) → worn ps ≡ false → i < length ps → (get_or ps i d).part.weight ≢ 1
worn-at [] i d h k = absurd (omega arith)
worn-at (p ∷ ps) zero d h k = grind (arith, h)
worn-at (p ∷ ps) (suc i) d h k = worn-at ps i d (grind (arith, h)) (omega arith)

pub kept_given : (t : Tests) (m : ℕ) (p : Piece) → gift p.part.weight ≤ p.part.weight
    → counted t m p.part.life p.part.mark (p.part.weight - gift p.part.weight) + counted t m p.part.life p.part.mark (gift p.part.weight) ≡ counted t m p.part.life p.part.mark p.part.weight
kept_given t m p h = grind arith

pub kept_step : (old items : List Piece) (i : ℕ) (q : Piece) (s : PartState) → items ≡ kept_first i old → q
    ≡ get_or old i q → s ≡ record q.part { weight = q.part.weight - gift q.part.weight } → i < length old
    → set items i (record { part = s; from = q.from; to = q.to }) ≡ kept_first (i + 1) old
kept_step old items i q s e f g h =
    let x : Piece = record { part = s; from = q.from; to = q.to } in
    let a : set items i x ≡ set (kept_first i old) i x = ap (λ (z : List Piece). set z i x) e in
    let b : set (kept_first i old) i x ≡ set (kept_first i old) i (kept q) =
    ap (λ (z : PartState). set (kept_first i old) i (record { part = z; from = q.from; to = q.to })) g in
    let c : set (kept_first i old) i (kept q) ≡ set (kept_first i old) i (kept (get_or old i q)) =
    ap (λ (z : Piece). set (kept_first i old) i (kept z)) f in
    rw add-one (a ∙ b ∙ c ∙ kept_first-step i old q h)

pub given_step : (old items : List Piece) (i : ℕ) (q : Piece) (s : PartState) → items ≡ given_first i old → q
    ≡ get_or old i q → s ≡ record q.part { weight = gift q.part.weight } → i < length old
    → items ++ (record { part = s; from = q.from; to = q.to }) ∷ [] ≡ given_first (i + 1) old
given_step old items i q s e f g h =
    let x : Piece = record { part = s; from = q.from; to = q.to } in
    let a : items ++ x ∷ [] ≡ given_first i old ++ x ∷ [] = ap (λ (z : List Piece). z ++ x ∷ []) e in
    let b : given_first i old ++ x ∷ [] ≡ given_first i old ++ given q ∷ [] =
    ap (λ (z : PartState). given_first i old ++ (record { part = z; from = q.from; to = q.to }) ∷ []) g in
    let c : given_first i old ++ given q ∷ [] ≡ given_first i old ++ given (get_or old i q) ∷ [] =
    ap (λ (z : Piece). given_first i old ++ given z ∷ []) f in
    rw add-one (a ∙ b ∙ c ∙ given_first-step i old q h)

-- what each part gives away and what it keeps is what it had
pub share_sums : (t : Tests) (m : ℕ) (ps : List Piece) → AllFit ps → worn ps ≡ false
    → pieces_held t m (map kept ps) + pieces_held t m (map given ps) ≡ pieces_held t m ps
share_sums t m [] h w = refl
share_sums t m (p ∷ ps) h w =
    let n = not_worn p ps w in
    let a = (gift-weighs p.part.weight h.0.3 n.0).0.0 in
    let g : gift p.part.weight ≤ p.part.weight = omega arith in
    let b = kept_given t m p g in
    let c = share_sums t m ps h.1 n.1 in
    omega arith
