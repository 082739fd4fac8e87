-- What `split_at` answers.
use Rattle.std.specs.Prelude.{ℕ, ◌≡◌, ◌+◌, ◌-◌, ◌<◌, ◌≤◌, List, [], ◌∷◌, Bool, true, false, cond, nat_lt, Ok, Err}
use Rattle.std.specs.declared.result.Result.{Result}
use Rattle.raw_block.specs.Views.{PartState}
use Rattle.frags.specs.Gifts.{front, back, cut_worn, less, gave}
use Rattle.frags.specs.Holders.{AsPart}
use Rattle.frags.specs.declared.pieces.Piece.{Piece}
use Rattle.frags.specs.declared.pieces.ShareFault.{ShareFault}
use Rattle.frags.specs.declared.pieces.ShareFault.TheVariants.{Short, Worn, NoMemory}
use Rattle.frags.specs.declared.holder.Holder.{Holder}
use Rattle.frags.specs.declared.holder.Holder.TheVariants.{Part}
use Rattle.skb.specs.SkbState.{SkbState, buffer_size, head_size, head_worn}

-- the part that is cut at n has nothing to give
abbrev pub cut_is_worn : ℕ → SkbState → Bool
cut_is_worn n f = cond (nat_lt n (head_size f)) (head_worn f.head) (cut_worn (n - head_size f) f.rest)

-- the front keeps the gift of the head that is cut
abbrev pub IsHeadCut : ℕ → SkbState → SkbState → List Piece → Type 0
IsHeadCut n a b c = (p : PartState) × (AsPart a.head p × (b ≡ record {
  head = Part (gave p);
  from = a.from;
  to = a.from + n;
  rest = [];
}) × (c ≡ record { part = less p; from = a.from + n; to = a.to } ∷ a.rest))

abbrev pub IsRestCut : ℕ → SkbState → SkbState → List Piece → Type 0
IsRestCut n a b c = (b ≡ record a { rest = front (n - head_size a) a.rest }) × (c ≡ back (n - head_size a) a.rest)

-- of the buffer before and after
abbrev pub IsCut : ℕ → SkbState → SkbState → Result (List Piece) ShareFault → Type 0
IsCut n a b (Ok c) = (n ≤ buffer_size a) × (cut_is_worn n a ≡ false) × (n < head_size a → IsHeadCut n a b c)
    × (head_size a ≤ n → IsRestCut n a b c)
IsCut n a b (Err (Short h k)) = (buffer_size a < n) × (h ≡ buffer_size a) × (k ≡ n) × (b ≡ a)
IsCut n a b (Err Worn) = (n ≤ buffer_size a) × (cut_is_worn n a ≡ true) × (b ≡ a)
IsCut n a b (Err NoMemory) = (n ≤ buffer_size a) × (cut_is_worn n a ≡ false) × (b ≡ a)

-- a head that keeps its gift, and the part that has what remains
abbrev pub KeepsGift : Holder → Holder → PartState → Type 0
KeepsGift h k r = (p : PartState) × (AsPart h p × (1 < p.weight) × (k ≡ Part (gave p)) × (r ≡ less p))
