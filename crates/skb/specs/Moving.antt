-- What `move_into` does, and what it and `attach` keep: a buffer's bytes come to stand behind others, uncopied.
use Rattle.std.specs.Prelude.{ℕ, ◌≡◌, ◌≢◌, ◌⊎◌, ◌+◌, ◌≤◌, List, ◌∷◌, ◌++◌, length}
use Rattle.raw_block.specs.Views.{PartState}
use Rattle.frags.specs.Account.{Account, Keeps, both, of_holder, of_outcomes}
use Rattle.frags.specs.Growth.{Grows}
use Rattle.frags.specs.OutcomesState.{OutcomesState}
use Rattle.frags.specs.Holders.{AsPart}
use Rattle.frags.specs.PieceList.{least_weight}
use Rattle.frags.specs.declared.pieces.Piece.{Piece}
use Rattle.frags.specs.declared.holder.Holder.{Holder}
use Rattle.skb.specs.SkbState.{SkbState, IsLent, of_buffer, buffer_least}

-- a head that is handed on: as it was, or a Sole that became a part
abbrev pub HandedOn : Holder → Holder → Type 0
HandedOn a h = (h ≡ a) ⊎ IsLent a h

-- the head has no bytes: it is given back, and its pieces follow
abbrev pub MovesRest : SkbState → List Piece → OutcomesState → List Piece → OutcomesState → Type 0
MovesRest c a o b q = (b ≡ a ++ c.rest) × Grows 1 o q × Keeps (both (of_holder c.head) (of_outcomes o)) (of_outcomes q)

-- the head follows as a piece, and its pieces after it
abbrev pub MovesHead : SkbState → List Piece → OutcomesState → List Piece → OutcomesState → Type 0
MovesHead c a o b q = (q ≡ o) × ((p : PartState) × (AsPart c.head p
    × (b ≡ a ++ (record { part = p; from = c.from; to = c.to }) ∷ c.rest)))

-- of the buffer, and the pieces and the outcomes before and after
abbrev pub Moves : SkbState → List Piece → OutcomesState → List Piece → OutcomesState → Type 0
Moves c a o b q = (c.from ≡ c.to → MovesRest c a o b q) × (c.from ≢ c.to → MovesHead c a o b q)

-- how many Soles and receipts were given back
abbrev pub given_back : OutcomesState → ℕ
given_back o = length o.soles + length o.receipts

-- of the buffer, and what it joins before and after: nothing is lost, block by block and life by life, and no life
-- begins but one with the buffer's own head, where that was a Sole
abbrev pub JoinsAccount : SkbState → Account → OutcomesState → Account → OutcomesState → Type 0
JoinsAccount c a o b q = (h : Holder) × (HandedOn c.head h × Keeps (both a (both (of_buffer (record c { head = h }))
    (of_outcomes o))) (both b (of_outcomes q)))

-- no part is lighter than the lightest was
abbrev pub KeepsLeast : SkbState → List Piece → List Piece → Type 0
KeepsLeast c a b = (w : ℕ) → w ≤ buffer_least c → w ≤ least_weight a → w ≤ least_weight b
