-- A buffer's bytes from a place on, cut off as pieces.
use Rattle.std.specs.Prelude.{◌≤◌, ◌-◌, List, [], ◌∷◌}
use Rattle.frags.specs.Account.{Keeps, both}
use Rattle.frags.specs.PieceList.{of_pieces}
use Rattle.frags.specs.declared.pieces.Piece.{Piece}
use Rattle.frags.specs.declared.holder.Holder.{Holder}
use Rattle.skb.specs.SkbState.{SkbState, of_buffer}
use Rattle.skb.specs.Moving.{HandedOn}

-- each piece weighs as much as it has bytes, or more: so it may be cut at every place
abbrev pub Enough : List Piece → Type 0
Enough [] = Unit {0}
Enough (p ∷ ps) = (p.to - p.from ≤ p.part.weight) × Enough ps

abbrev pub with_head : SkbState → Holder → SkbState
with_head s h = record { head = h; from = s.from; to = s.to; rest = s.rest }

-- nothing is lost when pieces a move out of a buffer, and a life begins at most with the head's Sole
abbrev pub OpensAccount : SkbState → List Piece → SkbState → List Piece → Type 0
OpensAccount s a t b = (h : Holder) × (HandedOn s.head h
    × Keeps (both (of_buffer (with_head s h)) (of_pieces a)) (both (of_buffer t) (of_pieces b)))

-- nothing of pieces is lost when some of them move out
abbrev pub KeepsPieces : List Piece → List Piece → List Piece → Type 0
KeepsPieces a front b = Keeps (of_pieces a) (both (of_pieces front) (of_pieces b))
