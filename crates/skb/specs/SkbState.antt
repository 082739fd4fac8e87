-- A buffer: a head block and pieces after it, as one run of bytes.
use Rattle.std.specs.Prelude.{ℕ, ◌≡◌, ◌≢◌, ◌+◌, ◌-◌, ◌<◌, ◌≤◌, List, ◌∷◌, ◌++◌, Bool, false, true, ◌||◌, ◌==◌, cond}
use Rattle.std.specs.Prelude.{length, take, drop, slice_range, min, map, All, Ok, Err}
use Rattle.std.specs.List.{sum_by}
use Rattle.std.specs.declared.result.Result.{Result}
use Rattle.std.specs.declared.alloc.AllocError.{AllocError}
use Rattle.block_weight.specs.WeightRule.{full_weight}
use Rattle.raw_block.specs.Views.{SoleState, PartState}
use Rattle.frags.specs.Account.{Account, Keeps, both, of_sole, of_holder, of_released, of_outcomes}
use Rattle.frags.specs.OutcomesState.{OutcomesState}
use Rattle.frags.specs.Gifts.{worn, less, gave, given, kept}
use Rattle.frags.specs.Holders.{block, AsPart, name_of}
use Rattle.frags.specs.PieceList.{bytes_of, size_of, of_pieces, least_weight, AreWhole}
use Rattle.frags.specs.declared.pieces.Piece.{Piece}
use Rattle.frags.specs.declared.pieces.ShareFault.{ShareFault}
use Rattle.frags.specs.declared.pieces.ShareFault.TheVariants.{Short, Worn, NoMemory}
use Rattle.frags.specs.declared.holder.Holder.{Holder}
use Rattle.frags.specs.declared.holder.Holder.TheVariants.{Sole, Part}
use Rattle.skb.specs.declared.sharing.Unshared.{Unshared}
use Rattle.skb.specs.declared.sharing.Unshared.TheVariants.{Unused, Gave}
use Rattle.raw_block.specs.Releases.{IsReleased}
use Rattle.skb.specs.declared.ends.RoomFault.{RoomFault}
use Rattle.skb.specs.declared.ends.RoomFault.TheVariants.{NoRoom, Shared}

-- the bytes `from` to `to` of a block, and pieces after them
pub record SkbState : Type 0 where
  pub head : Holder
  pub from : ℕ
  pub to : ℕ
  pub rest : List Piece

abbrev pub is_sole : Holder → Bool
is_sole (Sole s) = true
is_sole (Part p) = false

-- nobody else holds a block of it
pub record IsAlone (f : SkbState) : Type 0 where
  pub head : is_sole f.head ≡ true
  pub rest : AreWhole f.rest

-- no block of it is b
pub record IsApartFrom (b : ℕ) (f : SkbState) : Type 0 where
  pub head : name_of f.head ≢ b
  pub rest : All (λ (p : Piece). p.part.life.block ≢ b) f.rest

-- what the blocks of a buffer weigh together, each by its name
abbrev pub weighed_in : (ℕ → ℕ) → SkbState → ℕ
weighed_in h f = h (name_of f.head) + sum_by (λ (p : Piece). h p.part.life.block) f.rest

abbrev pub of_buffer : SkbState → Account
of_buffer f = both (of_holder f.head) (of_pieces f.rest)

abbrev pub head_bytes : SkbState → List ℕ
head_bytes f = slice_range (block f.head) f.from f.to

abbrev pub buffer_bytes : SkbState → List ℕ
buffer_bytes f = head_bytes f ++ bytes_of f.rest

abbrev pub head_size : SkbState → ℕ
head_size f = f.to - f.from

abbrev pub buffer_size : SkbState → ℕ
buffer_size f = (f.to - f.from) + size_of f.rest

-- the bytes in front of the head's, which `push` may take
abbrev pub headroom : SkbState → ℕ
headroom b = b.from

-- xs with ys written over it at i
abbrev pub written : List ℕ → ℕ → List ℕ → List ℕ
written xs i ys = take i xs ++ ys ++ drop (i + length ys) xs

abbrev pub written_head : Holder → ℕ → List ℕ → Holder
written_head (Sole s) i ys = Sole (record s { bytes = written s.bytes i ys })
written_head (Part p) i ys = Part p

-- what `push` answers: where the bytes are written in front, and else why not
abbrev pub IsPush : SkbState → List ℕ → SkbState → Result Unit RoomFault → Type 0
IsPush a xs b (Ok _) = (length xs ≤ a.from) × (is_sole a.head ≡ true)
    × (b ≡ record a { head = written_head a.head (a.from - length xs) xs; from = a.from - length xs })
    × (buffer_bytes b ≡ xs ++ buffer_bytes a)
IsPush a xs b (Err (NoRoom h n)) = (a.from < length xs) × (h ≡ a.from) × (n ≡ length xs) × (b ≡ a)
IsPush a xs b (Err Shared) = (length xs ≤ a.from) × (is_sole a.head ≡ false) × (b ≡ a)

-- the room behind the head, where no piece follows it
abbrev pub tailroom : SkbState → ℕ
tailroom f = cond (length f.rest == 0) (2048 - f.to) 0

-- what `put_tail` answers
abbrev pub IsPut : SkbState → List ℕ → SkbState → Result Unit RoomFault → Type 0
IsPut a xs b (Ok _) = (length xs ≤ tailroom a) × (is_sole a.head ≡ true)
    × (b ≡ record a { head = written_head a.head a.to xs; to = a.to + length xs })
    × (buffer_bytes b ≡ buffer_bytes a ++ xs)
IsPut a xs b (Err (NoRoom h n)) = (tailroom a < length xs) × (h ≡ tailroom a) × (n ≡ length xs) × (b ≡ a)
IsPut a xs b (Err Shared) = (length xs ≤ tailroom a) × (is_sole a.head ≡ false) × (b ≡ a)

-- a head made a Sole: it was one, or its claim was granted, or its bytes were copied into the spare
abbrev pub Owned : Holder → SoleState → Holder → Unshared → Type 0
Owned (Sole s) spare (Sole x) (Unused u) = (x ≡ s) × (u ≡ spare)
Owned (Part p) spare (Sole x) (Unused u) = (x.bytes ≡ p.bytes) × (x.mark ≡ p.mark) × (u ≡ spare)
    × (p.weight ≤ full_weight) × (x.block ≡ p.life.block)
Owned (Part p) spare (Sole x) (Gave r t) = (x.bytes ≡ p.bytes) × (x.mark ≡ spare.mark) × IsReleased p r
    × (t.life ≡ p.life) × (p.weight < t.total) × (t.total ≤ full_weight) × (x.block ≡ spare.block)
Owned _ _ _ _ = ⊥

abbrev pub of_unshared : Unshared → Account
of_unshared (Unused s) = of_sole s
of_unshared (Gave r t) = of_released r

abbrev pub head_worn : Holder → Bool
head_worn (Sole s) = false
head_worn (Part p) = p.weight == 1

abbrev pub buffer_worn : SkbState → Bool
buffer_worn f = head_worn f.head || worn f.rest

abbrev pub head_least : Holder → ℕ
head_least (Sole s) = full_weight
head_least (Part p) = p.weight

-- the least weight of a part, the full weight where there is none
abbrev pub buffer_least : SkbState → ℕ
buffer_least f = min (head_least f.head) (least_weight f.rest)

-- what `clone` answers, of the buffer before and after
abbrev pub IsClone : SkbState → SkbState → Result SkbState ShareFault → Type 0
IsClone a b (Ok c) = (buffer_worn a ≡ false) × ((p : PartState) × (AsPart a.head p
    × (b ≡ record a { head = Part (less p); rest = map kept a.rest })
    × (c ≡ record a { head = Part (gave p); rest = map given a.rest })))
IsClone a b (Err (Short h n)) = ⊥
IsClone a b (Err Worn) = (buffer_worn a ≡ true) × (b ≡ a)
IsClone a b (Err NoMemory) = (buffer_worn a ≡ false) × ((p : PartState)
    × (AsPart a.head p × (b ≡ record a { head = Part p })))

abbrev pub IsLent : Holder → Holder → Type 0
IsLent h (Part p) = AsPart h p
IsLent h (Sole s) = ⊥

abbrev pub Gives : Holder → Holder → PartState → Type 0
Gives (Part p) (Part q) g = (q ≡ less p) × (g ≡ gave p) × (1 < p.weight)
Gives (Part p) (Sole s) g = ⊥
Gives (Sole s) h g = Unit {0}

-- the other's head has no bytes: it is given back, and the other's pieces follow
abbrev pub JoinsRest : SkbState → SkbState → OutcomesState → SkbState → OutcomesState → Type 0
JoinsRest a c o b q = (b.rest ≡ a.rest ++ c.rest) × Keeps (both (of_buffer a) (both (of_buffer c) (of_outcomes o)))
    (both (of_buffer b) (of_outcomes q))

-- the other's head follows as a piece, and its pieces after it
abbrev pub TakesHead : SkbState → SkbState → OutcomesState → SkbState → OutcomesState → Type 0
TakesHead a c o b q = (q ≡ o) × ((p : PartState) × (AsPart c.head p
    × (b.rest ≡ a.rest ++ (record { part = p; from = c.from; to = c.to }) ∷ c.rest)))

-- what `attach` answers: the other's bytes follow, or nothing has changed
abbrev pub Attaches : SkbState → SkbState → OutcomesState → SkbState → OutcomesState
    → Result Unit (SkbState × AllocError) → Type 0
Attaches a c o b q (Ok _) = (buffer_bytes b ≡ buffer_bytes a ++ buffer_bytes c) × (b.head ≡ a.head) × (b.from ≡ a.from)
    × (b.to ≡ a.to) × (c.from ≡ c.to → JoinsRest a c o b q) × (c.from ≢ c.to → TakesHead a c o b q)
Attaches a c o b q (Err e) = (e.0 ≡ c) × (b ≡ a) × (q ≡ o)
