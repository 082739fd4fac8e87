-- How buffers are joined: their first bytes in one block, and the rest behind it, uncopied.
use Rattle.std.specs.Prelude.{ℕ, ◌≡◌, ◌+◌, ◌-◌, ◌*◌, ◌<◌, ◌≤◌, List, [], ◌∷◌, ◌++◌, length, drop}
use Rattle.std.specs.List.{AllByRecursion, flat_map}
use Rattle.raw_block.specs.Views.{SoleState}
use Rattle.frags.specs.Account.{Keeps, both, of_outcomes}
use Rattle.frags.specs.OutcomesState.{OutcomesState}
use Rattle.frags.specs.PieceList.{bytes_of, size_of, of_pieces, least_weight}
use Rattle.frags.specs.declared.pieces.Piece.{Piece}
use Rattle.skb.specs.SkbState.{SkbState, buffer_bytes, buffer_size, head_size}
use Rattle.skb.specs.Moving.{JoinsAccount, KeepsLeast, given_back}
use Rattle.skb.specs.Fronts.{IsFronted, front_of}
use Rattle.gro_table.specs.declared.packet.Packet.{Packet as Held}
use Rattle.gro_table.specs.Held.{of_packets, AreLentFrom, counts_of, WeighAtLeast}

-- a buffer that is put together: `filled` bytes in a block behind its headroom, and pieces
pub record Build : Type 0 where
  pub block : SoleState
  pub filled : ℕ
  pub pieces : List Piece
  pub out : OutcomesState

abbrev pub build : SoleState → ℕ → List Piece → OutcomesState → Build
build block filled pieces out = record { block = block; filled = filled; pieces = pieces; out = out }

abbrev pub built : Build → List ℕ
built b = front_of b.block b.filled ++ bytes_of b.pieces

-- the block is filled before any piece comes
pub record IsBuild (b : Build) : Type 0 where
  pub size : length b.block.bytes ≡ 2048
  pub low : b.filled ≤ 200
  pub bare : b.filled < 200 → b.pieces ≡ []

-- the same block, whatever its bytes
abbrev pub IsSameBlock : SoleState → SoleState → Type 0
IsSameBlock s t = (t.block ≡ s.block) × (t.mark ≡ s.mark)

-- a buffer's bytes from `at` on follow
pub record TakesBuffer (s : SkbState) (at : ℕ) (a b : Build) : Type 0 where
  pub is : IsBuild b
  pub bytes : built b ≡ built a ++ drop at (buffer_bytes s)
  pub size : b.filled + size_of b.pieces + at ≡ a.filled + size_of a.pieces + buffer_size s
  pub same : IsSameBlock a.block b.block
  pub count : length b.pieces + given_back b.out ≡ length a.pieces + given_back a.out + (length s.rest + 1)
  pub soles : length a.out.soles ≤ length b.out.soles
  pub account : JoinsAccount s (of_pieces a.pieces) a.out (of_pieces b.pieces) b.out
  pub least : KeepsLeast s a.pieces b.pieces

-- nothing of packets is lost
abbrev pub TakesAccount : List Held → Build → Build → Type 0
TakesAccount ps a b = (qs : List Held) × (AreLentFrom ps qs
    × Keeps (both (of_packets qs) (both (of_pieces a.pieces) (of_outcomes a.out)))
    (both (of_pieces b.pieces) (of_outcomes b.out)))

abbrev pub payloads : ℕ → List Held → List ℕ
payloads at ps = flat_map (λ (p : Held). drop at (buffer_bytes p.skb)) ps

-- the packets' bytes from `at` on follow, one packet's behind the other's, and their spares are given back
pub record TakesPackets (ps : List Held) (at : ℕ) (a b : Build) : Type 0 where
  pub is : IsBuild b
  pub bytes : built b ≡ built a ++ payloads at ps
  pub same : IsSameBlock a.block b.block
  pub count : length b.pieces + given_back b.out ≡ length a.pieces + given_back a.out + counts_of ps
  pub soles : length a.out.soles ≤ length b.out.soles
  pub account : TakesAccount ps a b
  pub least : (w : ℕ) → WeighAtLeast w ps → w ≤ least_weight a.pieces → w ≤ least_weight b.pieces

-- what joining packets asks of each
abbrev pub AreJoinable : ℕ → List Held → Type 0
AreJoinable at ps = AllByRecursion (λ (p : Held). (at ≤ head_size p.skb) × IsFronted p.skb) ps

-- the bytes that are to come
abbrev pub sizes_behind : ℕ → List Held → ℕ
sizes_behind at [] = 0
sizes_behind at (p ∷ ps) = (buffer_size p.skb - at) + sizes_behind at ps

-- the pieces that packets come to: a head each, and the pieces behind it
abbrev pub pieces_in : List Held → ℕ
pieces_in [] = 0
pieces_in (p ∷ ps) = (length p.skb.rest + 1) + pieces_in ps

-- the blocks that are free once packets are joined: two spares each, and a head where it is empty
abbrev pub free_in : List Held → ℕ
free_in ps = 3 * length ps
