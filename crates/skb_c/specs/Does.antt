-- What calls of a buffer answer, of the buffer before and after.
use Rattle.std.specs.Prelude.{ℕ, ◌≡◌, ◌⊎◌, ◌+◌, ◌<◌, ◌≤◌, ◌^◌, List, length, Option, Some, None, Ok, true, slice_range}
use Rattle.std.specs.declared.result.Result.{Result}
use Rattle.skb.specs.SkbState.{SkbState, buffer_bytes, buffer_size, buffer_worn, IsClone, IsPush, IsPut}
use Rattle.skb.specs.declared.ends.RoomFault.{RoomFault}
use Rattle.skb_c.specs.Codes.{room_code}

-- what `Skb::push` answers, by its number; 2 where there would be 2^32 bytes
abbrev pub IsPushed : List ℕ → SkbState → SkbState → ℕ → Type 0
IsPushed xs a b code = ((2 ^ 32 ≤ buffer_size a + length xs) × (code ≡ 2) × (b ≡ a))
    ⊎ ((done : Result Unit RoomFault) × IsPush a xs b done × (code ≡ room_code done))

-- what `Skb::put_tail` answers
abbrev pub IsPutBehind : List ℕ → SkbState → SkbState → ℕ → Type 0
IsPutBehind xs a b code = (done : Result Unit RoomFault) × IsPut a xs b done × (code ≡ room_code done)

-- the bytes from `at` on, as many as there is room for; 2 where there are fewer
abbrev pub IsRead : ℕ → SkbState → List ℕ → List ℕ → ℕ → Type 0
IsRead at a old new code = ((at + length old ≤ buffer_size a)
    × (new ≡ slice_range (buffer_bytes a) at (at + length old)) × (code ≡ 0))
    ⊎ ((buffer_size a < at + length old) × (new ≡ old) × (code ≡ 2))

-- the number of bytes, 0 of no buffer
abbrev pub size_said : Option SkbState → ℕ
size_said None = 0
size_said (Some a) = buffer_size a

-- where there is one; else 2, and nothing is written
abbrev pub ReadsFrom : ℕ → Option SkbState → List ℕ → List ℕ → ℕ → Type 0
ReadsFrom at None old new code = (new ≡ old) × (code ≡ 2)
ReadsFrom at (Some a) old new code = IsRead at a old new code

-- the clone, and the buffer that is left; where there is none the buffer's bytes are as they were
abbrev pub IsCloned : SkbState → SkbState → Option SkbState → ℕ → Type 0
IsCloned a b (Some c) code = IsClone a b (Ok c) × (buffer_bytes b ≡ buffer_bytes a) × (buffer_bytes c ≡ buffer_bytes a)
    × (code ≡ 0)
IsCloned a b None code = (buffer_bytes b ≡ buffer_bytes a) × (b.from ≡ a.from) × (b.to ≡ a.to)
    × (length b.rest ≡ length a.rest) × (((buffer_worn a ≡ true) × (b ≡ a) × (code ≡ 5)) ⊎ (code ≡ 7))
