-- The numbers of what calls of a buffer answer.
use Rattle.std.specs.Prelude.{ℕ, Ok, Err}
use Rattle.std.specs.declared.result.Result.{Result}
use Rattle.frags.specs.declared.pieces.ShareFault.{ShareFault}
use Rattle.frags.specs.declared.pieces.ShareFault.TheVariants.{Short, Worn, NoMemory}
use Rattle.skb.specs.declared.ends.RoomFault.{RoomFault}
use Rattle.skb.specs.declared.ends.RoomFault.TheVariants.{NoRoom, Shared}

abbrev pub room_code : Result Unit RoomFault → ℕ
room_code (Ok _) = 0
room_code (Err (NoRoom have need)) = 9
room_code (Err Shared) = 5

abbrev pub share_code : ShareFault → ℕ
share_code (Short have need) = 2
share_code Worn = 5
share_code NoMemory = 7
