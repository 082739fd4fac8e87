-- The numbers of causes.
use Rattle.std.specs.Prelude.{ℕ}
use Rattle.frame_causes.specs.declared.cause.Cause.{Cause}
use Rattle.frame_causes.specs.declared.cause.Cause.TheVariants.{Mergeable, Cut, Fragment, Options, Extension}
use Rattle.frame_causes.specs.declared.cause.Cause.TheVariants.{Layout, Length, Flags, Empty, Sum}
use Rattle.frame_causes.specs.declared.pair.PairCause.{PairCause}
use Rattle.frame_causes.specs.declared.pair.PairCause.TheVariants as pair

abbrev pub number_of : Cause → ℕ
number_of Mergeable = 0
number_of Cut = 1
number_of Fragment = 2
number_of Options = 3
number_of Extension = 4
number_of Layout = 5
number_of Length = 6
number_of Flags = 7
number_of Empty = 8
number_of Sum = 9

-- of two frames: numbers that no cause of one has, but for 0
abbrev pub pair_number_of : PairCause → ℕ
pair_number_of pair.Mergeable = 0
pair_number_of pair.First = 10
pair_number_of pair.Second = 11
pair_number_of pair.Flow = 12
pair_number_of pair.Headers = 13
pair_number_of pair.UdpSum = 14
pair_number_of pair.Longer = 15
pair_number_of pair.Flags = 16
pair_number_of pair.Sequence = 17
pair_number_of pair.Identification = 18
pair_number_of pair.TooLong = 19
