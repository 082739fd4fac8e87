-- The Internet sum (RFC 1071, section 1), said by one division in place of the carries.
use Rattle.std.specs.Prelude.{ℕ, zero, suc, ◌+◌, ◌-◌, ◌*◌, ◌%◌, Bool, true, false, List, [], ◌∷◌}

-- what the big-endian 16-bit words add to; an odd last byte is followed by a zero byte
abbrev pub word_sum : List ℕ → ℕ
word_sum [] = 0
word_sum (high ∷ []) = 256 * high
word_sum (high ∷ low ∷ bytes) = 256 * high + low + word_sum bytes

-- 0 stays 0, and else the number from 1 to 65535 that leaves the same remainder by 65535
abbrev pub folded : ℕ → ℕ
folded zero = 0
folded (suc n) = n % 65535 + 1

abbrev pub fold_of : List ℕ → ℕ
fold_of bytes = folded (word_sum bytes)

-- what a checksum field holds: the complement of the fold
abbrev pub checksum_of : List ℕ → ℕ
checksum_of bytes = 65535 - fold_of bytes

-- a UDP checksum that is 0 is sent as 65535 (RFC 768)
abbrev pub not_zero : ℕ → ℕ
not_zero zero = 65535
not_zero (suc n) = suc n

abbrev pub udp_checksum_of : List ℕ → ℕ
udp_checksum_of bytes = not_zero (checksum_of bytes)

-- the fold of two pieces, from their folds, where the first is odd or even: behind an odd piece each byte weighs
-- what its neighbour would (RFC 1071, section 2, byte swap)
abbrev pub joined_fold : Bool → ℕ → ℕ → ℕ
joined_fold false a b = folded (a + b)
joined_fold true a b = folded (a + 256 * b)
