-- A number of each packet, summed over packets and over runs of packets.
use Rattle.std.specs.Prelude.{ℕ, ◌≡◌, ◌+◌, List, [], ◌∷◌}
use Rattle.gro_table.specs.declared.packet.Packet.{Packet as Held}

abbrev pub total : (Held → ℕ) → List Held → ℕ
total f [] = 0
total f (p ∷ ps) = f p + total f ps

abbrev pub totals : (Held → ℕ) → List (List Held) → ℕ
totals f [] = 0
totals f (r ∷ rs) = total f r + totals f rs

-- the runs hold these packets, in whatever order: each sum over them is that over the runs
abbrev pub AreSame : List Held → List (List Held) → Type 0
AreSame ps rs = (f : Held → ℕ) → total f ps ≡ totals f rs
