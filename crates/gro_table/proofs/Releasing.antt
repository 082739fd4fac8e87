-- What is given back of packets.
use Rattle.std.proofs.Common.{◌≡◌, ℕ, ◌+◌, Bool, List, [], ◌∷◌, ◌++◌, arith}
use Rattle.frags.specs.Account.{Account, Tests, Keeps, both}
use Rattle.gro_table.specs.declared.packet.Packet.{Packet as Held}
use Rattle.gro_table.specs.Held.{of_packet, of_packets}

-- one packet more
pub pushed_held : (ps : List Held) (p : Held) (t : Tests) (m : ℕ) → (of_packets (ps ++ (p ∷ []))).held t m ≡ (of_packet p).held t m + (of_packets ps).held t m
pushed_held [] p t m = omega arith
pushed_held (q ∷ ps) p t m = omega (arith, pushed_held ps p t m)

pub pushed_home : (ps : List Held) (p : Held) (bs : ℕ → Bool) (m : ℕ) → (of_packets (ps ++ (p ∷ []))).homes bs m ≡ (of_packet p).homes bs m + (of_packets ps).homes bs m
pushed_home [] p bs m = omega arith
pushed_home (q ∷ ps) p bs m = omega (arith, pushed_home ps p bs m)

-- what is left, and what was given back of it
pub keeps_on : (all x xs ys o a b : Account) → ((t : Tests) (m : ℕ) → (xs.held t m ≡ x.held t m + ys.held t m) × (xs.homes t.blocks m ≡ x.homes t.blocks m + ys.homes t.blocks m))
    → Keeps (both all o) (both xs a) → Keeps (both x a) b → Keeps (both all o) (both ys b)
keeps_on all x xs ys o a b e f g t m =
    let u = e t m in
    let v = f t m in
    let w = g t m in
    (omega arith, omega arith)
