-- What is kept block by block is kept mark by mark.
use Rattle.std.proofs.Common.{◌≡◌, ℕ, arith}
use Rattle.frags.specs.Account.{Account, Keeps, both, every}
use Rattle.frags.specs.RoundAccount.{all_blocks, of_lives, one_block, KeepsSums, Settles, KeepsIsSettling, SettlingAddsUp, BlockIsHome}

keeps_sums : (a b : Account) → Keeps a b → KeepsSums a b
keeps_sums a b h f m = h (of_lives f) m

settles_refl : (n : ℕ) (a : Account) → Settles n a a
settles_refl n a m = ((λ f. omega arith), λ lt z. (z, omega arith))

settles_trans : (n : ℕ) (a b c : Account) → Settles n a b → Settles n b c → Settles n a c
settles_trans n a b c h k m =
    let p = h m in
    let q = k m in
    ((λ f. omega (arith, p.0 f, q.0 f)), λ lt z. let y = q.1 lt z in let x = p.1 lt y.0 in (x.0, omega (arith, x.1, y.1)))

settles_beside : (n : ℕ) (a b c : Account) → Settles n a b → Settles n (both a c) (both b c)
settles_beside n a b c h m =
    let p = h m in (
      (λ f. omega (arith, p.0 f)),
      λ lt z. let none : b.homes all_blocks m ≡ 0 = omega (arith, z) in
          let x = p.1 lt none in (omega (arith, z, x.0), omega (arith, x.1)),
    )

settles_keeps : (n : ℕ) (a b : Account) → Keeps a b → Settles n a b
settles_keeps n a b h m =
    let p = h (every all_blocks) m in
    ((λ f. (h (of_lives f) m).0), λ lt z. (omega (arith, p.0, p.1, z), omega (arith, p.0, p.1, z)))

pub keeps_is_settling : KeepsIsSettling
keeps_is_settling a b h = (keeps_sums a b h, λ n. settles_keeps n a b h)

pub settling_adds_up : SettlingAddsUp
settling_adds_up n = (settles_refl n, settles_trans n, settles_beside n)

pub block_is_home : BlockIsHome
block_is_home a b k m h f z l = let p = h (every (one_block k)) m in omega (arith, p.1, f, z, l)
