-- A share may cross threads, and so may a `&` to one: nothing that it owns names a thread.
use Rattle.std.proofs.Common.{ℕ, ◌+◌, [], ◌∷◌}
use Rattle.raw_block.proofs.Walking.{Bool, true, false, bare, full_share, Lft, GName, RattleType, lone, Ptr, block_ptr}
use Rattle.raw_block.proofs.Walking.{null_ptr, IsSend, IsSync, part_keyless, sendable, latest, at_least}
use base.Shift.{Keyless}
use Rattle.std.proofs.Crossing.{frees}
use Rattle.raw_block.specs.contracts.block.Block as blocks
use Rattle.raw_block.specs.Views.{Life}
use Rattle.raw_block.specs.Shares.{reached, was, offset, block, beside_word, alive, share_at, share_owns, share_shares}

pub reached_keyless : (δ : GName) (w : ℕ) → Keyless (reached δ w)
unfolding latest
reached_keyless δ w = λ h. tt

pub was_keyless : (δ : GName) (n : ℕ) → Keyless (was δ n)
unfolding at_least
was_keyless δ n = λ h. tt

block_send : (R : RattleType) → IsSend R → IsSend (blocks.the_row R)
block_send R s = search sendable

module _ (R : RattleType) (s : IsSend R) (y : IsSync R) (b o : ℕ) (γ : Life) (x : R.Denot) (mark : ℕ) where
  block_keyless : (w : ℕ) → Keyless (block R b o w x)
  block_keyless w = (
    part_keyless (blocks.the_row R) (block_send R s) full_share (record { word = w; content = x }) b o,
    frees.frees (record { memory = record { seal = tt } }) (bare (lone (blocks.the_row R).mir)) (block_ptr b o),
  )

  content_keyless : Keyless (denote.Memory.part_at R full_share x b (o + offset R))
  content_keyless = part_keyless R s full_share x b (o + offset R)

  beside_keyless : (a w : ℕ) → Keyless (beside_word R b o γ x mark a w)
  beside_keyless a w = (
    reached_keyless γ.names.1 w,
    (
      (λ _. tt),
      (
        tt,
        (
          (λ e c. tt),
          (content_keyless, ((λ v. ((tt, content_keyless), block_keyless v)), tt)),
        ),
      ),
    ),
  )

  alive_keyless : (a : ℕ) (z : Bool) → Keyless (alive R b o γ x mark a z)
  alive_keyless a true = λ w. (tt, beside_keyless a w)
  alive_keyless a false = tt

  share_keyless : (w : ℕ) → Keyless (share_at R b o γ x mark w)
  share_keyless w = ((λ _. tt), λ a. (alive_keyless a, ((tt, λ e c. tt), y.shared x b (o + offset R) (a ∷ []))))

pub shares_keyless : (R : RattleType) → IsSend R → IsSync R → (p : Ptr) (γ : Life) (x : R.Denot) (mark w : ℕ)
    → Keyless (share_owns R p γ x mark w)
shares_keyless R s y (block_ptr b o) γ x mark w = share_keyless R s y b o γ x mark w
shares_keyless R s y null_ptr γ x mark w = tt

pub seen_keyless : (R : RattleType) → IsSync R → (p : Ptr) (x : R.Denot) (κ : Lft) → Keyless (share_shares R p x κ)
seen_keyless R y (block_ptr b o) x κ = y.shared x b (o + offset R) κ
seen_keyless R y null_ptr x κ = tt
