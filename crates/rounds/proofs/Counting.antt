-- What a round that is read counts, step by step, over plain numbers.
use Rattle.std.proofs.Common.{◌≡◌, ◌+◌, ◌-◌, ◌^◌, ◌<◌, ◌≤◌, ℕ, List, [], ◌∷◌, ◌++◌, length, length-append, min, ◌⊎◌, inl, inr, ap, arith}
use Rattle.block_pool.specs.PoolState.{PoolState, home, weighed}
use Rattle.off_io.specs.Faults.{Rose}
use Rattle.gro.specs.declared.slot.Slot.{Slot as Held}
use Rattle.gro.specs.Slots.{weighed_slots}
use Rattle.gro.proofs.Weights.{weighed_last}
use Rattle.reading.proofs.Laying.{weighed_none}
use Rattle.skb.specs.SkbState.{weighed_in}
use Rattle.rounds.specs.RoundOf.{at_hand, Brought, Came, TakesBlocks}

-- ---- its blocks are among those that were made

pub fits_type : {n k m : ℕ} → n ≤ k → k ≡ m → m ≤ 65536 → n < 2 ^ 32
fits_type a b c = omega arith

-- ---- how many were taken

pub takes_last : {made mid : ℕ} (now from to before after : ℕ) → mid ≡ made → after ≤ made → before ≤ after → now ≡ min (from + (after - before)) (2 ^ 64 - 1) → from ≤ now → now + before ≤ from + after
    → now ≤ to → to + after ≤ now + mid → TakesBlocks made from to before after
takes_last now from to before after same within more taken least most rose last = record {
  within = within;
  taken = omega arith;
  least = (more, omega arith);
  most = omega arith;
}

pub taken_more : {now new : ℕ} (from before after count : ℕ) → before ≤ after → now ≡ min (from + (after - before)) (2 ^ 64 - 1) → new ≡ min (now + count) (2 ^ 64 - 1)
    → new ≡ min (from + (after + count - before)) (2 ^ 64 - 1)
taken_more from before after count more a b = omega arith

pub most_more : {new : ℕ} (now from before after count : ℕ) → now + before ≤ from + after → new ≡ min (now + count) (2 ^ 64 - 1) → new + before ≤ from + (after + count)
most_more now from before after count a b = omega arith

-- ---- one packet more

pub one_more : {A : Type 0} (ps qs : List A) (p : A) → qs ≡ ps ++ p ∷ [] → length qs ≡ length ps + 1
one_more ps qs p e = omega (arith, ap length e, length-append ps (p ∷ []))

pub size_more : {k n m budget : ℕ} → k ≡ n + 1 → m ≡ n → m < budget → k ≤ budget
size_more a b c = omega arith

pub room_more : {k budget : ℕ} (n room room' : ℕ) → k ≡ n + 1 → budget ≤ n + room → room ≤ room' + 1 → budget ≤ k + room'
room_more n room room' a b c = omega arith

pub came_one : (from to : Brought) (used count : ℕ) (pool pool' spares spares' : PoolState) (ps qs : List Held) (p : Held) → qs ≡ ps ++ p ∷ [] → home pool' + count + from.weights (λ _. 1) ≡ home pool + to.weights (λ _. 1)
    → ((h : ℕ → ℕ) → weighed h pool'.blocks + weighed_in h p.skb + weighed h spares'.blocks + from.weights h ≡ weighed h pool.blocks + weighed h spares.blocks + to.weights h)
    → from.refusals ≤ to.refusals
    → Came from to (home pool + used) (home pool' + (used + count)) (at_hand pool ps spares) (at_hand pool' qs spares')
came_one from to used count pool pool' spares spares' ps qs p e sum named asked = record {
  sum = omega (arith, sum);
  named = λ h. omega (arith, named h, ap (weighed_slots h) e, weighed_last h ps p);
  asked = asked;
}

-- ---- what stays

pub rose_later : (before mid now : ℕ) → before ≤ mid → Rose mid now → Rose before now
rose_later before mid now a b = omega arith

-- ---- one list behind another

-- all go where there is room for all
moved_all : (new left old had : ℕ) {made : ℕ} → new + left ≡ old + had → (left ≡ 0) ⊎ (new ≡ made) → old + had ≤ made → left ≡ 0
moved_all new left old had sum (inl none) room = none
moved_all new left old had sum (inr full) room = omega arith

pub weighed_moved : (h : ℕ → ℕ) (new left old had : PoolState) → home new + home left ≡ home old + home had → (home left ≡ 0) ⊎ (home new ≡ old.made) → home old + home had ≤ old.made
    → weighed h new.blocks + weighed h left.blocks ≡ weighed h old.blocks + weighed h had.blocks → weighed h new.blocks ≡ weighed h old.blocks + weighed h had.blocks
weighed_moved h new left old had sum all room weighs = omega (arith, weighs, weighed_none h left.blocks (moved_all (home new) (home left) (home old) (home had) sum all room))
