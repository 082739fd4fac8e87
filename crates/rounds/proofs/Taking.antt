-- The blocks of a round whose heads were shared.
use Rattle.std.proofs.Common.{◌≡◌, ℕ, zero, suc, ◌+◌, ◌<◌, ◌≤◌, List, [], ◌∷◌, ◌++◌, Bool, false, ◌⊎◌, inl, inr, refl, sym, ◌∙◌, subst, length, arith}
use Rattle.block_weight.specs.WeightRule.{full_weight}
use Rattle.raw_block.specs.Views.{Life, SoleState, PartState}
use Rattle.frags.specs.Account.{Account, Tests, both, counted, of_part, of_holder}
use Rattle.frags.specs.RoundAccount.{of_lives}
use Rattle.frags.specs.PieceList.{of_pieces}
use Rattle.frags.specs.declared.pieces.Piece.{Piece}
use Rattle.frags.specs.declared.holder.Holder.{Holder}
use Rattle.frags.specs.declared.holder.Holder.TheVariants.{Sole, Part}
use Rattle.skb.specs.SkbState.{IsLent}
use Rattle.gro.specs.declared.slot.Slot.{Slot as Held}
use Rattle.gro.specs.Slots.{of_packet, of_packets, count_of, counts_of, with_head, AreLent}
use Rattle.reading.specs.Laid.{IsLaid, LaidFrom, WholeFrom}
use Rattle.reading.proofs.Laying.{below_or}
use Rattle.rounds.specs.Marks.{all, others, OneLife, nothing, IsRound}
use Rattle.rounds.specs.Fresh.{weight_at, IsFresh, NumberedFrom}

some_life : Life
some_life = record { names = (0, 0); block = 0 }

-- accounts of blocks in turn

others_self : (l : Life) → others l l ≡ false
others_self l = grind arith

counted_other : (l : Life) (m k w : ℕ) → counted (of_lives (others l)) m l k w ≡ 0
counted_other l m k w = grind (arith, others_self l)

counted_less : (f : Life → Bool) (m : ℕ) (l : Life) (k w : ℕ) → counted (of_lives f) m l k w ≤ counted all m l k w
counted_less f m l k w = grind arith

fresh_none : (k : ℕ) → IsFresh k 0 nothing
fresh_none k = record {
  one = λ m. (some_life, refl);
  exact = λ m a b. absurd (omega (arith, a, b));
  low = λ m h. absurd (omega (arith, h));
  range = λ m h. absurd (omega (arith, h));
  less = λ f m. omega arith;
}

counted-one : (m : ℕ) (l : Life) (k w : ℕ) → k ≤ m → m < k + 1 → counted all m l k w ≡ w
counted-one m l k w a b = let e : m ≡ k = omega (arith, a, b) in grind (arith, e)

counted-at : (m : ℕ) (l : Life) (k w : ℕ) → 0 < counted all m l k w → m ≡ k
counted-at m l k w h = grind (arith, h)

fresh_part : (k : ℕ) (p : PartState) → p.weight ≡ full_weight → p.mark ≡ k → IsFresh k 1 (of_part p)
fresh_part k p w e = record {
  one = λ m. (p.life, counted_other p.life m p.mark p.weight);
  exact = λ m a b. let h = counted-one m p.life p.mark p.weight (omega (arith, a, e)) (omega (arith, b, e)) in omega (arith, h, w);
  low = λ m h. let g = counted-at m p.life p.mark p.weight (omega (arith, h)) in omega (arith, g, e);
  range = λ m h. let g = counted-at m p.life p.mark p.weight (omega (arith, h)) in omega (arith, g, e);
  less = λ f m. counted_less f m p.life p.mark p.weight;
}

some_or_none : (n : ℕ) → (n ≡ 0) ⊎ (0 < n)
some_or_none zero = inl refl
some_or_none (suc n) = inr (omega arith)

none_past' : (a k : ℕ) (x : Account) → IsFresh a k x → (m : ℕ) → a + k ≤ m → (weight_at x m ≡ 0) ⊎ (0 < weight_at x m) → weight_at x m ≡ 0
none_past' a k x h m le (inl z) = z
none_past' a k x h m le (inr p) = absurd (omega (arith, h.range m p, le))

-- beyond its marks there is nothing
none_past : (a k : ℕ) (x : Account) → IsFresh a k x → (m : ℕ) → a + k ≤ m → weight_at x m ≡ 0
none_past a k x h m le = none_past' a k x h m le (some_or_none (weight_at x m))

none_before' : (a k : ℕ) (x : Account) → IsFresh a k x → (m : ℕ) → m < a → (weight_at x m ≡ 0) ⊎ (0 < weight_at x m) → weight_at x m ≡ 0
none_before' a k x h m le (inl z) = z
none_before' a k x h m le (inr p) = absurd (omega (arith, h.low m p, le))

none_before : (a k : ℕ) (x : Account) → IsFresh a k x → (m : ℕ) → m < a → weight_at x m ≡ 0
none_before a k x h m lt = none_before' a k x h m lt (some_or_none (weight_at x m))

join_one : (a k j : ℕ) (x y : Account) → IsFresh a k x → IsFresh (a + k) j y → (m : ℕ) → (m < a + k) ⊎ (a + k ≤ m) → OneLife (both x y) m
join_one a k j x y hx hy m (inl lt) =
    let l = hx.one m in
    let z = none_before (a + k) j y hy m lt in
    (l.0, omega (arith, l.1, z, hy.less (others l.0) m))
join_one a k j x y hx hy m (inr le) =
    let l = hy.one m in
    let z = none_past a k x hx m le in
    (l.0, omega (arith, l.1, z, hx.less (others l.0) m))

join_exact : (a k j : ℕ) (x y : Account) → IsFresh a k x → IsFresh (a + k) j y → (m : ℕ) → a ≤ m → m < a + (k + j) → (m < a + k) ⊎ (a + k ≤ m) → weight_at (both x y) m ≡ full_weight
join_exact a k j x y hx hy m from to (inl lt) = let z = none_before (a + k) j y hy m lt in let e = hx.exact m from lt in omega (arith, z, e)
join_exact a k j x y hx hy m from to (inr le) = let z = none_past a k x hx m le in let e = hy.exact m le (omega (arith, to)) in omega (arith, z, e)

join_low : (a k j : ℕ) (x y : Account) → IsFresh a k x → IsFresh (a + k) j y → (m : ℕ) → 0 < weight_at (both x y) m → (weight_at x m ≡ 0) ⊎ (0 < weight_at x m) → a ≤ m
join_low a k j x y hx hy m h (inl z) = let l = hy.low m (omega (arith, h, z)) in omega (arith, l)
join_low a k j x y hx hy m h (inr p) = hx.low m p

join_range : (a k j : ℕ) (x y : Account) → IsFresh a k x → IsFresh (a + k) j y → (m : ℕ) → 0 < weight_at (both x y) m → (weight_at x m ≡ 0) ⊎ (0 < weight_at x m) → m < a + (k + j)
join_range a k j x y hx hy m h (inl z) = let l = hy.range m (omega (arith, h, z)) in omega (arith, l)
join_range a k j x y hx hy m h (inr p) = let l = hx.range m p in omega (arith, l)

-- blocks in turn, and then others
fresh_join : (a k j : ℕ) (x y : Account) → IsFresh a k x → IsFresh (a + k) j y → IsFresh a (k + j) (both x y)
fresh_join a k j x y hx hy = record {
  one = λ m. join_one a k j x y hx hy m (below_or m (a + k));
  exact = λ m from to. join_exact a k j x y hx hy m from to (below_or m (a + k));
  low = λ m h. join_low a k j x y hx hy m h (some_or_none (weight_at x m));
  range = λ m h. join_range a k j x y hx hy m h (some_or_none (weight_at x m));
  less = λ f m. omega (arith, hx.less f m, hy.less f m);
}

-- the same account, and the same marks
abbrev Same : Account → Account → Type 0
Same x y = (t : Tests) (m : ℕ) → (y.held t m ≡ x.held t m) × (y.homes t.blocks m ≡ x.homes t.blocks m)

fresh_same : (a k a' k' : ℕ) (x y : Account) → a' ≡ a → k' ≡ k → Same x y → IsFresh a k x → IsFresh a' k' y
fresh_same a k a' k' x y ea ek e h = record {
  one = λ m. let l = h.one m in (l.0, omega (arith, l.1, (e (of_lives (others l.0)) m).0));
  exact = λ m from to. let z = h.exact m (omega (arith, from, ea)) (omega (arith, to, ea, ek)) in omega (arith, z, e all m);
  low = λ m s. let z = h.low m (omega (arith, s, e all m)) in omega (arith, z, ea);
  range = λ m s. let z = h.range m (omega (arith, s, e all m)) in omega (arith, z, ea, ek);
  less = λ f m. let z = h.less f m in omega (arith, z, (e (of_lives f) m).0, (e all m).0);
}

fresh_pieces : (k : ℕ) (ps : List Piece) → WholeFrom k ps → IsFresh k (length ps) (of_pieces ps)
fresh_pieces k [] h = fresh_none k
fresh_pieces k (p ∷ ps) h =
    fresh_same k (1 + length ps) k (suc (length ps)) (both (of_part p.part) (of_pieces ps)) (of_pieces (p ∷ ps)) refl (omega arith) (λ t m. (omega arith, omega arith))
    (fresh_join k 1 (length ps) (of_part p.part) (of_pieces ps) (fresh_part k p.part h.0 h.1) (fresh_pieces (k + 1) ps h.2))

-- a head that was a Sole, and is a part of all its weight
fresh_head : (k : ℕ) (s : SoleState) (h : Holder) → s.mark ≡ k → IsLent (Sole s) h → IsFresh k 1 (of_holder h)
fresh_head k s (Sole x) e h = absurd h
fresh_head k s (Part p) e h = fresh_part k p h.0 (h.3 ∙ e)

-- a packet whose blocks were marked in turn, and whose head was shared
fresh_packet : (k : ℕ) (p : Held) (h : Holder) → IsLaid k p → IsLent p.skb.head h → IsFresh k (count_of p) (of_packet (with_head p h))
fresh_packet k p h laid lent =
    let n = length p.skb.rest in
    let head = fresh_head k laid.head.0 h laid.head.2 (subst (λ (g : Holder). IsLent g h) laid.head.1 lent) in
    fresh_same k (1 + n) k (n + 1) (of_packet (with_head p h)) (of_packet (with_head p h)) refl (omega arith) (λ t m. (refl, refl))
    (fresh_join k 1 n (of_holder h) (of_pieces p.skb.rest) head (fresh_pieces (k + 1) p.skb.rest laid.rest))

-- the same of all packets of a round
pub fresh_lent : (k : ℕ) (ps qs : List Held) → LaidFrom k ps → AreLent ps qs → IsFresh k (counts_of ps) (of_packets qs)
fresh_lent k [] qs laid lent = subst (λ (z : List Held). IsFresh k 0 (of_packets z)) (sym lent) (fresh_none k)
fresh_lent k (p ∷ ps) qs laid lent =
    subst (λ (z : List Held). IsFresh k (counts_of (p ∷ ps)) (of_packets z)) (sym lent.1.1.1)
    (fresh_join k (count_of p) (counts_of ps) (of_packet (with_head p lent.0)) (of_packets lent.1.0) (fresh_packet k p lent.0 laid.0 lent.1.1.0)
    (fresh_lent (k + count_of p) ps lent.1.0 laid.1 lent.1.1.2))

-- blocks as they were taken are a round
pub fresh_round : (n : ℕ) (a : Account) → IsFresh 0 n a → IsRound n a
fresh_round n a h = record {
  marked = record { lives = h.one; range = λ m s. let z = h.range m (omega (arith, s)) in omega (arith, z) };
  whole = λ m lt z. let e = h.exact m (omega arith) (omega (arith, lt)) in omega (arith, e, z);
}

pub numbered_last : (k : ℕ) (xs : List Held) (p : Held) → NumberedFrom k xs → p.number ≡ k + length xs → NumberedFrom k (xs ++ p ∷ [])
numbered_last k [] p h e = (omega (arith, e), tt)
numbered_last k (x ∷ xs) p h e = (h.0, numbered_last (k + 1) xs p h.1 (omega (arith, e)))
