-- Taps that are given their clones, one after another, and give them back.
use Rattle.std.proofs.Common.{◌≡◌, ℕ, zero, suc, ◌+◌, ◌<◌, ◌≤◌, Bool, false, List, [], ◌∷◌, ◌++◌, map, drop, length, get_or, set, refl, sym, ap, ◌∙◌, subst, arith}
use Rattle.std.specs.List.{AllByRecursion}
use Rattle.std.specs.Prelude.{Result}
use Rattle.std.proofs.lemmas.List.{length-set}
use Rattle.frags.specs.Account.{Account, Tests, Keeps, KeepsBlocks, both, every}
use Rattle.frags.specs.declared.pieces.ShareFault.{ShareFault}
use Rattle.skb.specs.SkbState.{SkbState, buffer_least, is_sole, of_buffer, weighed_in}
use Rattle.gro.specs.declared.slot.Slot.{Slot as Held}
use Rattle.gro.specs.Slots.{of_nothing}
use Rattle.gro.specs.Slots.{packet_of, IsHeld, of_packet, of_packets, count_of, counts_of, AreHeld, AreShared, WeighAtLeast}
use Rattle.gro.specs.Packets.{ClonedAt, with_skb}
use Rattle.gro.proofs.Weights.{weighed_set}
use Rattle.taps.specs.declared.clones.TapClone.{TapClone}
use Rattle.taps.specs.Clones.{of_clones}
use Rattle.lanes.specs.declared.lane.TapLane.{TapLane}
use Rattle.lanes.specs.Clones.{weight_after, AreAfter, AreSame, IsAfter}
use Rattle.lanes.specs.Lanes.{of_tap, of_taps, IsIdleTap}
use Rattle.lanes.proofs.Idle.{idle_tap}

-- ---- the packets after some clones

weigh_less : (v w : ℕ) (ps : List Held) → v ≤ w → WeighAtLeast w ps → WeighAtLeast v ps
weigh_less v w [] le h = tt
weigh_less v w (p ∷ ps) le h = (omega (arith, le, h.0), weigh_less v w ps le h.1)

pub after_none : (k : ℕ) (ps : List Held) → AreHeld ps → AreShared ps → WeighAtLeast (weight_after k) ps → AreAfter k ps ps
after_none k ps held shared weigh = record { same = refl; counts = refl; named = λ w. refl; held = held; shared = shared; weigh = weigh }

pub after_both : (j k : ℕ) (ps qs rs : List Held) → AreAfter j ps qs → AreAfter k qs rs → AreAfter k ps rs
after_both j k ps qs rs a b = record { same = b.same ∙ a.same; counts = b.counts ∙ a.counts; named = λ w. b.named w ∙ a.named w; held = b.held; shared = b.shared; weigh = b.weigh }

pub after_later : (j k : ℕ) (ps qs : List Held) → j ≤ k → AreAfter j ps qs → AreAfter k ps qs
after_later j k ps qs le a = record { same = a.same; counts = a.counts; named = a.named; held = a.held; shared = a.shared; weigh = weigh_less (weight_after k) (weight_after j) qs (omega (arith, le)) a.weigh }

pub same_after : (k : ℕ) (ps qs : List Held) → AreAfter k ps qs → AreSame ps qs
same_after k ps qs a = record { same = a.same; counts = a.counts; named = a.named; held = a.held }

-- ---- a tap more

-- an idle lane becomes another
tap_set : (i : ℕ) (ls : List TapLane) (d m : TapLane) → i < length ls → IsIdleTap (get_or ls i d) → (t : Tests) (j : ℕ)
    → ((of_taps (set ls i m)).held t j ≡ (of_taps ls).held t j + (of_tap m).held t j) × ((of_taps (set ls i m)).homes t.blocks j ≡ (of_taps ls).homes t.blocks j + (of_tap m).homes t.blocks j)
tap_set i [] d m lt h t j = absurd (omega (arith, lt))
tap_set zero (l ∷ ls) d m lt h t j = let a = idle_tap l h t j in (omega (arith, a.0), omega (arith, a.1))
tap_set (suc i) (l ∷ ls) d m lt h t j = let a = tap_set i ls d m (omega (arith, lt)) h t j in (omega (arith, a.0), omega (arith, a.1))

pub tap_keeps : (i : ℕ) (a p q : Account) (ls : List TapLane) (d m : TapLane) → i < length ls → IsIdleTap (get_or ls i d) → Keeps a (both p (of_taps ls)) → Keeps p (both q (of_tap m))
    → Keeps a (both q (of_taps (set ls i m)))
tap_keeps i a p q ls d m lt idle h g t j =
    let x = h t j in
    let y = g t j in
    let s = tap_set i ls d m lt idle t j in
    (omega (arith, x.0, y.0, s.0), omega (arith, x.1, y.1, s.1))

pub tap_blocks : (i : ℕ) (a p q : Account) (ls : List TapLane) (d m : TapLane) → i < length ls → IsIdleTap (get_or ls i d) → KeepsBlocks a (both p (of_taps ls)) → KeepsBlocks p (both q (of_tap m))
    → KeepsBlocks a (both q (of_taps (set ls i m)))
tap_blocks i a p q ls d m lt idle h g bs j =
    let x = h bs j in
    let y = g bs j in
    let s = tap_set i ls d m lt idle (every bs) j in
    omega (arith, x, y, s.0, s.1)

-- ---- a tap that is given up

pub set_keeps : (i : ℕ) (ls : List TapLane) (d m : TapLane) → i < length ls → Keeps (of_tap (get_or ls i d)) (of_tap m) → Keeps (of_taps ls) (of_taps (set ls i m))
set_keeps i [] d m lt h t j = absurd (omega (arith, lt))
set_keeps zero (l ∷ ls) d m lt h t j = let a = h t j in (omega (arith, a.0), omega (arith, a.1))
set_keeps (suc i) (l ∷ ls) d m lt h t j = let a = set_keeps i ls d m (omega (arith, lt)) h t j in (omega (arith, a.0), omega (arith, a.1))

pub keeps_both : (a b c : Account) → Keeps a b → Keeps b c → Keeps a c
keeps_both a b c h g t m = let x = h t m in let y = g t m in (omega (arith, x.0, y.0), omega (arith, x.1, y.1))

pub set_blocks : (i : ℕ) (ls : List TapLane) (d m : TapLane) → i < length ls → KeepsBlocks (of_tap (get_or ls i d)) (of_tap m) → KeepsBlocks (of_taps ls) (of_taps (set ls i m))
set_blocks i [] d m lt h bs j = absurd (omega (arith, lt))
set_blocks zero (l ∷ ls) d m lt h bs j = let a = h bs j in omega (arith, a)
set_blocks (suc i) (l ∷ ls) d m lt h bs j = let a = set_blocks i ls d m (omega (arith, lt)) h bs j in omega (arith, a)

pub blocks_both : (a b c : Account) → KeepsBlocks a b → KeepsBlocks b c → KeepsBlocks a c
blocks_both a b c h g bs m = let x = h bs m in let y = g bs m in omega (arith, x, y)

-- ---- packets that are cloned, one after another

all_set : (P : Held → Type 0) (i : ℕ) (ps : List Held) (q : Held) → AllByRecursion P ps → P q → AllByRecursion P (set ps i q)
all_set P i [] q h p = tt
all_set P zero (x ∷ xs) q h p = (p, h.1)
all_set P (suc i) (x ∷ xs) q h p = (h.0, all_set P i xs q h.1 p)

all_at : (P : Held → Type 0) (i : ℕ) (ps : List Held) (d : Held) → i < length ps → AllByRecursion P ps → P (get_or ps i d)
all_at P i [] d lt h = absurd (omega (arith, lt))
all_at P zero (x ∷ xs) d lt h = h.0
all_at P (suc i) (x ∷ xs) d lt h = all_at P i xs d (omega (arith, lt)) h.1

-- there is one
pub any_of : (i : ℕ) (ps : List Held) → i < length ps → Held
any_of i [] lt = absurd (omega (arith, lt))
any_of i (p ∷ ps) lt = p

pub at_itself : (i : ℕ) (ps : List Held) (d : Held) → i < length ps → get_or ps i d ≡ get_or ps i (get_or ps i d)
at_itself i [] d lt = absurd (omega (arith, lt))
at_itself zero (p ∷ ps) d lt = refl
at_itself (suc i) (p ∷ ps) d lt = at_itself i ps d (omega (arith, lt))

pub shared_at : (i : ℕ) (ps : List Held) (d : Held) → i < length ps → AreShared ps → is_sole (get_or ps i d).skb.head ≡ false
shared_at i ps d lt h = all_at (λ (p : Held). is_sole p.skb.head ≡ false) i ps d lt h

pub weighs_at : (w i : ℕ) (ps : List Held) (d : Held) → i < length ps → WeighAtLeast w (drop i ps) → w ≤ buffer_least (get_or ps i d).skb
weighs_at w i [] d lt h = absurd (omega (arith, lt))
weighs_at w zero (p ∷ ps) d lt h = h.0
weighs_at w (suc i) (p ∷ ps) d lt h = weighs_at w i ps d (omega (arith, lt)) h

-- the packet at place i was cloned, and now is q
pub set_same : (i : ℕ) (ps : List Held) (d q : Held) → i < length ps → packet_of q ≡ packet_of (get_or ps i d) → map packet_of (set ps i q) ≡ map packet_of ps
set_same i [] d q lt e = absurd (omega (arith, lt))
set_same zero (p ∷ ps) d q lt e = ap (λ z. z ∷ map packet_of ps) e
set_same (suc i) (p ∷ ps) d q lt e = ap (λ z. packet_of p ∷ z) (set_same i ps d q (omega (arith, lt)) e)

pub set_counts : (i : ℕ) (ps : List Held) (d q : Held) → i < length ps → count_of q ≡ count_of (get_or ps i d) → counts_of (set ps i q) ≡ counts_of ps
set_counts i [] d q lt e = absurd (omega (arith, lt))
set_counts zero (p ∷ ps) d q lt e = omega (arith, e)
set_counts (suc i) (p ∷ ps) d q lt e = omega (arith, set_counts i ps d q (omega (arith, lt)) e)

pub set_packets : (i : ℕ) (ps : List Held) (d q : Held) (x : Account) → i < length ps → Keeps (of_packet (get_or ps i d)) (both (of_packet q) x)
    → Keeps (of_packets ps) (both (of_packets (set ps i q)) x)
set_packets i [] d q x lt h t m = absurd (omega (arith, lt))
set_packets zero (p ∷ ps) d q x lt h t m = let a = h t m in (omega (arith, a.0), omega (arith, a.1))
set_packets (suc i) (p ∷ ps) d q x lt h t m = let a = set_packets i ps d q x (omega (arith, lt)) h t m in (omega (arith, a.0), omega (arith, a.1))

pub set_packet_blocks : (i : ℕ) (ps : List Held) (d q : Held) (x : Account) → i < length ps → KeepsBlocks (of_packet (get_or ps i d)) (both (of_packet q) x)
    → KeepsBlocks (of_packets ps) (both (of_packets (set ps i q)) x)
set_packet_blocks i [] d q x lt h bs m = absurd (omega (arith, lt))
set_packet_blocks zero (p ∷ ps) d q x lt h bs m = let a = h bs m in omega (arith, a)
set_packet_blocks (suc i) (p ∷ ps) d q x lt h bs m = let a = set_packet_blocks i ps d q x (omega (arith, lt)) h bs m in omega (arith, a)

pub after_set : (k i : ℕ) (old ps : List Held) (x q : Held) → i < length ps → x ≡ get_or ps i x → IsAfter k x q → AreAfter k old ps → AreAfter k old (set ps i q)
after_set k i old ps x q lt e a h = record {
  same = set_same i ps x q lt (a.same ∙ ap packet_of e) ∙ h.same;
  counts = set_counts i ps x q lt (a.count ∙ ap count_of e) ∙ h.counts;
  named = λ w. weighed_set w i ps x q lt (a.named w ∙ ap (λ (z : Held). weighed_in w z.skb) e) ∙ h.named w;
  held = all_set IsHeld i ps q h.held (a.held (subst IsHeld (sym e) (all_at IsHeld i ps x lt h.held)));
  shared = all_set (λ (p : Held). is_sole p.skb.head ≡ false) i ps q h.shared a.shared;
  weigh = all_set (λ (p : Held). weight_after k ≤ buffer_least p.skb) i ps q h.weigh a.weighs;
}

-- it is refused its clone
pub stop_keeps : (i : ℕ) (a : Account) (ps : List Held) (x q : Held) (cs : List TapClone) → i < length ps → x ≡ get_or ps i x → Keeps (of_packet x) (of_packet q)
    → Keeps a (both (of_packets ps) (of_clones cs)) → Keeps a (both (of_packets (set ps i q)) (of_clones cs))
stop_keeps i a ps x q cs lt e k h t m =
    let s = set_packets i ps x q of_nothing lt (subst (λ (z : Held). Keeps (of_packet z) (both (of_packet q) of_nothing)) e (λ u j. let y = k u j in (omega (arith, y.0), omega (arith, y.1)))) t m in
    let z = h t m in
    (omega (arith, s.0, z.0), omega (arith, s.0, s.1, z.0, z.1))

pub stop_blocks : (i : ℕ) (a : Account) (ps : List Held) (x q : Held) (cs : List TapClone) → i < length ps → x ≡ get_or ps i x → KeepsBlocks (of_packet x) (of_packet q)
    → KeepsBlocks a (both (of_packets ps) (of_clones cs)) → KeepsBlocks a (both (of_packets (set ps i q)) (of_clones cs))
stop_blocks i a ps x q cs lt e k h bs m =
    let s = set_packet_blocks i ps x q of_nothing lt (subst (λ (z : Held). KeepsBlocks (of_packet z) (both (of_packet q) of_nothing)) e (λ cs j. let y = k cs j in omega (arith, y))) bs m in
    let z = h bs m in
    omega (arith, s, z)

clones_held : (t : Tests) (m : ℕ) (cs : List TapClone) (c : TapClone) → (of_clones (cs ++ c ∷ [])).held t m ≡ (of_clones cs).held t m + (of_buffer c.skb).held t m
clones_held t m [] c = omega arith
clones_held t m (d ∷ ds) c = omega (arith, clones_held t m ds c)

clones_home : (bs : ℕ → Bool) (m : ℕ) (cs : List TapClone) (c : TapClone) → (of_clones (cs ++ c ∷ [])).homes bs m ≡ (of_clones cs).homes bs m + (of_buffer c.skb).homes bs m
clones_home bs m [] c = omega arith
clones_home bs m (d ∷ ds) c = omega (arith, clones_home bs m ds c)

-- it is given it
pub turn_keeps : (i : ℕ) (a : Account) (ps : List Held) (x q : Held) (cs ds : List TapClone) (c : TapClone) → i < length ps → x ≡ get_or ps i x → ds ≡ cs ++ c ∷ []
    → Keeps (of_packet x) (both (of_packet q) (of_buffer c.skb))
    → Keeps a (both (of_packets ps) (of_clones cs)) → Keeps a (both (of_packets (set ps i q)) (of_clones ds))
turn_keeps i a ps x q cs ds c lt e f k h t m =
    let s = set_packets i ps x q (of_buffer c.skb) lt (subst (λ (z : Held). Keeps (of_packet z) (both (of_packet q) (of_buffer c.skb))) e k) t m in
    let z = h t m in
    let u = ap (λ w. (of_clones w).held t m) f ∙ clones_held t m cs c in
    let v = ap (λ w. (of_clones w).homes t.blocks m) f ∙ clones_home t.blocks m cs c in
    (omega (arith, s.0, z.0, u), omega (arith, s.0, s.1, z.0, z.1, u, v))

pub turn_blocks : (i : ℕ) (a : Account) (ps : List Held) (x q : Held) (cs ds : List TapClone) (c : TapClone) → i < length ps → x ≡ get_or ps i x → ds ≡ cs ++ c ∷ []
    → KeepsBlocks (of_packet x) (both (of_packet q) (of_buffer c.skb))
    → KeepsBlocks a (both (of_packets ps) (of_clones cs)) → KeepsBlocks a (both (of_packets (set ps i q)) (of_clones ds))
turn_blocks i a ps x q cs ds c lt e f k h bs m =
    let s = set_packet_blocks i ps x q (of_buffer c.skb) lt (subst (λ (z : Held). KeepsBlocks (of_packet z) (both (of_packet q) (of_buffer c.skb))) e k) bs m in
    let z = h bs m in
    let u = ap (λ w. (of_clones w).held (every bs) m) f ∙ clones_held (every bs) m cs c in
    let v = ap (λ w. (of_clones w).homes bs m) f ∙ clones_home bs m cs c in
    omega (arith, s, z, u, v)

-- the packets from place i on: this one, and those that no clone was taken of
pub here : (i n : ℕ) (ps : List Held) (x q : Held) → n ≡ suc i → i < length ps → x ≡ get_or ps i x → drop i ps ≡ x ∷ drop n (set ps i q)
here i n ps x q e lt is = from i ps lt is ∙ ap (λ z. x ∷ drop z (set ps i q)) (sym e)
  where
    from : (i : ℕ) (ps : List Held) → i < length ps → x ≡ get_or ps i x → drop i ps ≡ x ∷ drop (suc i) (set ps i q)
    from i [] lt is = absurd (omega (arith, lt))
    from zero (p ∷ ps) lt is = ap (λ z. z ∷ ps) (sym is)
    from (suc i) (p ∷ ps) lt is = from i ps (omega (arith, lt)) is

-- ---- one of several that is cloned where it lies

pub cloned_size : (i : ℕ) (ps qs : List Held) (r : Result SkbState ShareFault) → i < length ps → ClonedAt i ps qs r → length qs ≡ length ps
cloned_size i ps qs r lt h =
    let d = any_of i ps lt in
    let cloned = h d in
    ap length cloned.1.1 ∙ length-set ps i (with_skb (get_or ps i d) cloned.0)

slots_here : (i : ℕ) (ps : List Held) (s : Held) → i < length ps → s ≡ get_or ps i s → counts_of (drop i ps) ≡ count_of s + counts_of (drop (suc i) ps)
slots_here i [] s lt e = absurd (omega (arith, lt))
slots_here zero (p ∷ ps) s lt e = omega (arith, ap count_of e)
slots_here (suc i) (p ∷ ps) s lt e = slots_here i ps s (omega (arith, lt)) e

-- the packets from place i on, by the list of their slots: this one, and the others
pub slots_from : (i : ℕ) (ps slots : List Held) (s : Held) → i < length slots → slots ≡ ps → s ≡ get_or slots i s → counts_of (drop i ps) ≡ count_of s + counts_of (drop (i + 1) ps)
slots_from i ps slots s lt are is = slots_here i ps s (subst (λ (z : List Held). i < length z) are lt) (is ∙ ap (λ (z : List Held). get_or z i s) are) ∙ ap (λ z. count_of s + counts_of (drop z ps)) (next i)
  where
    next : (i : ℕ) → suc i ≡ i + 1
    next i = omega arith
