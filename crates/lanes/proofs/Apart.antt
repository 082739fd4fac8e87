-- What taps gave back has no Sole.
use Rattle.std.proofs.Common.{◌≡◌, ◌≢◌, ℕ, zero, suc, ◌+◌, ◌<◌, ◌≤◌, ◌==◌, Bool, true, false, ◌&&◌, cond, List, [], ◌∷◌, ◌++◌, length, get_or, refl, ap, ◌∙◌, arith}
use Rattle.std.specs.Prelude.{All, Option, Some, None, IfSome, MatchOption}
use Rattle.std.specs.List.{sum_by}
use Rattle.std.proofs.lemmas.Bool.{eq-eqb, ne_eqb}
use Rattle.std.proofs.lemmas.List.Sums.{sum_by-cons}
use Rattle.raw_block.specs.Views.{SoleState}
use Rattle.frags.specs.Account.{KeepsBlocks, both, every, soles_home}
use Rattle.frags.specs.Holders.{name_of}
use Rattle.frags.specs.PieceList.{pieces_held}
use Rattle.frags.specs.RoundAccount.{one_block}
use Rattle.frags.specs.declared.pieces.Piece.{Piece}
use Rattle.frags.specs.declared.holder.Holder.{Holder}
use Rattle.frags.specs.declared.holder.Holder.TheVariants.{Sole, Part}
use Rattle.frags.specs.Account.{of_holder}
use Rattle.skb.specs.SkbState.{SkbState, IsApartFrom, of_buffer, weighed_in}
use Rattle.gro.specs.declared.slot.Slot.{Slot as Held}
use Rattle.gro.specs.Slots.{of_packets, weighed_slots}
use Rattle.lanes.specs.declared.lane.QueueLane.{QueueLane}
use Rattle.lanes.specs.declared.lane.TapLane.{TapLane}
use Rattle.lanes.specs.declared.lane.Lanes.{Lanes}
use Rattle.lanes.specs.Lanes.{of_queues, of_taps, weighed_queues}
use Rattle.lanes.specs.Soles.{only, AreOfPackets}

abbrev once : Bool → ℕ
once v = cond v 1 0

-- ---- what is of other blocks weighs nothing

only_no : (b k : ℕ) → k ≢ b → only b k ≡ 0
only_no b k other = ap once (ne_eqb k b other)

pieces_apart : (b : ℕ) (ps : List Piece) → All (λ (p : Piece). p.part.life.block ≢ b) ps
    → sum_by (λ (p : Piece). only b p.part.life.block) ps ≡ 0
pieces_apart b [] h = refl
pieces_apart b (p ∷ ps) h =
    let w : Piece → ℕ = λ (q : Piece). only b q.part.life.block in
    let e = only_no b p.part.life.block (h zero p (omega arith)) in
    omega (arith, sum_by-cons w p ps, e, pieces_apart b ps (λ j d lt. h (suc j) d (omega (arith, lt))))

buffer_apart : (b : ℕ) (f : SkbState) → IsApartFrom b f → weighed_in (only b) f ≡ 0
buffer_apart b f a = omega (arith, only_no b (name_of f.head) a.head, pieces_apart b f.rest a.rest)

pub slots_apart : (b : ℕ) (ps : List Held) → All (λ (p : Held). IsApartFrom b p.skb) ps → weighed_slots (only b) ps ≡ 0
slots_apart b [] h = refl
slots_apart b (p ∷ ps) h =
    omega (arith, buffer_apart b p.skb (h zero p (omega arith)), slots_apart b ps (λ j d lt. h (suc j) d (omega (arith, lt))))

pub queues_apart : (b : ℕ) (ls : List QueueLane) → All (λ (l : QueueLane). All (λ (p : Held). IsApartFrom b p.skb) l.packets.items) ls
    → weighed_queues (only b) ls ≡ 0
queues_apart b [] h = refl
queues_apart b (l ∷ ls) h =
    omega (arith, slots_apart b l.packets.items (h zero l (omega arith)), queues_apart b ls (λ j d lt. h (suc j) d (omega (arith, lt))))

-- ---- what weighs nothing holds nothing

off : (v r : Bool) (w : ℕ) → once v ≡ 0 → cond (v && r) w 0 ≡ 0
off true r w e = absurd (omega (arith, e))
off false r w e = refl

pieces_nothing : (b m : ℕ) (ps : List Piece) → sum_by (λ (p : Piece). only b p.part.life.block) ps ≡ 0 → pieces_held (every (one_block b)) m ps ≡ 0
pieces_nothing b m [] e = refl
pieces_nothing b m (p ∷ ps) e =
    let w : Piece → ℕ = λ (q : Piece). only b q.part.life.block in
    let s = sum_by-cons w p ps in
    let z : only b p.part.life.block ≡ 0 = omega (arith, s, e) in
    let n = off (p.part.life.block == b) (true && (p.part.mark == m)) p.part.weight z in
    omega (arith, n, pieces_nothing b m ps (omega (arith, s, e)))

holder_nothing : (b m : ℕ) (g : Holder) → only b (name_of g) ≡ 0 → (of_holder g).held (every (one_block b)) m + (of_holder g).homes (one_block b) m ≡ 0
holder_nothing b m (Sole s) e = omega (arith, off (s.block == b) (s.mark == m) 1 e)
holder_nothing b m (Part p) e = omega (arith, off (p.life.block == b) (true && (p.mark == m)) p.weight e)

buffer_nothing : (b m : ℕ) (f : SkbState) → weighed_in (only b) f ≡ 0 → (of_buffer f).held (every (one_block b)) m + (of_buffer f).homes (one_block b) m ≡ 0
buffer_nothing b m f e =
    let h = holder_nothing b m f.head (omega (arith, e)) in
    let p = pieces_nothing b m f.rest (omega (arith, e)) in
    omega (arith, h, p)

packets_nothing : (b m : ℕ) (ps : List Held) → weighed_slots (only b) ps ≡ 0 → (of_packets ps).held (every (one_block b)) m + (of_packets ps).homes (one_block b) m ≡ 0
packets_nothing b m [] e = refl
packets_nothing b m (p ∷ ps) e =
    omega (arith, buffer_nothing b m p.skb (omega (arith, e)), packets_nothing b m ps (omega (arith, e)))

-- of packets that were parted: where none of theirs has a block, taps have no Sole of it
pub are_of_packets : (old now : List Held) (qs : List QueueLane) (ts : List TapLane) → KeepsBlocks (of_packets old) (both (of_packets now) (both (of_queues qs) (of_taps ts)))
    → ((h : ℕ → ℕ) → weighed_slots h now + weighed_queues h qs ≡ weighed_slots h old)
    → (b m : ℕ) → weighed_slots (only b) now + weighed_queues (only b) qs ≡ 0 → (of_taps ts).homes (one_block b) m ≡ 0
are_of_packets old now qs ts kept named b m none =
    let e = packets_nothing b m old (omega (arith, named (only b), none)) in
    omega (arith, kept (one_block b) m, e)

-- ---- a Sole of some tap

soles_append : (bs : ℕ → Bool) (m : ℕ) (xs ys : List SoleState) → soles_home bs m (xs ++ ys) ≡ soles_home bs m xs + soles_home bs m ys
soles_append bs m [] ys = omega arith
soles_append bs m (x ∷ xs) ys = omega (arith, soles_append bs m xs ys)

own_home : (s : SoleState) (xs : List SoleState) → 1 ≤ soles_home (one_block s.block) s.mark (xs ++ s ∷ [])
own_home s xs =
    let a = soles_append (one_block s.block) s.mark xs (s ∷ []) in
    let u = eq-eqb s.block s.block refl in
    let v = eq-eqb s.mark s.mark refl in
    let one : once ((s.block == s.block) && (s.mark == s.mark)) ≡ 1 = ap (λ (z : Bool). once (z && (s.mark == s.mark))) u ∙ ap once v in
    omega (arith, a, one)

tap_home : (bs : ℕ → Bool) (m i : ℕ) (ls : List TapLane) (d : TapLane) → i < length ls
    → soles_home bs m (get_or ls i d).outcomes.soles ≤ (of_taps ls).homes bs m
tap_home bs m i [] d lt = absurd (omega (arith, lt))
tap_home bs m zero (l ∷ ls) d lt = omega arith
tap_home bs m (suc i) (l ∷ ls) d lt = omega (arith, tap_home bs m i ls d (omega (arith, lt)))

-- the one that was taken from tap i
pub taken_home : (o : Option SoleState) (xs ys : List SoleState) (i : ℕ) (ls : List TapLane) (d : TapLane) → i < length ls → (get_or ls i d).outcomes.soles ≡ xs
    → MatchOption o ((xs ≡ []) × (ys ≡ [])) (λ s. xs ≡ ys ++ s ∷ []) → IfSome o (λ s. 1 ≤ (of_taps ls).homes (one_block s.block) s.mark)
taken_home None xs ys i ls d lt e m = tt
taken_home (Some s) xs ys i ls d lt e m =
    let h = tap_home (one_block s.block) s.mark i ls d lt in
    let k = ap (soles_home (one_block s.block) s.mark) (e ∙ m) in
    omega (arith, h, k, own_home s ys)

-- a tap's Sole would be of a block that no packet has
pub none_there : (b m : ℕ) (ps : List Held) (l : Lanes) (ts : List TapLane) (qs : List QueueLane) → AreOfPackets ps l → ts ≡ l.taps.items → qs ≡ l.queues.items
    → All (λ (p : Held). IsApartFrom b p.skb) ps → All (λ (q : QueueLane). All (λ (p : Held). IsApartFrom b p.skb) q.packets.items) qs
    → 1 ≤ (of_taps ts).homes (one_block b) m → ⊥
none_there b m ps l ts qs theirs t q of_packets of_queues some =
    let e = ap (λ (z : List TapLane). (of_taps z).homes (one_block b) m) t in
    let w = ap (weighed_queues (only b)) q in
    let none = theirs b m (omega (arith, slots_apart b ps of_packets, queues_apart b qs of_queues, w)) in
    omega (arith, e, none, some)
