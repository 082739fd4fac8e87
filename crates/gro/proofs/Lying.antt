-- Packets in a list whose heads are shared, or whose blocks nobody else holds.
use Rattle.std.proofs.Common.{◌≡◌, ℕ, zero, suc, ◌+◌, ◌<◌, ◌≤◌, true, false, List, [], ◌∷◌, ◌++◌, length, map, get_or, set, slice_range, refl, sym, ap, ◌∙◌, subst, arith}
use Rattle.block_weight.specs.WeightRule.{full_weight}
use Rattle.raw_block.specs.Views.{PartState}
use Rattle.pcap_io.specs.Capture.{Packet}
use Rattle.frags.specs.Holders.{block}
use Rattle.frags.specs.PieceList.{AreWhole, least_weight, bytes_of}
use Rattle.frags.specs.declared.pieces.Piece.{Piece}
use Rattle.frags.specs.declared.holder.Holder.{Holder}
use Rattle.frags.specs.declared.holder.Holder.TheVariants.{Sole, Part}
use Rattle.skb.specs.SkbState.{SkbState, buffer_bytes, head_least, is_sole, IsLent}
use Rattle.gro.specs.declared.slot.Slot.{Slot}
use Rattle.gro.specs.Slots.{packet_of, IsHeld, AreHeld, counts_of, AreAlone, AreShared, WeighAtLeast, with_head, AreLent}

-- ---- one head

pub lent_block : (g h : Holder) → IsLent g h → block h ≡ block g
lent_block (Sole s) (Part p) l = l.2
lent_block (Part q) (Part p) l = ap (λ (z : PartState). z.bytes) l
lent_block g (Sole s) l = absurd l

pub lent_is_part : (g h : Holder) → IsLent g h → is_sole h ≡ false
lent_is_part g (Part p) l = refl
lent_is_part g (Sole s) l = absurd l

-- a Sole's part has all of its weight
pub lent_weighs : (g h : Holder) → IsLent g h → is_sole g ≡ true → head_least h ≡ full_weight
lent_weighs (Sole s) (Part p) l e = l.0
lent_weighs (Part q) h l e = absurd cc
lent_weighs (Sole s) (Sole r) l e = absurd l

pub whole_least : (ps : List Piece) → AreWhole ps → least_weight ps ≡ full_weight
whole_least [] a = refl
whole_least (p ∷ ps) a = omega (arith, a.0, whole_least ps a.1)

-- ---- a packet whose head was lent

lent_packet : (s : Slot) (h : Holder) → IsLent s.skb.head h → packet_of (with_head s h) ≡ packet_of s
lent_packet s h l = ap (λ (z : List ℕ). record (packet_of s) { frame = slice_range z s.skb.from s.skb.to ++ bytes_of s.skb.rest }) (lent_block s.skb.head h l)

lent_frame : (s : Slot) (h : Holder) → IsLent s.skb.head h → buffer_bytes (with_head s h).skb ≡ buffer_bytes s.skb
lent_frame s h l = ap (λ (z : List ℕ). slice_range z s.skb.from s.skb.to ++ bytes_of s.skb.rest) (lent_block s.skb.head h l)

lent_one : (s : Slot) (h : Holder) → IsLent s.skb.head h → IsHeld s → IsHeld (with_head s h)
lent_one s h l i =
    let e = ap length (lent_frame s h l) in
    record { size = omega (arith, i.size, e); front = i.front; short = omega (arith, i.short, e) }

-- ---- packets whose heads were lent

pub lent_packets : (ps qs : List Slot) → AreLent ps qs → map packet_of qs ≡ map packet_of ps
lent_packets [] qs e = ap (λ (z : List Slot). map packet_of z) e
lent_packets (s ∷ ss) qs e =
    ap (λ (z : List Slot). map packet_of z) e.1.1.1
    ∙ ap (λ (z : Packet). z ∷ map packet_of e.1.0) (lent_packet s e.0 e.1.1.0)
    ∙ ap (λ (z : List Packet). packet_of s ∷ z) (lent_packets ss e.1.0 e.1.1.2)

-- they hold as many blocks and parts
pub lent_counts : (ps qs : List Slot) → AreLent ps qs → counts_of qs ≡ counts_of ps
lent_counts [] qs e = ap counts_of e
lent_counts (s ∷ ss) qs e = omega (arith, ap counts_of e.1.1.1, lent_counts ss e.1.0 e.1.1.2)

pub lent_held : (ps qs : List Slot) → AreLent ps qs → AreHeld ps → AreHeld qs
lent_held [] qs e a = subst AreHeld (sym e) tt
lent_held (s ∷ ss) qs e a = subst AreHeld (sym e.1.1.1) (lent_one s e.0 e.1.1.0 a.0, lent_held ss e.1.0 e.1.1.2 a.1)

pub lent_shared : (ps qs : List Slot) → AreLent ps qs → AreShared qs
lent_shared [] qs e = subst AreShared (sym e) tt
lent_shared (s ∷ ss) qs e = subst AreShared (sym e.1.1.1) (lent_is_part s.skb.head e.0 e.1.1.0, lent_shared ss e.1.0 e.1.1.2)

-- of packets whose blocks nobody else held each part has all of its block's weight
pub lent_weigh : (ps qs : List Slot) → AreLent ps qs → AreAlone ps → WeighAtLeast full_weight qs
lent_weigh [] qs e a = subst (WeighAtLeast full_weight) (sym e) tt
lent_weigh (s ∷ ss) qs e a =
    subst (WeighAtLeast full_weight) (sym e.1.1.1)
    (omega (arith, lent_weighs s.skb.head e.0 e.1.1.0 a.0.head, whole_least s.skb.rest a.0.rest), lent_weigh ss e.1.0 e.1.1.2 a.1)

-- ---- head by head

-- of these packets the first i heads were lent
abbrev pub LentUpTo : ℕ → List Slot → List Slot → Type 0
LentUpTo zero ps qs = qs ≡ ps
LentUpTo (suc i) [] qs = qs ≡ []
LentUpTo (suc i) (s ∷ ss) qs = (h : Holder) × ((rs : List Slot)
    × (IsLent s.skb.head h × (qs ≡ with_head s h ∷ rs) × LentUpTo i ss rs))

pub lent_next : (i : ℕ) (ps qs : List Slot) (d : Slot) (h : Holder) → i < length ps → LentUpTo i ps qs → IsLent (get_or qs i d).skb.head h
    → LentUpTo (suc i) ps (set qs i (with_head (get_or qs i d) h))
lent_next i [] qs d h less e l = absurd (omega (arith, less))
lent_next zero (s ∷ ss) qs d h less e l =
    subst (λ (z : List Slot). IsLent (get_or z 0 d).skb.head h → LentUpTo 1 (s ∷ ss) (set z 0 (with_head (get_or z 0 d) h))) (sym e) (λ k. (h, (ss, (k, refl, refl)))) l
lent_next (suc i) (s ∷ ss) qs d h less e l =
    subst (λ (z : List Slot). IsLent (get_or z (suc i) d).skb.head h → LentUpTo (suc (suc i)) (s ∷ ss) (set z (suc i) (with_head (get_or z (suc i) d) h))) (sym e.1.1.1)
    (λ k. (e.0, (set e.1.0 i (with_head (get_or e.1.0 i d) h), (e.1.1.0, refl, lent_next i ss e.1.0 d h (omega (arith, less)) e.1.1.2 k)))) l

-- one head more
pub lent_more : (i : ℕ) (ps qs : List Slot) (slot : Slot) (skb : SkbState) → i < length ps → LentUpTo i ps qs → slot ≡ get_or qs i slot
    → IsLent slot.skb.head skb.head → (skb.from ≡ slot.skb.from) × (skb.to ≡ slot.skb.to) × (skb.rest ≡ slot.skb.rest)
    → LentUpTo (i + 1) ps (set qs i (record slot { skb = skb }))
lent_more i ps qs slot skb less l at h e =
    let same : record slot { skb = skb } ≡ with_head slot skb.head =
    ap (λ (z : ℕ). record slot { skb = record skb { from = z } }) e.0
    ∙ ap (λ (z : ℕ). record slot { skb = record skb { from = slot.skb.from; to = z } }) e.1
    ∙ ap (λ (z : List Piece). record slot { skb = record skb { from = slot.skb.from; to = slot.skb.to; rest = z } }) e.2 in
    let lent : IsLent (get_or qs i slot).skb.head skb.head = subst (λ (z : Slot). IsLent z.skb.head skb.head) at h in
    let next : suc i ≡ i + 1 = omega arith in
    subst (λ (z : ℕ). LentUpTo z ps (set qs i (record slot { skb = skb }))) next
    (subst (λ (z : Slot). LentUpTo (suc i) ps (set qs i z)) (sym (same ∙ ap (λ (z : Slot). with_head z skb.head) at)) (lent_next i ps qs slot skb.head less l lent))

pub lent_all : (i : ℕ) (ps qs : List Slot) → length ps ≤ i → LentUpTo i ps qs → AreLent ps qs
lent_all zero [] qs short e = e
lent_all zero (s ∷ ss) qs short e = absurd (omega (arith, short))
lent_all (suc i) [] qs short e = e
lent_all (suc i) (s ∷ ss) qs short e = (e.0, (e.1.0, (e.1.1.0, e.1.1.1, lent_all i ss e.1.0 (omega (arith, short)) e.1.1.2)))

-- ---- lists put together

pub alone_first : (ps qs : List Slot) → AreAlone (ps ++ qs) → AreAlone ps
alone_first [] qs a = tt
alone_first (p ∷ ps) qs a = (a.0, alone_first ps qs a.1)

pub alone_behind : (ps qs : List Slot) → AreAlone (ps ++ qs) → AreAlone qs
alone_behind [] qs a = a
alone_behind (p ∷ ps) qs a = alone_behind ps qs a.1

pub counts_both : (ps qs : List Slot) → counts_of (ps ++ qs) ≡ counts_of ps + counts_of qs
counts_both [] qs = omega arith
counts_both (p ∷ ps) qs = omega (arith, counts_both ps qs)

-- what stands at a place doesn't depend on what would stand behind the end
pub any_other : (ss : List Slot) (i : ℕ) (d e : Slot) → i < length ss → get_or ss i d ≡ get_or ss i e
any_other [] i d e h = absurd (omega (arith, h))
any_other (s ∷ ss) zero d e h = refl
any_other (s ∷ ss) (suc i) d e h = any_other ss i d e (omega (arith, h))
