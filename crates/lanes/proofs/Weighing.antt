-- A packet's buffer after a clone was taken.
use Rattle.std.proofs.Common.{◌≡◌, ℕ, suc, ◌+◌, ◌-◌, ◌/◌, ◌<◌, ◌≤◌, false, List, [], ◌∷◌, map, length, get_or, set, refl, sym, ap, ◌∙◌, subst, arith}
use Rattle.std.specs.Prelude.{Ok, Err}
use Rattle.std.proofs.lemmas.List.{get_or-set_same}
use Rattle.raw_block.specs.Views.{PartState}
use Rattle.frags.specs.Account.{Keeps, both, every}
use Rattle.frags.specs.Gifts.{gift, kept, worn}
use Rattle.frags.specs.Holders.{AsPart}
use Rattle.frags.specs.PieceList.{size_of, least_weight}
use Rattle.frags.specs.declared.pieces.Piece.{Piece}
use Rattle.frags.specs.declared.pieces.ShareFault.{ShareFault}
use Rattle.frags.specs.declared.pieces.ShareFault.TheVariants.{Short, Worn, NoMemory}
use Rattle.frags.specs.declared.holder.Holder.{Holder}
use Rattle.frags.specs.declared.holder.Holder.TheVariants.{Sole, Part}
use Rattle.skb.specs.SkbState.{SkbState, IsClone, buffer_bytes, buffer_least, buffer_size, head_least, head_worn, buffer_worn, is_sole, of_buffer, weighed_in}
use Rattle.gro.specs.declared.slot.Slot.{Slot as Held}
use Rattle.gro.specs.Slots.{packet_of, of_packet}
use Rattle.gro.specs.Packets.{Cloned, with_skb}
use Rattle.gro.proofs.Weights.{clone_blocks}
use Rattle.taps.specs.declared.clones.TapClone.{TapClone}
use Rattle.taps.specs.Clones.{packet_of as packet_of_clone}
use Rattle.lanes.specs.Clones.{weight_after, IsAfter, IsCloneOf, IsNoMemory}

-- a part that gives a clone away
pub less_weighs : (k w : ℕ) → k < 9 → weight_after k ≤ w → weight_after (k + 1) ≤ w - gift w
less_weighs k w few le =
    let g : gift w ≡ w / 4096 = grind (arith, few, le) in
    omega (arith, few, le, g)

pub pieces_weigh : (k : ℕ) (ps : List Piece) → k < 9 → weight_after k ≤ least_weight ps → weight_after (k + 1) ≤ least_weight (map kept ps)
pieces_weigh k [] few le = omega arith
pieces_weigh k (p ∷ ps) few le =
    let a = less_weighs k p.part.weight few (omega (arith, le)) in
    let b = pieces_weigh k ps few (omega (arith, le)) in
    omega (arith, a, b)

pub size-kept : (ps : List Piece) → size_of (map kept ps) ≡ size_of ps
size-kept [] = refl
size-kept (p ∷ ps) = ap (λ z. (p.to - p.from) + z) (size-kept ps)

-- where all parts weigh more than 1, none is worn
pieces_fresh : (ps : List Piece) → 1 < least_weight ps → worn ps ≡ false
pieces_fresh [] lt = refl
pieces_fresh (p ∷ ps) lt =
    let i = pieces_fresh ps (omega (arith, lt)) in
    let h : 1 < p.part.weight = omega (arith, lt) in
    grind (arith, i, h)

head_fresh : (h : Holder) → 1 < head_least h → head_worn h ≡ false
head_fresh (Sole s) lt = refl
head_fresh (Part p) lt = grind (arith, lt)

pub not_worn : (k : ℕ) (s : SkbState) → k < 9 → weight_after k ≤ buffer_least s → buffer_worn s ≡ false
not_worn k s few le =
    let a = head_fresh s.head (omega (arith, few, le)) in
    let b = pieces_fresh s.rest (omega (arith, few, le)) in
    grind (arith, a, b)

-- ---- what a clone leaves

-- the buffer is the same but for its weights
pub record Remains (k : ℕ) (a b : SkbState) : Type 0 where
  pub size : buffer_size b ≡ buffer_size a
  pub range : (b.from ≡ a.from) × (b.to ≡ a.to)
  pub count : length b.rest ≡ length a.rest
  pub shared : is_sole b.head ≡ false
  pub weighs : weight_after k ≤ buffer_least b

length-kept : (ps : List Piece) → length (map kept ps) ≡ length ps
length-kept [] = refl
length-kept (p ∷ ps) = ap suc (length-kept ps)

as_weight : (h : Holder) (p : PartState) → AsPart h p → head_least h ≡ p.weight
as_weight (Sole s) p a = sym a.0
as_weight (Part q) p a = ap (λ (z : PartState). z.weight) (sym a)

pub remains : (k : ℕ) (a b c : SkbState) → k < 9 → weight_after k ≤ buffer_least a → IsClone a b (Ok c) → Remains (k + 1) a b
remains k a b c few le h =
    let p : PartState = h.1.0 in
    let w = as_weight a.head p h.1.1.0 in
    let x = less_weighs k p.weight few (omega (arith, le, w)) in
    let y = pieces_weigh k a.rest few (omega (arith, le)) in
    subst (Remains (k + 1) a) (sym h.1.1.1) (record {
      size = ap (λ z. (a.to - a.from) + z) (size-kept a.rest);
      range = (refl, refl);
      count = length-kept a.rest;
      shared = refl;
      weighs = omega (arith, x, y);
    })

pub is_after : (k : ℕ) (p : Held) (b : SkbState) → Remains k p.skb b → buffer_bytes b ≡ buffer_bytes p.skb → ((w : ℕ → ℕ) → weighed_in w b ≡ weighed_in w p.skb)
    → IsAfter k p (record p { skb = b })
is_after k p b r e named = record {
  same = ap (λ z. record { number = p.number; sec = p.sec; frac = p.frac; original = p.original; frame = z }) e;
  count = omega (arith, r.count);
  named = named;
  held = λ h. record {
    size = omega (arith, r.size, h.size, ap length e);
    front = omega (arith, r.size, r.range.0, r.range.1, h.front);
    short = omega (arith, h.short, ap length e);
  };
  shared = r.shared;
  weighs = r.weighs;
}

-- a clone of parts that have enough to give is refused for memory alone
pub for_memory : (a b : SkbState) (f : ShareFault) → buffer_worn a ≡ false → IsClone a b (Err f) → IsNoMemory f
for_memory a b (Short h n) fresh c = c
for_memory a b Worn fresh c = absurd (grind (arith, sym c.0 ∙ fresh))
for_memory a b NoMemory fresh c = tt

-- ---- one of several that is cloned where it lies

-- a shared buffer that is refused its clone is as it was
head_same : (h : Holder) (p : PartState) → is_sole h ≡ false → AsPart h p → Part p ≡ h
head_same (Sole s) p shared a = absurd (grind (arith, shared))
head_same (Part q) p shared a = ap Part a

refused_same : (a b : SkbState) (f : ShareFault) → is_sole a.head ≡ false → IsClone a b (Err f) → b ≡ a
refused_same a b (Short h n) shared c = absurd c
refused_same a b Worn shared c = c.1
refused_same a b NoMemory shared c = c.1.1.1 ∙ ap (λ z. record a { head = z }) (head_same a.head c.1.0 shared c.1.1.0)

pub refused_after : (k : ℕ) (p : Held) (b : SkbState) (f : ShareFault) → is_sole p.skb.head ≡ false → weight_after k ≤ buffer_least p.skb → IsClone p.skb b (Err f)
    → IsAfter (k + 1) p (with_skb p b)
refused_after k p b f shared le h = subst (λ z. IsAfter (k + 1) p (with_skb p z)) (sym (refused_same p.skb b f shared h)) (record {
  same = refl;
  count = refl;
  named = λ w. refl;
  held = λ x. x;
  shared = shared;
  weighs = omega (arith, le);
})

pub refused_keeps : (p : Held) (b : SkbState) (f : ShareFault) → is_sole p.skb.head ≡ false → IsClone p.skb b (Err f) → Keeps (of_packet p) (of_packet (with_skb p b))
refused_keeps p b f shared h = subst (λ z. Keeps (of_packet p) (of_packet (with_skb p z))) (sym (refused_same p.skb b f shared h)) (λ t m. (omega arith, omega arith))

-- what a clone of a shared buffer takes is its own
clone_keeps : (p : Held) (b c : SkbState) → is_sole p.skb.head ≡ false → Cloned p.skb b (Ok c) → Keeps (of_packet p) (both (of_packet (with_skb p b)) (of_buffer c))
clone_keeps p b c shared h t m =
    let x = h.sums shared t m in
    let y = h.sums shared (every t.blocks) m in
    let z = h.marks t.blocks m in
    (omega (arith, x), omega (arith, x, y, z))

-- the packet that was cloned, where it lies
pub slot_there : (i : ℕ) (ps qs : List Held) (q : Held) (slots : List Held) (s : Held) → i < length ps → qs ≡ set ps i q → slots ≡ qs → s ≡ get_or slots i s → s ≡ q
slot_there i ps qs q slots s lt e f g = g ∙ ap (λ (z : List Held). get_or z i s) (f ∙ e) ∙ get_or-set_same ps i q s lt

pub is_clone_of : (p : Held) (b : SkbState) (c : TapClone) (s : Held) → is_sole p.skb.head ≡ false → Cloned p.skb b (Ok c.skb) → s ≡ with_skb p b
    → (c.sec ≡ s.sec) × (c.frac ≡ s.frac) × (c.original ≡ s.original) × (c.number ≡ s.number) → IsCloneOf p (with_skb p b) c
is_clone_of p b c s shared h here same = record {
  same = same_packet (same.3 ∙ ap (λ z. z.number) here) (same.0 ∙ ap (λ z. z.sec) here) (same.1 ∙ ap (λ z. z.frac) here) (same.2 ∙ ap (λ z. z.original) here) h.bytes.1;
  few = omega (arith, h.count.1);
  kept = clone_keeps p b c.skb shared h;
  blocks = clone_blocks p.skb b c.skb shared h;
}
  where
    same_packet : c.number ≡ p.number → c.sec ≡ p.sec → c.frac ≡ p.frac → c.original ≡ p.original → buffer_bytes c.skb ≡ buffer_bytes p.skb → packet_of_clone c ≡ packet_of p
    same_packet a b d e f = grind (arith, a, b, d, e, f)
