-- What packets' blocks weigh together, each by its name; and that a clone makes up no block.
use Rattle.std.proofs.Common.{◌≡◌, ℕ, zero, suc, ◌+◌, ◌<◌, false, List, [], ◌∷◌, ◌++◌, length, map, get_or, set, refl, ap, ◌∙◌, arith}
use Rattle.std.specs.Prelude.{Result, Ok, Err}
use Rattle.std.specs.List.{sum_by}
use Rattle.std.proofs.lemmas.List.Sums.{sum_by-cons}
use Rattle.raw_block.specs.Views.{PartState}
use Rattle.frags.specs.Account.{KeepsBlocks, both, every}
use Rattle.frags.specs.Gifts.{kept}
use Rattle.frags.specs.Holders.{name_of, AsPart}
use Rattle.frags.specs.declared.pieces.Piece.{Piece}
use Rattle.frags.specs.declared.pieces.ShareFault.{ShareFault}
use Rattle.frags.specs.declared.pieces.ShareFault.TheVariants.{Short, Worn, NoMemory}
use Rattle.frags.specs.declared.holder.Holder.{Holder}
use Rattle.frags.specs.declared.holder.Holder.TheVariants.{Sole, Part}
use Rattle.skb.specs.SkbState.{SkbState, is_sole, of_buffer, weighed_in, IsClone, IsLent}
use Rattle.gro.specs.declared.slot.Slot.{Slot}
use Rattle.gro.specs.Slots.{weighed_slots, AreLent}
use Rattle.gro.specs.Packets.{Cloned}

-- ---- of a list

pub weighed_append : (h : ℕ → ℕ) (ps qs : List Slot) → weighed_slots h (ps ++ qs) ≡ weighed_slots h ps + weighed_slots h qs
weighed_append h [] qs = omega arith
weighed_append h (p ∷ ps) qs = omega (arith, weighed_append h ps qs)

-- one packet more at the end
pub weighed_last : (h : ℕ → ℕ) (ps : List Slot) (p : Slot) → weighed_slots h (ps ++ p ∷ []) ≡ weighed_slots h ps + weighed_in h p.skb
weighed_last h ps p = omega (arith, weighed_append h ps (p ∷ []))

-- one whose buffer weighs the same
pub weighed_set : (h : ℕ → ℕ) (i : ℕ) (ps : List Slot) (d q : Slot) → i < length ps
    → weighed_in h q.skb ≡ weighed_in h (get_or ps i d).skb → weighed_slots h (set ps i q) ≡ weighed_slots h ps
weighed_set h i [] d q lt e = absurd (omega (arith, lt))
weighed_set h zero (p ∷ ps) d q lt e = omega (arith, e)
weighed_set h (suc i) (p ∷ ps) d q lt e = omega (arith, weighed_set h i ps d q (omega (arith, lt)) e)

-- ---- of heads that are lent, and of clones

pub part_name : (g : Holder) (p : PartState) → AsPart g p → p.life.block ≡ name_of g
part_name (Sole s) p a = a.1
part_name (Part q) p a = ap (λ (z : PartState). z.life.block) a

pub lent_name : (g h : Holder) → IsLent g h → name_of h ≡ name_of g
lent_name g (Part p) l = part_name g p l
lent_name g (Sole s) l = absurd l

pub weighed_lent : (ps qs : List Slot) → AreLent ps qs → (h : ℕ → ℕ) → weighed_slots h qs ≡ weighed_slots h ps
weighed_lent [] qs a h = ap (weighed_slots h) a
weighed_lent (p ∷ ps) qs a h =
    let e = ap h (lent_name p.skb.head a.0 a.1.1.0) in
    omega (arith, e, ap (weighed_slots h) a.1.1.1, weighed_lent ps a.1.0 a.1.1.2 h)

pub kept_names : (h : ℕ → ℕ) (ps : List Piece) → sum_by (λ (p : Piece). h p.part.life.block) (map kept ps)
    ≡ sum_by (λ (p : Piece). h p.part.life.block) ps
kept_names h [] = refl
kept_names h (p ∷ ps) =
    let w : Piece → ℕ = λ (q : Piece). h q.part.life.block in
    omega (arith, sum_by-cons w p ps, sum_by-cons w (kept p) (map kept ps), kept_names h ps)

-- what a clone is taken of has the blocks that it had, also where it is refused
pub weighed_clone : (a b : SkbState) (r : Result SkbState ShareFault) → IsClone a b r → (h : ℕ → ℕ) → weighed_in h b ≡ weighed_in h a
weighed_clone a b (Ok c) k h =
    let e = ap h (part_name a.head k.1.0 k.1.1.0) in
    omega (arith, e, ap (weighed_in h) k.1.1.1, kept_names h a.rest)
weighed_clone a b (Err (Short x y)) k h = absurd k
weighed_clone a b (Err Worn) k h = ap (weighed_in h) k.1
weighed_clone a b (Err NoMemory) k h =
    let e = ap h (part_name a.head k.1.0 k.1.1.0) in
    omega (arith, e, ap (weighed_in h) k.1.1.1)

-- a clone of a shared buffer and what that keeps are together no more than it was
pub clone_blocks : (a b c : SkbState) → is_sole a.head ≡ false → Cloned a b (Ok c) → KeepsBlocks (of_buffer a) (both (of_buffer b) (of_buffer c))
clone_blocks a b c shared k bs m =
    let p = k.clone.1 in
    let x = k.sums shared (every bs) m in
    let y = ap (λ (z : SkbState). (of_buffer z).homes bs m) p.1.1 in
    let z = ap (λ (z : SkbState). (of_buffer z).homes bs m) p.1.2 in
    omega (arith, x, y, z)

-- it stays as it was where that is refused
pub refused_blocks : (a b : SkbState) (f : ShareFault) → is_sole a.head ≡ false → IsClone a b (Err f) → KeepsBlocks (of_buffer a) (of_buffer b)
refused_blocks a b (Short x y) shared k = absurd k
refused_blocks a b Worn shared k = λ bs m.
    let x = ap (λ (z : SkbState). (of_buffer z).held (every bs) m + (of_buffer z).homes bs m) k.1 in
    omega (arith, x)
refused_blocks a b NoMemory shared k = λ bs m.
    let e = k.1.1.1 ∙ ap (λ z. record a { head = z }) (part_same a.head k.1.0 shared k.1.1.0) in
    let x = ap (λ (z : SkbState). (of_buffer z).held (every bs) m + (of_buffer z).homes bs m) e in
    omega (arith, x)
  where
    part_same : (g : Holder) (p : PartState) → is_sole g ≡ false → AsPart g p → Part p ≡ g
    part_same (Sole s) p e l = absurd (grind (arith, e))
    part_same (Part q) p e l = ap Part l
