-- Packets whose heads were lent.
use Rattle.std.proofs.Common.{◌≡◌, List, [], ◌∷◌, false, ap, ◌∙◌, inl, inr}
use Rattle.raw_block.specs.Views.{PartState}
use Rattle.frags.specs.declared.holder.Holder.{Holder}
use Rattle.frags.specs.declared.holder.Holder.TheVariants.{Sole, Part}
use Rattle.skb.specs.Moving.{HandedOn}
use Rattle.skb.specs.SkbState.{is_sole}
use Rattle.gro_table.specs.declared.packet.Packet.{Packet as Held}
use Rattle.gro_table.specs.Held.{AreLentFrom, AreShared, with_head}

-- a part is handed on as it was
part_stays : (g h : Holder) → is_sole g ≡ false → HandedOn g h → h ≡ g
part_stays g h s (inl e) = e
part_stays (Sole x) h s (inr l) = absurd cc
part_stays (Part q) (Part r) s (inr l) = ap (λ (z : PartState). Part z) l
part_stays (Part q) (Sole x) s (inr l) = absurd l

-- where each head is a part, the packets are the same
pub none_lent : (ps qs : List Held) → AreShared ps → AreLentFrom ps qs → qs ≡ ps
none_lent [] qs a e = e
none_lent (p ∷ ps) qs a e =
    let h : Holder = e.0 in
    let is : h ≡ p.skb.head = part_stays p.skb.head h a.0 e.1.1.0 in
    e.1.1.1 ∙ ap (λ (z : List Held). with_head p h ∷ z) (none_lent ps e.1.0 a.1 e.1.1.2) ∙ ap (λ (z : Holder). with_head p z ∷ ps) is
