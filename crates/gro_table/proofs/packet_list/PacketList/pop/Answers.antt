use Rattle.std.proofs.Common.{◌≡◌, List, [], ◌∷◌, ◌++◌, length, ap, ◌∙◌, arith, length-append}
use Rattle.gro.specs.declared.slot.Slot.{Slot}
use Rattle.gro_table.specs.declared.packet_list.Spares.{Spares}
use Rattle.gro_table.specs.Lists.{whole}
use Rattle.gro_table.proofs.Lining.{whole_push}
use Rattle.gro_table.proofs.packet_list.PacketList.pop.Goals as goal

pub returns-clause-some : goal.returns-clause-some
returns-clause-some c =
    let s : Slot = c.in_ok-slot.slot in
    let t : Spares = c.in-Some.spares in
    let ss : List Slot = c.pop.new.self.items in
    let ts : List Spares = c.pop-2.new.self.items in
    let a : c.args.self.now.slots.items ≡ ss ++ (s ∷ []) = c.in_ok-slot.ensures.items in
    let b : c.args.self.now.spares.items ≡ ts ++ (t ∷ []) = c.in-Some.ensures.items in
    ap (λ (z : List Slot). whole z c.args.self.now.spares.items) a
    ∙ ap (λ (z : List Spares). whole (ss ++ (s ∷ [])) z) b
    ∙ whole_push ss ts s t (omega (arith, c.requires.paired, ap length a, ap length b, length-append ss (s ∷ []), length-append ts (t ∷ [])))
