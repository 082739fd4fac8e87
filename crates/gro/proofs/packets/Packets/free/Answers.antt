use Rattle.std.proofs.Common.{◌≡◌, ◌+◌, List, [], ◌∷◌, ◌++◌, ap, ◌∙◌, subst, rules, arith}
use Rattle.gro.specs.declared.slot.Slot.{Slot}
use Rattle.gro.specs.Slots.{count_of, counts_of, AreAlone}
use Rattle.gro.proofs.Lying.{alone_first, alone_behind, counts_both}
use Rattle.gro.proofs.packets.Packets.free.Goals as goal

pub loop-slot-preserved : goal.loop-slot-preserved
loop-slot-preserved c =
    let i = c.loop-slot.invariant in
    let rest : List Slot = c.pop.new.self.items in
    let slot : Slot = c.in-Some.slot in
    let e : c.loop-slot.slots.items ≡ rest ++ slot ∷ [] = c.in-Some.ensures.items in
    let counts : counts_of c.loop-slot.slots.items ≡ counts_of rest + (count_of slot + 0)
    = ap counts_of e ∙ counts_both rest (slot ∷ []) in
    let sum = c.saturating_add-freed.ensures in
    record {
      few = omega (arith, i.few, counts, sum, c.free.ensures.few);
      fits = omega (arith, sum);
      alone = λ h. alone_first rest (slot ∷ []) (subst AreAlone e (i.alone h));
      all = λ h. let last = (alone_behind rest (slot ∷ []) (subst AreAlone e (i.alone h))).0 in
          omega (arith, i.all h, counts, sum, c.free.ensures.alone last);
    }

pub returns-clause-alone : goal.returns-clause-alone
returns-clause-alone c = λ h.
    let i = c.loop-slot.invariant in
    let none : c.loop-slot.slots.items ≡ [] = search rules in
    omega (arith, i.all h, i.fits, ap counts_of none)
