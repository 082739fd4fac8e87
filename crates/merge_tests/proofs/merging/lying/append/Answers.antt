use Rattle.std.proofs.Common.{◌+◌, List, [], ◌∷◌, ◌++◌, refl, sym, ap, ◌∙◌, subst}
use Rattle.gro.specs.declared.slot.Slot.{Slot}
use Rattle.merge_tests.specs.Numbered.{AreNumbered}
use Rattle.merge_tests.proofs.Numbering.{numbered_more}
use Rattle.merge_tests.proofs.merging.lying.append.Goals as goal

pub returns : goal.returns
returns g c =
    let s : Slot = record c.args.slot { number = c.args.number } in
    let h = c.requires.held in
    let items = c.push.ensures.items ∙ ap (λ (z : List Slot). z ++ (s ∷ [])) c.reserve.ensures.same in
    record {
      numbered = subst (λ (z : List Slot). AreNumbered z (c.args.number + 1)) (sym items)
          (numbered_more c.args.packets.now.items s c.args.number refl (record { size = h.size; front = h.front; short = h.short }) c.requires.numbered);
    }
