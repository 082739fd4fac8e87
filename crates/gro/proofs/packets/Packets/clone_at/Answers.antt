use Rattle.std.proofs.Common.{◌≡◌, ◌<◌, List, length, get_or, set, ap, ◌∙◌, subst, arith}
use Rattle.skb.specs.SkbState.{SkbState}
use Rattle.gro.specs.declared.slot.Slot.{Slot}
use Rattle.gro.specs.Packets.{PacketsState, Cloned, with_skb}
use Rattle.gro.proofs.Lying.{any_other}
use Rattle.gro.proofs.packets.Packets.clone_at.Goals as goal

pub returns-clause-cloned : goal.returns-clause-cloned
returns-clause-cloned c = λ d.
    let ss : List Slot = c.self.inside.slots.items in
    let i = c.args.i in
    let slot : Slot = c.index_mut.result.now in
    let b : SkbState = c.clone.new.self in
    let items : ss ≡ c.args.self.now.items = ap (λ (t : PacketsState). t.items) c.self.view_is in
    let inside : i < length ss = omega (arith, c.requires.inside, ap length items) in
    let at : slot ≡ get_or c.args.self.now.items i d
    = c.index_mut.ensures.value ∙ any_other ss i slot d inside ∙ ap (λ (z : List Slot). get_or z i d) items in
    let e = c.clone.ensures in (
      b,
      (
        subst (λ (z : Slot). Cloned z.skb b c.clone.result) at (record { clone = e.clone; bytes = e.bytes; count = e.count; sums = e.sums; marks = e.marks }),
        ap (λ (z : List Slot). set z i (with_skb slot b)) items ∙ ap (λ (z : Slot). set c.args.self.now.items i (with_skb z b)) at,
      ),
    )
