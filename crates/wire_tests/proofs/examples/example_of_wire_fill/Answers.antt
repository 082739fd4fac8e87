use Rattle.std.proofs.Common.{◌≡◌, length, sym, subst, arith}
use Rattle.frame_layout.specs.Headers.{AreLaid}
use Rattle.frame_layout.proofs.Lemmas.{laid}
use Rattle.wire_tests.proofs.examples.example_of_wire_fill.Goals as goal

pub fill_sums-fates-requires-clause-laid : goal.fill_sums-fates-requires-clause-laid
fill_sums-fates-requires-clause-laid g c =
    let layout = c.in-Some.layout in
    let head = c.deref_mut.result.now in
    let long : layout.payload_at ≡ length head
    = omega (arith, c.payload_at.ensures.place, c.in_ok-headers.ensures.len, c.deref_mut.ensures.len) in
    subst (λ hs. AreLaid 0 hs (length head)) (sym c.headers.ensures.headers)
    (subst (AreLaid 0 layout.headers) long (laid _ layout (sym c.in-Some.ensures.shape)).0)
