use Rattle.std.proofs.Common.{◌≡◌, ℕ, ◌≤◌, List, length, ap, subst, sym, arith}
use Rattle.frame_layout.specs.declared.layout.Header.{Header}
use Rattle.frame_layout.specs.declared.layout.Layer.{Layer}
use Rattle.frame_layout.specs.declared.layout.Layer.TheVariants.{Ip4, Udp}
use Rattle.frame_layout.specs.Headers.{AreLaid}
use Rattle.frame_layout.proofs.Lemmas.{laid, headers_all}
use Rattle.offload_model.specs.Mergeable.{IsLengthInRange}
use Rattle.header_tests.proofs.examples.example_of_header_fill.Goals as goal

-- no length of a short frame exceeds its field
short_in_range : (n : ℕ) → n ≤ 65535 → (l : Layer) (at : ℕ) → IsLengthInRange n l at
short_in_range n short Ip4 at = omega arith
short_in_range n short Udp at = omega arith
short_in_range n short _ at = tt

pub merge_headers-requires-clause-laid : goal.merge_headers-requires-clause-laid
merge_headers-requires-clause-laid g c =
    let layout = c.in-Some.layout in
    let long : length c.deref_mut.result.now ≡ layout.payload_at =
    omega (arith, ap length c.deref_mut.ensures.value, c.in_ok-headers.ensures.len, c.payload_at.ensures.place, c.in-Some.ensures.within) in
    subst (λ (hs : List Header). AreLaid 0 hs (length c.deref_mut.result.now)) (sym c.headers.ensures.headers)
    (subst (AreLaid 0 layout.headers) (sym long) (laid _ layout (sym c.in-Some.ensures.shape)).0)

pub merge_headers-requires-clause-ranges : goal.merge_headers-requires-clause-ranges
merge_headers-requires-clause-ranges g c =
    headers_all
    (short_in_range _ (omega (
      arith,
      ap length c.deref_mut.ensures.value,
      c.in_ok-headers.ensures.len,
      c.payload_at.ensures.place,
      c.payload_at-2.ensures.place,
      c.in-Some.ensures.within,
      c.joined-payload.ensures.len,
      c.new-first_payload.ensures.len,
      c.add.ensures.len,
      c.new-second_payload.ensures.len,
      c.add-2.ensures.len,
    )))
    c.headers.result.now
