use Rattle.std.proofs.Common.{◌≡◌, ℕ, ◌+◌, ◌-◌, ◌*◌, ◌%◌, ◌<◌, ◌^◌, length, List, get_or, subst, ap, sym, ◌∙◌, arith}
use Rattle.frame_layout.specs.Toeplitz.{met}
use Rattle.frame_layout.specs.Halves.{AreHalves}
use Rattle.frame_layout.proofs.Parities.{byte_more, is_hash}
use Rattle.frame_layout.proofs.Lanes.{halves_add}
use Rattle.frame_layout.proofs.hash_key.HashKey.hash.Goals as goal

pub loop-at-preserved : goal.loop-at-preserved
loop-at-preserved c = λ j l.
    let h : AreHalves c.args.self.now c.self.inside.high c.self.inside.low =
    subst (λ (z : List ℕ). AreHalves z c.self.inside.high c.self.inside.low) c.self.view_is c.self.invariant in
    let b : get_or c.args.input.now c.loop-at.at 0 < 256 = omega (arith, c.type_inv.input c.loop-at.at) in
    byte_more c.args.self.now c.args.input.now c.loop-at.at j c.loop-at.hash c.added-hash.result h.in_bytes l
    (c.loop-at.invariant j l)
    (halves_add c.args.self.now c.self.inside.high c.self.inside.low c.loop-at.at (get_or c.args.input.now c.loop-at.at 0) c.added-hash.result h (omega arith) b c.added-hash.ensures.sum j l)

pub returns : goal.returns
returns c = record {
  hash =
      let e : c.loop-at.at ≡ length c.args.input.now = omega arith in
      is_hash c.args.self.now c.args.input.now c.loop-at.hash (omega arith)
      (λ j l. c.loop-at.invariant j l ∙ ap (λ (z : ℕ). met c.args.self.now c.args.input.now j (8 * z) % 2) e);
}
