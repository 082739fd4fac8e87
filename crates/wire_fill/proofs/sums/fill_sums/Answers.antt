use Rattle.std.proofs.Common.{◌≡◌, ◌+◌, ◌-◌, ◌<◌, ◌++◌, length, ap, sym, ◌∙◌, subst, arith}
use Rattle.frame_layout.specs.Headers.{AtHeaders}
use Rattle.frame_layout.specs.declared.layout.Header.{Header}
use Rattle.frame_layout.specs.declared.layout.Layer.TheVariants.{Ethernet}
use Rattle.frame_layout.specs.Front.{AreAddressesWithin}
use Rattle.frame_layout.proofs.Lemmas.{inside_all}
use Rattle.header_fill.specs.Filled.{IsInside}
use Rattle.wire_model.specs.Filling.{fate_of, fill_sum, filled_at, filled_in, wrong_at, wrong_in}
use Rattle.wire_fill.proofs.Along.{at_one, before_inside, fated_more, filled_more, one_at_most, own}
use Rattle.wire_fill.proofs.sums.fill_sums.Goals as goal

pub fill_sum-fate-requires-clause-inside : goal.fill_sum-fate-requires-clause-inside
fill_sum-fate-requires-clause-inside c =
    at_one (IsInside (length c.loop-i.head)) c.args.headers.now (c.loop-i.i - 1) (record { layer = Ethernet; at = 0 }) (omega arith)
    (subst (λ n. AtHeaders (IsInside n) c.args.headers.now) (sym c.loop-i.auto.head) (inside_all 0 (length c.args.head.now) c.args.headers.now c.requires.laid))

pub fill_sum-fate-requires-clause-addresses : goal.fill_sum-fate-requires-clause-addresses
fill_sum-fate-requires-clause-addresses c =
    subst (λ (h : Header). AreAddressesWithin (length c.loop-i.head) h.layer h.at) (sym c.before-in-loop-i.ensures.header)
    (before_inside c.args.headers.now (length c.loop-i.head) (c.loop-i.i - 1) (omega arith)
    (subst (λ n. AtHeaders (IsInside n) c.args.headers.now) (sym c.loop-i.auto.head) (inside_all 0 (length c.args.head.now) c.args.headers.now c.requires.laid)))

pub loop-i-preserved : goal.loop-i-preserved
loop-i-preserved c =
    let hs = c.args.headers.now in
    let i = c.loop-i.i in
    let j = c.loop-i.i - 1 in
    let all = c.args.all in
    let one = one_at_most c.fill_sum-fate.result in
    let next : i ≡ j + 1 = omega (arith, c.loop-i-test.true) in
    let less : j < length hs = omega (arith, c.loop-i.invariant.within, c.loop-i-test.true) in
    let ip = c.before-in-loop-i.ensures.header in
    record {
      within = omega (arith, c.loop-i.invariant.within);
      few = omega (arith, c.loop-i.invariant.few, c.count.ensures.filled, c.count.ensures.wrong, one, next);
      filled = λ bytes s.
          let g = c.loop-i.head ++ bytes in
          (c.fill_sum-fate.ensures.filled bytes s).filled
          ∙ ap (λ h. fill_sum all h (own hs j).layer (own hs j).at g) ip
          ∙ sym (filled_more all hs i j (c.args.head.now ++ bytes) g less next (c.loop-i.invariant.filled bytes s));
      fated = λ bytes s.
          let g = c.loop-i.head ++ bytes in
          let what = (c.fill_sum-fate.ensures.filled bytes s).fate ∙ ap (λ h. fate_of all g h (own hs j).layer (own hs j).at) ip in
          let more = fated_more all hs i j (c.args.head.now ++ bytes) g less next (c.loop-i.invariant.filled bytes s) in
          let before = c.loop-i.invariant.fated bytes s in
          record {
            filled = omega (arith, c.count.ensures.filled, ap filled_at what, before.filled, ap filled_in more);
            wrong = omega (arith, c.count.ensures.wrong, ap wrong_at what, before.wrong, ap wrong_in more);
          };
    }
