use Rattle.std.proofs.Common.{◌-◌, length, sym, subst, arith}
use Rattle.frame_layout.specs.Headers.{AtHeaders}
use Rattle.frame_layout.specs.declared.layout.Header.{Header}
use Rattle.frame_layout.specs.declared.layout.Layer.TheVariants.{Ethernet}
use Rattle.frame_layout.specs.Front.{AreAddressesWithin}
use Rattle.header_fill.specs.Filled.{IsInside}
use Rattle.header_fill.proofs.Along.{at_one, before_inside}
use Rattle.frame_layout.proofs.Lemmas.{inside_all}
use Rattle.header_fill.proofs.sums.put_sums.Goals as goal

pub put_sum-requires-clause-inside : goal.put_sum-requires-clause-inside
put_sum-requires-clause-inside c =
    at_one (IsInside (length c.loop-i.head)) c.args.headers.now (c.loop-i.i - 1) (record { layer = Ethernet; at = 0 }) (omega arith)
    (subst (λ n. AtHeaders (IsInside n) c.args.headers.now) (sym c.loop-i.auto.head) (inside_all 0 (length c.args.head.now) c.args.headers.now c.requires.laid))

pub put_sum-requires-clause-addresses : goal.put_sum-requires-clause-addresses
put_sum-requires-clause-addresses c =
    subst (λ (h : Header). AreAddressesWithin (length c.loop-i.head) h.layer h.at) (sym c.before-in-loop-i.ensures.header)
    (before_inside c.args.headers.now (length c.loop-i.head) (c.loop-i.i - 1) (omega arith)
    (subst (λ n. AtHeaders (IsInside n) c.args.headers.now) (sym c.loop-i.auto.head) (inside_all 0 (length c.args.head.now) c.args.headers.now c.requires.laid)))
