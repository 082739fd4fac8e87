use Rattle.std.proofs.Common.{◌∙◌, map, ap, sym, refl, arith}
use Rattle.std.proofs.lemmas.List.{length-map}
use Rattle.gro.specs.Slots.{packet_of as packet_in}
use Rattle.taps.specs.Clones.{packet_of}
use Rattle.check_totals.specs.Returned.{is_same}
use Rattle.comparing.proofs.Chains.{count_one}
use Rattle.comparing.proofs.Turning.{kept_at, next_inside}
use Rattle.comparing.proofs.counting.count_packet.Goals as goal

pub returns-clause-counts : goal.returns-clause-counts
returns-clause-counts c = λ q own.
    let kept = c.args.kept.now in
    let at = c.args.at.now in
    let clone = c.index-kept-at.result in
    let x = packet_in c.args.packet.now in
    count_one (map packet_of kept) c.args.kept_next.now q x at _ c.from.result c.is_packet-is_same.result (packet_of clone) 0 c.requires.chain own
    (omega (arith, length-map kept packet_of)) refl
    (c.is_packet-is_same.ensures.same ∙ ap (is_same x) (sym (kept_at kept at clone (omega arith) c.index-kept-at.is))) c.from.ensures

pub bounds-kept_next-at : goal.bounds-kept_next-at
bounds-kept_next-at c = next_inside c.args.kept.now c.args.kept_next.now c.args.at.now c.requires.chain c.if-at-kept.false
