use Rattle.std.proofs.Common.{◌≡◌, ap, arith}
use Rattle.reading.proofs.Laying.{laid_all}
use Rattle.rounds.specs.RoundsState.{RoundState}
use Rattle.rounds.proofs.round_stages.Round.discard.Goals as goal

pub returns : goal.returns
returns c =
    let kept = c.self.invariant in
    let blocks : c.self.inside.blocks ≡ c.args.self.blocks = ap (λ (r : RoundState). r.blocks) c.self.view_is in
    let packets = c.free.ensures.alone (laid_all 0 c.self.inside.packets.items kept.0.laid) in
    record { freed = omega (arith, kept.0.count, blocks, packets, c.home.ensures.home, c.blocks-2.ensures, c.blocks-2.type_inv) }
