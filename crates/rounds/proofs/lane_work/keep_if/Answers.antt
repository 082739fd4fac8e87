use Rattle.std.proofs.Common.{ap, arith}
use Rattle.frags.specs.Account.{every}
use Rattle.taps.specs.Clones.{blocks_of}
use Rattle.rounds.proofs.Keeping.{after_none}
use Rattle.rounds.proofs.LaneCounts.{no_clones}
use Rattle.rounds.proofs.lane_work.keep_if.Goals as goal

pub returns-then-not-keep-clause-after : goal.returns-then-not-keep-clause-after
returns-then-not-keep-clause-after c = after_none c.args.packets.now.items c.requires.held c.requires.shared c.requires.whole

pub returns-then-not-keep-clause-kept : goal.returns-then-not-keep-clause-kept
returns-then-not-keep-clause-kept c = λ t m. let k = no_clones c.args.clones.now.items c.requires.none t m in (omega (arith, k.0), omega (arith, k.0, k.1))

pub returns-then-not-keep-clause-blocks : goal.returns-then-not-keep-clause-blocks
returns-then-not-keep-clause-blocks c = λ bs m. omega (arith, no_clones c.args.clones.now.items c.requires.none (every bs) m)

pub returns-then-not-keep-clause-fewer : goal.returns-then-not-keep-clause-fewer
returns-then-not-keep-clause-fewer c = omega (arith, ap blocks_of c.requires.none)
