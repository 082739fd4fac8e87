use Rattle.frags.specs.Account.{of_outcomes}
use Rattle.skb.specs.SkbState.{of_buffer}
use Rattle.rounds.proofs.Coming.{blocks_bare, keeps_bare, may_kept, comes_kept}
use Rattle.rounds.proofs.round_home.bring_buffer.Goals as goal

pub sweep-requires : goal.sweep-requires
sweep-requires c =
    let b = of_buffer c.args.skb in
    let o = of_outcomes c.release.new.out in
    record { may = may_kept b o c.args.pool.now c.args.places.now (keeps_bare b o c.args.out.now c.requires.bare c.release.ensures.kept) c.requires.may }

pub returns-clause-comes : goal.returns-clause-comes
returns-clause-comes c =
    let b = of_buffer c.args.skb in
    let o = of_outcomes c.release.new.out in
    comes_kept b o c.args.pool.now c.sweep.new.pool c.args.places.now c.sweep.new.places (keeps_bare b o c.args.out.now c.requires.bare c.release.ensures.kept)
    (blocks_bare b o c.args.out.now c.requires.bare c.release.ensures.blocks) c.sweep.ensures.comes
