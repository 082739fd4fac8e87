use Rattle.frags.proofs.Joining.{sole_keeps, sole_keeps_blocks}
use Rattle.frags.proofs.outcomes.Outcomes.give_back_holder.Goals as goal

pub returns-in-Sole-clause-kept : goal.returns-in-Sole-clause-kept
returns-in-Sole-clause-kept c = sole_keeps c.args.holder c.in-Sole.sole c.args.self.now c.keep_sole.new.self
    c.in-Sole.is c.keep_sole.ensures.soles c.keep_sole.ensures.receipts

pub returns-in-Sole-clause-blocks : goal.returns-in-Sole-clause-blocks
returns-in-Sole-clause-blocks c = sole_keeps_blocks c.args.holder c.in-Sole.sole c.args.self.now c.keep_sole.new.self
    c.in-Sole.is c.keep_sole.ensures.soles c.keep_sole.ensures.receipts
