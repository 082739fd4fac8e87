use Rattle.std.proofs.Common.{◌≤◌, arith}
use Rattle.block_weight.specs.WeightRule.{full_weight}
use Rattle.frags.proofs.Accounts.{gives_last, gives_left, last_blocks, left_blocks}
use Rattle.frags.proofs.outcomes.Outcomes.give_back.Goals as goal

pub returns-in-Last-clause-kept : goal.returns-in-Last-clause-kept
returns-in-Last-clause-kept c =
    let w : c.args.part.weight ≤ full_weight = omega arith in
    gives_last c.args.part c.in-Last.sole c.args.self.now c.keep_sole.new.self c.in-Last.ensures.answer.0
    c.in-Last.ensures.answer.2 w c.keep_sole.ensures.receipts c.keep_sole.ensures.soles

pub returns-in-Left-clause-kept : goal.returns-in-Left-clause-kept
returns-in-Left-clause-kept c =
    let e = c.in-Left.ensures.answer in
    gives_left c.args.part c.in-Left.receipt c.args.self.now c.keep_receipt.new.self e.0 e.2 e.3
    c.keep_receipt.ensures.soles c.keep_receipt.ensures.receipts

pub returns-in-Last-clause-blocks : goal.returns-in-Last-clause-blocks
returns-in-Last-clause-blocks c =
    let w : 1 ≤ c.args.part.weight = omega arith in
    last_blocks c.args.part c.in-Last.sole c.args.self.now c.keep_sole.new.self c.in-Last.ensures.answer.0
    c.in-Last.ensures.answer.2 w c.keep_sole.ensures.receipts c.keep_sole.ensures.soles

pub returns-in-Left-clause-blocks : goal.returns-in-Left-clause-blocks
returns-in-Left-clause-blocks c =
    let e = c.in-Left.ensures.answer in
    left_blocks c.args.part c.in-Left.receipt c.args.self.now c.keep_receipt.new.self e.0 e.2 e.3
    c.keep_receipt.ensures.soles c.keep_receipt.ensures.receipts
