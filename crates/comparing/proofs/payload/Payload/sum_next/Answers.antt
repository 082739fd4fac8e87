use Rattle.comparing.proofs.Passing.{summed_more, all_summed}
use Rattle.comparing.proofs.payload.Payload.sum_next.Goals as goal

pub loop-left-preserved : goal.loop-left-preserved
loop-left-preserved c =
    let l = c.loop-left in
    let s = summed_more c.args.n l.left c.args.self.now l.self c.take-bytes.result.now c.take-bytes.new.self l.sum c.add.new.self l.invariant.summed l.invariant.within c.take-bytes.ensures.most
    c.take-bytes.ensures.bytes c.add.ensures.sum in
    record { within = s.0; summed = s.1 }

pub returns-clause-sum : goal.returns-clause-sum
returns-clause-sum c = (all_summed c.args.n c.loop-left.left c.args.self.now c.loop-left.self c.loop-left.sum c.loop-left-test.false c.loop-left.invariant.summed).0

pub returns-clause-behind : goal.returns-clause-behind
returns-clause-behind c = (all_summed c.args.n c.loop-left.left c.args.self.now c.loop-left.self c.loop-left.sum c.loop-left-test.false c.loop-left.invariant.summed).1
