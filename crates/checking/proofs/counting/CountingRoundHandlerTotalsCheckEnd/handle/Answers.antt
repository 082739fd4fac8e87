use Rattle.std.proofs.Common.{◌+◌, arith, length}
use Rattle.checking.proofs.RoundsCounted.{of_more}
use Rattle.checking.proofs.counting.CountingRoundHandlerTotalsCheckEnd.handle.Goals as goal

pub returns-in-Ok-clause-ready : goal.returns-in-Ok-clause-ready
returns-in-Ok-clause-ready g c = λ n ready. (ready.0, c.count_round.ensures.home.lanes, c.count_round.ensures.home.within n ready.2)

pub returns-in-Err-clause-ready : goal.returns-in-Err-clause-ready
returns-in-Err-clause-ready g c = λ n ready. (ready.0, c.count_round.ensures.home.lanes, c.count_round.ensures.home.within n ready.2)

pub returns-in-End-clause-ready : goal.returns-in-End-clause-ready
returns-in-End-clause-ready g c = λ n ready. (ready.0, c.last_round.ensures.home.lanes, c.last_round.ensures.home.within n ready.2)

pub returns-in-Malformed-clause-ready : goal.returns-in-Malformed-clause-ready
returns-in-Malformed-clause-ready g c = λ n ready. (ready.0, c.last_round-in-Malformed.ensures.home.lanes, c.last_round-in-Malformed.ensures.home.within n ready.2)

pub returns-in-ReadFault-clause-ready : goal.returns-in-ReadFault-clause-ready
returns-in-ReadFault-clause-ready g c = λ n ready. (ready.0, c.last_round-in-ReadFault.ensures.home.lanes, c.last_round-in-ReadFault.ensures.home.within n ready.2)

pub returns-in-PoolEmpty-clause-ready : goal.returns-in-PoolEmpty-clause-ready
returns-in-PoolEmpty-clause-ready g c = λ n ready. (ready.0, ready.1, of_more n (n + length c.args.read.round.packets) c.args.into.now (omega arith) ready.2)

pub returns-in-NoMemory-clause-ready : goal.returns-in-NoMemory-clause-ready
returns-in-NoMemory-clause-ready g c = λ n ready. (ready.0, ready.1, of_more n (n + length c.args.read.round.packets) c.args.into.now (omega arith) ready.2)
