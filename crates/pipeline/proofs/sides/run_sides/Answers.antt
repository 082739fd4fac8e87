use Rattle.std.proofs.Common.{sym, ap}
use Rattle.rounds.specs.Benches.{options_at}
use Rattle.rounds.specs.Reads.{reader_at}
use Rattle.rtrb.specs.Ring.{received, sent}
use Rattle.pipeline.specs.Handled.{HasWorked}
use Rattle.pipeline.specs.Reads.{HasRead}
use Rattle.pipeline.proofs.Kept.{as_three}
use Rattle.pipeline.proofs.sides.run_sides.Goals as goal

-- What a closure of `join_mut` says is of what it left, and what is lent to it has that afterwards: `given` is an equation of the two, by the names
-- of the loan.
pub returns-clause-rings : goal.returns-clause-rings
returns-clause-rings g c =
    let read = c.join_mut-end.ensures.0.met in
    let work = c.join_mut-end.ensures.1.met in (
      rw (ap (λ s. s.out) (c.supply-1.given.1 (sym read.0.3))) read.1.0,
      rw (c.from-1.given.1 (sym work.0.9)) work.1.0,
    )

pub returns-clause-same_source : goal.returns-clause-same_source
returns-clause-same_source g c = let read = c.join_mut-end.ensures.0.met in rw (c.reader-1.given.1 (sym read.0.1)) read.1.1.0

pub returns-clause-read : goal.returns-clause-read
returns-clause-read g c =
    let read = c.join_mut-end.ensures.0.met in
    let a = c.args in
    let from = reader_at g.S.Source.left g.S.Source.faults a.reader.now a.intake.now.taken in
    as_three (λ intake reader supply. HasRead a.intake.now intake from (reader_at g.S.Source.left g.S.Source.faults reader intake.taken) (sent a.supply.now.out) (sent supply.out) a.supply.now.arrivals supply.arrivals)
    (c.intake-1.given.1 (sym read.0.2)) (c.reader-1.given.1 (sym read.0.1)) (c.supply-1.given.1 (sym read.0.3)) read.1.1.1

pub returns-clause-worked : goal.returns-clause-worked
returns-clause-worked g c =
    let work = c.join_mut-end.ensures.1.met in
    let o = work.0 in
    let a = c.args in
    let did = g.H.RoundHandler.did a.handler.now (options_at a.bench.now) in
    let ready = g.H.RoundHandler.ready (options_at a.bench.now) a.bench.now.keep in
    let left = c.join_mut-end.new.g in
    as_three (λ bench list giver. HasWorked did g.H.RoundHandler.stopped ready a.bench.now bench list a.giver.now giver a.spares.now c.spares-1.given.0 a.into.now c.into-1.given.0 (received c.from-1.given.0)
    c.join_mut-end.result.1)
    (c.bench-1.given.1 (sym o.3)) (c.list-1.given.1 (sym o.4)) (c.giver-1.given.1 (sym o.5))
    (as_three (λ spares into from. HasWorked did g.H.RoundHandler.stopped ready a.bench.now left.3.now left.4.now a.giver.now left.5.now a.spares.now spares a.into.now into (received from) c.join_mut-end.result.1)
    (c.spares-1.given.1 (sym o.6)) (c.into-1.given.1 (sym o.8)) (c.from-1.given.1 (sym o.9)) work.1.1)
