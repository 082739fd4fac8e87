use Rattle.std.proofs.Common.{refl, arith}
use Rattle.frame_runs.specs.declared.engine.Engine.{Engine}
use Rattle.frame_runs.proofs.Merging.{ready_again}
use Rattle.frame_runs.proofs.engine.Engine.start.Goals as goal

pub returns-in_err-reserve-2-clause-none : goal.returns-in_err-reserve-2-clause-none
returns-in_err-reserve-2-clause-none c =
    let a : Engine = c.clear.new.self in
    let r = c.clear.ensures.ready in
    ready_again a (record { runs = c.reserve.new.self; next = a.next; flows = c.reserve-2.new.self; last = a.last }) 0 0 r c.reserve.ensures.items (omega arith)
    (λ ps. c.reserve-2.ensures.flows ps (r.flows ps)) c.reserve-2.ensures.same refl (omega (arith, c.in_ok-reserve.ensures.ok), c.reserve-2.ensures.later 0 r.places.1)

pub returns-in_err-resize-clause-none : goal.returns-in_err-resize-clause-none
returns-in_err-resize-clause-none c =
    let a : Engine = c.clear.new.self in
    let r = c.clear.ensures.ready in
    ready_again a (record { runs = c.reserve.new.self; next = c.resize.new.self; flows = c.reserve-2.new.self; last = a.last }) 0 0 r c.reserve.ensures.items (omega arith)
    (λ ps. c.reserve-2.ensures.flows ps (r.flows ps)) c.reserve-2.ensures.same refl (omega (arith, c.in_ok-reserve.ensures.ok), c.reserve-2.ensures.later 0 r.places.1)

pub returns-in_ok-resize-clause-none : goal.returns-in_ok-resize-clause-none
returns-in_ok-resize-clause-none c =
    let a : Engine = c.clear.new.self in
    let r = c.clear.ensures.ready in
    ready_again a (record { runs = c.reserve.new.self; next = c.resize.new.self; flows = c.reserve-2.new.self; last = a.last }) 0 0 r c.reserve.ensures.items (omega arith)
    (λ ps. c.reserve-2.ensures.flows ps (r.flows ps)) c.reserve-2.ensures.same refl (omega (arith, c.in_ok-reserve.ensures.ok), c.reserve-2.ensures.later 0 r.places.1)

pub returns-in_ok-resize-clause-ready : goal.returns-in_ok-resize-clause-ready
returns-in_ok-resize-clause-ready c =
    let a : Engine = c.clear.new.self in
    let r = c.clear.ensures.ready in
    ready_again a (record { runs = c.reserve.new.self; next = c.resize.new.self; flows = c.reserve-2.new.self; last = a.last }) 0 _ r c.reserve.ensures.items
    (omega (arith, c.in_ok-resize.ensures.len, c.resize.new.self.ok.0)) (λ ps. c.reserve-2.ensures.flows ps (r.flows ps)) c.reserve-2.ensures.same refl
    (omega (arith, c.in_ok-reserve.ensures.ok), c.in_ok-reserve-2.ensures.room)

pub returns-else-len-n-clause-none : goal.returns-else-len-n-clause-none
returns-else-len-n-clause-none c =
    let a : Engine = c.clear.new.self in
    let r = c.clear.ensures.ready in
    ready_again a (record { runs = c.reserve.new.self; next = a.next; flows = c.reserve-2.new.self; last = a.last }) 0 0 r c.reserve.ensures.items (omega arith)
    (λ ps. c.reserve-2.ensures.flows ps (r.flows ps)) c.reserve-2.ensures.same refl (omega (arith, c.in_ok-reserve.ensures.ok), c.reserve-2.ensures.later 0 r.places.1)

pub returns-else-len-n-clause-ready : goal.returns-else-len-n-clause-ready
returns-else-len-n-clause-ready c =
    let a : Engine = c.clear.new.self in
    let r = c.clear.ensures.ready in
    ready_again a (record { runs = c.reserve.new.self; next = a.next; flows = c.reserve-2.new.self; last = a.last }) 0 _ r c.reserve.ensures.items
    (omega (arith, c.if-len-n.false, c.len.ensures, a.next.ok.0)) (λ ps. c.reserve-2.ensures.flows ps (r.flows ps)) c.reserve-2.ensures.same refl
    (omega (arith, c.in_ok-reserve.ensures.ok), c.in_ok-reserve-2.ensures.room)
