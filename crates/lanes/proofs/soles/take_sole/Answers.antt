use Rattle.std.proofs.Common.{◌<◌, length, get_or, sym, ap, arith}
use Rattle.std.specs.Prelude.{List}
use Rattle.lanes.specs.declared.lane.TapLane.{TapLane}
use Rattle.lanes.proofs.Apart.{taken_home}
use Rattle.lanes.proofs.soles.take_sole.Goals as goal

pub returns-then-not-has_no_sole-clause-some : goal.returns-then-not-has_no_sole-clause-some
returns-then-not-has_no_sole-clause-some c =
    let i = c.loop-i.invariant in
    let d = c.index-taps-i-then-not-has_no_sole.result in
    let lt : c.loop-i.i < length c.args.taps.now = omega (arith, ap length i.same) in
    taken_home c.pop_sole.result (get_or c.loop-i.taps c.loop-i.i d).outcomes.soles c.pop_sole.new.self.soles c.loop-i.i c.args.taps.now d lt
    (ap (λ (z : List TapLane). (get_or z c.loop-i.i d).outcomes.soles) (sym i.same)) c.pop_sole.ensures.soles
