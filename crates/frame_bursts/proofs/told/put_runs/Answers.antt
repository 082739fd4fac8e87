use Rattle.std.proofs.Common.{◌<◌, length, map, sym, subst, arith}
use Rattle.frame_runs.proofs.Payloads.{all_at}
use Rattle.frame_bursts.proofs.Saying.{first_below, knows_at, told_at, told_more}
use Rattle.frame_bursts.proofs.told.put_runs.Goals as goal

pub bounds-frames-run : goal.bounds-frames-run
bounds-frames-run g c =
    first_below c.args.link g.F.Frame.packet c.args.frames.now c.args.engine.now c.loop-i.i c.index-run.result.now
    c.requires.are (omega (arith, c.loop-i-test.true, c.len-i-end.ensures)) c.index-run.ensures

pub put_run_on-requires-clause-slot : goal.put_run_on-requires-clause-slot
put_run_on-requires-clause-slot g c =
    let below = first_below c.args.link g.F.Frame.packet c.args.frames.now c.args.engine.now c.loop-i.i
    c.index-run.result.now c.requires.are (omega (arith, c.loop-i-test.true, c.len-i-end.ensures)) c.index-run.ensures in
    subst g.F.Frame.is_held (sym c.index-frames-run.is)
    (all_at g.F.Frame.is_held c.args.frames.now c.index-run.result.now.first c.index-frames-run.result c.requires.held below)

pub put_run_on-requires-clause-run : goal.put_run_on-requires-clause-run
put_run_on-requires-clause-run g c = (
  _,
  knows_at c.args.link g.F.Frame.packet c.args.frames.now c.args.engine.now c.loop-i.i c.index-run.result.now
      c.requires.are (omega (arith, c.loop-i-test.true, c.len-i-end.ensures)) c.index-run.ensures
      c.index-frames-run.result c.index-frames-run.is,
)

pub loop-i-preserved : goal.loop-i-preserved
loop-i-preserved g c =
    let h : c.loop-i.i < length c.args.engine.now.runs.items = omega (arith, c.loop-i-test.true, c.len-i-end.ensures) in
    told_more c.args.link (map g.F.Frame.packet c.args.frames.now) c.args.engine.now.next.items
    c.args.engine.now.runs.items c.loop-i.runs
    c.loop-i.i c.put_run_on.new.told (omega (arith, h, c.requires.room, c.loop-i.auto.runs)) c.loop-i.invariant
    (told_at c.args.link g.F.Frame.packet c.args.frames.now c.args.engine.now c.loop-i.i c.index-run.result.now
    c.requires.are h c.index-run.ensures c.index-frames-run.result c.index-frames-run.is c.put_run_on.new.told
    c.put_run_on.ensures.first c.put_run_on.ensures.more c.put_run_on.ensures.says)
