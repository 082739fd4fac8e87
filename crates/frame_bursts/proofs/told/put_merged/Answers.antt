use Rattle.std.proofs.Common.{◌≡◌, ℕ, length, map, drop, sym, subst, arith}
use Rattle.std.proofs.lemmas.List.{length-map}
use Rattle.frame_runs.specs.Engine.{AreRuns}
use Rattle.frame_bursts.proofs.Saying.{few_runs, copied, merged, all_come_back}
use Rattle.frame_bursts.proofs.told.put_merged.Goals as goal

pub put_runs-requires-clause-room : goal.put_runs-requires-clause-room
put_runs-requires-clause-room g c =
    omega (
      arith,
      few_runs (map g.F.Frame.packet c.args.frames.now) (length c.args.frames.now) c.args.engine.now c.requires.are,
      c.requires.room.1,
    )

pub returns-clause-merges : goal.returns-clause-merges
returns-clause-merges g c = λ limits runs.
    let fs = c.args.frames.now in
    let e = c.args.engine.now in
    let n : length (map g.F.Frame.packet fs) ≡ length fs = length-map fs g.F.Frame.packet in
    merged c.args.link limits (map g.F.Frame.packet fs) e _ c.put_runs.new.runs
    (subst (λ (z : ℕ). AreRuns (map g.F.Frame.packet fs) z e) (sym n) c.requires.are) runs
    (λ k h. copied (length fs) e.next.items c.deref.result.now c.copy_from_slice.new.self
    (drop (length fs) c.args.next.now) c.deref.ensures.value c.copy_from_slice.ensures.after
    (omega (arith, c.requires.are.linked, n)) k (omega (arith, h, n)))
    (omega (arith, few_runs (map g.F.Frame.packet fs) (length fs) e c.requires.are, c.requires.room.1, c.put_runs.ensures.size))
    c.put_runs.ensures.told c.len.result (omega (arith, c.len.ensures, e.runs.ok.0))

pub returns-clause-back : goal.returns-clause-back
returns-clause-back g c = λ limits runs.
    all_come_back c.args.link limits (map g.F.Frame.packet c.args.frames.now) _ _ c.runs_come_back.ensures.law
    (returns-clause-merges g c limits runs) c.requires.captured
