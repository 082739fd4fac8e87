use Rattle.std.proofs.Common.{◌+◌, ◌∙◌, ℕ, ap, arith, refl, rules, subst, Ok, Err, Result}
use Rattle.off_io.specs.Told.{Told}
use Rattle.segmenting.specs.declared.segment.Moved.{Moved}
use Rattle.segmenting.specs.declared.segment.SegFault.{SegFault}
use Rattle.segmenting.specs.Segmenting.{TakesBy}
use Rattle.segment_command.proofs.Segmenting.{moves_by, none_yet, one_more_given, done_given, fault_given, took_none, took_more, took_all}
use Rattle.segment_command.proofs.segment.segment_all.Goals as goal

pub records-init : goal.records-init
records-init g c = (
  none_yet c.args.blocks _ _ c.args.reader.now.place,
  took_none _ _ c.args.reader.now.place,
  c.requires.link,
  c.requires.first,
  c.requires.ready,
  c.requires.blocks,
  c.requires.home,
  refl,
  omega arith,
  omega arith,
  λ h. refl,
)

pub records-preserved : goal.records-preserved
records-preserved g c =
    let from = c.args.reader.now.place in
    let mid = c.records.reader.place in
    let next = c.next.new.reader.place in
    let one = ap (λ (m : Moved). Ok m) c.in-One.is in
    let goes = c.in-Ok.ensures.next one in (
      one_more_given c.args.blocks c.records.round from mid next _ _ _ _ _ _ c.records.invariant.0
          (moves_by _ c.args.blocks mid next _ _ _ _ _ _ c.records.invariant.5 one c.in-Ok.ensures.given),
      took_more _ _ _ from mid next _ _ _ c.records.invariant.1 (subst (λ (r : Result Moved SegFault). Told (g.S.Source.left c.records.reader.source.now) (g.S.Source.left c.next.new.reader.source.now) (TakesBy r c.records.run.taken c.next.new.self.taken mid
          next)) one c.in-Ok.ensures.taken),
      goes.link ∙ c.records.invariant.2,
      goes.number ∙ ap (λ (n : ℕ). n + 1) c.records.invariant.3,
      goes.ready,
      c.in-Ok.ensures.same ∙ c.records.invariant.5,
      c.in-Ok.ensures.home,
      c.in-Ok.ensures.same_source ∙ c.records.invariant.7,
      omega (arith, c.in-Ok.ensures.later, c.records.invariant.8),
      omega (arith, c.in-Ok.ensures.later_sink, c.records.invariant.9),
      λ h. omega (arith, c.in-Ok.ensures.named h, c.records.invariant.10 h),
    )

pub returns-in-End-clause-segmented : goal.returns-in-End-clause-segmented
returns-in-End-clause-segmented g c =
    let i = c.records.invariant in
    let next = moves_by _ c.args.blocks c.records.reader.place c.next.new.reader.place _ _ _ _ _ _ i.5 (ap (λ (m : Moved). Ok m) c.in-End.is) c.in-Ok.ensures.given in
    record {
      given = done_given c.args.blocks c.records.round c.args.reader.now.place c.records.reader.place c.next.new.reader.place _ _ _ _ _ _ _ c.finish.result i.0 next c.finish.ensures.content
          c.finish.ensures.answer;
      flushed = search rules;
      blocks = search rules;
      home = search rules;
      named = search rules;
      taken = λ ok. took_all c.args.blocks _ _ _ c.args.reader.now.place c.records.reader.place c.next.new.reader.place _ _ _ _ _ i.1 next c.in-Ok.ensures.least;
    }

pub returns-in-Err-clause-segmented : goal.returns-in-Err-clause-segmented
returns-in-Err-clause-segmented g c =
    let i = c.records.invariant in
    let w = c.give_up.ensures in
    record {
      given = fault_given c.args.blocks c.records.round c.args.reader.now.place c.records.reader.place c.next.new.reader.place _ _ _ _ _ _ _ c.in-Err.fault c.give_up.result i.0
          (moves_by _ c.args.blocks c.records.reader.place c.next.new.reader.place _ _ _ _ (Err c.in-Err.fault) (Err c.in-Err.fault) i.5 refl c.in-Err.ensures.given)
          w.content w.answer;
      flushed = w.flushed;
      blocks = w.blocks;
      home = search rules;
      named = search rules;
      taken = λ ok. absurd (w.not_ok ok);
    }
