use Rattle.std.proofs.Common.{◌+◌, ◌∙◌, ℕ, ap, arith, refl, rules, Ok, Err}
use Rattle.segmenting.specs.declared.segment.Moved.{Moved}
use Rattle.wire_run.proofs.Wiring.{moves_by, none_yet, one_more_given, done_given, fault_given, counted_none, counted_more, counted_all}
use Rattle.wire_run.proofs.wire.wire_all.Goals as goal

pub records-init : goal.records-init
records-init g c = (
  none_yet c.args.options.blocks c.args.options.wiring _ _ c.args.reader.now.place,
  counted_none _ c.args.options.wiring c.args.counts.now c.args.reader.now.place,
  c.requires.link,
  c.requires.first,
  c.requires.ready,
  c.requires.blocks,
  c.requires.home,
  refl,
  omega arith,
  omega arith,
)

pub records-preserved : goal.records-preserved
records-preserved g c =
    let from = c.args.reader.now.place in
    let mid = c.records.reader.place in
    let next = c.next.new.reader.place in
    let o = c.args.options in
    let one = ap (λ (m : Moved). Ok m) c.in-One.is in
    let goes = c.in-Ok.ensures.next one in (
      one_more_given o.blocks o.wiring c.records.round from mid next _ _ _ _ _ _ c.records.invariant.0
          (moves_by _ o.blocks o.wiring mid next _ _ _ _ _ _ c.records.invariant.5 one c.in-Ok.ensures.given),
      counted_more o.wiring _ _ _ from mid next _ _ _ c.records.invariant.1 (c.in-Ok.ensures.counted one),
      goes.link ∙ c.records.invariant.2,
      goes.number ∙ ap (λ (n : ℕ). n + 1) c.records.invariant.3,
      goes.ready,
      c.in-Ok.ensures.same ∙ c.records.invariant.5,
      c.in-Ok.ensures.home,
      c.in-Ok.ensures.same_source ∙ c.records.invariant.7,
      omega (arith, c.in-Ok.ensures.later, c.records.invariant.8),
      omega (arith, c.in-Ok.ensures.later_sink, c.records.invariant.9),
    )

pub returns-in-End-clause-wired : goal.returns-in-End-clause-wired
returns-in-End-clause-wired g c =
    let i = c.records.invariant in
    let o = c.args.options in
    let end = ap (λ (m : Moved). Ok m) c.in-End.is in
    let next = moves_by _ o.blocks o.wiring c.records.reader.place c.next.new.reader.place _ _ _ _ _ _ i.5 end c.in-Ok.ensures.given in
    record {
      given = done_given o.blocks o.wiring c.records.round c.args.reader.now.place c.records.reader.place c.next.new.reader.place _ _ _ _ _ _ _ c.finish.result i.0 next c.finish.ensures.content
          c.finish.ensures.answer;
      flushed = search rules;
      blocks = search rules;
      counts = λ ok. counted_all o.blocks o.wiring _ _ _ c.args.reader.now.place c.records.reader.place c.next.new.reader.place _ _ _ _ _ i.1 next (c.in-Ok.ensures.uncounted end);
    }

pub returns-in-Err-clause-wired : goal.returns-in-Err-clause-wired
returns-in-Err-clause-wired g c =
    let i = c.records.invariant in
    let o = c.args.options in
    let w = c.give_up.ensures in
    record {
      given = fault_given o.blocks o.wiring c.records.round c.args.reader.now.place c.records.reader.place c.next.new.reader.place _ _ _ _ _ _ _ c.in-Err.fault c.give_up.result i.0
          (moves_by _ o.blocks o.wiring c.records.reader.place c.next.new.reader.place _ _ _ _ (Err c.in-Err.fault) (Err c.in-Err.fault) i.5 refl c.in-Err.ensures.given)
          w.content w.answer;
      flushed = w.flushed;
      blocks = w.blocks;
      counts = λ ok. absurd (w.not_ok ok);
    }
