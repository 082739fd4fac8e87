use Rattle.std.proofs.Common.{◌∙◌, ap, refl, Ok, Err}
use Rattle.segmenting.specs.declared.segment.Moved.TheVariants.{One, End}
use Rattle.offload_c.proofs.Records.{ahead_none, moves_is, goes_then, end_then, stop_then}
use Rattle.offload_c.proofs.segment_call.segment_records.Goals as goal

pub records-init : goal.records-init
records-init g c = record {
  told = ahead_none c.args.run.now.blocks c.args.reader.now.place _ _;
  link = c.requires.link;
  ready = c.requires.ready;
  home = c.requires.home;
  blocks = refl;
  same = refl;
}

pub records-preserved : goal.records-preserved
records-preserved g c =
    let l = c.records in
    let i = l.invariant in
    let s = c.in-Ok.ensures in
    let first = c.args.run.now in
    let new = c.next.new in
    let goes = s.next (ap Ok c.in-One.is) in
    record {
      told = goes_then first.blocks c.args.reader.now.place l.reader.place new.reader.place _ _ _ _ _ _ i.told
          (moves_is l.run.blocks first.blocks _ _ _ _ l.reader.place new.reader.place (Ok c.in-Ok.moved) (Ok One) i.blocks (ap Ok c.in-One.is) s.given);
      link = goes.link ∙ i.link;
      ready = goes.ready;
      home = s.home;
      blocks = s.same ∙ i.blocks;
      same = s.same_source ∙ i.same;
    }

pub returns-in-End-clause-given : goal.returns-in-End-clause-given
returns-in-End-clause-given g c =
    let l = c.records in
    let i = l.invariant in
    let first = c.args.run.now in
    let new = c.next.new in
    end_then first.blocks c.args.reader.now.place l.reader.place new.reader.place _ _ _ _ _ _ i.told
    (moves_is l.run.blocks first.blocks _ _ _ _ l.reader.place new.reader.place (Ok c.in-Ok.moved) (Ok End) i.blocks (ap Ok c.in-End.is) c.in-Ok.ensures.given)

pub returns-in-Err-clause-given : goal.returns-in-Err-clause-given
returns-in-Err-clause-given g c =
    let l = c.records in
    let i = l.invariant in
    let first = c.args.run.now in
    let new = c.next.new in
    stop_then first.blocks c.args.reader.now.place l.reader.place new.reader.place _ _ _ _ _ _ c.in-Err.fault i.told
    (moves_is l.run.blocks first.blocks _ _ _ _ l.reader.place new.reader.place (Err c.in-Err.fault) (Err c.in-Err.fault) i.blocks refl c.in-Err.ensures.given)
