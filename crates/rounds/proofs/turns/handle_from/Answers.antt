use Rattle.std.proofs.Common.{◌∙◌, ◌+◌, [], ◌∷◌, ◌++◌, List, None, Some, refl, sym, ap, subst, inr, arith, length, length-append, append-nil}
use Rattle.rounds.specs.declared.round_stages.RoundRead.{RoundRead}
use Rattle.rounds.specs.Merging.{options_of}
use Rattle.rounds.specs.Reads.{reader_at, Reads, is_full}
use Rattle.rounds.proofs.Going.{few_none, gave_none, numbered, ready_as, rests_then, stepped_as, went_more, went_ends}
use Rattle.rounds.proofs.Rows.{all_go_last, reads_last}
use Rattle.rounds.proofs.turns.handle_from.Goals as goal

pub rounds-init : goal.rounds-init
rounds-init g c = record {
  got = [];
  reads = refl;
  go = tt;
  went = refl;
  number = omega arith;
  counted = c.requires.counted;
  start = c.requires.start;
  rests = record { home = c.requires.home; same = (refl, refl, refl); least = omega arith; pauses = few_none _ _ _ _ (omega arith) refl; gives = gave_none _ _ refl; later = omega arith };
  named = λ h. refl;
  link = c.requires.link;
  ready = c.requires.ready;
  same = refl;
}

pub handle_next-requires-clause-start : goal.handle_next-requires-clause-start
handle_next-requires-clause-start g c =
    let i = c.rounds.invariant in
    let first = c.args.rounds.now in
    let now = c.rounds.rounds in (
      i.start.0,
      i.start.1,
      ready_as (g.H.RoundHandler.did c.args.handler.now) g.H.RoundHandler.stopped g.H.RoundHandler.ready (options_of now) (options_of first) now.keep first.keep i.start.0
          c.rounds.into (sym i.rests.same.1) (sym i.rests.same.2) i.start.2,
    )

pub rounds-preserved : goal.rounds-preserved
rounds-preserved g c =
    let l = c.rounds in
    let i = l.invariant in
    let first = c.args.rounds.now in
    let new = c.handle_next.new in
    let did = g.H.RoundHandler.did c.args.handler.now in
    let from = reader_at g.S.Source.left g.S.Source.faults c.args.reader.now first.taken in
    let at = reader_at g.S.Source.left g.S.Source.faults l.reader l.rounds.taken in
    let to = reader_at g.S.Source.left g.S.Source.faults new.reader new.rounds.taken in
    let s = stepped_as did g.H.RoundHandler.stopped g.H.RoundHandler.ready first l.rounds l.number at to l.into new.into None i.rests.same c.in-None.ensures.stepped in
    let full = s.full refl in
    let p = s.reads.full full in
    record {
      got = i.got ++ s.read ∷ [];
      reads = reads_last first.blocks first.budget from at to i.got s.read i.reads i.go s.reads;
      go = all_go_last i.got s.read i.go (ap is_full full);
      went = went_more (did (options_of first)) g.H.RoundHandler.stopped c.args.number c.args.into.now l.into new.into i.got s.read i.went
          (numbered (did (options_of first)) g.H.RoundHandler.stopped l.into new.into s.read None l.number (c.args.number + length i.got) i.number s.handled);
      number = omega (arith, i.number, length-append i.got (s.read ∷ []));
      counted = omega (arith, i.counted, p.number, s.reads.some);
      start = (s.counted.0, omega (arith, s.counted.1, p.number, p.full), s.counted.2);
      rests = rests_then first l.rounds new.rounds from at to i.rests c.in-None.ensures.rests;
      named = λ h. omega (arith, i.named h, c.in-None.ensures.named h);
      link = p.link ∙ i.link;
      ready = p.ready;
      same = c.in-None.ensures.same_source ∙ i.same;
    }

pub returns-in-Some-clause-handled : goal.returns-in-Some-clause-handled
returns-in-Some-clause-handled g c =
    let l = c.rounds in
    let i = l.invariant in
    let first = c.args.rounds.now in
    let new = c.handle_next.new in
    let did = g.H.RoundHandler.did c.args.handler.now in
    let from = reader_at g.S.Source.left g.S.Source.faults c.args.reader.now first.taken in
    let at = reader_at g.S.Source.left g.S.Source.faults l.reader l.rounds.taken in
    let to = reader_at g.S.Source.left g.S.Source.faults new.reader new.rounds.taken in
    let s = stepped_as did g.H.RoundHandler.stopped g.H.RoundHandler.ready first l.rounds l.number at to l.into new.into (Some c.in-Some.end) i.rests.same c.in-Some.ensures.stepped in
    record {
      ran = record {
        got = i.got ++ s.read ∷ [];
        more = [];
        reads = subst (λ (rs : List RoundRead). Reads first.blocks first.budget from rs to) (sym (append-nil (i.got ++ s.read ∷ [])))
            (reads_last first.blocks first.budget from at to i.got s.read i.reads i.go s.reads);
        ends = went_ends (did (options_of first)) g.H.RoundHandler.stopped c.args.number c.args.into.now l.into new.into i.got (s.read ∷ []) c.in-Some.end i.went
            (inr (numbered (did (options_of first)) g.H.RoundHandler.stopped l.into new.into s.read (Some c.in-Some.end) l.number (c.args.number + length i.got) i.number s.handled, refl));
      };
      rests = rests_then first l.rounds new.rounds from at to i.rests c.in-Some.ensures.rests;
      named = λ h. omega (arith, i.named h, c.in-Some.ensures.named h);
      counted = (s.counted.0, omega (arith, s.counted.1, i.ready.counted.few, s.reads.size, s.most), s.counted.2);
    }
