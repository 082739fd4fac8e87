use Rattle.std.proofs.Common.{◌∙◌, ◌+◌, ℕ, arith, subst, sym, ap, length}
use Rattle.offload_model.specs.Written.{Options}
use Rattle.rounds.specs.Merging.{options_of}
use Rattle.rounds.specs.Reads.{reader_at, ReadRound}
use Rattle.rounds.specs.RoundsState.{RoundsState}
use Rattle.rounds.proofs.Going.{few_none, gave_none, ready_as}
use Rattle.rounds.proofs.turns.handle_next.Goals as goal

pub handle-requires-clause-read : goal.handle-requires-clause-read
handle-requires-clause-read g c =
    let r = c.read_round-read.ensures in
    record { few = omega (arith, r.read.size, r.budget.1); captured = r.read.captured; numbers = (c.args.reader.now.place.number, r.read.numbers) }

pub handle-requires-clause-ready : goal.handle-requires-clause-ready
handle-requires-clause-ready g c =
    let r = c.read_round-read.ensures in
    let s = c.requires.start in
    let first = c.args.rounds.now in
    let mid = c.read_round-read.new.self in (
      s.0,
      omega (arith, s.1, c.requires.ready.counted.few),
      ready_as (g.H.RoundHandler.did c.args.handler.now) g.H.RoundHandler.stopped g.H.RoundHandler.ready (options_of mid) (options_of first) mid.keep first.keep s.0 c.args.into.now (sym r.same.1)
          (sym r.same.2) s.2,
    )

pub returns-clause-stepped : goal.returns-clause-stepped
returns-clause-stepped g c =
    let r = c.read_round-read.ensures in
    let h = c.handle.ensures in
    let s = c.requires.start in
    let first = c.args.rounds.now in
    let mid = c.read_round-read.new.self in
    let read = c.read_round-read.result in
    let did = g.H.RoundHandler.did c.args.handler.now in
    let ready = g.H.RoundHandler.ready in
    record {
      read = read;
      reads = subst (λ (n : ℕ). ReadRound first.blocks first.budget (reader_at g.S.Source.left g.S.Source.faults c.args.reader.now first.taken)
          (reader_at g.S.Source.left g.S.Source.faults c.read_round-read.new.reader n) read) (sym (ap (λ (x : RoundsState). x.taken) h.home.0)) r.read;
      most = r.budget.1;
      handled = subst (λ (o : Options). did o c.args.into.now c.handle.new.into read c.args.number c.handle.result) r.same.1 h.did;
      full = h.full;
      counted = (
        s.0 + length read.round.packets,
        omega (arith, s.1),
        ready_as did g.H.RoundHandler.stopped ready (options_of first) (options_of mid) first.keep mid.keep (s.0 + length read.round.packets) c.handle.new.into r.same.1 r.same.2
            (h.ready s.0 (ready_as did g.H.RoundHandler.stopped ready (options_of mid) (options_of first) mid.keep first.keep s.0 c.args.into.now (sym r.same.1) (sym r.same.2) s.2)),
      );
    }

pub returns-clause-rests : goal.returns-clause-rests
returns-clause-rests g c =
    let r = c.read_round-read.ensures in
    let h = c.handle.ensures in
    record {
      home = h.home.1 ∙ r.home ∙ sym (ap (λ (x : RoundsState). x.blocks) h.home.0 ∙ r.same.0);
      same = (ap (λ (x : RoundsState). x.blocks) h.home.0 ∙ r.same.0, ap options_of h.home.0 ∙ r.same.1, ap (λ (x : RoundsState). x.keep) h.home.0 ∙ r.same.2);
      least = omega (arith, r.least, ap (λ (x : RoundsState). x.taken) h.home.0);
      pauses = few_none _ _ _ _ (omega (arith, r.counts.0, ap (λ (x : RoundsState). x.empties) h.home.0)) (ap (λ (x : RoundsState). x.pauses) h.home.0 ∙ r.counts.1);
      gives = gave_none c.args.rounds.now.spares c.handle.new.self.spares (ap (λ (x : RoundsState). x.spares) h.home.0 ∙ r.counts.2);
      later = r.read.later;
    }

pub returns-clause-named : goal.returns-clause-named
returns-clause-named g c h = omega (arith, c.read_round-read.ensures.named h, c.handle.ensures.named h)
