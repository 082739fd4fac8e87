use Rattle.std.proofs.Common.{◌∙◌, ap, subst}
use Rattle.rounds.specs.Benches.{WorksLent}
use Rattle.rounds.specs.RoundsState.{RoundState}
use Rattle.rounds.proofs.bench.Bench.work_lent.Goals as goal

pub returns-clause-works : goal.returns-clause-works
returns-clause-works g c =
    let w = c.work in
    let e = w.ensures in
    let none = c.no_round-none.ensures.none in
    let lent = c.replace-lent in
    subst (λ (r : RoundState). WorksLent g.W.Works.gives c.args.self.now w.new.self r lent.new.dest c.args.giver.now w.new.giver w.result) lent.ensures.value
    (record { works = e.works; lends = e.lends; spent = (ap (λ (r : RoundState). r.packets) lent.ensures.after ∙ none.0, ap (λ (r : RoundState). r.spares) lent.ensures.after ∙ none.1); gives_spares = e.gives_spares; same = e.same })
