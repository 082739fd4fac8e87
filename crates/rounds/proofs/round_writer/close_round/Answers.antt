use Rattle.std.proofs.Common.{sym, subst}
use Rattle.rounds.specs.Merging.{Puts}
use Rattle.rounds.specs.declared.round_writer.Step.TheVariants.{Goes, Ends}
use Rattle.rounds.specs.declared.round_stages.RoundEnd.{RoundEnd}
use Rattle.rounds.proofs.Merging.{finished}
use Rattle.rounds.proofs.round_writer.close_round.Goals as goal

pub returns-in-Full-clause-puts : goal.returns-in-Full-clause-puts
returns-in-Full-clause-puts g c = λ held bytes wrote. subst (λ (e : RoundEnd). Puts held (g.K.Sink.held c.args.sink.now) bytes e Goes) (sym c.in-Full.is) wrote

pub returns-in-End-clause-puts : goal.returns-in-End-clause-puts
returns-in-End-clause-puts g c = λ held bytes wrote.
    subst (λ (e : RoundEnd). Puts held (g.K.Sink.held c.finish.new.sink) bytes e (Ends c.finish.result)) (sym c.in-End.is) (finished held _ _ bytes _ c.finish.result wrote c.finish.ensures.answer
    c.finish.ensures.content)

pub returns-in-Malformed-clause-puts : goal.returns-in-Malformed-clause-puts
returns-in-Malformed-clause-puts g c = λ held bytes wrote.
    let f = c.finish-in-Malformed in
    subst (λ (e : RoundEnd). Puts held (g.K.Sink.held f.new.sink) bytes e (Ends f.result)) (sym c.in-Malformed.is) (finished held _ _ bytes _ f.result wrote f.ensures.answer f.ensures.content)

pub returns-in-ReadFault-clause-puts : goal.returns-in-ReadFault-clause-puts
returns-in-ReadFault-clause-puts g c = λ held bytes wrote.
    let f = c.finish-in-ReadFault in
    subst (λ (e : RoundEnd). Puts held (g.K.Sink.held f.new.sink) bytes e (Ends f.result)) (sym c.in-ReadFault.is) (finished held _ _ bytes _ f.result wrote f.ensures.answer f.ensures.content)
