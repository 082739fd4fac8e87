use Rattle.std.proofs.Common.{ap, map, subst}
use Rattle.offload_model.specs.Steps.{round_output}
use Rattle.offload_model.specs.Written.{Options}
use Rattle.gro.specs.Slots.{packet_of}
use Rattle.rounds.specs.Merging.{options_of, Puts}
use Rattle.rounds.proofs.rounds.Rounds.put_read.Goals as goal

pub returns-clause-puts : goal.returns-clause-puts
returns-clause-puts g c = λ worked.
    let ps = map packet_of c.args.read.round.packets in
    subst (λ (o : Options). Puts (g.K.Sink.held c.args.sink.now) (g.K.Sink.held c.put_read.new.sink) (round_output o c.args.file.now.order ps) c.args.read.end c.put_read.result)
    (ap options_of c.self.view_is) (c.put_read.ensures.puts worked)
