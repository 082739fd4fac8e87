use Rattle.std.proofs.Common.{map, refl}
use Rattle.offload_model.specs.Steps.{round_output}
use Rattle.gro.specs.Slots.{packet_of}
use Rattle.rounds.specs.Benches.{options_at}
use Rattle.rounds.specs.Weights.{weights_of}
use Rattle.rounds.proofs.Lanes.{works_out, brings_put, may_put}
use Rattle.rounds.proofs.bench.Bench.put_read.Goals as goal

pub put_round-requires-clause-may : goal.put_round-requires-clause-may
put_round-requires-clause-may g c =
    let w = c.work_round-worked in
    may_put w.result c.args.self.now w.new.self c.args.home.now w.new.home c.args.read.round.blocks c.args.giver.now w.new.giver w.ensures.worked w.ensures.gave w.ensures.same c.requires.may

pub returns-clause-puts : goal.returns-clause-puts
returns-clause-puts g c = λ worked.
    let options = options_at c.args.self.now in
    let order = c.args.file.now.order in
    let ps = map packet_of c.args.read.round.packets in
    let w = c.work_round-worked in
    c.put_round.ensures.puts (round_output options order ps) (works_out options options order ps w.result refl w.ensures.records)

pub returns-clause-brings : goal.returns-clause-brings
returns-clause-brings g c =
    let w = c.work_round-worked in
    brings_put w.result c.args.self.now w.new.self c.put_round.new.self c.args.home.now w.new.home c.put_round.new.home c.args.read.round.blocks (weights_of c.args.read.round) c.args.giver.now w.new.giver w.ensures.worked w.ensures.named
    w.ensures.same w.ensures.brings c.put_round.ensures.brings
