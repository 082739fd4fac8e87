use Rattle.std.proofs.Common.{◌≡◌, rules, subst, ◌∙◌}
use Rattle.pcap_io.specs.declared.heads.Link.TheVariants.{Ethernet}
use Rattle.ahead.specs.Ahead.{IfPaused, Waits}
use Rattle.ahead.specs.declared.paused.ReadAhead.{ReadAhead}
use Rattle.engine_tests.proofs.reading_beside.refused.turn.Goals as goal

pub returns-then-is_written-2-clause-ready : goal.returns-then-is_written-2-clause-ready
returns-then-is_written-2-clause-ready g c = λ full.
    let w = c.work_and_read-worked in
    let old = c.args.reader.now.place in
    let ethernet : old.link ≡ Ethernet = search rules in
    let left = g.S.Source.left c.args.reader.now.source.now in
    let waits = subst (λ (z : ReadAhead). IfPaused z (Waits c.args.rounds.now.budget old w.new.reader.place left (g.S.Source.left w.new.reader.source.now))) c.in-Paused.is w.ensures.waits in
    let on = c.read_rest.ensures.full full waits.at waits.keeps old waits.goes in
    (on.ready, on.link ∙ ethernet)
