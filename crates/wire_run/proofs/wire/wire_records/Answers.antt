use Rattle.pcap_io.specs.declared.heads.Link.TheVariants.{Ethernet}
use Rattle.pcap_io.specs.Places.{first_place}
use Rattle.command_answers.specs.Ending.{ending_of}
use Rattle.command_answers.proofs.Prefixes.{nothing_prefix}
use Rattle.wire_model.specs.Passing.{wiring}
use Rattle.wire_run.proofs.Wiring.{wired_prefix}
use Rattle.wire_run.proofs.wire.wire_records.Goals as goal

pub returns-in-Err-clause-prefix : goal.returns-in-Err-clause-prefix
returns-in-Err-clause-prefix g c = nothing_prefix _ (wiring c.args.options.blocks c.args.options.wiring (first_place c.args.file Ethernet 0)) _ _

pub returns-in-Ok-clause-prefix : goal.returns-in-Ok-clause-prefix
returns-in-Ok-clause-prefix g c =
    wired_prefix c.wires_grow.ensures.law _ c.args.options.blocks c.args.options.wiring (first_place c.args.file Ethernet 0) _ _ _ _ (ending_of c.wire_behind.result) c.wire_behind.ensures.wired.given
