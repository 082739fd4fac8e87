use Rattle.std.proofs.Common.{subst, false}
use Rattle.std.specs.Prelude.{map, string_bytes}
use Rattle.std.specs.declared.alloc.Global.{Global}
use Rattle.std.specs.declared.io.buffered.BufReader.{BufReader}
use Rattle.std.specs.declared.io.buffered.BufWriter.{BufWriter}
use Rattle.off_io.specs.Edge.{Counting, CountingSink}
use Rattle.offload_words.specs.Commands.{command_of}
use Rattle.offload_run.proofs.Streamed.{streamed, Ran}
use Rattle.offload_run.proofs.streams.run_streams.Goals as goal

pub returns-clause-streamed : goal.returns-clause-streamed
returns-clause-streamed g c =
    let run = c.run-status.ensures in
    let o = command_of (map string_bytes c.args.words.now) in
    let input' = c.run-status.new.source in
    let output' = c.run-status.new.sink in
    let engine = c.run-status.new.engine in
    let status = c.run-status.result in
    let made : Ran g.I.Read.remaining g.O.Write.contents o c.new-input.result input' c.new-output.result output' engine status = record {
      given = run.given;
      prefix = run.prefix;
      made = run.made;
      blocks = run.blocks;
      flows = run.flows;
      run = run.engine;
      home = run.home;
    } in
    streamed g.I.Read.remaining g.O.Write.contents o c.args.input input' c.args.output output' c.into_writer.result engine status
    (subst (λ (s : Counting (BufReader g.row.I.Denot Global)). Ran g.I.Read.remaining g.O.Write.contents o s input' (record { inner = c.args.output; faults = 0; is_flushed = false }) output' engine status)
    c.new-input.ensures.made
    (subst (λ (s : CountingSink (BufWriter g.row.O.Denot Global)). Ran g.I.Read.remaining g.O.Write.contents o c.new-input.result input' s output' engine status)
    c.new-output.ensures.made made))
    c.requires.empty c.into_writer.ensures.unwritten
    (record { all = c.into_writer.ensures.all; front = c.into_writer.ensures.front })
