use Rattle.std.proofs.Common.{◌≡◌, ◌+◌, ◌<◌, ◌≤◌, ◌^◌, ℕ, List, length, get_or, map, sym, ap, ◌∙◌, subst, arith}
use Rattle.std.specs.List.{flat_map}
use Rattle.std.specs.Io.KnownBytes.{Appends}
use Rattle.std.proofs.lemmas.List.{take_all}
use Rattle.std.proofs.lemmas.Result.{err_from_is_err_and}
use Rattle.off_io.specs.Content.{AppendsPrefix}
use Rattle.off_io.proofs.Owing.{wrote_one_more, failed_at}
use Rattle.pcap_io.specs.Capture.{Packet}
use Rattle.offload_model.specs.Merged.{merged_of}
use Rattle.frame_runs.specs.declared.run.Run.{Run}
use Rattle.frame_runs.specs.declared.engine.Engine.{Engine}
use Rattle.gro.specs.Slots.{packet_of}
use Rattle.frame_runs.specs.Chains.{no_packet, run_of}
use Rattle.frame_runs.specs.Engine.{IsChain, AreRuns}
use Rattle.frame_runs.proofs.Payloads.{all_at, chain_at}
use Rattle.records.specs.Records.{item_bytes}
use Rattle.records.proofs.InPlace.{runs_bytes}
use Rattle.records.proofs.in_place.write_runs.Goals as goal

-- the run that a turn of the loop reads
read_at : (ps : List Packet) (n : ℕ) (e : Engine) (items : List Run) (i : ℕ) (run : Run) → AreRuns ps n e → items ≡ e.runs.items → i < length items → run ≡ get_or items i run
    → IsChain ps e.next.items run
read_at ps n e items i run a same h is =
    subst (IsChain ps e.next.items) (sym (is ∙ ap (λ (z : List Run). get_or z i run) same))
    (chain_at ps n e i run a (subst (λ (z : List Run). i < length z) same h))

pub write_run-requires-clause-run : goal.write_run-requires-clause-run
write_run-requires-clause-run g c =
    let ps : List Packet = map packet_of c.args.packets.now in
    subst (λ (z : List ℕ). IsChain ps z c.run-item.result) (sym c.deref.ensures.value)
    (read_at ps (length c.args.packets.now) c.args.engine.now c.deref-run-items.result.now c.loop-run.run-index c.run-item.result c.requires.runs c.deref-run-items.ensures.value
    c.loop-run-test.true c.run-item.is)

pub write_run-requires-clause-fits : goal.write_run-requires-clause-fits
write_run-requires-clause-fits g c =
    let ps : List Packet = map packet_of c.args.packets.now in
    let chain = read_at ps (length c.args.packets.now) c.args.engine.now c.deref-run-items.result.now c.loop-run.run-index c.run-item.result c.requires.runs c.deref-run-items.ensures.value
    c.loop-run-test.true c.run-item.is in
    all_at (λ (p : Packet). p.original + 16 < 2 ^ 32) ps c.run-item.result.first no_packet c.requires.fit chain.inside.0

pub loop-run-preserved : goal.loop-run-preserved
loop-run-preserved g c =
    let ps : List Packet = map packet_of c.args.packets.now in
    let order = c.args.file.now.order in
    let e : Engine = c.args.engine.now in
    let run : Run = c.run-item.result in
    let same : c.deref-run-items.result.now ≡ e.runs.items = c.deref-run-items.ensures.value in
    let i = c.loop-run.run-index in (
      wrote_one_more (λ (z : Run). item_bytes order c.args.lane (merged_of (run_of ps e.next.items z))) e.runs.items i run
          (subst (λ (z : List Run). i < length z) same c.loop-run-test.true) (c.run-item.is ∙ ap (λ (z : List Run). get_or z i run) same) _ _ _ c.loop-run.invariant.0
          (subst (λ (z : List ℕ). Appends (g.K.Sink.held c.loop-run.sink) (g.K.Sink.held c.write_run.new.sink) (item_bytes order c.args.lane (merged_of (run_of ps z run)))) c.deref.ensures.value c.in_ok-write_run.ensures.ok),
      omega (arith, c.loop-run.invariant.1, c.in_ok-write_run.ensures.cause.later),
    )

pub returns-in_err-write_run-clause-err : goal.returns-in_err-write_run-clause-err
returns-in_err-write_run-clause-err g c =
    let p = err_from_is_err_and c.from_residual.result c.from_residual.ensures.1 in
    let ps : List Packet = map packet_of c.args.packets.now in
    let order = c.args.file.now.order in
    let e : Engine = c.args.engine.now in
    let run : Run = c.run-item.result in
    let same : c.deref-run-items.result.now ≡ e.runs.items = c.deref-run-items.ensures.value in
    let i = c.loop-run.run-index in
    rw p.1 (subst (AppendsPrefix _ _) (runs_bytes order c.args.lane ps e.next.items e.runs.items)
    (failed_at (λ (z : Run). item_bytes order c.args.lane (merged_of (run_of ps e.next.items z))) e.runs.items i run
    (subst (λ (z : List Run). i < length z) same c.loop-run-test.true) (c.run-item.is ∙ ap (λ (z : List Run). get_or z i run) same) _ _ _ c.loop-run.invariant.0
    (subst (λ (z : List ℕ). AppendsPrefix (g.K.Sink.held c.loop-run.sink) (g.K.Sink.held c.write_run.new.sink) (item_bytes order c.args.lane (merged_of (run_of ps z run)))) c.deref.ensures.value c.in_err-write_run.ensures.err)))

pub returns-clause-ok : goal.returns-clause-ok
returns-clause-ok g c =
    let ps : List Packet = map packet_of c.args.packets.now in
    let order = c.args.file.now.order in
    let e : Engine = c.args.engine.now in
    let past : length e.runs.items ≤ c.loop-run.run-index = omega (arith, c.loop-run-test.false, ap length c.deref-run-items.ensures.value) in
    subst (Appends _ _)
    (ap (flat_map (λ (z : Run). item_bytes order c.args.lane (merged_of (run_of ps e.next.items z)))) (take_all c.loop-run.run-index e.runs.items past)
    ∙ runs_bytes order c.args.lane ps e.next.items e.runs.items) c.loop-run.invariant.0
