use Rattle.std.proofs.Common.{◌+◌, ◌≤◌, ℕ, List, length, map, sym, ap, ◌∙◌, subst, arith}
use Rattle.std.specs.List.{AllByRecursion}
use Rattle.std.proofs.lemmas.List.{length-take-le}
use Rattle.std.proofs.lemmas.Result.{err_from_is_err_and}
use Rattle.off_io.specs.Content.{AppendsPrefix}
use Rattle.off_io.proofs.Appending.{prefix_more}
use Rattle.pcap_io.specs.Capture.{Packet}
use Rattle.gro.specs.Slots.{packet_of}
use Rattle.frame_runs.specs.Chains.{chain_of, packet_at}
use Rattle.frame_runs.specs.MergedRun.{payloads_behind}
use Rattle.records.proofs.InPlace.{inside, is_slot, knows_some, few, low, all_below, all_there, record_by}
use Rattle.records.proofs.Writing.{stopped, written}
use Rattle.records.proofs.in_place.write_merged.Goals as goal

pub overflow_add-row : goal.overflow_add-row
overflow_add-row g c = omega (arith, low c.args.packets.now c.args.next.now c.args.run.now c.requires.run c.requires.several, c.headers_len-at.ensures.size)

pub slice_bounds-row-end : goal.slice_bounds-row-end
slice_bounds-row-end g c = omega (arith, low c.args.packets.now c.args.next.now c.args.run.now c.requires.run c.requires.several, c.headers_len-at.ensures.size)

pub slice_bounds-row-end-2 : goal.slice_bounds-row-end-2
slice_bounds-row-end-2 g c =
    let at : ℕ = c.headers_len-at.result in
    let h : 32 + at ≤ 232 = omega (arith, low c.args.packets.now c.args.next.now c.args.run.now c.requires.run c.requires.several, c.headers_len-at.ensures.size) in
    sym (length-take-le (32 + at) _ h)

pub bounds-packets-run : goal.bounds-packets-run
bounds-packets-run g c = inside c.args.packets.now c.args.next.now c.args.run.now c.requires.run

pub put_row-requires-clause-slot : goal.put_row-requires-clause-slot
put_row-requires-clause-slot g c = is_slot c.args.packets.now c.args.next.now c.args.run.now c.requires.run c.index-packets-run.result c.index-packets-run.is c.requires.slots

pub put_row-requires-clause-run : goal.put_row-requires-clause-run
put_row-requires-clause-run g c =
    knows_some c.args.packets.now c.args.next.now c.args.run.now c.requires.run c.index-packets-run.result c.index-packets-run.is

pub put_row-requires-clause-size : goal.put_row-requires-clause-size
put_row-requires-clause-size g c =
    let at : ℕ = c.headers_len-at.result in
    let h : 32 + at ≤ 232 = omega (arith, low c.args.packets.now c.args.next.now c.args.run.now c.requires.run c.requires.several, c.headers_len-at.ensures.size) in
    length-take-le (32 + at) _ h ∙ ap (λ (z : ℕ). 32 + z) c.headers_len-at.ensures.size

pub overflow_add-run : goal.overflow_add-run
overflow_add-run g c = omega (arith, few c.args.packets.now c.args.next.now c.args.run.now c.requires.run)

pub write_payloads-requires-clause-inside : goal.write_payloads-requires-clause-inside
write_payloads-requires-clause-inside g c = all_below c.args.packets.now c.args.next.now c.args.run.now c.requires.run

pub write_payloads-requires-clause-low : goal.write_payloads-requires-clause-low
write_payloads-requires-clause-low g c = omega (arith, low c.args.packets.now c.args.next.now c.args.run.now c.requires.run c.requires.several, c.headers_len-at.ensures.size)

pub write_payloads-requires-clause-there : goal.write_payloads-requires-clause-there
write_payloads-requires-clause-there g c =
    let run = c.args.run.now in
    let ps : List Packet = map packet_of c.args.packets.now in
    subst (λ (z : ℕ). AllByRecursion (λ (p : Packet). z ≤ length p.frame) (map (packet_at ps) (chain_of c.args.next.now (run.more + 1) run.first))) (sym c.headers_len-at.ensures.size)
    (all_there c.args.packets.now c.args.next.now run c.requires.run c.requires.several)

pub returns-in_err-write_all : goal.returns-in_err-write_all
returns-in_err-write_all g c =
    let p = err_from_is_err_and c.from_residual.result c.from_residual.ensures.1 in
    let packets = c.args.packets.now in
    let next = c.args.next.now in
    let run = c.args.run.now in
    let at = c.headers_len-at.result in
    let row : List ℕ = c.put_row.new.row in
    let behind : List ℕ = payloads_behind at (map (packet_at (map packet_of packets)) (chain_of next (run.more + 1) run.first)) in
    let is = record_by packets next run c.requires.run c.index-packets-run.result c.index-packets-run.is c.args.file.now.order c.args.lane row at c.headers_len-at.ensures.size
    c.put_row.ensures.row in
    let e = c.in_err-write_all.ensures in
    record { writes = stopped c.from_residual.result _ _ _ _ _ _ p.0 _ p.1 (subst (AppendsPrefix _ _) is (prefix_more _ _ row behind e.err)) (omega arith) e.cause }

pub returns : goal.returns
returns g c =
    let packets = c.args.packets.now in
    let next = c.args.next.now in
    let run = c.args.run.now in
    let at = c.headers_len-at.result in
    let row : List ℕ = c.put_row.new.row in
    let behind : List ℕ = payloads_behind at (map (packet_at (map packet_of packets)) (chain_of next (run.more + 1) run.first)) in
    let is = record_by packets next run c.requires.run c.index-packets-run.result c.index-packets-run.is c.args.file.now.order c.args.lane row at c.headers_len-at.ensures.size
    c.put_row.ensures.row in
    let e = c.in_ok-write_all.ensures in
    record { writes = written c.write_payloads.result _ _ _ _ _ _ _ row behind is e.ok e.cause.later c.write_payloads.ensures.writes }
