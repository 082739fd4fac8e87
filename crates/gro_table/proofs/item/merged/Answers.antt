use Rattle.std.proofs.Common.{◌+◌, ◌-◌, refl, arith}
use Rattle.skb.specs.SkbState.{buffer_bytes}
use Rattle.frame_runs.specs.Chains.{behind}
use Rattle.gro_table.specs.Waiting.{chosen}
use Rattle.gro_table.proofs.Comes.{IsHeldRun, held_run, item_is}
use Rattle.gro_table.proofs.item.merged.Goals.{Start}
use Rattle.gro_table.proofs.item.merged.Goals as goal

here : (c : Start) → IsHeldRun c.args.first (chosen c.args.waiting.now.items (behind c.args.next.now c.args.run.now)) c.args.layout.now c.args.run.now.payload c.args.run.now.flags c.args.run.now.progress
here c =
    let run = c.args.run.now in
    held_run c.args.first (chosen c.args.waiting.now.items (behind c.args.next.now run)) c.args.layout.now run.payload run.flags run.progress c.requires.run c.requires.held

pub overflow_cast-m : goal.overflow_cast-m
overflow_cast-m c = omega (arith, (here (goal.at.overflow_cast-m c).Start).fits_m, c.len.ensures.size, c.payload_at.ensures.place)

pub overflow_add-result : goal.overflow_add-result
overflow_add-result c = omega (arith, (here (goal.at.overflow_add-result c).Start).fits_n, c.requires.more)

pub join-skb-requires-clause-laid : goal.join-skb-requires-clause-laid
join-skb-requires-clause-laid c = (here (goal.at.join-skb-requires-clause-laid c).Start).laid

pub join-skb-requires-clause-low : goal.join-skb-requires-clause-low
join-skb-requires-clause-low c = (here (goal.at.join-skb-requires-clause-low c).Start).low

pub join-skb-requires-clause-ranges : goal.join-skb-requires-clause-ranges
join-skb-requires-clause-ranges c = (here (goal.at.join-skb-requires-clause-ranges c).Start).ranges

pub join-skb-requires-clause-few : goal.join-skb-requires-clause-few
join-skb-requires-clause-few c = (here (goal.at.join-skb-requires-clause-few c).Start).few

pub join-skb-requires-clause-payload : goal.join-skb-requires-clause-payload
join-skb-requires-clause-payload c = (here (goal.at.join-skb-requires-clause-payload c).Start).payload

pub join-skb-requires-clause-each : goal.join-skb-requires-clause-each
join-skb-requires-clause-each c = (here (goal.at.join-skb-requires-clause-each c).Start).each

pub join-skb-requires-clause-small : goal.join-skb-requires-clause-small
join-skb-requires-clause-small c = (here (goal.at.join-skb-requires-clause-small c).Start).small

pub returns-clause-item : goal.returns-clause-item
returns-clause-item c =
    let run = c.args.run.now in
    item_is c.args.first (chosen c.args.waiting.now.items (behind c.args.next.now run)) c.args.layout.now run.payload run.flags run.progress c.requires.run c.requires.held
    (buffer_bytes c.join-skb.result.0) c.len-original.result (run.more + 1) (c.len.result - c.payload_at.result)
    run.progress.modes (omega (arith, c.requires.several, c.requires.more)) c.join-skb.ensures.bytes
    c.len-original.ensures.bytes (omega (arith, c.requires.more)) (omega (arith, c.len.ensures.size, c.payload_at.ensures.place)) refl
