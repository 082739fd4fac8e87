use Rattle.std.proofs.Common.{◌≡◌, ◌∙◌, ◌+◌, ℕ, map, ap, sym}
use Rattle.taps.specs.Clones.{packet_of}
use Rattle.frame_runs.specs.Chains.{behind, packet_at}
use Rattle.gro.specs.Slots.{packet_of as packet_in}
use Rattle.comparing.specs.Items.{item_at}
use Rattle.comparing.proofs.Comparing.{item_counted, totals}
use Rattle.comparing.proofs.ItemTotals.{one_added, several_is}
use Rattle.comparing.proofs.Runs.{size_is}
use Rattle.comparing.proofs.items.add_run.Goals as goal

pub returns-clause-added : goal.returns-clause-added
returns-clause-added c = λ left are.
    let ps = map packet_in c.args.packets.now in
    let run = c.args.run.now in
    let r = item_at c.args.packets.now c.args.next.now run in
    let n : r.n ≡ run.more + 1 = size_is run (packet_at ps run.first) (map (packet_at ps) (behind c.args.next.now run)) c.requires.run.is.knows in
    let k = item_counted (map packet_of c.args.kept.now) c.args.flows.now c.count_run.new.flows left r c.count_run.result are c.count_run.ensures.counts in
    let t = c.args.totals.now in (
      ap (λ (z : ℕ). totals (t.records + z) (t.items + 1) (t.merged + c.from.result) (t.returned + c.count_run.result)) (sym n)
          ∙ ap (λ (z : ℕ). totals (t.records + r.n) (t.items + 1) (t.merged + z) (t.returned + c.count_run.result)) (c.from.ensures ∙ several_is run.more r.n n)
          ∙ one_added t left r c.count_run.result k.0,
      k.1,
    )
