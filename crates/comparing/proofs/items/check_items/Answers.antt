use Rattle.std.proofs.Common.{map, refl, subst, sym, arith}
use Rattle.frame_runs.specs.Engine.{IsChain}
use Rattle.gro.specs.Slots.{packet_of as packet_in}
use Rattle.taps.specs.Clones.{packet_of}
use Rattle.comparing.specs.Items.{item_at, totals_of_items}
use Rattle.comparing.proofs.Comparing.{none_before}
use Rattle.comparing.proofs.ItemTotals.{all_get, so_next, so_all, mapped_next, mapped_gone}
use Rattle.comparing.proofs.items.check_items.Goals as goal

pub loop-i-init : goal.loop-i-init
loop-i-init c = record {
  records = omega arith;
  items = omega arith;
  merged = omega arith;
  returned = omega arith;
  flows = c.requires.flows;
  so_far = λ left are. record {
    now = left;
    are = are;
    totals = none_before (totals_of_items left (map (item_at c.args.packets.now c.args.next.now) c.args.runs.now));
    behind = refl;
  };
}

pub add_run-requires-clause-run : goal.add_run-requires-clause-run
add_run-requires-clause-run c =
    let chain = IsChain (map packet_in c.args.packets.now) c.args.next.now in
    record {
      are = c.requires.slots;
      linked = c.requires.linked;
      is = subst chain (sym c.index-runs-i.is) (all_get chain c.args.runs.now c.loop-i.i c.index-runs-i.result (omega arith) c.requires.runs);
      in_bytes = c.are_in_bytes.ensures.in_bytes;
    }

pub loop-i-preserved : goal.loop-i-preserved
loop-i-preserved c =
    let l = c.loop-i in
    let runs = c.args.runs.now in
    let item = item_at c.args.packets.now c.args.next.now in
    let few = c.add_run.ensures.few in
    record {
      records = omega (arith, l.invariant.records, few.0);
      items = omega (arith, l.invariant.items, few.1);
      merged = omega (arith, l.invariant.merged, few.2);
      returned = omega (arith, l.invariant.returned, few.3);
      flows = c.add_run.ensures.flows;
      so_far = λ left are.
          let before = l.invariant.so_far left are in
          so_next (map packet_of c.args.kept.now) left (map item runs) l.i (item c.index-runs-i.result) l.flows c.add_run.new.flows l.totals c.add_run.new.totals before
          (mapped_next item runs l.i c.index-runs-i.result (omega arith) c.index-runs-i.is) (c.add_run.ensures.added before.now before.are);
    }

pub returns-clause-totals : goal.returns-clause-totals
returns-clause-totals c = λ left are.
    let l = c.loop-i in
    let item = item_at c.args.packets.now c.args.next.now in
    so_all (map packet_of c.args.kept.now) left (map item c.args.runs.now) l.i l.flows l.totals (mapped_gone item c.args.runs.now l.i (omega arith)) (l.invariant.so_far left are)
