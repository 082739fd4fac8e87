use Rattle.comparing.proofs.Unread.{run_in_head, run_is, run_left}
use Rattle.std.proofs.Common.{lt_of_lt_of_le}
use Rattle.comparing.proofs.Runs.{first_inside}
use Rattle.comparing.proofs.payload.Payload.of_run.Goals as goal

pub behind-requires : goal.behind-requires
behind-requires c = record {
  inside = run_in_head c.args.packets.now c.args.next.now c.args.run.now c.requires.slots c.requires.linked c.requires.run c.requires.several c.index-packets-first.result
      c.headers_len-from.result c.headers_len-from.ensures.size;
}

pub invariant_of-result : goal.invariant_of-result
invariant_of-result c =
    run_left c.args.packets.now c.args.next.now c.args.run.now c.requires.slots c.requires.linked c.requires.run c.requires.several c.index-packets-first.result
    c.headers_len-from.result c.headers_len-from.ensures.size c.behind.result c.behind.ensures.all c.len.result c.len.ensures.len

pub returns : goal.returns
returns c = record {
  all = run_is c.args.packets.now c.args.next.now c.args.run.now c.requires.slots c.requires.linked c.requires.run c.requires.several c.index-packets-first.result
      c.headers_len-from.result c.headers_len-from.ensures.size c.behind.result c.behind.ensures.all;
}

pub bounds-packets-first : goal.bounds-packets-first
bounds-packets-first c = first_inside c.args.packets.now c.args.next.now c.args.run.now c.requires.run

pub bounds-next-first : goal.bounds-next-first
bounds-next-first c = lt_of_lt_of_le (first_inside c.args.packets.now c.args.next.now c.args.run.now c.requires.run) c.requires.linked
