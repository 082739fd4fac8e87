use Rattle.std.proofs.Common.{◌+◌, ◌-◌, ◌/◌, ◌%◌, [], drop, ap, ◌∙◌, arith}
use Rattle.inet_sum.specs.Sum.{fold_of}
use Rattle.frame_bursts.proofs.Laying.{header6}
use Rattle.frame_bursts.proofs.places.pseudo6.Goals as goal

pub returns : goal.returns
returns c = record {
  sum = c.fold.ensures.fold _ (c.add_number-4.ensures.sum _ (c.add_number-3.ensures.sum _ (c.add_number-2.ensures.sum _
      (c.add_number.ensures.sum _ (c.add.ensures.sum [] c.new-sum.ensures.sum)))))
      ∙ ap fold_of (header6 (drop (c.args.at + 8) c.args.head.now) ((c.args.at + 40) - (c.args.at + 8)) c.from.result
      c.args.protocol (c.args.len / 65536) (c.args.len % 65536) (omega arith) c.from.ensures
      (omega (arith, c.ranges.protocol.fits)));
}
