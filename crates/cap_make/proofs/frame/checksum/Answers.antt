use Rattle.std.proofs.Common.{[], ◌++◌, ◌∙◌, ap, append_assoc}
use Rattle.inet_sum.specs.Sum.{checksum_of}
use Rattle.cap_make.proofs.frame.checksum.Goals as goal

pub returns : goal.returns
returns c =
    let a = c.args.addresses.now in let b = c.args.pseudo.now in let h = c.args.header.now in let p = c.args.payload.now in
    record {
      sum = c.checksum.ensures.checksum _ (c.add-4.ensures.sum _ (c.add-3.ensures.sum _ (c.add-2.ensures.sum _ (c.add.ensures.sum [] c.new-sum.ensures.sum))))
          ∙ ap checksum_of (append_assoc (a ++ b) h p ∙ append_assoc a b (h ++ p));
    }
