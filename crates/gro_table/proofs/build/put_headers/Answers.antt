use Rattle.std.proofs.Common.{◌++◌, ◌∙◌, ℕ, List, length, ap, sym}
use Rattle.skb.proofs.Fronts.{front_long, front_is}
use Rattle.gro_table.proofs.build.put_headers.Goals as goal

pub returns-clause-size : goal.returns-clause-size
returns-clause-size c =
    front_long c.args.block.now.bytes c.fill_headers.new.headers c.args.layout.now.payload_at (sym (ap length c.bytes.ensures.value) ∙ c.bytes.ensures.size) c.fill_headers.ensures.size c.requires.low

pub returns-clause-merged : goal.returns-clause-merged
returns-clause-merged c = λ first last bytes same flags sum.
    ap (λ (z : List ℕ). z ++ bytes)
    (front_is c.args.block.now.bytes c.fill_headers.new.headers c.args.layout.now.payload_at (sym (ap length c.bytes.ensures.value) ∙ c.bytes.ensures.size) c.fill_headers.ensures.size c.requires.low)
    ∙ c.fill_headers.ensures.merged first last bytes same flags sum
