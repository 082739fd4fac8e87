use Rattle.std.proofs.Common.{◌++◌, ℕ, List, sym, subst, arith}
use Rattle.inet_sum.specs.Stands.{FoldAndLength}
use Rattle.gso.specs.Sums.{AreSums}
use Rattle.gso.proofs.Chunks.{sums_more, sums_close}
use Rattle.gso.proofs.sums.Sums.take_in.Goals as goal

pub returns-then-len-m-clause-sums : goal.returns-then-len-m-clause-sums
returns-then-len-m-clause-sums c = λ f h.
    let s = c.args.self.now in
    let g : List ℕ = f ++ c.args.bytes.now in
    subst (λ (z : List FoldAndLength). AreSums c.args.m z c.new-self.result g) (sym c.push.ensures.items)
    (sums_close c.args.m s.parts.items c.add.new.self c.new-self.result g (omega (arith, c.if-len-m.true, c.len-then-len-lt-KEPT.ensures.len)) c.new-self.ensures.sum
    (sums_more c.args.m s.parts.items s.rest c.add.new.self c.args.bytes.now f c.add.ensures.sum h))

pub returns-else-len-lt-KEPT-clause-sums : goal.returns-else-len-lt-KEPT-clause-sums
returns-else-len-lt-KEPT-clause-sums c = λ f h. sums_more c.args.m c.args.self.now.parts.items c.args.self.now.rest c.add.new.self c.args.bytes.now f c.add.ensures.sum h
