use Rattle.std.proofs.Common.{ap, sym, ◌∙◌, ◌++◌, arith, ◌-◌}
use Rattle.cap_make.specs.Capture.{records_from}
use Rattle.cap_make.proofs.Steps.{none_owed}
use Rattle.cap_make.proofs.Taking.{taken, nothing_left}
use Rattle.cap_make.proofs.source.MadeSourceSource.read.Goals as goal

pub returns-clause-bytes : goal.returns-clause-bytes
returns-clause-bytes c =
    let s = c.self.inside in
    let n = c.take-count.result in
    let behind = records_from (s.count - s.number) s.number s.maker in
    let left = c.refill-self-inside.ensures.same ∙ ap (λ z. z ++ behind) c.take-count.ensures.rest in (
      sym c.self.view_is ∙ taken s.buffer behind c.take-count.new.into _ n c.take-count.ensures.front left,
      nothing_left s.buffer behind c.take-count.new.into _ n c.take-count.ensures.count (λ e. none_owed _ s.number s.maker (omega (arith, c.self.invariant.1 e))) left,
    )
