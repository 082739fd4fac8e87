use Rattle.std.proofs.Common.{sym, ◌∙◌, ℕ, ◌<◌, List, subst}
use Rattle.net_bytes.specs.Bytes.{byte}
use Rattle.frame_runs.specs.Lent.{packet_of}
use Rattle.frame_causes.proofs.Pairs.{none_where_mergeable}
use Rattle.frame_causes.proofs.apart.why_apart.Goals as goal

pub returns-clause-mergeable : goal.returns-clause-mergeable
returns-clause-mergeable c =
    let small = subst (λ (f : List ℕ). (k : ℕ) → byte f k < 256) c.in_bytes.ensures.same c.in_bytes.ensures.in_bytes in
    let both = none_where_mergeable (packet_of c.args.first.now) (packet_of c.args.second.now) small in
    let cause = c.pair_why.ensures.cause in (λ e. both.0 (sym cause ∙ e), λ m. cause ∙ both.1 m)
