use Rattle.std.proofs.Common.{ℕ, ◌+◌, ◌≤◌, sym, ap, ◌∙◌, arith}
use Rattle.frame_runs.specs.declared.run.Run.{Run}
use Rattle.frame_runs.proofs.RunItems.{has_layout, long_is}
use Rattle.frame_runs.proofs.run.Run.frame_len.Goals as goal

pub returns-else-self-eq0-clause-len : goal.returns-else-self-eq0-clause-len
returns-else-self-eq0-clause-len g c = λ rest k.
    let run : Run = c.args.self.now in
    let p = g.F.Frame.packet c.args.first.now in
    let several : 1 ≤ run.more = omega (arith, c.if-self-eq0.false) in
    let l = has_layout run p rest k several in
    ap (λ (z : ℕ). c.headers_len.result + z) c.len-else-self-eq0.ensures.len ∙ sym (long_is run p rest k l.0 l.1 several c.headers_len.result c.headers_len.ensures.size)
