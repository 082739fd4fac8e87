use Rattle.std.proofs.Common.{◌≡◌, ◌-◌, ◌≤◌, ◌∙◌, ℕ, drop, ap, sym, arith}
use Rattle.frags.specs.PieceList.{size_of, cut_front}
use Rattle.frags.proofs.Joining.{size_of-cut_front, cut_front-none}
use Rattle.skb.specs.SkbState.{SkbState, head_size, buffer_bytes}
use Rattle.skb.proofs.Buffers.{pull_head, pull_rest}
use Rattle.skb.proofs.skb.Skb.pull.Goals as goal

pub returns-then-n-of_head-clause-bytes : goal.returns-then-n-of_head-clause-bytes
returns-then-n-of_head-clause-bytes c =
    let s = c.self.inside in
    let f : SkbState = record { head = s.head; from = s.from; to = s.to; rest = s.rest } in
    let i = c.self.invariant in
    let n : c.args.n ≤ s.to - s.from = omega arith in
    pull_head f c.args.n i.2 i.1 n ∙ ap (λ (z : SkbState). drop c.args.n (buffer_bytes z)) c.self.view_is

pub returns-then-n-of_head-clause-rest : goal.returns-then-n-of_head-clause-rest
returns-then-n-of_head-clause-rest c =
    let a = c.args.self.now in
    let h = ap head_size c.self.view_is in
    let n : c.args.n - head_size a ≡ 0 = omega arith in
    ap (λ (z : SkbState). z.rest) c.self.view_is ∙ sym (cut_front-none a.rest c.len-have.ensures.fits)
    ∙ ap (λ (k : ℕ). cut_front k a.rest) (sym n)

pub invariant_of-self-2 : goal.invariant_of-self-2
invariant_of-self-2 c =
    let i = c.self.invariant in
    let e = ap size_of c.in_ok-cut_front.ensures.spans.1 in
    let g = size_of-cut_front (c.args.n - (c.self.inside.to - c.self.inside.from)) c.self.inside.rest in
    (omega arith, i.1, i.2, omega arith)

pub returns-clause-bytes : goal.returns-clause-bytes
returns-clause-bytes c =
    let s = c.self.inside in
    let f : SkbState = record { head = s.head; from = s.from; to = s.to; rest = s.rest } in
    let i = c.self.invariant in
    let n : s.to - s.from ≤ c.args.n = omega arith in
    pull_rest f c.cut_front.new.self c.args.n i.2 i.1 n c.in_ok-cut_front.ensures.bytes
    ∙ ap (λ (z : SkbState). drop c.args.n (buffer_bytes z)) c.self.view_is
