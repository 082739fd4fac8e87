use Rattle.std.proofs.Common.{◌≡◌, ◌-◌, ◌∙◌, ℕ, take, min, ap, arith}
use Rattle.frags.specs.PieceList.{size_of}
use Rattle.frags.proofs.Places.{size_of-keep_front}
use Rattle.skb.specs.SkbState.{SkbState, buffer_bytes, buffer_size}
use Rattle.skb.proofs.Cutting.{trimmed}
use Rattle.skb.proofs.skb.Skb.trim.Goals as goal

pub invariant_of-self-2 : goal.invariant_of-self-2
invariant_of-self-2 c =
    let i = c.self.invariant in
    let rest = c.self.inside.rest in
    let u = ap buffer_size c.self.view_is in
    let m = c.min-of_rest.ensures in
    let e = ap size_of c.in_ok-cut_back.ensures.cut.1 in
    let g = size_of-keep_front (size_of rest - c.min-of_rest.result) rest (omega arith) in
    (omega arith, omega arith, i.2, omega arith)

pub returns-clause-bytes : goal.returns-clause-bytes
returns-clause-bytes c =
    let s = c.self.inside in
    let f : SkbState = record { head = s.head; from = s.from; to = s.to; rest = s.rest } in
    let i = c.self.invariant in
    let u = ap buffer_size c.self.view_is in
    let l : c.len.result ≡ size_of s.rest = c.len.ensures.size in
    let m : c.min-of_rest.result ≡ min c.args.n (size_of s.rest) = c.min-of_rest.ensures ∙ ap (λ (z : ℕ). min c.args.n z) l in
    trimmed f c.cut_back.new.self c.args.n c.min-of_rest.result i.2 i.1 i.0 m (omega arith)
    c.in_ok-cut_back.ensures.bytes ∙ ap (λ (z : SkbState). take (buffer_size z - c.args.n) (buffer_bytes z))
    c.self.view_is
