use Rattle.std.proofs.Common.{◌≡◌, ◌∙◌, ℕ, ◌≤◌, ◌++◌, List, length, take, drop, sym, ap, arith}
use Rattle.std.proofs.lemmas.List.{take-append-le, take-append-drop, length-take-le}
use Rattle.frags.specs.PieceList.{bytes_of}
use Rattle.skb.specs.SkbState.{head_bytes, buffer_bytes}
use Rattle.wire_packet.proofs.front.front_bytes.Goals as goal

pub returns-clause-joined : goal.returns-clause-joined
returns-clause-joined c =
    let s = c.args.skb.now in
    let h : List ℕ = head_bytes s in
    let n : ℕ = c.min.result in
    let same : c.in_bytes.result.now ≡ take n h = c.in_bytes.ensures.same ∙ ap (take n) c.head-bytes.ensures.bytes in
    let within : n ≤ length h = omega (arith, c.min.ensures, ap length c.head-bytes.ensures.bytes) in
    let front : take n h ≡ take n (buffer_bytes s) = sym (take-append-le n h (bytes_of s.rest) within) in
    let long : length c.in_bytes.result.now ≡ n = ap length same ∙ length-take-le n h within in
    sym (take-append-drop n (buffer_bytes s))
    ∙ ap (λ (z : List ℕ). z ++ drop n (buffer_bytes s)) (sym (same ∙ front))
    ∙ ap (λ (z : ℕ). c.in_bytes.result.now ++ drop z (buffer_bytes s)) (sym long)
