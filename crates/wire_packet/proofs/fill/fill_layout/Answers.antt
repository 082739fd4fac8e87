use Rattle.std.proofs.Common.{◌≡◌, ◌++◌, ◌≤◌, ◌∙◌, ℕ, List, length, take, drop, ap, subst, arith}
use Rattle.std.proofs.lemmas.List.{length-take-le}
use Rattle.frags.specs.PieceList.{bytes_of}
use Rattle.frame_layout.specs.declared.layout.Header.{Header}
use Rattle.skb.specs.SkbState.{buffer_bytes, head_bytes}
use Rattle.wire_model.specs.Filling.{fates_of, fill_sums, no_header}
use Rattle.wire_fill.specs.Fated.{IsFated}
use Rattle.wire_packet.proofs.Fillings.{front_taken}
use Rattle.wire_packet.proofs.fill.fill_layout.Goals.{After-fill_sums-fates}
use Rattle.wire_packet.proofs.fill.fill_layout.Goals as goal

-- the row that was copied, and what is behind it
joined : (c : After-fill_sums-fates) → c.copy_from_slice.new.self ++ drop c.payload_at-n.result (buffer_bytes c.args.skb.now) ≡ buffer_bytes c.args.skb.now
joined c =
    let s = c.args.skb.now in
    let n = c.payload_at-n.result in
    let h : List ℕ = head_bytes s in
    let within : n ≤ length h = omega (arith, c.payload_at-n.ensures.place, c.requires.within, ap length c.head.ensures.bytes, c.head.ensures.size) in
    ap (λ (z : List ℕ). z ++ drop n (buffer_bytes s)) (c.copy_from_slice.ensures.after ∙ ap (take n) c.head.ensures.bytes)
    ∙ front_taken h (bytes_of s.rest) n within

row_long : (c : After-fill_sums-fates) → length c.copy_from_slice.new.self ≡ c.payload_at-n.result
row_long c =
    let n = c.payload_at-n.result in
    ap length c.copy_from_slice.ensures.after
    ∙ length-take-le n c.head.result.now (omega (arith, c.payload_at-n.ensures.place, c.requires.within, c.head.ensures.size))

pub returns-clause-bytes : goal.returns-clause-bytes
returns-clause-bytes c =
    let s = c.args.skb.now in
    let n = c.payload_at-n.result in
    let f : List ℕ = buffer_bytes s in
    let at = goal.at.returns-clause-bytes c in
    c.put_front.ensures.bytes
    ∙ ap (λ (k : ℕ). c.fill_sums-fates.new.head ++ drop k f) (c.fill_sums-fates.auto.head ∙ row_long at.After-fill_sums-fates)
    ∙ c.fill_sums-fates.ensures.filled (drop n f) c.sum_from-payload.ensures.sum
    ∙ ap (λ (hs : List Header). fill_sums c.args.all no_header hs (c.copy_from_slice.new.self ++ drop n f)) c.headers.ensures.headers
    ∙ ap (fill_sums c.args.all no_header c.args.layout.now.headers) (joined at.After-fill_sums-fates)

pub returns-clause-fates : goal.returns-clause-fates
returns-clause-fates c =
    let n = c.payload_at-n.result in
    let f : List ℕ = buffer_bytes c.args.skb.now in
    let at = goal.at.returns-clause-fates c in
    subst (λ z. IsFated z c.fill_sums-fates.result)
    (ap (λ (hs : List Header). fates_of c.args.all no_header hs (c.copy_from_slice.new.self ++ drop n f)) c.headers.ensures.headers
    ∙ ap (fates_of c.args.all no_header c.args.layout.now.headers) (joined at.After-fill_sums-fates))
    (c.fill_sums-fates.ensures.fates (drop n f) c.sum_from-payload.ensures.sum)
