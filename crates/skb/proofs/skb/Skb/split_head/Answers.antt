use Rattle.std.proofs.Common.{◌≡◌, ◌+◌, ◌∙◌, ◌++◌, ◌∷◌, [], List, ap, sym, arith}
use Rattle.frags.specs.declared.pieces.Piece.{Piece}
use Rattle.skb.specs.SkbState.{SkbState, buffer_bytes, head_size}
use Rattle.skb.proofs.Cutting.{cut_head}
use Rattle.skb.proofs.skb.Skb.split_head.Goals as goal

pub returns-clause-bytes : goal.returns-clause-bytes
returns-clause-bytes c =
    let s = c.self.inside in
    let f : SkbState = record { head = s.head; from = s.from; to = s.to; rest = s.rest } in
    let u = ap head_size c.self.view_is in
    let x : Piece = record { part = c.replace_with-part.result; from = s.from + c.args.at; to = s.to } in
    let e : c.finish.result ≡ x ∷ s.rest =
    c.finish.ensures.pieces ∙ c.append.ensures.appended ∙ ap (λ (z : List Piece). z ++ c.take.result)
    (c.push.ensures.pushed ∙ ap (λ (z : List Piece). z ++ x ∷ []) c.in-Ok.ensures.empty)
    ∙ ap (λ (z : List Piece). x ∷ z) c.take.ensures.taken in
    ap buffer_bytes (sym c.self.view_is) ∙ cut_head f c.args.at c.replace_with-part.new.dest c.replace_with-part.result
    c.take.new.self c.finish.result c.replace_with-part.ensures (omega arith) c.take.ensures.empty e
