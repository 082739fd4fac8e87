use Rattle.std.proofs.Common.{◌≡◌, ◌∙◌, true, false, length, take, sym, bytes_eq}
use Rattle.std.proofs.lemmas.Slice.Eq.{bytes_eq-Decides}
use Rattle.comparing.proofs.Passing.{own_front}
use Rattle.comparing.proofs.bytes.Bytes.pass.Goals as goal

pub returns-else-eq-clause-other : goal.returns-else-eq-clause-other
returns-else-eq-clause-other c = λ z some e.
    let own = c.take-own.result.now in
    let bytes = c.args.bytes.now in
    let same : bytes_eq own (take (length own) bytes) ≡ true
    = (bytes_eq-Decides own (take (length own) bytes)).1 (own_front own bytes c.args.self.now c.take-own.new.self c.take-own.ensures.bytes c.take-own.ensures.most e) in
    let t : false ≡ true = sym c.if-eq.false ∙ c.eq.ensures ∙ same in
    absurd cc
