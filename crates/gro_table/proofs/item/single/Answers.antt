use Rattle.std.proofs.Common.{◌≡◌, ◌∷◌, [], ◌++◌, ◌∙◌, List, length, refl, ap, inl, arith}
use Rattle.raw_block.specs.Views.{SoleState}
use Rattle.frags.specs.Account.{Keeps, both, of_outcomes, soles_home, receipts_held}
use Rattle.skb.specs.SkbState.{of_buffer}
use Rattle.gro_table.specs.Held.{of_packets}
use Rattle.gro_table.proofs.item.single.Goals as goal

pub returns-clause-holds : goal.returns-clause-holds
returns-clause-holds c =
    let p = c.args.first in
    let o = c.keep_sole-2.new.self in
    let two : o.soles ≡ p.spare1 ∷ p.spare2 ∷ [] =
    c.keep_sole-2.ensures.soles ∙ ap (λ (z : List SoleState). z ++ p.spare2 ∷ []) (c.keep_sole.ensures.soles ∙ ap (λ (z : List SoleState). z ++ p.spare1 ∷ []) c.requires.empty.0) in
    let none : o.receipts ≡ [] = c.keep_sole-2.ensures.receipts ∙ c.keep_sole.ensures.receipts ∙ c.requires.empty.1 in
    let kept : Keeps (of_packets (p ∷ [])) (both (of_buffer p.skb) (of_outcomes o)) = λ t m.
    let e = ap (soles_home t.blocks m) two in
    let f = ap (receipts_held t m) none in
    (omega arith, omega arith) in
    record {
      front = c.requires.held.0.front;
      count = omega (arith, ap length two, ap length none);
      soles = omega (arith, ap length two);
      account = (p ∷ [], ((p.skb.head, ([], (inl refl, refl, refl))), kept));
      shared = λ s. kept;
      least = λ w h z. z.0;
    }
