use Rattle.std.proofs.Common.{◌≡◌, ℕ, Option, Some, List, sym, ◌∙◌, subst, arith}
use Rattle.std.specs.Bool.{Decides}
use Rattle.frame_layout.specs.Key.{key_of}
use Rattle.frame_layout.specs.Plain.{plain_key}
use Rattle.frame_layout.proofs.Fronts.{same_keys}
use Rattle.frame_layout.proofs.Keys.{key_some}
use Rattle.frame_layout.proofs.Readers.{plain_is}
use Rattle.frame_layout.proofs.SameFlow.{own_long, own_key, decides_some}
use Rattle.frame_layout.proofs.same_flow.is_flow_of.Goals as goal

pub is_plain_key_same-requires-clause-next : goal.is_plain_key_same-requires-clause-next
is_plain_key_same-requires-clause-next c =
    own_long c.args.next.now c.requires.shape.0 (λ k. omega (arith, c.type_inv.next k)) c.requires.shape.1.0 c.args.layout.now c.requires.shape.1.1
    (c.is_plain.ensures.plain c.if-is_plain.true)

pub returns-then-is_plain_there : goal.returns-then-is_plain_there
returns-then-is_plain_there c = record {
  same = λ f g o s.
      let h = c.args.first.now in
      let n = c.args.next.now in
      let first : Some (plain_key h) ≡ key_of f
      = key_some h _ (sym (plain_is h (c.is_plain_there.ensures.there c.if-is_plain_there.true))) ∙ same_keys h f (λ k. omega (arith, c.type_inv.first k)) o in
      let next : Some (plain_key n) ≡ key_of g
      = own_key n c.requires.shape.0 (λ k. omega (arith, c.type_inv.next k)) c.requires.shape.1.0 c.args.layout.now c.requires.shape.1.1
      (c.is_plain.ensures.plain c.if-is_plain.true) ∙ same_keys n g (λ k. omega (arith, c.type_inv.next k)) s in
      subst (λ (z : Option (List ℕ)). Decides c.is_plain_key_same.result (z ≡ key_of g)) first
      (subst (λ (z : Option (List ℕ)). Decides c.is_plain_key_same.result (Some (plain_key h) ≡ z)) next
      (decides_some c.is_plain_key_same.result (plain_key h) (plain_key n) c.is_plain_key_same.ensures.same));
}
