use Rattle.std.proofs.Common.{◌+◌, [], ◌∷◌, ap, sym, ◌∙◌}
use Rattle.frame_layout.specs.declared.layout.Layer.TheVariants.{Gre, KeyedGre}
use Rattle.frame_layout.specs.Shape.{network_from, inner_from, gre_from}
use Rattle.frame_layout.specs.Found.{in_front}
use Rattle.frame_layout.proofs.Readers.{gre_keyed, gre_plain, gre_not, found_behind}
use Rattle.frame_layout.proofs.read.generic.Goals as goal

pub returns-then-is_keyed : goal.returns-then-is_keyed
returns-then-is_keyed c = record {
  found = let f = c.args.frame.now in
      found_behind c.args.found.now.items c.push.new.self.items c.encapsulated.new.found.items
      (record { layer = KeyedGre; at = c.args.at } ∷ []) c.encapsulated.result
      (network_from f (inner_from f) c.protocol.result (c.args.at + 8)) (gre_from f c.args.at) c.push.ensures.items
      (gre_keyed f c.args.at (sym c.is_keyed.ensures.there ∙ c.if-is_keyed.true)
      ∙ ap (λ z. in_front (record { layer = KeyedGre; at = c.args.at } ∷ []) (network_from f (inner_from f) z (c.args.at + 8))) (sym c.protocol.ensures.field))
      c.encapsulated.ensures.found;
}

pub returns-then-not-is_plain : goal.returns-then-not-is_plain
returns-then-not-is_plain c = record {
  found = gre_not c.args.frame.now c.args.at (sym c.is_keyed.ensures.there ∙ c.if-is_keyed.false)
      (sym c.is_plain.ensures.there ∙ c.if-not-is_plain.true);
}

pub returns : goal.returns
returns c = record {
  found = let f = c.args.frame.now in
      found_behind c.args.found.now.items c.push-2.new.self.items c.encapsulated-2.new.found.items
      (record { layer = Gre; at = c.args.at } ∷ []) c.encapsulated-2.result
      (network_from f (inner_from f) c.protocol-2.result (c.args.at + 4)) (gre_from f c.args.at) c.push-2.ensures.items
      (gre_plain f c.args.at (sym c.is_plain.ensures.there ∙ c.if-not-is_plain.false)
      ∙ ap (λ z. in_front (record { layer = Gre; at = c.args.at } ∷ []) (network_from f (inner_from f) z (c.args.at + 4))) (sym c.protocol-2.ensures.field))
      c.encapsulated-2.ensures.found;
}
