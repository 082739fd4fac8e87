use Rattle.std.proofs.Common.{◌+◌, ◌++◌, List, ℕ, get_or, drop, Bool, sym, ap, ◌∙◌, arith}
use Rattle.std.specs.Prelude.{◌&&◌}
use Rattle.std.proofs.lemmas.List.{drop_more}
use Rattle.frame_layout.specs.declared.layout.Header.{Header}
use Rattle.frame_layout.specs.declared.layout.Layer.TheVariants.{Ethernet}
use Rattle.offload_model.specs.Merged.{modes_behind}
use Rattle.segment_rule.specs.Modes.{are_bits_lawful}
use Rattle.segment_rule.proofs.modes.are_modes_lawful.Goals as goal

pub returns-then-not-is_bit_lawful : goal.returns-then-not-is_bit_lawful
returns-then-not-is_bit_lawful c = record {
  bits = λ rest.
      let f : List ℕ = c.args.head.now ++ rest in
      let hs : List Header = c.args.headers.now in
      let i : ℕ = c.loop-header.header-index in
      let d : Header = record { layer = Ethernet; at = 0 } in
      let behind : Bool = are_bits_lawful (modes_behind (get_or hs i d).layer c.loop-header.left) f (drop (i + 1) hs) in
      ap (λ b. b && behind) (sym c.if-not-is_bit_lawful.true ∙ c.is_bit_lawful.ensures.bit rest)
      ∙ ap (are_bits_lawful c.loop-header.left f) (sym (drop_more hs i d (omega arith)))
      ∙ c.loop-header.invariant rest;
}
