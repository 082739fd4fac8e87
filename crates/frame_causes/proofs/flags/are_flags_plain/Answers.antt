use Rattle.std.proofs.Common.{◌+◌, List, ℕ, drop, Bool, sym, ap, ◌∙◌, arith}
use Rattle.std.specs.Prelude.{◌&&◌}
use Rattle.std.proofs.lemmas.List.{drop_more, drop_all}
use Rattle.frame_layout.specs.Candidate.{are_flags_plain}
use Rattle.frame_layout.specs.Headers.{all_headers}
use Rattle.frame_layout.specs.declared.layout.Header.{Header}
use Rattle.frame_layout.specs.declared.layout.Layer.TheVariants.{Ethernet}
use Rattle.frame_causes.proofs.flags.are_flags_plain.Goals as goal

pub returns-then-not-is_plain : goal.returns-then-not-is_plain
returns-then-not-is_plain c = record {
  plain =
      let hs : List Header = c.args.headers.now in
      let i : ℕ = c.loop-header.header-index in
      let d : Header = record { layer = Ethernet; at = 0 } in
      let behind : Bool = all_headers (are_flags_plain c.args.frame.now) (drop (i + 1) hs) in
      ap (λ b. b && behind) (sym c.if-not-is_plain.true ∙ c.is_plain.ensures.plain)
      ∙ ap (all_headers (are_flags_plain c.args.frame.now)) (sym (drop_more hs i d (omega arith)))
      ∙ c.loop-header.invariant;
}

pub loop-header-preserved : goal.loop-header-preserved
loop-header-preserved c =
    let hs : List Header = c.args.headers.now in
    let i : ℕ = c.loop-header.header-index in
    let d : Header = record { layer = Ethernet; at = 0 } in
    let behind : Bool = all_headers (are_flags_plain c.args.frame.now) (drop (i + 1) hs) in
    ap (λ b. b && behind) (sym c.if-not-is_plain.false ∙ c.is_plain.ensures.plain)
    ∙ ap (all_headers (are_flags_plain c.args.frame.now)) (sym (drop_more hs i d (omega arith)))
    ∙ c.loop-header.invariant

pub returns : goal.returns
returns c = record {
  plain =
      ap (all_headers (are_flags_plain c.args.frame.now))
      (sym (drop_all c.loop-header.header-index c.args.headers.now (omega arith)))
      ∙ c.loop-header.invariant;
}
