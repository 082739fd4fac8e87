use Rattle.std.proofs.Common.{◌+◌, ◌++◌, List, ℕ, drop, Bool, sym, ap, ◌∙◌, arith}
use Rattle.std.specs.Prelude.{◌&&◌}
use Rattle.std.proofs.lemmas.List.{drop_more, drop_all}
use Rattle.frame_layout.specs.Candidate.{is_length_right}
use Rattle.frame_layout.specs.Headers.{all_headers}
use Rattle.frame_layout.specs.declared.layout.Header.{Header}
use Rattle.frame_layout.specs.declared.layout.Layer.TheVariants.{Ethernet}
use Rattle.wire_fill.proofs.lengths.are_lengths_right.Goals as goal

pub returns-then-not-is_length_right : goal.returns-then-not-is_length_right
returns-then-not-is_length_right c = record {
  right = λ rest.
      let f : List ℕ = c.args.head.now ++ rest in
      let hs : List Header = c.args.headers.now in
      let i : ℕ = c.loop-header.header-index in
      let d : Header = record { layer = Ethernet; at = 0 } in
      let behind : Bool = all_headers (is_length_right c.args.len f) (drop (i + 1) hs) in
      ap (λ b. b && behind) (sym c.if-not-is_length_right.true ∙ c.is_length_right.ensures.right rest)
      ∙ ap (all_headers (is_length_right c.args.len f)) (sym (drop_more hs i d (omega arith)))
      ∙ c.loop-header.invariant rest;
}

pub loop-header-preserved : goal.loop-header-preserved
loop-header-preserved c = λ rest.
    let f : List ℕ = c.args.head.now ++ rest in
    let hs : List Header = c.args.headers.now in
    let i : ℕ = c.loop-header.header-index in
    let d : Header = record { layer = Ethernet; at = 0 } in
    let behind : Bool = all_headers (is_length_right c.args.len f) (drop (i + 1) hs) in
    ap (λ b. b && behind) (sym c.if-not-is_length_right.false ∙ c.is_length_right.ensures.right rest)
    ∙ ap (all_headers (is_length_right c.args.len f)) (sym (drop_more hs i d (omega arith)))
    ∙ c.loop-header.invariant rest

pub returns : goal.returns
returns c = record {
  right = λ rest.
      let f : List ℕ = c.args.head.now ++ rest in
      ap (all_headers (is_length_right c.args.len f)) (sym (drop_all c.loop-header.header-index c.args.headers.now (omega arith)))
      ∙ c.loop-header.invariant rest;
}
