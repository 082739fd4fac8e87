use Rattle.std.proofs.Common.{◌≡◌, ℕ, ◌*◌, ◌++◌, ◌∙◌, List, take, drop, sym, ap, subst, arith, append-nil}
use Rattle.std.proofs.lemmas.List.{take-append-drop}
use Rattle.frags.specs.declared.pieces.Piece.{Piece}
use Rattle.frags.specs.PieceList.{bytes_of}
use Rattle.skb.specs.SkbState.{buffer_bytes}
use Rattle.gso_cutter.specs.Merged.{IsAt}
use Rattle.gso_cutter.specs.Opening.{Enough}
use Rattle.gso_cutter.proofs.merged.Merged.new.Goals.{After-new-pieces}
use Rattle.gso_cutter.proofs.merged.Merged.new.Goals as goal

-- no segment was given, and no piece stands behind the buffer
at_start : (c : After-new-pieces)
    → IsAt (buffer_bytes c.args.skb) (record { skb = c.args.skb; pieces = c.new-pieces.result; cut = c.args.cut; sums = c.args.sums; i = 0 })
at_start c =
    let f : List ℕ = buffer_bytes c.args.skb in
    let at : ℕ = c.args.cut.layout.payload_at in
    let zero : 0 * c.args.cut.m ≡ 0 = omega arith in
    record {
      in_bytes = c.requires.ready.in_bytes;
      short = c.requires.ready.short;
      of = c.requires.ready.of;
      bytes = ap (λ (z : List Piece). f ++ bytes_of z) c.new-pieces.ensures.empty ∙ append-nil f ∙ sym (take-append-drop at f)
          ∙ ap (λ (z : ℕ). take at f ++ drop z (drop at f)) (sym zero);
    }

pub returns-clause-at : goal.returns-clause-at
returns-clause-at c = at_start (goal.at.returns-clause-at c).After-new-pieces

pub invariant_of-result : goal.invariant_of-result
invariant_of-result c = record {
  frame = buffer_bytes c.args.skb;
  at = at_start (goal.at.invariant_of-result c).After-new-pieces;
  front = c.requires.ready.front;
  closed = λ e. (c.new-pieces.ensures.empty, c.requires.least);
  enough = subst Enough (sym c.new-pieces.ensures.empty) tt;
  within = omega arith;
  sums = c.requires.ready.known;
}
