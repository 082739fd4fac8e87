use Rattle.std.proofs.Common.{ℕ, List, ◌++◌, append-nil, ◌≡◌, ◌+◌, length, ◌-◌, refl, arith, ap, subst, sym, ◌∙◌, [], ◌∷◌, length-append}
use Rattle.std.specs.List.{sum_by}
use Rattle.std.proofs.lemmas.List.Sums.{sum_by-cons, sum_by_push}
use Rattle.raw_block.specs.Views.{SoleState}
use Rattle.block_pool.specs.PoolState.{weighed}
use Rattle.frags.specs.PieceList.{size_of, bytes_of}
use Rattle.frags.specs.declared.pieces.Piece.{Piece}
use Rattle.frags.proofs.PieceBytes.{size_of-append}
use Rattle.reading.specs.Laid.{MarkedFrom, WholeFrom}
use Rattle.reading.proofs.Laying.{whole_last, marked_at_start}
use Rattle.reading.proofs.Filling.{bytes_more, data_zero}
use Rattle.reading.proofs.blocks.build_pieces.Goals as goal

pub loop-left-preserved : goal.loop-left-preserved
loop-left-preserved c =
    let l = c.loop-left in
    let i = l.invariant in
    let next = c.next_block-block.ensures.next in
    let marks = subst (MarkedFrom (c.args.first + length l.builder.pieces)) next i.marks in
    let p : Piece = record { part = c.share.result; from = 0; to = c.min-count.result } in
    let pushed = c.push.ensures.pushed in
    let longer = ap length pushed in
    let bigger = ap size_of pushed in
    let one = length-append l.builder.pieces (p ∷ []) in
    let sum = size_of-append l.builder.pieces (p ∷ []) in
    let shorter = ap length next in
    let least = c.min-count.ensures in
    record {
      whole = subst (WholeFrom c.args.first) (sym pushed) (whole_last c.args.first l.builder.pieces p i.whole c.share.ensures.whole (c.share.ensures.same.2 ∙ marks.0));
      marks = marked_at_start (c.args.first + length l.builder.pieces + 1) (c.args.first + length c.push.new.self.pieces) c.next_block-block.new.hold.items (omega (arith, longer, one)) marks.1;
      count = omega (arith, i.count, longer, one, least);
      size = omega (arith, i.size, bigger, sum, least);
      bytes = bytes_more l.builder.pieces c.push.new.self.pieces p l.hold.items c.next_block-block.new.hold.items c.next_block-block.result l.left c.min-count.result
          (l.left - c.min-count.result) next pushed c.share.ensures.same.1 refl refl (omega (arith, least)) (omega (arith, least)) ∙ i.bytes;
      rest = omega (arith, i.rest, longer, one, shorter);
      named = λ h. omega (
        arith,
        i.named h,
        ap (sum_by (λ (q : Piece). h q.part.life.block)) pushed,
        sum_by_push (λ (q : Piece). h q.part.life.block) l.builder.pieces p,
        ap (weighed h) next,
        sum_by-cons (λ (s : SoleState). h s.block) c.next_block-block.result c.next_block-block.new.hold.items,
        ap h c.share.ensures.same.0,
      );
      room = omega (arith, i.room, c.push.ensures.room, least);
      capacity = omega (arith, i.capacity, c.next_block-block.ensures.capacity);
    }

pub returns-clause-bytes : goal.returns-clause-bytes
returns-clause-bytes c =
    let l = c.loop-left in
    let ps = l.builder.pieces in
    let none : l.left ≡ 0 = omega (arith, c.loop-left-test.false) in
    ap bytes_of c.finish.ensures.pieces ∙ sym (append-nil (bytes_of ps)) ∙ ap (λ (z : List ℕ). bytes_of ps ++ z) (sym (data_zero 0 l.left l.hold.items none)) ∙ l.invariant.bytes
