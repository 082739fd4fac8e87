use Rattle.std.proofs.Common.{◌≡◌, [], length, arith, rules}
use Rattle.comparing.proofs.Pieces.{piece_there, piece_next}
use Rattle.frags.specs.declared.pieces.Piece.{Piece}
use Rattle.comparing.proofs.bytes.opened.Goals as goal

none : Piece
none = record { part = record { life = record { names = (0, 0); block = 0 }; weight = 0; bytes = []; mark = 0 }; from = 0; to = 0 }

pub overflow_add-result : goal.overflow_add-result
overflow_add-result c =
    let e : length c.args.piece.now ≡ 0 = search rules in
    let l = piece_there c.args.piece.now c.args.skb.now c.args.next e c.requires.some in
    omega (arith, l, c.count.ensures.value)

pub returns-clause-same : goal.returns-clause-same
returns-clause-same c =
    let e : length c.args.piece.now ≡ 0 = search rules in
    let l = piece_there c.args.piece.now c.args.skb.now c.args.next e c.requires.some in
    (piece_next c.args.piece.now c.args.skb.now c.args.next none c.slice.result.now e l c.requires.fit (c.slice.ensures.bytes none)).0

pub returns-clause-some : goal.returns-clause-some
returns-clause-some c =
    let e : length c.args.piece.now ≡ 0 = search rules in
    let l = piece_there c.args.piece.now c.args.skb.now c.args.next e c.requires.some in
    (piece_next c.args.piece.now c.args.skb.now c.args.next none c.slice.result.now e l c.requires.fit (c.slice.ensures.bytes none)).1

pub slice-requires : goal.slice-requires
slice-requires c =
    let e : length c.args.piece.now ≡ 0 = search rules in
    record { within = piece_there c.args.piece.now c.args.skb.now c.args.next e c.requires.some }
