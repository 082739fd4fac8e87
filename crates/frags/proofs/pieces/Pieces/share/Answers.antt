use Rattle.std.proofs.Common.{◌≡◌, ℕ, ◌<◌, false, List, length, get_or, map, arith, ap, sym, ◌∙◌, subst}
use Rattle.std.proofs.lemmas.List.{length-map}
use Rattle.frags.specs.Gifts.{worn, kept, given, kept_first, given_first}
use Rattle.frags.specs.PieceList.{bytes_of, size_of, pieces_held, AllFit}
use Rattle.frags.specs.declared.pieces.Piece.{Piece}
use Rattle.frags.proofs.Shares.{kept_first-length, kept_first-at, kept_first-all, given_first-all, size_of-kept}
use Rattle.frags.proofs.Shares.{size_of-given, bytes_of-kept, bytes_of-given, AllFit-kept, AllFit-given, worn-at}
use Rattle.frags.proofs.Shares.{kept_step, given_step, share_sums}
use Rattle.frags.proofs.pieces.Pieces.share.Goals.{After-index_mut-piece, After-loop-i}
use Rattle.frags.proofs.pieces.Pieces.share.Goals as goal

pub index_mut-piece-requires : goal.index_mut-piece-requires
index_mut-piece-requires c =
    let i = c.loop-i.invariant in
    let k = ap length i.kept ∙ kept_first-length c.loop-i.i c.args.self.now in
    omega arith

-- the piece that is shared in this turn
next : (c : After-index_mut-piece) → c.index_mut-piece.result.now ≡ get_or c.args.self.now c.loop-i.i c.index_mut-piece.result.now
next c =
    let q : Piece = c.index_mut-piece.result.now in
    c.index_mut-piece.ensures.value ∙ ap (λ (z : List Piece). get_or z c.loop-i.i q) c.loop-i.invariant.kept ∙ kept_first-at c.loop-i.i c.args.self.now q

pub give_share-part-requires : goal.give_share-part-requires
give_share-part-requires c = record {
  fresh = let q : Piece = c.index_mut-piece.result.now in
      let i = c.loop-i.invariant in
      let e = next (goal.at.give_share-part-requires c).After-index_mut-piece in
      λ h. worn-at c.args.self.now c.loop-i.i q (sym c.is_worn.ensures.worn ∙ c.if-is_worn.false) (omega arith) (sym (ap (λ (z : Piece). z.part.weight) e) ∙ h);
}

pub loop-i-preserved : goal.loop-i-preserved
loop-i-preserved c =
    let q : Piece = c.index_mut-piece.result.now in
    let i = c.loop-i.invariant in
    let lt : c.loop-i.i < length c.args.self.now = omega arith in
    let e = next (goal.at.loop-i-preserved c).After-index_mut-piece in
    record {
      kept = kept_step c.args.self.now c.loop-i.self-inside.items.items c.loop-i.i q c.give_share-part.new.part i.kept e
          c.give_share-part.ensures.left lt;
      given = c.push_back_reserved.ensures.items ∙ given_step c.args.self.now c.loop-i.items.items c.loop-i.i q
          c.give_share-part.result i.given e c.give_share-part.ensures.share lt;
      all = i.all;
      room = omega arith;
      so_far = omega arith;
      size = i.size;
    }

all : (c : After-loop-i) → c.loop-i.i ≡ length c.args.self.now
all c =
    let i = c.loop-i.invariant in
    omega arith

all_kept : (c : After-loop-i) → c.loop-i.self-inside.items.items ≡ map kept c.args.self.now
all_kept c = c.loop-i.invariant.kept ∙ ap (λ (k : ℕ). kept_first k c.args.self.now) (all c) ∙ kept_first-all c.args.self.now

all_given : (c : After-loop-i) → c.loop-i.items.items ≡ map given c.args.self.now
all_given c = c.loop-i.invariant.given ∙ ap (λ (k : ℕ). given_first k c.args.self.now) (all c) ∙ given_first-all c.args.self.now

sound : (c : After-loop-i) → worn c.args.self.now ≡ false
sound c = sym c.is_worn.ensures.worn ∙ c.if-is_worn.false

fit : (c : After-loop-i) → AllFit c.args.self.now
fit c = subst AllFit c.self.view_is c.self.invariant.2

pub invariant_of-self : goal.invariant_of-self
invariant_of-self c =
    let i = c.loop-i.invariant in
    let z = ap size_of c.self.view_is in
    let y = c.self.invariant in (
      i.size ∙ sym (size_of-kept c.args.self.now) ∙ ap size_of (sym (all_kept c)),
      omega arith,
      subst AllFit (sym (all_kept c)) (AllFit-kept c.args.self.now (fit c) (sound c)),
    )

pub invariant_of-result : goal.invariant_of-result
invariant_of-result c =
    let i = c.loop-i.invariant in
    let z = ap size_of c.self.view_is in
    let y = c.self.invariant in (
      i.size ∙ sym (size_of-given c.args.self.now) ∙ ap size_of (sym (all_given c)),
      omega arith,
      subst AllFit (sym (all_given c)) (AllFit-given c.args.self.now (fit c) (sound c)),
    )

pub returns-clause-share : goal.returns-clause-share
returns-clause-share c = (sound c, all_kept c, all_given c)

pub returns-clause-sums : goal.returns-clause-sums
returns-clause-sums c = λ t m.
    let a = ap (pieces_held t m) (all_kept c) in
    let b = ap (pieces_held t m) (all_given c) in
    let s = share_sums t m c.args.self.now (fit c) (sound c) in
    omega arith

pub returns-clause-count : goal.returns-clause-count
returns-clause-count c = (ap length (all_kept c) ∙ length-map c.args.self.now kept, ap length (all_given c) ∙ length-map c.args.self.now given)

pub returns-clause-sizes : goal.returns-clause-sizes
returns-clause-sizes c = (ap size_of (all_kept c) ∙ size_of-kept c.args.self.now, ap size_of (all_given c) ∙ size_of-given c.args.self.now)

pub returns-clause-bytes : goal.returns-clause-bytes
returns-clause-bytes c = (ap bytes_of (all_kept c) ∙ bytes_of-kept c.args.self.now, ap bytes_of (all_given c) ∙ bytes_of-given c.args.self.now)
