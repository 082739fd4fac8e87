use Rattle.std.proofs.Common.{◌≡◌, ℕ, suc, ◌+◌, ◌-◌, ◌<◌, ◌∷◌, ◌++◌, List, length, drop, take, ap, subst, sym, ◌∙◌}
use Rattle.std.proofs.Common.{drop-cons, length-drop, add-one, arith}
use Rattle.std.proofs.lemmas.List.{take_rest}
use Rattle.frags.specs.PieceList.{Fits, bytes_of, size_of}
use Rattle.frags.specs.declared.pieces.Piece.{Piece}
use Rattle.frags.proofs.Copying.{copy_step, drop_both}
use Rattle.frags.proofs.Joining.{AllFit-at}
use Rattle.frags.proofs.PieceBytes.{length-piece}
use Rattle.frags.proofs.pieces.Pieces.copy_out.Goals as goal

pub bytes_in-bytes-requires : goal.bytes_in-bytes-requires
bytes_in-bytes-requires c = record {
  fits = subst Fits (sym c.index.ensures) (AllFit-at c.self.inside.items.items c.loop-i.i c.index.result.now
      c.self.invariant.2 (omega arith));
}

pub loop-i-preserved : goal.loop-i-preserved
loop-i-preserved c =
    let j = c.loop-i.invariant in
    let items : List Piece = c.self.inside.items.items in
    let q : Piece = c.index.result.now in
    let i : ℕ = c.loop-i.i in
    let b : List ℕ = c.bytes_in-bytes.result.now in
    let start : ℕ = c.min-start.result in
    let x : List ℕ = take (length b - start) (drop start b) in
    let lt : i < length items = omega arith in
    let f : Fits q = subst Fits (sym c.index.ensures) (AllFit-at items i q c.self.invariant.2 lt) in
    let d : drop i items ≡ q ∷ drop (i + 1) items = rw add-one (drop-cons items i q lt
    ∙ ap (λ (z : Piece). z ∷ drop (suc i) items) (sym c.index.ensures)) in
    let e : bytes_of (drop i items) ≡ b ++ bytes_of (drop (i + 1) items) = ap bytes_of d
    ∙ ap (λ (z : List ℕ). z ++ bytes_of (drop (i + 1) items)) (sym c.bytes_in-bytes.ensures.bytes) in
    let g : drop c.loop-i.skip (bytes_of (drop i items)) ≡ x ++ drop (c.loop-i.skip - start) (bytes_of (drop (i + 1) items)) =
    ap (λ (z : List ℕ). drop c.loop-i.skip z) e
    ∙ drop_both c.loop-i.skip b (bytes_of (drop (i + 1) items))
    ∙ ap (λ (k : ℕ). drop k b ++ drop (c.loop-i.skip - k) (bytes_of (drop (i + 1) items))) (sym c.min-start.ensures)
    ∙ ap (λ (z : List ℕ). z ++ drop (c.loop-i.skip - start) (bytes_of (drop (i + 1) items))) (sym (take_rest b start)) in
    let h = ap (λ (z : List ℕ). take c.loop-i.done c.loop-i.into ++ take (length c.loop-i.into - c.loop-i.done) z) (sym g) ∙ j.copied in
    let l = ap length c.bytes_in-bytes.ensures.bytes ∙ length-piece q f in
    let m = ap length (take_rest b start) ∙ length-drop start b in
    let s = ap size_of d in
    let z = c.copy_on-done.ensures.end in
    let y = c.copy_on-done.ensures.size in
    let a = copy_step (length c.loop-i.into) c.loop-i.done c.copy_on-done.result c.loop-i.into
    c.copy_on-done.new.into x (drop (c.loop-i.skip - start) (bytes_of (drop (i + 1) items)))
    (take (length c.args.into.now) (drop c.args.at (bytes_of items))) j.most z c.copy_on-done.ensures.written h in
    record {
      copied = ap (λ (k : ℕ). take c.copy_on-done.result c.copy_on-done.new.into
          ++ take (k - c.copy_on-done.result) (drop (c.loop-i.skip - start) (bytes_of (drop (i + 1) items)))) y ∙ a;
      within = omega arith;
      most = omega arith;
      same = y ∙ j.same;
    }
