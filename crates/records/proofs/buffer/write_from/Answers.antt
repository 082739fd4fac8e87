use Rattle.std.proofs.Common.{List, ℕ, ◌≡◌, ◌≤◌, ◌++◌, ◌-◌, length, take, drop, sym, ap, ◌∙◌, subst, arith}
use Rattle.std.proofs.lemmas.Result.{err_from_is_err_and}
use Rattle.std.proofs.lemmas.List.{drop-append-le, take_all, length-drop}
use Rattle.off_io.specs.Content.{AppendsPrefix}
use Rattle.off_io.proofs.Appending.{prefix_more}
use Rattle.frags.specs.PieceList.{bytes_of, piece_bytes}
use Rattle.std.specs.List.{flat_map}
use Rattle.skb.specs.SkbState.{SkbState, head_bytes, head_size, buffer_bytes}
use Rattle.records.proofs.Slices.{pieces_are}
use Rattle.records.proofs.Writing.{stopped, written}
use Rattle.records.proofs.buffer.write_from.Goals as goal

-- what is behind `at` of a buffer, where that is in its head
behind_is : (s : SkbState) (head : List ℕ) (at : ℕ) → head ≡ head_bytes s → length head ≡ head_size s → at ≤ head_size s
    → take (length head - at) (drop at head) ++ flat_map piece_bytes s.rest ≡ drop at (buffer_bytes s)
behind_is s head at e l h =
    ap (λ (z : List ℕ). take (length head - at) (drop at head) ++ z) (pieces_are s.rest)
    ∙ ap (λ (z : List ℕ). z ++ bytes_of s.rest) (take_all (length head - at) (drop at head) (omega (arith, length-drop at head)))
    ∙ ap (λ (z : List ℕ). drop at z ++ bytes_of s.rest) e ∙ sym (drop-append-le at (head_bytes s) (bytes_of s.rest) (omega (arith, h, l, ap length e)))

pub returns-in_err-write_all : goal.returns-in_err-write_all
returns-in_err-write_all g c =
    let p = err_from_is_err_and c.from_residual.result c.from_residual.ensures.1 in
    let s = c.args.frame.now in
    let head = c.head-head.result.now in
    let is = behind_is s head c.args.at c.head-head.ensures.bytes c.head-head.ensures.size c.requires.inside in
    let e = c.in_err-write_all.ensures in
    let err = subst (AppendsPrefix _ _) is (prefix_more _ _ (take (length head - c.args.at) (drop c.args.at head)) (flat_map piece_bytes s.rest) e.err) in
    record { writes = stopped c.from_residual.result _ _ _ _ _ _ p.0 _ p.1 err (omega arith) e.cause }

pub returns : goal.returns
returns g c =
    let s = c.args.frame.now in
    let head = c.head-head.result.now in
    let e = c.in_ok-write_all.ensures in
    let is = behind_is s head c.args.at c.head-head.ensures.bytes c.head-head.ensures.size c.requires.inside in
    record { writes = written c.write_pieces.result _ _ _ _ _ _ _ _ _ is e.ok e.cause.later c.write_pieces.ensures.writes }
