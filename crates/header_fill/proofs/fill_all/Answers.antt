use Rattle.std.proofs.Common.{◌≡◌, ℕ, ◌+◌, List, ◌++◌, length, sym, subst, ap, ◌∙◌, arith, length-append}
use Rattle.frame_layout.specs.Headers.{AtHeaders}
use Rattle.offload_model.specs.Mergeable.{IsLengthInRange}
use Rattle.offload_model.specs.Edits.{with_sums, with_lengths_and_sums}
use Rattle.header_fill.specs.Filled.{header_before, IsFilled}
use Rattle.frame_layout.proofs.Lemmas.{inside_all}
use Rattle.header_fill.proofs.Right.{is_filled}
use Rattle.header_fill.proofs.fill_all.Goals as goal

pub put_lengths-requires-clause-inside : goal.put_lengths-requires-clause-inside
put_lengths-requires-clause-inside c = inside_all 0 (length c.args.head.now) c.args.headers.now c.requires.laid

pub put_lengths-requires-clause-ranges : goal.put_lengths-requires-clause-ranges
put_lengths-requires-clause-ranges c =
    subst (λ n. AtHeaders (IsLengthInRange (length c.args.head.now + n)) c.args.headers.now) (sym c.len.ensures.len) c.requires.ranges

pub returns-clause-right : goal.returns-clause-right
returns-clause-right c = λ bytes s.
    let f : List ℕ = c.args.head.now ++ bytes in
    let total : length c.args.head.now + length bytes ≡ length c.args.head.now + c.len.result = omega (arith, s.1, c.len.ensures.len) in
    let filled : c.put_sums.new.head ++ bytes ≡ with_lengths_and_sums c.args.headers.now f
    = c.put_sums.ensures.summed bytes s ∙ ap (with_sums (header_before c.args.headers.now 0) c.args.headers.now) (c.put_lengths.ensures.edited bytes total) in
    subst (IsFilled c.args.headers.now f) (sym filled)
    (is_filled c.args.headers.now (length c.args.head.now) f c.requires.laid (omega (arith, length-append c.args.head.now bytes)))
