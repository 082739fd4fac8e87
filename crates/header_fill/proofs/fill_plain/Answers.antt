use Rattle.std.proofs.Common.{◌≡◌, ℕ, ◌+◌, List, ◌++◌, length, sym, subst, ap, ◌∙◌, arith, length-append}
use Rattle.frame_layout.specs.Plain.{plain_headers}
use Rattle.offload_model.specs.Edits.{with_sums, with_lengths_and_sums}
use Rattle.header_fill.specs.Filled.{header_before, IsFilled}
use Rattle.header_fill.proofs.Right.{is_filled}
use Rattle.header_fill.proofs.fill_plain.Goals as goal

pub returns-clause-right : goal.returns-clause-right
returns-clause-right c = λ bytes s.
    let f : List ℕ = c.args.head.now ++ bytes in
    let total : length c.args.head.now + length bytes ≡ length c.args.head.now + c.len.result = omega (arith, s.1, c.len.ensures.len) in
    let filled : c.put_plain_sums.new.head ++ bytes ≡ with_lengths_and_sums plain_headers f
    = c.put_plain_sums.ensures.summed bytes s ∙ ap (with_sums (header_before plain_headers 0) plain_headers) (c.put_plain_lengths.ensures.edited bytes total) in
    subst (IsFilled plain_headers f) (sym filled)
    (is_filled plain_headers (length c.args.head.now) f c.requires.laid (omega (arith, length-append c.args.head.now bytes)))
