use Rattle.std.proofs.Common.{arith, subst, sym}
use Rattle.std.proofs.lemmas.List.Elements.{All-from_recursion}
use Rattle.std.proofs.lemmas.Result.{err_from_is_err_and}
use Rattle.off_io.proofs.Owing.{wrote_one_more, failed_at}
use Rattle.taps.specs.Shown.{shown_text}
use Rattle.rounds.specs.Lanes.{text_bytes, IsShortText}
use Rattle.rounds.proofs.writing.write_texts.Goals as goal

pub write_text-requires : goal.write_text-requires
write_text-requires g c =
    let x = shown_text c.get.result in
    record { short = subst IsShortText (sym (c.get.ensures.text x)) (All-from_recursion IsShortText c.args.texts.now c.requires.short c.loop-i.i x (omega arith)) }

pub loop-i-preserved : goal.loop-i-preserved
loop-i-preserved g c =
    let x = shown_text c.get.result in (
      wrote_one_more (text_bytes c.args.file.now.order c.args.tap) c.args.texts.now c.loop-i.i x (omega arith) (c.get.ensures.text x) _ _ _ c.loop-i.invariant.0 c.in_ok-write_text.ensures.ok,
      omega (arith, c.in_ok-write_text.ensures.cause.later),
    )

pub returns-in_err-write_text-clause-err : goal.returns-in_err-write_text-clause-err
returns-in_err-write_text-clause-err g c =
    let p = err_from_is_err_and c.from_residual.result c.from_residual.ensures.1 in
    let x = shown_text c.get.result in
    rw p.1 (failed_at (text_bytes c.args.file.now.order c.args.tap) c.args.texts.now c.loop-i.i x (omega arith) (c.get.ensures.text x) _ _ _ c.loop-i.invariant.0 c.in_err-write_text.ensures.err)
