use Rattle.std.proofs.Common.{ap, ◌∙◌, refl, lit<}
use Rattle.std.specs.Prelude.{option_and_then}
use Rattle.std.specs.Str.Parse.{ParsesUnsigned, ExplainsUnsignedError, HasUnsignedDigitsIfOk}
use Rattle.clap.specs.Words.{found_of, one_text}
use Rattle.clap.proofs.WalkLemmas.{one_text-rows}
use Rattle.offload_words.specs.Numbers.{number_of}
use Rattle.wire_words.proofs.NumberReads.{one_number}
use Rattle.wire_words.proofs.reading.number_at.Goals as goal

pub returns : goal.returns
returns c =
    let f = found_of c.args.matches.now in
    record {
      number = one_number 32 4294967295 (λ bs r. ParsesUnsigned 32 10 bs r × ExplainsUnsignedError 10 bs r × HasUnsignedDigitsIfOk bs r) (one_text f c.args.id.now) c.get_one.result
          refl (lit< tt) (λ u x g. g.0) c.get_one.ensures.none c.get_one.ensures.value
          ∙ ap (option_and_then (number_of 4294967295)) (one_text-rows f c.args.id.now);
    }
