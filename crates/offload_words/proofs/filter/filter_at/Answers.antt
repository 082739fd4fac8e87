use Rattle.std.proofs.Common.{sym, ap, ◌∙◌, Some}
use Rattle.std.specs.Prelude.{option_map}
use Rattle.offload_words.specs.Filter.{filter_by, filter_in}
use Rattle.offload_words.proofs.Readings.{refused}
use Rattle.offload_words.proofs.filter.filter_at.Goals as goal

pub returns-in-None : goal.returns-in-None
unfolding filter_in
returns-in-None c = record { filter = ap filter_by (sym c.in-None.ensures.text) }

pub returns-in-Ok : goal.returns-in-Ok
unfolding filter_in
returns-in-Ok c = record { filter = ap filter_by (sym c.in-Some.ensures.text) ∙ ap (option_map Some) c.in-Ok.ensures.program }

pub returns-in-Err : goal.returns-in-Err
unfolding filter_in
returns-in-Err c = record {
  filter =
      refused c.words_fault.result
      (λ usage. ap filter_by (sym c.in-Some.ensures.text) ∙ ap (option_map Some) (c.in-Err.ensures.no_program (c.words_fault.ensures.usage usage)));
}
