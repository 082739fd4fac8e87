use Rattle.std.proofs.Common.{◌∙◌, Some, ap, sym}
use Rattle.std.specs.Prelude.{option_map}
use Rattle.offload_words.specs.Rss.{table_by}
use Rattle.offload_words.proofs.rss.table_by_text.Goals as goal

pub returns-in-None : goal.returns-in-None
returns-in-None c =
    let none = ap (λ t. table_by c.args.queues (option_map (λ t. t.now) t)) (sym c.in-None.is) in
    record { table = ap Some c.even_table.ensures.table ∙ none }
