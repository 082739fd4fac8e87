use Rattle.std.proofs.Common.{ap, ◌∙◌, List, ℕ, Option, codes}
use Rattle.std.specs.Prelude.{option_map}
use Rattle.clap.specs.Words.{first_of, found_of, rows_of}
use Rattle.offload_words.specs.Rss.{choice_by}
use Rattle.offload_words.proofs.rss.choice_at.Goals as goal

pub returns-in-Some-default : goal.returns-in-Some-default
returns-in-Some-default c =
    let queues = c.args.queues in
    let key : Option (List ℕ) = first_of (codes "rss") (rows_of (found_of c.args.matches.now)) in
    record {
      choice =
          c.toeplitz.ensures.choice
          ∙ ap (λ (k : Option (List ℕ)). choice_by queues k (option_map (λ t. t.now) c.text_at-table.result)) c.in-Some-default.ensures.text
          ∙ ap (choice_by queues key) c.text_at-table.ensures.text;
    }
