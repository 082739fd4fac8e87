use Rattle.std.proofs.Common.{◌∙◌, ap, codes}
use Rattle.std.proofs.lemmas.Result.{IfOk-weaker}
use Rattle.clap.specs.Words.{App, Text, with_rule}
use Rattle.offload_words.specs.Texts.{text_rule}
use Rattle.offload_words.proofs.merge.with_merge_options.Goals as goal

pub returns-clause-app : goal.returns-clause-app
returns-clause-app c =
    let with = λ (id : Text) (app : App). with_rule app (text_rule id) in
    let filter = c.in_ok-filter.ensures.app ∙ ap (with (codes "filter")) c.in_ok-numbers.ensures.app in
    let rss = c.in_ok-rss.ensures.app ∙ ap (with (codes "rss")) filter in
    IfOk-weaker c.with_text-3.result _ _ (λ _ e. e ∙ ap (with (codes "table")) rss) c.with_text-3.ensures.app

pub with_text-requires-2 : goal.with_text-requires-2
with_text-requires-2 c = record { local = c.in_ok-filter.ensures.local }

pub with_text-requires-3 : goal.with_text-requires-3
with_text-requires-3 c = record { local = c.in_ok-rss.ensures.local }
