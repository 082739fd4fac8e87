use Rattle.std.proofs.Common.{◌≡◌, ◌∙◌, ap}
use Rattle.std.proofs.lemmas.Result.{IfOk-weaker}
use Rattle.clap.specs.Words.{App, with_subcommand}
use Rattle.offload_words.proofs.commands.reading_commands.Goals as goal

-- the same subcommand with the same others
same : {a b s t : App} → a ≡ b → s ≡ t → with_subcommand a s.top ≡ with_subcommand b t.top
same {a} {b} {s} {t} p q = ap (λ z. with_subcommand z s.top) p ∙ ap (λ z. with_subcommand b z.top) q

pub returns : goal.returns
returns c =
    let merge = c.in_ok-merge.ensures.app ∙ same c.program.ensures.app c.in_ok-merge_subcommand.ensures.app in
    let segment = c.in_ok-segment.ensures.app ∙ same merge c.in_ok-segment_subcommand.ensures.app in
    let all = same segment c.in_ok-check_subcommand.ensures.app in
    record { app = IfOk-weaker c.with_command-3.result _ _ (λ _ e. e ∙ all) c.with_command-3.ensures.app }
