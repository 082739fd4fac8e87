-- The end of `make`.
use Rattle.std.proofs.Common.{◌≡◌, ℕ, List, Option, Bool, true, ◌⊎◌, ⊎_elim, subst, sym}
use Rattle.std.specs.Io.KnownBytes.{Appends, Keeps}
use Rattle.std.proofs.KnownBytes.{Appends-kept}
use Rattle.off_io.specs.Content.{SaysFlushed}
use Rattle.offload_words.specs.declared.make.MakeOptions.{MakeOptions}
use Rattle.cap_make.specs.Capture.{made}
use Rattle.command_answers.specs.declared.status.Status.{Status}
use Rattle.command_answers.specs.declared.status.Status.TheVariants as statuses
use Rattle.command_answers.specs.Making.{MakeAnswers}
use Rattle.off_io.proofs.Owing.{prefix_whole}

-- all was written, and then the sink was flushed, or failed
pub made_and_flushed : (o : MakeOptions) (a b c : Option (List ℕ)) (flushed : Bool) (status : Status) → Appends a b (made o.seed o.count) → Keeps b c
    → (status ≡ statuses.Ok) ⊎ (status ≡ statuses.WriteFault) → (status ≡ statuses.WriteFault) ⊎ SaysFlushed c flushed true → MakeAnswers o a c flushed status
made_and_flushed o a b c flushed status wrote kept answer flush =
    let all : Appends a c (made o.seed o.count) = Appends-kept a b c (made o.seed o.count) wrote kept in
    let failed : status ≡ statuses.WriteFault → MakeAnswers o a c flushed status
    = λ e. subst (MakeAnswers o a c flushed) (sym e) (prefix_whole a c (made o.seed o.count) all) in
    ⊎_elim (λ ok. ⊎_elim failed (λ says. subst (MakeAnswers o a c flushed) (sym ok) (all, says)) flush) failed answer
