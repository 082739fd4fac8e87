use Rattle.std.proofs.Common.{◌≡◌, ◌∙◌, ℕ, List, length, take, ap, subst, le_refl}
use Rattle.std.specs.Prelude.{Decides}
use Rattle.std.proofs.lemmas.List.{take_all}
use Rattle.skb.specs.SkbState.{buffer_bytes}
use Rattle.comparing.proofs.same.is_same.Goals as goal

pub returns : goal.returns
returns c =
    let payload = c.of_buffer-payload.result in
    record {
      same = subst (λ (z : List ℕ). Decides c.is_frame.result (buffer_bytes c.args.a.now ≡ z))
          (ap (λ (k : ℕ). take k payload) c.len-n.ensures.len ∙ take_all (length payload) payload (le_refl (length payload)) ∙ c.of_buffer-payload.ensures.all) c.is_frame.ensures.same;
    }
