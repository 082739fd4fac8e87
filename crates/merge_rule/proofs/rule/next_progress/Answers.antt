use Rattle.std.proofs.Common.{ℕ, List, ◌≤◌, ◌-◌, ◌+◌, refl, ap, sym, subst}
use Rattle.frame_layout.specs.Headers.{ip_count}
use Rattle.frame_layout.specs.declared.layout.Header.{Header}
use Rattle.merge_rule.specs.Runs.{AreNextModes}
use Rattle.merge_rule.proofs.Heads.{headers_in, progress_by_head}
use Rattle.merge_rule.proofs.rule.next_progress.Goals as goal

pub stays_open-requires : goal.stays_open-requires
stays_open-requires c = record { there = headers_in c.args.layout.now _ _ c.requires.placed c.requires.next refl }

pub next_modes-requires : goal.next_modes-requires
next_modes-requires c = record {
  first = headers_in c.args.layout.now _ _ c.requires.placed c.requires.first c.headers.ensures.headers;
  next = headers_in c.args.layout.now _ _ c.requires.placed c.requires.next c.headers.ensures.headers;
  few = subst (λ z. ip_count z ≤ 2) (sym c.headers.ensures.headers) c.requires.placed.few;
}

pub returns : goal.returns
returns c = record {
  progress = λ f g hf kg.
      progress_by_head c.args.layout.now c.requires.placed c.args.first.now c.args.first_len c.args.next.now c.args.next_len f g hf kg c.requires.first
      c.args.more c.args.progress.now c.stays_open.result (c.args.progress.now.total + (c.args.next_len - c.payload_at.result)) c.next_modes.result
      c.requires.next c.stays_open.ensures.open
      (ap (λ (z : ℕ). c.args.progress.now.total + (c.args.next_len - z)) c.payload_at.ensures.place)
      (subst (λ (z : List Header). AreNextModes c.args.first.now c.args.more c.args.next.now z c.args.progress.now.modes c.next_modes.result)
      c.headers.ensures.headers c.next_modes.ensures.modes);
}
