use Rattle.std.proofs.Common.{◌-◌, ◌≤◌, length, ap, sym, ◌∙◌, arith}
use Rattle.std.specs.Prelude.{◌==◌, ◌%◌}
use Rattle.inet_sum.specs.Sum.{folded, joined_fold}
use Rattle.frame_layout.proofs.Whole.{tcp_right}
use Rattle.frame_layout.proofs.sums.is_tcp_summed.Goals as goal

pub returns : goal.returns
returns c = record {
  summed = λ f s.
      let front = c.args.front.now in
      let h = front.head.now in
      let at = c.args.at in
      let end = front.end in
      let long : length h ≤ length f = omega (arith, s.long, front.long) in
      c.is_full.ensures.full
      ∙ tcp_right h f c.args.ip at end (front.len - at) (folded c.with_behind.result) (folded c.carried_front-own.result)
      c.requires.inside front.inside long c.requires.there (ap (λ n. n - at) (sym s.long)) s.begins
      (omega (arith, c.checksum-field.ensures.field, c.if-field.false, c.checksum-field.type_inv))
      (c.with_behind.ensures.fold ∙ ap (λ z. joined_fold ((end - at) % 2 == 1) (folded c.carried_front-own.result) z) s.fold)
      c.carried_front-own.ensures.fold;
}
