use Rattle.std.proofs.Common.{◌≡◌, ℕ, ◌+◌, ◌*◌, ◌%◌, ◌^◌, get_or, sym, ap, ◌∙◌, arith}
use Rattle.std.proofs.lemmas.List.Sums.{fold_more}
use Rattle.lanes.proofs.flow_queue.fold.Goals as goal

step : (h b : ℕ) → (h * 31 % 4294967296 + b) % 4294967296 ≡ (h * 31 + b) % 4294967296
step h b = omega arith

pub loop-byte-preserved : goal.loop-byte-preserved
loop-byte-preserved c =
    let h = c.loop-byte.value in
    let xs = c.args.bytes.now in
    let i = c.loop-byte.byte-index in
    step h c.from.result ∙ ap (λ (b : ℕ). (h * 31 + b) % 4294967296) c.from.ensures
    ∙ ap (λ (v : ℕ). (v * 31 + get_or xs i 0) % 4294967296) c.loop-byte.invariant
    ∙ sym (fold_more (λ v b. (v * 31 + b) % 2 ^ 32) c.args.value xs i 0 c.loop-byte-test.true)
