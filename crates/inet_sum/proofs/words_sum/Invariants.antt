use Rattle.std.proofs.Common.{◌≡◌, ◌+◌, ◌*◌, drop}
use Rattle.inet_sum.specs.Sum.{word_sum, folded, fold_of as fold_of_bytes}
use Rattle.inet_sum.proofs.words_sum.Given as goal

abbrev pub invariant-loop-i : goal.invariant-loop-i
invariant-loop-i l = record {
  fold : folded (256 * l.sum + word_sum (drop (8 * l.i) l.bytes)) ≡ fold_of_bytes l.bytes;
  none : l.i ≡ 0 → l.sum ≡ 0;
}
