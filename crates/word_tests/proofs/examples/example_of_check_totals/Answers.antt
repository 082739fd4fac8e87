use Rattle.std.proofs.Common.{◌≡◌, ◌≤◌, ◌^◌, length, [], None, sym, subst, refl, arith}
use Rattle.std.specs.List.{AllByRecursion}
use Rattle.offload_model.specs.Written.{Options}
use Rattle.check_totals.specs.Counts.{Counts, IsQueueWithin, totals_of}
use Rattle.word_tests.proofs.examples.example_of_check_totals.Goals as goal

-- one queue and one tap
abbrev one : Options
one = record { budget = 1; queues = 1; spread = λ _. 0; taps = 1; snap = 1; segs = 1; filter = None }

many : length (totals_of one []).queues ≡ 1
many = refl

within : AllByRecursion (IsQueueWithin (2 ^ 50)) (totals_of one []).queues
within = (record { records = omega arith; items = omega arith; merged = omega arith; returned = omega arith }, tt)

pub write_totals-requires-clause-lanes : goal.write_totals-requires-clause-lanes
write_totals-requires-clause-lanes g c =
    subst (λ (t : Counts). length t.queues ≤ 2 ^ 12) (sym (c.in_ok-totals.ensures.made one refl refl)) (omega (arith, many))

pub write_totals-requires-clause-within : goal.write_totals-requires-clause-within
write_totals-requires-clause-within g c =
    subst (λ (t : Counts). AllByRecursion (IsQueueWithin (2 ^ 50)) t.queues) (sym (c.in_ok-totals.ensures.made one refl refl)) within
