use Rattle.std.proofs.Common.{◌-◌, length}
use Rattle.check_totals.specs.Counts.{tap_plus}
use Rattle.check_totals.proofs.Adding.{IsAdding}
use Rattle.check_totals.proofs.totals.add_taps.Given as goal

abbrev pub invariant-taps : goal.invariant-taps
invariant-taps l = IsAdding tap_plus l.tap l.initial.totals l.others l.totals

abbrev pub decreases-taps : goal.decreases-taps
decreases-taps l = length l.initial.totals - l.tap
