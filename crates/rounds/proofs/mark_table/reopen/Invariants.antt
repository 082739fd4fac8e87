use Rattle.std.proofs.Common.{◌≡◌, ◌<◌, ◌≤◌, ℕ, length}
use Rattle.rounds.specs.Table.{place_at}
use Rattle.rounds.specs.declared.mark_table.MarkState.TheVariants.{Open, Home}
use Rattle.rounds.proofs.mark_table.reopen.Given as goal

abbrev pub invariant-loop-i : goal.invariant-loop-i
invariant-loop-i l = record {
  size : length l.places ≡ length l.fn.places;
  open_so_far : (m : ℕ) → m < l.i → place_at l.places m ≡ Open;
  home_still : (m : ℕ) → l.i ≤ m → m < length l.places → place_at l.places m ≡ Home;
}
