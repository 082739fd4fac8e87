-- The lines that tell totals. Each ends with one line feed. Numbers are decimal, without leading zeros.
use Rattle.std.specs.Prelude.{◌++◌, ◌+◌, ℕ, List, [], ◌∷◌, codes, decimal}
use Rattle.check_totals.specs.declared.totals.QueueTotals.{QueueTotals}
use Rattle.check_totals.specs.declared.totals.TapTotals.{TapTotals}
use Rattle.check_totals.specs.Counts.{Counts, queue_sum}

-- the end of the line of a queue, and of the one of all queues
unfoldable pub numbers_of : QueueTotals → List ℕ
numbers_of x =
    codes "records " ++ decimal x.records ++ codes " items " ++ decimal x.items ++ codes " merged " ++ decimal x.merged
    ++ codes " returned " ++ decimal x.returned ++ codes "\n"

unfoldable pub queue_line : ℕ → QueueTotals → List ℕ
queue_line q x = codes "queue " ++ decimal q ++ codes ": " ++ numbers_of x

unfoldable pub tap_line : ℕ → TapTotals → List ℕ
tap_line t x = codes "tap " ++ decimal t ++ codes ": windows " ++ decimal x.windows ++ codes " bytes "
    ++ decimal x.bytes ++ codes "\n"

unfoldable pub total_line : QueueTotals → List ℕ
total_line x = codes "total: " ++ numbers_of x

-- a line for each element, which are numbered from k on
abbrev pub lines_from : {A : Type 0} → (ℕ → A → List ℕ) → ℕ → List A → List ℕ
lines_from line k [] = []
lines_from line k (x ∷ xs) = line k x ++ lines_from line (k + 1) xs

-- queue by queue, tap by tap, and the sums over the queues
abbrev pub check_lines : Counts → List ℕ
check_lines c = lines_from queue_line 0 c.queues ++ lines_from tap_line 0 c.taps ++ total_line (queue_sum c.queues)

-- of a generated capture: how many records were wanted, and how many bytes it has
unfoldable pub made_line : ℕ → ℕ → List ℕ
made_line count bytes = codes "made: records " ++ decimal count ++ codes " bytes " ++ decimal bytes ++ codes "\n"
