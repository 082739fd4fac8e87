-- Lines that are written one after another.
use Rattle.std.proofs.Common.{◌≡◌, ◌<◌, ◌+◌, ℕ, List, ◌++◌, length, drop, ap, subst, Option, Result, Ok, Err, get_or}
use Rattle.std.specs.Prelude.{OnOk, OnErr}
use Rattle.std.specs.Io.KnownBytes.{Appends}
use Rattle.std.proofs.KnownBytes.{Appends-trans}
use Rattle.std.proofs.lemmas.List.{drop_more}
use Rattle.off_io.specs.Content.{AppendsPrefix, Owes}
use Rattle.off_io.proofs.Appending.{prefix_more, front_then}
use Rattle.off_io.proofs.Owing.{Owes-less, Owes-failed, then_ok, then_err}
use Rattle.check_totals.specs.declared.totals.QueueTotals.{QueueTotals}
use Rattle.check_totals.specs.Counts.{Counts, queue_sum}
use Rattle.check_totals.specs.Lines.{lines_from, queue_line, tap_line, total_line, check_lines}

module _ {A : Type 0} (line : ℕ → A → List ℕ) (xs : List A) (i : ℕ) (d : A) where
  next : i < length xs → lines_from line i (drop i xs) ≡ line i (get_or xs i d) ++ lines_from line (i + 1) (drop (i + 1) xs)
  next lt = ap (lines_from line i) (drop_more xs i d lt)

  pub line_written : (a b c : Option (List ℕ)) → i < length xs → Owes a b (lines_from line 0 xs) (lines_from line i (drop i xs)) → Appends b c (line i (get_or xs i d))
      → Owes a c (lines_from line 0 xs) (lines_from line (i + 1) (drop (i + 1) xs))
  line_written a b c lt owes wrote = Owes-less a b c _ _ _ (subst (Owes a b (lines_from line 0 xs)) (next lt) owes) wrote

  pub line_failed : (a b c : Option (List ℕ)) → i < length xs → Owes a b (lines_from line 0 xs) (lines_from line i (drop i xs)) → AppendsPrefix b c (line i (get_or xs i d))
      → AppendsPrefix a c (lines_from line 0 xs)
  line_failed a b c lt owes wrote = Owes-failed a b c _ _ _ (subst (Owes a b (lines_from line 0 xs)) (next lt) owes) wrote

-- ---- all lines

each_err : {T E : Type 0} {P : Type 0} (r : Result T E) → P → OnErr r P
each_err (Ok x) p = tt
each_err (Err x) p = p

module _ {T E : Type 0} (r : Result T E) (c : Counts) where
  pub queues_failed : (a b : Option (List ℕ)) → AppendsPrefix a b (lines_from queue_line 0 c.queues) → OnErr r (AppendsPrefix a b (check_lines c))
  queues_failed a b wrote =
      each_err r (prefix_more a b (lines_from queue_line 0 c.queues ++ lines_from tap_line 0 c.taps) (total_line (queue_sum c.queues))
      (prefix_more a b (lines_from queue_line 0 c.queues) (lines_from tap_line 0 c.taps) wrote))

  pub taps_failed : (a b d : Option (List ℕ)) → Appends a b (lines_from queue_line 0 c.queues) → AppendsPrefix b d (lines_from tap_line 0 c.taps)
      → OnErr r (AppendsPrefix a d (check_lines c))
  taps_failed a b d queues wrote =
      each_err r (prefix_more a d (lines_from queue_line 0 c.queues ++ lines_from tap_line 0 c.taps) (total_line (queue_sum c.queues))
      (front_then a b d (lines_from queue_line 0 c.queues) (lines_from tap_line 0 c.taps) queues wrote))

  module _ (total : QueueTotals) (is : total ≡ queue_sum c.queues) (a b d e : Option (List ℕ)) (queues : Appends a b (lines_from queue_line 0 c.queues))
      (taps : Appends b d (lines_from tap_line 0 c.taps)) where
    both : Appends a d (lines_from queue_line 0 c.queues ++ lines_from tap_line 0 c.taps)
    both = Appends-trans a b d (lines_from queue_line 0 c.queues) (lines_from tap_line 0 c.taps) queues taps

    pub lanes_ok : OnOk r (Appends d e (total_line total)) → OnOk r (Appends a e (check_lines c))
    lanes_ok wrote =
        then_ok r a d e (lines_from queue_line 0 c.queues ++ lines_from tap_line 0 c.taps) (total_line (queue_sum c.queues)) both
        (subst (λ (x : QueueTotals). OnOk r (Appends d e (total_line x))) is wrote)

    pub lanes_err : OnErr r (AppendsPrefix d e (total_line total)) → OnErr r (AppendsPrefix a e (check_lines c))
    lanes_err wrote =
        then_err r a d e (lines_from queue_line 0 c.queues ++ lines_from tap_line 0 c.taps) (total_line (queue_sum c.queues)) both
        (subst (λ (x : QueueTotals). OnErr r (AppendsPrefix d e (total_line x))) is wrote)
