use Rattle.std.proofs.Common.{length}
use denote.Shadow.{shadow}
use denote.Text.{Utf8}
use Rattle.offload_words.specs.Rss.{entries_in, entry_texts}
use Rattle.offload_words.proofs.Tables.{AreLeft}
use Rattle.offload_words.proofs.rss.table_of.Given as goal

abbrev pub invariant-entries : goal.invariant-entries
invariant-entries l = record {
  utf8 : shadow (Utf8 l.rest);
  left : AreLeft l.queues (entries_in l.queues (entry_texts l.initial.rest)) l.table.items (entry_texts l.rest);
}

abbrev pub decreases-entries : goal.decreases-entries
decreases-entries l = length l.rest
