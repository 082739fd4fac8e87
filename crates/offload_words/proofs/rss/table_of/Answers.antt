use Rattle.std.proofs.Common.{ℕ, [], List, Option, Some, None, sym, ap, ◌∙◌, arith, rules}
use Rattle.std.specs.Prelude.{option_map}
use Rattle.std.proofs.lemmas.Str.Pattern.{split_parts}
use Rattle.offload_words.specs.Rss.{entries_in, entry_texts}
use Rattle.offload_words.proofs.Tables.{all_left, all_read, first_text, no_table, one_more, one_text, room_left}
use Rattle.offload_words.proofs.rss.table_of.Goals as goal

pub entries-init : goal.entries-init
entries-init c = record {
  utf8 = c.utf8.text;
  left = all_left c.args.queues c.new-table.result.items (entry_texts c.args.text.now) c.new-table.ensures;
}

pub returns-in_err-push_entry : goal.returns-in_err-push_entry
returns-in_err-push_entry c =
    let rest = c.entries.rest.now in
    let first = c.in-Some.entry.now in
    let behind = c.in-Some.behind.now in
    let parts = split_parts 44 rest (Some (c.in-Some.entry, c.in-Some.behind)) c.in-Some.ensures.cases (omega arith) in
    record {
      table =
          ap (option_map (λ t. t.items)) c.from_residual.ensures
          ∙ sym (
          no_table c.args.queues (entries_in c.args.queues (entry_texts c.args.text.now)) c.entries.table.items (entry_texts rest) (entry_texts behind) first c.entries.invariant.left
          (first_text rest first behind parts.0 parts.1) c.in_err-push_entry.ensures.entry);
    }

pub entries-preserved : goal.entries-preserved
entries-preserved c =
    let rest = c.entries.rest.now in
    let first = c.in-Some.entry.now in
    let behind = c.in-Some.behind.now in
    let parts = split_parts 44 rest (Some (c.in-Some.entry, c.in-Some.behind)) c.in-Some.ensures.cases (omega arith) in
    record {
      utf8 = search rules;
      left =
          one_more c.args.queues (entries_in c.args.queues (entry_texts c.args.text.now)) c.entries.table.items (entry_texts rest) (entry_texts behind) first c.entries.invariant.left
          (first_text rest first behind parts.0 parts.1) c.push_entry.new.table.items c.in_ok-push_entry.ensures.entry;
    }

pub returns-in_err-push_entry-2 : goal.returns-in_err-push_entry-2
returns-in_err-push_entry-2 c =
    let rest = c.entries.rest.now in
    let none = split_parts 44 rest None c.in_default.ensures.cases (omega arith) in
    record {
      table =
          ap (option_map (λ t. t.items)) c.from_residual-in_err-push_entry-2.ensures
          ∙ sym (
          no_table c.args.queues (entries_in c.args.queues (entry_texts c.args.text.now)) c.entries.table.items (entry_texts rest) [] rest c.entries.invariant.left
          (one_text rest none) c.in_err-push_entry-2.ensures.entry);
    }

pub returns : goal.returns
returns c =
    let rest = c.entries.rest.now in
    let new = c.push_entry-2.new.table.items in
    let none = split_parts 44 rest None c.in_default.ensures.cases (omega arith) in
    let all : Option (List ℕ) = entries_in c.args.queues (entry_texts c.args.text.now) in
    let adds = c.in_ok-push_entry-2.ensures.entry in
    record {
      table =
          sym (
          all_read c.args.queues all new
          (one_more c.args.queues all c.entries.table.items (entry_texts rest) [] rest c.entries.invariant.left (one_text rest none) new adds)
          (room_left c.args.queues rest c.entries.table.items new adds));
    }
