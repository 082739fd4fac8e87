use Rattle.std.proofs.Common.{◌≡◌, ◌<◌, ◌^◌, true, take}
use Rattle.std.specs.List.{list_all}
use Rattle.offload_words.specs.Rss.{is_digit, value_of}
use Rattle.offload_words.proofs.rss.entry_of.Given as goal

abbrev pub invariant-loop-digit : goal.invariant-loop-digit
invariant-loop-digit l = record {
  digits : list_all is_digit (take l.digit-index l.digits) ≡ true;
  value : l.value ≡ value_of (take l.digit-index l.digits);
  small : l.value < 10 ^ l.digit-index;
}
