use Rattle.std.proofs.Common.{◌≡◌, ◌*◌, ◌++◌, length, take, drop}
use Rattle.std.specs.Prelude.{option_map}
use Rattle.offload_words.specs.Rss.{hex_bytes}
use Rattle.offload_words.proofs.rss.hash_key_of.Given as goal

abbrev pub invariant-loop-i : goal.invariant-loop-i
invariant-loop-i l = record {
  size : length l.key ≡ 40;
  bytes : hex_bytes l.digits ≡ option_map (λ bytes. take l.i l.key ++ bytes) (hex_bytes (drop (2 * l.i) l.digits));
}
