-- The option --blocks: how many blocks of 2048 bytes there are for the records of a round.
use Rattle.std.specs.Prelude.{ℕ, ◌≤◌, codes}
use Rattle.clap.specs.Words.{Rule}
use Rattle.offload_words.specs.Numbers.{number_rule}

abbrev pub blocks_rule : Rule
blocks_rule = number_rule (codes "blocks") 1 65536 (codes "8384")

abbrev pub AreBlocks : ℕ → Type 0
AreBlocks blocks = (1 ≤ blocks) × (blocks ≤ 65536)
