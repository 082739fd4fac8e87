-- What is asked of the headers of the next packet.
use Rattle.std.specs.Prelude.{◌≡◌, ℕ, true, List}
use Rattle.frame_layout.specs.Headers.{all_headers}
use Rattle.frame_layout.specs.declared.layout.Header.{Header}
use Rattle.merge_rule.specs.Next.{AreAlikeFrom, varying_in, is_next_at, are_ids_next}

-- up to the payload at `end` the frames are alike but for the fields that may differ, and these hold what a packet has
-- that continues a run of `count` packets: its payload is `further` bytes behind the first one's, and the merged frame
-- has `total` bytes
abbrev pub AreHeadersNext : List ℕ → List ℕ → ℕ → ℕ → ℕ → ℕ → ℕ → List Header → Type 0
AreHeadersNext first next end further total count modes hs =
    AreAlikeFrom first next end 0 (varying_in hs)
    × (all_headers (is_next_at first next further total) hs ≡ true)
    × (are_ids_next count modes first next hs ≡ true)
