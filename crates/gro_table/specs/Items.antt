-- What a run of packets in buffers comes to.
use Rattle.std.specs.Prelude.{ℕ, ◌≡◌, ◌+◌, ◌≤◌, List, length}
use Rattle.block_weight.specs.WeightRule.{full_weight}
use Rattle.frags.specs.Account.{Account, Keeps, both, of_outcomes}
use Rattle.frags.specs.OutcomesState.{OutcomesState}
use Rattle.skb.specs.SkbState.{SkbState, buffer_bytes, buffer_least, of_buffer}
use Rattle.skb.specs.Moving.{given_back}
use Rattle.skb.specs.Fronts.{IsFronted}
use Rattle.offload_model.specs.Merged.{Merged}
use Rattle.gro_table.specs.declared.packet.Packet.{Packet as Held}
use Rattle.gro_table.specs.declared.item.Item.{Item}
use Rattle.gro_table.specs.Held.{of_packets, AreLentFrom, AreShared, counts_of, WeighAtLeast}

-- an item, without where its bytes lie
abbrev pub item_of : Item → Merged
item_of item = record {
  packet = record {
    number = item.number;
    sec = item.sec;
    frac = item.frac;
    original = item.original;
    frame = buffer_bytes item.skb;
  };
  n = item.n;
  m = item.m;
  modes = item.modes;
}

-- the blocks and parts that a buffer and what was given back beside it hold
abbrev pub count_with : SkbState → OutcomesState → ℕ
count_with s o = (length s.rest + 1) + given_back o

abbrev pub item_count : Item → ℕ
item_count item = count_with item.skb item.outcomes

abbrev pub of_item : Item → Account
of_item item = both (of_buffer item.skb) (of_outcomes item.outcomes)

-- what a buffer of packets and the outcomes beside it hold: the first 200 bytes, or all of fewer, in the head, one free
-- block at least, and all that the packets held. A life begins at most with a head's Sole; where each head is a part,
-- none does.
pub record HoldsAll (ps : List Held) (s : SkbState) (o : OutcomesState) : Type 0 where
  pub front : IsFronted s
  pub count : count_with s o ≡ counts_of ps
  pub soles : 1 ≤ length o.soles
  pub account : (qs : List Held) × (AreLentFrom ps qs × Keeps (of_packets qs) (both (of_buffer s) (of_outcomes o)))
  pub shared : AreShared ps → Keeps (of_packets ps) (both (of_buffer s) (of_outcomes o))
  pub least : (w : ℕ) → w ≤ full_weight → WeighAtLeast w ps → w ≤ buffer_least s

abbrev pub IsItemOf : List Held → Item → Type 0
IsItemOf ps item = HoldsAll ps item.skb item.outcomes
