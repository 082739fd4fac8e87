-- A head's bytes that are lent for writing, and what the buffer has once the loan ends.
use Rattle.std.specs.Prelude.{ℕ, List}
use Rattle.std.specs.declared.option.Option.{Option}
use Rattle.std.specs.Borrow.{Lends, LendsIf, MutBor, Fml, u8, Array}
use Rattle.raw_block.specs.Lending.{with_bytes}
use Rattle.raw_block.specs.Views.{SoleState}
use Rattle.raw_block.specs.contracts.sole.Sole.{the_row as sole_row}
use Rattle.frags.specs.declared.holder.Holder.{Holder}
use Rattle.frags.specs.declared.holder.Holder.TheVariants.{Sole, Part}
use Rattle.frags.specs.contracts.holder.Holder.{the_row as holder_row}
use Rattle.skb.specs.SkbState.{SkbState}
use Rattle.skb.specs.contracts.skb.Skb.{the_row as skb_row}

-- a head with ws written over its block from a place on
abbrev pub with_range : Holder → ℕ → List ℕ → Holder
with_range (Sole s) from ws = Sole (with_bytes s from ws)
with_range (Part p) from ws = Part p

abbrev pub lends_sole_if : MutBor Holder → Option (MutBor SoleState) → Fml
lends_sole_if h r = LendsIf holder_row sole_row h r (λ w. Sole w) h.now

abbrev pub lends_sole : MutBor Holder → MutBor SoleState → Fml
lends_sole h r = Lends holder_row sole_row h r (λ w. Sole w)

abbrev pub lends_range : MutBor Holder → ℕ → MutBor (List ℕ) → Fml
lends_range h from r = Lends holder_row (Array u8 0) h r (with_range h.now from)

-- what is written stands in the head's block from the head's first byte on
abbrev pub with_head : SkbState → List ℕ → SkbState
with_head s ws = record s { head = with_range s.head s.from ws }

abbrev pub lends_head : MutBor SkbState → MutBor (List ℕ) → Fml
lends_head s r = Lends skb_row (Array u8 0) s r (with_head s.now)

-- the same where there is a Sole, and else nothing changes
abbrev pub lends_head_if : MutBor SkbState → Option (MutBor (List ℕ)) → Fml
lends_head_if s r = LendsIf skb_row (Array u8 0) s r (with_head s.now) s.now
