use Rattle.std.proofs.Common.{◌≡◌, ◌≤◌, ◌+◌, ◌++◌, ◌∷◌, ◌∙◌, [], ℕ, List, length, take, ap, subst, sym, arith}
use Rattle.std.proofs.lemmas.List.{take-append-le}
use Rattle.frags.specs.PieceList.{AllFit, bytes_of, size_of}
use Rattle.frags.specs.declared.holder.Holder.TheVariants.{Sole}
use Rattle.frags.specs.declared.pieces.Piece.{Piece}
use Rattle.skb.specs.SkbState.{SkbState, buffer_bytes, head_bytes}
use Rattle.skb.specs.Fronts.{front_of}
use Rattle.gro_table.specs.declared.packet.Packet.{Packet}
use Rattle.gro_table.specs.Build.{Build, build, payloads, TakesBuffer, TakesPackets}
use Rattle.frame_runs.specs.Chains.{behind}
use Rattle.gro_table.specs.Waiting.{chosen}
use Rattle.gro_table.specs.Items.{HoldsAll}
use Rattle.gro_table.proofs.Joined.{begun, followed, size_is, bytes_are, holds}
use Rattle.gro_table.proofs.Taking.{front_size}
use Rattle.gro_table.proofs.build.join.Goals.{After-take_packets-all}
use Rattle.gro_table.proofs.build.join.Goals as goal

abbrev rest : After-take_packets-all → List Packet
rest c = chosen c.args.waiting.now.items (behind c.args.next.now c.args.run.now)

-- the head's block and what lies behind it, with the first packet's payload and with all payloads
abbrev one : After-take_packets-all → Build
one c = build c.take_buffer-one.new.block c.take_buffer-one.result c.take_buffer-one.new.pieces.pieces c.take_buffer-one.new.out

abbrev all : After-take_packets-all → Build
all c = build c.take_packets-all.new.block c.take_packets-all.result c.take_packets-all.new.pieces.pieces c.take_packets-all.new.out

first_taken : (c : After-take_packets-all)
    → TakesBuffer c.args.first.skb c.args.layout.now.payload_at (build c.put_headers.new.block c.args.layout.now.payload_at [] c.keep_sole.new.self) (one c)
first_taken c =
    begun c.args.first.skb c.args.layout.now.payload_at c.payload_at-at.result c.args.pieces.pieces c.put_headers.new.block c.keep_sole.new.self (one c)
    c.payload_at-at.ensures.place c.requires.empty.0 c.take_buffer-one.ensures.takes

all_taken : (c : After-take_packets-all) → TakesPackets (rest c) c.args.layout.now.payload_at (one c) (all c)
all_taken c = followed (rest c) c.args.layout.now.payload_at c.payload_at-at.result (one c) (all c) c.payload_at-at.ensures.place c.take_packets-all.ensures.takes

pub new-requires-clause-small : goal.new-requires-clause-small
new-requires-clause-small c =
    let p = (goal.at.new-requires-clause-small c).After-take_packets-all in
    let a = c.args in
    let g = c.put_headers.new.block in
    let at : ℕ = a.layout.now.payload_at in
    let fits : AllFit (all p).pieces = subst AllFit c.finish-rest.ensures.pieces c.len.ensures.fits in
    let long = front_size g at c.put_headers.ensures.size c.requires.low in
    omega (
      arith,
      size_is a.first (rest p) at g a.out c.keep_sole.new.self (one p) (all p) (c.requires.empty.1, c.requires.empty.2) c.put_headers.ensures.same
          c.keep_sole.ensures.soles c.keep_sole.ensures.receipts (first_taken p) (all_taken p) fits long,
      c.requires.payload.1,
      c.requires.few,
      ap size_of c.finish-rest.ensures.pieces,
    )

pub returns-clause-bytes : goal.returns-clause-bytes
returns-clause-bytes c = λ last flags.
    let p = (goal.at.returns-clause-bytes c).After-take_packets-all in
    let a = c.args in
    let at : ℕ = a.layout.now.payload_at in
    let own = head_bytes a.first.skb in
    let inside : at ≤ length own = omega (arith, c.requires.each.0.0, c.head.ensures.size, ap length c.head.ensures.bytes) in
    let front : take at (buffer_bytes a.first.skb) ≡ take at c.head.result.now =
    take-append-le at own (bytes_of a.first.skb.rest) inside ∙ ap (take at) (sym c.head.ensures.bytes) in
    ap buffer_bytes c.new.ensures.same
    ∙ ap (λ (z : List Piece). front_of (all p).block (all p).filled ++ bytes_of z) c.finish-rest.ensures.pieces
    ∙ bytes_are a.first (rest p) at c.put_headers.new.block a.out c.keep_sole.new.self (one p) (all p) (c.requires.empty.1, c.requires.empty.2)
    c.put_headers.ensures.same c.keep_sole.ensures.soles c.keep_sole.ensures.receipts (first_taken p) (all_taken p)
    ∙ c.put_headers.ensures.merged (buffer_bytes a.first.skb) last (payloads at (a.first ∷ rest p)) front flags c.requires.payload

pub returns-clause-holds : goal.returns-clause-holds
returns-clause-holds c =
    let p = (goal.at.returns-clause-holds c).After-take_packets-all in
    let a = c.args in
    let with_rest : List Piece → SkbState = λ z. record { head = Sole (all p).block; from = 64; to = 64 + (all p).filled; rest = z } in
    let is = ap with_rest (sym c.finish-rest.ensures.pieces) ∙ sym c.new.ensures.same in
    subst (λ (z : SkbState). HoldsAll (a.first ∷ rest p) z c.take_packets-all.new.out) is
    (holds a.first (rest p) a.layout.now.payload_at c.put_headers.new.block a.out c.keep_sole.new.self (one p) (all p) (c.requires.empty.1, c.requires.empty.2)
    c.put_headers.ensures.same c.keep_sole.ensures.soles c.keep_sole.ensures.receipts (first_taken p) (all_taken p))
