use Rattle.std.proofs.Common.{◌≡◌, ℕ, Option, None, ◌∷◌, List, length, set, ap, subst, sym, ◌-◌, arith, get_or}
use Rattle.std.proofs.lemmas.List.{length-set}
use Rattle.gro_table.specs.declared.packet.Packet.{Packet}
use Rattle.gro_table.specs.Build.{Build, build, TakesPackets, AreJoinable, sizes_behind, pieces_in}
use Rattle.frame_runs.specs.Chains.{chain_of}
use Rattle.gro_table.specs.Waiting.{chosen, AreThere, Empties}
use Rattle.frame_runs.proofs.Chains.{chain_step, chain_done}
use Rattle.gro_table.proofs.Emptying.{found_below, chain_cut, there_on, distinct_on, empties_first, empties_none}
use Rattle.gro_table.proofs.Following.{then_all, none_taken}
use Rattle.gro_table.proofs.build.take_packets.Goals.{After-take_packet-arg-in-loop-left-2-1 as Taken}
use Rattle.gro_table.proofs.build.take_packets.Goals as goal

-- of the packets that are left the one that was taken is the first
first_taken : (c : Taken) → chosen c.loop-left.waiting.items (chain_of c.args.next.now c.loop-left.left c.loop-left.k)
    ≡ c.take_at-packet.result ∷ chosen c.take_at-packet.new.waiting.items (chain_of c.args.next.now (c.loop-left.left - 1) (get_or c.args.next.now c.loop-left.k 0))
first_taken c =
    let i = c.loop-left.invariant in
    chain_cut c.loop-left.waiting.items c.take_at-packet.new.waiting.items c.args.next.now c.loop-left.left c.loop-left.k c.take_at-packet.result c.loop-left-test.true
    i.there i.distinct c.take_at-packet.ensures.packet c.take_at-packet.ensures.left

pub take_packet-end-requires-clause-head : goal.take_packet-end-requires-clause-head
take_packet-end-requires-clause-head c =
    (subst (AreJoinable c.args.at) (first_taken c) c.loop-left.invariant.each).0.0

pub take_packet-end-requires-clause-front : goal.take_packet-end-requires-clause-front
take_packet-end-requires-clause-front c =
    (subst (AreJoinable c.args.at) (first_taken c) c.loop-left.invariant.each).0.1

pub take_packet-end-requires-clause-reserved : goal.take_packet-end-requires-clause-reserved
take_packet-end-requires-clause-reserved c =
    omega (arith, ap pieces_in (first_taken c), c.loop-left.invariant.reserved)

pub take_packet-end-requires-clause-places : goal.take_packet-end-requires-clause-places
take_packet-end-requires-clause-places c =
    omega (arith, ap length (first_taken c), c.loop-left.invariant.places)

pub take_packet-end-requires-clause-small : goal.take_packet-end-requires-clause-small
take_packet-end-requires-clause-small c =
    omega (arith, ap (sizes_behind c.args.at) (first_taken c), c.loop-left.invariant.small, c.loop-left.invariant.order)

pub bounds-next-k : goal.bounds-next-k
bounds-next-k c =
    let i = c.loop-left.invariant in
    let t = subst (AreThere c.loop-left.waiting.items) (chain_step c.args.next.now c.loop-left.left c.loop-left.k c.loop-left-test.true) i.there in
    omega (arith, i.linked, found_below c.loop-left.waiting.items c.loop-left.k t.0)

pub loop-left-preserved : goal.loop-left-preserved
loop-left-preserved c =
    let i = c.loop-left.invariant in
    let next : List ℕ = c.args.next.now in
    let k : ℕ = c.loop-left.k in
    let w : List (Option Packet) = c.loop-left.waiting.items in
    let w2 : List (Option Packet) = c.take_at-packet.new.waiting.items in
    let cs : List ℕ = chain_of next c.loop-left.left k in
    let rest : List ℕ = chain_of next (c.loop-left.left - 1) (get_or next k 0) in
    let p : Packet = c.take_at-packet.result in
    let step : cs ≡ k ∷ rest = chain_step next c.loop-left.left k c.loop-left-test.true in
    let left : w2 ≡ set w k None = c.take_at-packet.ensures.left in
    let t = c.take_packet-end in
    let e : chosen w cs ≡ p ∷ chosen w2 rest
    = chain_cut w w2 next c.loop-left.left k p c.loop-left-test.true i.there i.distinct c.take_at-packet.ensures.packet left in
    let n = ap pieces_in e in
    let each = subst (AreJoinable c.args.at) e i.each in
    record {
      linked = omega (arith, i.linked, ap length left, length-set w k None);
      there = subst (λ (z : List (Option Packet)). AreThere z rest) (sym left) (there_on w k cs rest p step i.there i.distinct c.take_at-packet.ensures.packet);
      distinct = distinct_on w k cs rest p step i.there i.distinct c.take_at-packet.ensures.packet;
      each = each.1;
      order = omega (arith, i.order, t.ensures.more);
      is = t.ensures.takes.is;
      reserved = omega (arith, n, i.reserved, t.ensures.room);
      places = omega (arith, ap length e, i.places, t.ensures.left);
      small = omega (arith, i.small, t.ensures.size, ap (sizes_behind c.args.at) e, each.0.0);
      rest = then_all p (chosen w cs) (chosen w2 rest) _ c.args.at
          (build c.args.block.now c.args.filled c.args.pieces.now.pieces c.args.out.now)
          (build c.loop-left.block c.loop-left.end c.loop-left.pieces.pieces c.loop-left.out)
          (build t.new.block t.result t.new.pieces.pieces t.new.out) e t.ensures.takes i.rest;
      empties = λ ys h. i.empties ys (empties_first w k cs rest p step i.there i.distinct c.take_at-packet.ensures.packet ys
          (subst (λ (z : List (Option Packet)). Empties rest z ys) left h));
    }

pub returns-clause-takes : goal.returns-clause-takes
returns-clause-takes c =
    let i = c.loop-left.invariant in
    let b : Build = build c.loop-left.block c.loop-left.end c.loop-left.pieces.pieces c.loop-left.out in
    let none = chain_done c.args.next.now c.loop-left.left c.loop-left.k c.loop-left-test.false in
    i.rest b (subst (λ (z : List ℕ). TakesPackets (chosen c.loop-left.waiting.items z) c.args.at b b) (sym none) (none_taken c.args.at b i.is))

pub returns-clause-empties : goal.returns-clause-empties
returns-clause-empties c =
    let i = c.loop-left.invariant in
    let none = chain_done c.args.next.now c.loop-left.left c.loop-left.k c.loop-left-test.false in
    i.empties c.loop-left.waiting.items (subst (λ (z : List ℕ). Empties z c.loop-left.waiting.items c.loop-left.waiting.items) (sym none) (empties_none c.loop-left.waiting.items))
