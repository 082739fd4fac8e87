use Rattle.std.proofs.Common.{◌≡◌, ℕ, ◌<◌, List, get_or, length, map, ap, sym, subst, arith}
use Rattle.std.proofs.lemmas.List.{length-map}
use Rattle.frame_runs.specs.Chains.{behind, packet_at}
use Rattle.frame_runs.specs.Engine.{IsChain, Knows, KnowsSome}
use Rattle.gro.specs.Slots.{packet_of}
use Rattle.frame_runs.specs.declared.run.Run.{Run}
use Rattle.gro.specs.declared.slot.Slot.{Slot}
use Rattle.frame_runs.proofs.Payloads.{chain_at, slot_at}
use Rattle.lanes.specs.declared.lane.QueueLane.{QueueLane}
use Rattle.lanes.specs.Lanes.{IsMerged}

-- the run at a place, by the lane's slots
chain_in : (l : QueueLane) (slots : List Slot) (i : ℕ) (run : Run) → IsMerged l → slots ≡ l.packets.items → i < length l.engine.runs.items
    → run ≡ get_or l.engine.runs.items i run → IsChain (map packet_of slots) l.engine.next.items run
chain_in l slots i run is same lt e =
    subst (λ z. IsChain z l.engine.next.items run) (ap (map packet_of) (sym same))
    (subst (IsChain (map packet_of l.packets.items) l.engine.next.items) (sym e) (chain_at (map packet_of l.packets.items) (length l.packets.items) l.engine i run is.are lt))

first_in : (slots : List Slot) (next : List ℕ) (run : Run) → IsChain (map packet_of slots) next run → run.first < length slots
first_in slots next run h = omega (arith, h.inside.0, length-map slots packet_of)

knows_some : (slots : List Slot) (next : List ℕ) (run : Run) (first : Slot) → IsChain (map packet_of slots) next run → first ≡ get_or slots run.first first → KnowsSome run (packet_of first)
knows_some slots next run first h e =
    let rest = map (packet_at (map packet_of slots)) (behind next run) in
    (rest, subst (λ z. Knows run z rest) (slot_at packet_of slots run.first first (first_in slots next run h) e) h.knows)
