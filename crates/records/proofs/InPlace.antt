-- A run's record, from its packets where they lie.
use Rattle.std.proofs.Common.{◌≡◌, ◌+◌, ◌-◌, ◌<◌, ◌≤◌, ℕ, suc, Option, Some, List, [], ◌∷◌, ◌++◌, length, get_or, map, drop, refl, sym, ap, ◌∙◌, subst, arith}
use Rattle.std.specs.List.{AllByRecursion, flat_map}
use Rattle.std.proofs.lemmas.List.{length-map, nil_from_length, get_or-map}
use Rattle.net_bytes.specs.declared.order.Order.{Order}
use Rattle.pcap_io.specs.Capture.{Packet, packet}
use Rattle.off_io.specs.Content.{Owes}
use Rattle.skb.specs.SkbState.{buffer_bytes}
use Rattle.offload_model.specs.Merged.{merged_of}
use Rattle.gro.specs.declared.slot.Slot.{Slot}
use Rattle.frame_runs.specs.declared.run.Run.{Run}
use Rattle.gro.specs.Slots.{packet_of, IsHeld, AreHeld}
use Rattle.frame_runs.specs.Chains.{chain_of, behind, indices, no_packet, packet_at, run_of}
use Rattle.frame_runs.specs.Engine.{Knows, KnowsSome, IsChain}
use Rattle.frame_runs.specs.MergedRun.{headers_size, payloads_behind}
use Rattle.frame_runs.proofs.Payloads.{chain_step, all_at, slot_at, few_more, headers_low, all_within}
use Rattle.offload_model.specs.Written.{head_of, record_bytes}
use Rattle.records.specs.Records.{headed, item_bytes}

-- ---- payloads along a chain

-- one packet's payload of those that are owed
pub owes_step : (a b : Option (List ℕ)) (all : List ℕ) (ps : List Packet) (at : ℕ) (next : List ℕ) (left k : ℕ) (frame : List ℕ) → 0 < left → (packet_at ps k).frame ≡ frame
    → Owes a b all (payloads_behind at (map (packet_at ps) (chain_of next left k)))
    → Owes a b all (drop at frame ++ payloads_behind at (map (packet_at ps) (chain_of next (left - 1) (get_or next k 0))))
owes_step a b all ps at next left k frame h e o =
    subst (λ (z : List ℕ). Owes a b all (drop at z ++ payloads_behind at (map (packet_at ps) (chain_of next (left - 1) (get_or next k 0))))) e
    (subst (λ (z : List ℕ). Owes a b all (payloads_behind at (map (packet_at ps) z))) (chain_step next left k h) o)

pub first_step : (P : Packet → Type 0) (ps : List Packet) (next : List ℕ) (left k : ℕ) → 0 < left → AllByRecursion P (map (packet_at ps) (chain_of next left k))
    → P (packet_at ps k) × AllByRecursion P (map (packet_at ps) (chain_of next (left - 1) (get_or next k 0)))
first_step P ps next left k h a =
    let s : AllByRecursion P (map (packet_at ps) (k ∷ chain_of next (left - 1) (get_or next k 0))) = subst (λ (z : List ℕ). AllByRecursion P (map (packet_at ps) z)) (chain_step next left k h) a in
    (s.0, s.1)

-- the slot at an index has the packet's bytes
pub frame_there : (xs : List Slot) (k : ℕ) (d : Slot) → k < length xs → (packet_at (map packet_of xs) k).frame ≡ buffer_bytes (get_or xs k d).skb
frame_there xs k d h = ap (λ (z : Packet). z.frame) (get_or-map packet_of xs k d no_packet h)

-- ---- a run in a list of slots

module _ (packets : List Slot) (next : List ℕ) (run : Run) (c : IsChain (map packet_of packets) next run) where
  abbrev ps : List Packet
  ps = map packet_of packets

  abbrev p : Packet
  p = packet_at ps run.first

  abbrev rest : List Packet
  rest = map (packet_at ps) (behind next run)

  pub inside : run.first < length packets
  inside = omega (arith, c.inside.0, length-map packets packet_of)

  -- its first packet, as it was read
  pub first_is : (slot : Slot) → slot ≡ get_or packets run.first slot → p ≡ packet_of slot
  first_is slot e = slot_at packet_of packets run.first slot inside e

  pub is_slot : (slot : Slot) → slot ≡ get_or packets run.first slot → AreHeld packets → IsHeld slot
  is_slot slot e a = subst IsHeld (sym e) (all_at IsHeld packets run.first slot a inside)

  pub knows : (slot : Slot) → slot ≡ get_or packets run.first slot → Knows run (packet_of slot) rest
  knows slot e = subst (λ (z : Packet). Knows run z rest) (first_is slot e) c.knows

  pub knows_some : (slot : Slot) → slot ≡ get_or packets run.first slot → KnowsSome run (packet_of slot)
  knows_some slot e = (rest, knows slot e)

  pub few : run.more ≤ 262069
  few = few_more run p rest c.knows

  pub low : 1 ≤ run.more → headers_size run ≤ 200
  low several = headers_low run p rest c.knows several

  chain_is : chain_of next (run.more + 1) run.first ≡ indices next run
  chain_is = ap (λ (z : ℕ). chain_of next z run.first) (let s : run.more + 1 ≡ suc run.more = omega arith in s)

  pub all_below : AllByRecursion (λ k. k < length packets) (chain_of next (run.more + 1) run.first)
  all_below =
      subst (AllByRecursion (λ k. k < length packets)) (sym chain_is)
      (subst (λ (z : ℕ). AllByRecursion (λ k. k < z) (indices next run)) (length-map packets packet_of) c.inside)

  pub all_there : 1 ≤ run.more → AllByRecursion (λ (q : Packet). headers_size run ≤ length q.frame) (map (packet_at ps) (chain_of next (run.more + 1) run.first))
  all_there several =
      subst (λ (z : List ℕ). AllByRecursion (λ (q : Packet). headers_size run ≤ length q.frame) (map (packet_at ps) z)) (sym chain_is) (all_within run p rest c.knows several)

  -- what is written of several packets, by what the code has at hand
  pub record_by : (slot : Slot) → slot ≡ get_or packets run.first slot → (order : Order) (q : ℕ) (row : List ℕ) (at : ℕ) → at ≡ headers_size run
      → ((others : List Packet) → Knows run (packet_of slot) others
      → row ++ payloads_behind (headers_size run) (packet_of slot ∷ others) ≡ item_bytes order q (merged_of (packet_of slot ∷ others)))
      → row ++ payloads_behind at (map (packet_at ps) (chain_of next (run.more + 1) run.first)) ≡ item_bytes order q (merged_of (run_of ps next run))
  record_by slot e order q row at ea is =
      ap (λ (z : List ℕ). row ++ payloads_behind at (map (packet_at ps) z)) chain_is
      ∙ ap (λ (z : Packet). row ++ payloads_behind at (z ∷ rest)) (first_is slot e)
      ∙ ap (λ (z : ℕ). row ++ payloads_behind z (packet_of slot ∷ rest)) ea
      ∙ is rest (knows slot e)
      ∙ ap (λ (z : Packet). item_bytes order q (merged_of (z ∷ rest))) (sym (first_is slot e))

  -- a run of one packet
  pub alone_is : (slot : Slot) → slot ≡ get_or packets run.first slot → run.more ≡ 0 → packet_of slot ∷ [] ≡ run_of ps next run
  alone_is slot e none =
      ap (λ (z : Packet). z ∷ []) (sym (first_is slot e))
      ∙ ap (λ (z : ℕ). map (packet_at ps) (run.first ∷ chain_of next z (get_or next run.first 0))) (sym none)

  pub knows_alone : (slot : Slot) → slot ≡ get_or packets run.first slot → run.more ≡ 0 → Knows run (packet_of slot) []
  knows_alone slot e none =
      subst (λ (z : List Packet). Knows run (packet_of slot) z) (nil_from_length rest (omega (arith, none, c.knows.more))) (knows slot e)

-- ---- all runs, one after the other

pub runs_bytes : (order : Order) (q : ℕ) (packets : List Packet) (next : List ℕ) (runs : List Run)
    → flat_map (λ (run : Run). item_bytes order q (merged_of (run_of packets next run))) runs ≡ flat_map (item_bytes order q) (map merged_of (map (run_of packets next) runs))
runs_bytes order q packets next [] = refl
runs_bytes order q packets next (run ∷ runs) = ap (λ (z : List ℕ). item_bytes order q (merged_of (run_of packets next run)) ++ z) (runs_bytes order q packets next runs)

-- the record of several packets, with its own length as original length
pub merged_record : (order : Order) (q : ℕ) (p : Packet) (rest : List Packet) → 1 ≤ length rest
    → record_bytes order (headed (Some (head_of q (merged_of (p ∷ rest)))) (packet 0 p.sec p.frac (length (merged_of (p ∷ rest)).packet.frame) (merged_of (p ∷ rest)).packet.frame))
    ≡ item_bytes order q (merged_of (p ∷ rest))
merged_record order q p [] some = absurd (omega (arith, some))
merged_record order q p (next ∷ more) some = refl
