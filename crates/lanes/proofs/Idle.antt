-- Lanes that hold nothing.

use Rattle.std.proofs.Common.{◌≡◌, ℕ, zero, suc, List, [], ◌∷◌, get_or, refl, ap, arith, length}
use Rattle.std.specs.Prelude.{All, Bool, Ok}
use Rattle.frags.specs.Account.{Tests, receipts_held, soles_home}
use Rattle.gro.specs.Slots.{of_packets, counts_of, weighed_slots}
use Rattle.taps.specs.Clones.{blocks_of, of_clones}
use Rattle.lanes.specs.declared.lane.QueueLane.{QueueLane}
use Rattle.lanes.specs.declared.lane.TapLane.{TapLane}
use Rattle.lanes.specs.declared.lane.Lanes.{Lanes}
use Rattle.lanes.specs.declared.plan.LanePlan.{LanePlan}
use Rattle.lanes.specs.Lanes.{of_queue, of_queues, of_tap, of_taps, of_lanes, counts_of_queues, weighed_queues, AreIdle, IsIdleQueue, IsIdleTap, IsTapReady}
use Rattle.gro.specs.declared.slot.Slot.{Slot as Held}
use Rattle.lanes.specs.Filling.{Serves}

pub idle_queue : (l : QueueLane) → IsIdleQueue l → (t : Tests) (m : ℕ) → ((of_queue l).held t m ≡ 0) × ((of_queue l).homes t.blocks m ≡ 0)
idle_queue l s t m =
    let ps = ap (λ z. (of_packets z).held t m) s.packets in
    let qs = ap (λ z. (of_packets z).homes t.blocks m) s.packets in
    (omega (arith, ps), omega (arith, qs))

pub idle_queues : (ls : List QueueLane) → All IsIdleQueue ls → (t : Tests) (m : ℕ) → ((of_queues ls).held t m ≡ 0) × ((of_queues ls).homes t.blocks m ≡ 0)
idle_queues [] h t m = (refl, refl)
idle_queues (l ∷ ls) h t m =
    let a = idle_queue l (h zero l (omega arith)) t m in
    let i = idle_queues ls (λ j d lt. h (suc j) d (omega (arith, lt))) t m in
    (omega (arith, a.0, i.0), omega (arith, a.1, i.1))

pub idle_tap : (l : TapLane) → IsIdleTap l → (t : Tests) (m : ℕ) → ((of_tap l).held t m ≡ 0) × ((of_tap l).homes t.blocks m ≡ 0)
idle_tap l s t m =
    let ps = ap (λ z. (of_clones z).held t m) s.clones in
    let qs = ap (λ z. (of_clones z).homes t.blocks m) s.clones in
    let r = ap (receipts_held t m) s.bare.1 in
    let o = ap (soles_home t.blocks m) s.bare.0 in
    (omega (arith, ps, r), omega (arith, qs, o))

pub idle_taps : (ls : List TapLane) → All IsIdleTap ls → (t : Tests) (m : ℕ) → ((of_taps ls).held t m ≡ 0) × ((of_taps ls).homes t.blocks m ≡ 0)
idle_taps [] h t m = (refl, refl)
idle_taps (l ∷ ls) h t m =
    let a = idle_tap l (h zero l (omega arith)) t m in
    let i = idle_taps ls (λ j d lt. h (suc j) d (omega (arith, lt))) t m in
    (omega (arith, a.0, i.0), omega (arith, a.1, i.1))

pub idle_lanes : (l : Lanes) → AreIdle l → (t : Tests) (m : ℕ) → ((of_lanes l).held t m ≡ 0) × ((of_lanes l).homes t.blocks m ≡ 0)
idle_lanes l h t m =
    let q = idle_queues l.queues.items h.0 t m in
    let a = idle_taps l.taps.items h.1 t m in
    (omega (arith, q.0, a.0), omega (arith, q.1, a.1))

-- ---- how many blocks and parts they hold

pub idle_counts : (ls : List QueueLane) → All IsIdleQueue ls → counts_of_queues ls ≡ 0
idle_counts [] h = refl
idle_counts (l ∷ ls) h =
    let s = h zero l (omega arith) in
    omega (arith, ap counts_of s.packets, idle_counts ls (λ j d lt. h (suc j) d (omega (arith, lt))))

-- what they weigh
pub idle_weighed : (w : ℕ → ℕ) (ls : List QueueLane) → All IsIdleQueue ls → weighed_queues w ls ≡ 0
idle_weighed w [] h = refl
idle_weighed w (l ∷ ls) h =
    let s = h zero l (omega arith) in
    omega (arith, ap (weighed_slots w) s.packets, idle_weighed w ls (λ j d lt. h (suc j) d (omega (arith, lt))))

pub ready_tap : (l : TapLane) → IsIdleTap l → IsTapReady l
ready_tap l h = omega (arith, ap blocks_of h.clones)

pub idle_ready : (ls : List TapLane) → All IsIdleTap ls → All IsTapReady ls
idle_ready ls h i d lt = ready_tap (get_or ls i d) (h i d lt)

pub idle_clones : (ls : List TapLane) → All IsIdleTap ls → All (λ (l : TapLane). l.clones.items ≡ []) ls
idle_clones ls h i d lt = (h i d lt).clones

-- where there is no tap, nothing is served
pub none_served : {T E : Type 0} (shared : Bool) (plan : LanePlan) (ps : List Held) (ls : List TapLane) (result : T) → length ls ≡ 0
    → Serves {T = T} {E = E} shared plan ps ps ls ls (Ok result)
none_served shared plan ps [] result none = record { kept = λ t m. (omega arith, omega arith); blocks = λ bs m. omega arith; ready = λ i d lt. absurd (omega arith); served = tt; size = refl }
none_served shared plan ps (l ∷ ls) result none = absurd (omega arith)
