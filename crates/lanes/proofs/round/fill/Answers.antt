use Rattle.std.proofs.Common.{◌≡◌, ◌++◌, [], ℕ, List, map, take, drop, length, refl, sym, ap, subst, arith, ◌∙◌}
use Rattle.std.specs.Prelude.{All}
use Rattle.frags.specs.Account.{Keeps, KeepsBlocks, both}
use Rattle.gro.specs.Slots.{packet_of, of_packets, AreAlone}
use Rattle.lanes.specs.declared.lane.QueueLane.{QueueLane}
use Rattle.lanes.specs.declared.lane.TapLane.{TapLane}
use Rattle.lanes.specs.Lanes.{of_queues, of_taps, counts_of_queues, weighed_queues, IsTapReady}
use Rattle.lanes.specs.Sharing.{EachFrom, HasMemory, IsSharing}
use Rattle.lanes.specs.Work.{spread_of, IsToWork, MayWatch}
use Rattle.lanes.proofs.Idle.{idle_counts, idle_ready, idle_weighed}
use Rattle.lanes.proofs.Listing.{refilled}
use Rattle.lanes.proofs.Sharing.{idle_alone, lanes_alone}
use Rattle.lanes.proofs.Whole.{blocks_all, blocks_none, blocks_taps, fill_all, fill_none, fill_taps, on_both, own_there, unshared_none, unshared_some}
use Rattle.lanes.proofs.Worked.{all_to_work}
use Rattle.lanes.proofs.round.fill.Goals.{In_err-serve_taps, After-share_out}
use Rattle.lanes.proofs.round.fill.Given as given
use Rattle.lanes.proofs.round.fill.Goals as goal

-- a list that was written over all of a vector is what that holds
abbrev written : {A : Type 0} → ℕ → List A → List A → List A
written len ws xs = take len (ws ++ drop (length ws) xs)

taps_refused : (g : given.Over) (c : In_err-serve_taps g) → written c.open_lanes.new.lanes.taps.len c.serve_taps.new.lanes c.open_lanes.new.lanes.taps.items ≡ c.serve_taps.new.lanes
taps_refused g c =
    let taps = c.open_lanes.new.lanes.taps in
    refilled taps.len c.serve_taps.new.lanes taps.items (omega (arith, c.in_err-serve_taps.ensures.serves.size)) (omega (arith, taps.ok))

taps_served : (g : given.Over) (c : After-share_out g) → written c.open_lanes.new.lanes.taps.len c.serve_taps.new.lanes c.open_lanes.new.lanes.taps.items ≡ c.serve_taps.new.lanes
taps_served g c =
    let taps = c.open_lanes.new.lanes.taps in
    refilled taps.len c.serve_taps.new.lanes taps.items (omega (arith, c.in_ok-serve_taps.ensures.serves.size)) (omega (arith, taps.ok))

queues_filled : (g : given.Over) (c : After-share_out g) → written c.open_lanes.new.lanes.queues.len c.share_out.new.lanes c.open_lanes.new.lanes.queues.items ≡ c.share_out.new.lanes
queues_filled g c =
    let queues = c.open_lanes.new.lanes.queues in
    refilled queues.len c.share_out.new.lanes queues.items (omega (arith, c.share_out.ensures.shares.size)) (omega (arith, queues.ok))

-- so what holds of queues and taps by themselves holds of the lanes
of_both : (g : given.Over) (c : After-share_out g) (P : List QueueLane → List TapLane → Type 0) → P c.share_out.new.lanes c.serve_taps.new.lanes
    → P (written c.open_lanes.new.lanes.queues.len c.share_out.new.lanes c.open_lanes.new.lanes.queues.items)
    (written c.open_lanes.new.lanes.taps.len c.serve_taps.new.lanes c.open_lanes.new.lanes.taps.items)
of_both g c P h =
    subst (λ (z : List QueueLane). P z (written c.open_lanes.new.lanes.taps.len c.serve_taps.new.lanes c.open_lanes.new.lanes.taps.items)) (sym (queues_filled g c))
    (subst (P c.share_out.new.lanes) (sym (taps_served g c)) h)

pub returns-in_err-open_lanes-clause-fills : goal.returns-in_err-open_lanes-clause-fills
returns-in_err-open_lanes-clause-fills g c =
    let p = of_packets c.args.packets.now.items in
    let ls = c.open_lanes.new.lanes in
    let idle = c.in_err-open_lanes.ensures.idle in
    record {
      kept = fill_none p ls idle;
      blocks = blocks_none p ls idle;
      count = omega (arith, idle_counts ls.queues.items idle.0);
      named = λ w. omega (arith, idle_weighed w ls.queues.items idle.0);
      unshared = unshared_none c.args.shared c.args.plan.now c.args.packets.now.items ls idle;
    }

pub returns-in_err-open_lanes-clause-ready : goal.returns-in_err-open_lanes-clause-ready
returns-in_err-open_lanes-clause-ready g c = idle_ready c.open_lanes.new.lanes.taps.items c.in_err-open_lanes.ensures.idle.1

pub returns-in_err-serve_taps-clause-fills : goal.returns-in_err-serve_taps-clause-fills
returns-in_err-serve_taps-clause-fills g c =
    let qs = c.open_lanes.new.lanes.queues.items in
    let ts = c.serve_taps.new.lanes in
    let p = of_packets c.args.packets.now.items in
    let q = of_packets c.serve_taps.new.packets.items in
    let none = c.in_ok-open_lanes.ensures.idle.0 in
    let e = c.in_err-serve_taps.ensures in
    let is = taps_refused g (goal.at.returns-in_err-serve_taps-clause-fills g c).In_err-serve_taps in
    let size : length ts ≡ c.args.plan.now.taps = omega (arith, e.serves.size, c.in_ok-open_lanes.ensures.size.1) in
    record {
      kept = subst (λ (z : List TapLane). Keeps p (both q (both (of_queues qs) (of_taps z)))) (sym is) (fill_taps p q qs ts none e.serves.kept);
      blocks = subst (λ (z : List TapLane). KeepsBlocks p (both q (both (of_queues qs) (of_taps z)))) (sym is) (blocks_taps p q qs ts none e.serves.blocks);
      count = omega (arith, idle_counts qs none, e.same.counts);
      named = λ w. omega (arith, idle_weighed w qs none, e.same.named w);
      unshared = unshared_some c.args.shared c.args.plan.now c.args.packets.now.items c.serve_taps.new.packets.items _ qs ts refl is size e.idle
          (λ own alone. (subst AreAlone (sym (e.stay (own_there c.args.shared c.args.plan.now _ (omega (arith, size, e.serves.size)) own))) alone, idle_alone qs none));
    }

pub returns-in_err-serve_taps-clause-ready : goal.returns-in_err-serve_taps-clause-ready
returns-in_err-serve_taps-clause-ready g c =
    subst (All IsTapReady) (sym (taps_refused g (goal.at.returns-in_err-serve_taps-clause-ready g c).In_err-serve_taps)) c.in_err-serve_taps.ensures.serves.ready

pub returns-clause-fills : goal.returns-clause-fills
returns-clause-fills g c =
    let at = (goal.at.returns-clause-fills g c).After-share_out in
    let p = of_packets c.args.packets.now.items in
    let q = of_packets c.serve_taps.new.packets.items in
    let r = of_packets c.share_out.new.packets.items in
    let qs = c.share_out.new.lanes in
    let ts = c.serve_taps.new.lanes in
    let now = c.serve_taps.new.packets.items in
    let e = c.in_ok-serve_taps.ensures in
    let shares = c.share_out.ensures.shares in
    let size : length ts ≡ c.args.plan.now.taps = omega (arith, e.serves.size, c.in_ok-open_lanes.ensures.size.1) in
    record {
      kept = of_both g at (λ qs ts. Keeps p (both r (both (of_queues qs) (of_taps ts)))) (fill_all p q r qs ts e.serves.kept shares.account);
      blocks = of_both g at (λ qs ts. KeepsBlocks p (both r (both (of_queues qs) (of_taps ts)))) (blocks_all p q r qs ts e.serves.blocks shares.account);
      count = omega (arith, ap counts_of_queues (queues_filled g at), shares.counts, e.same.counts);
      named = λ w. omega (arith, ap (weighed_queues w) (queues_filled g at), shares.named w, e.same.named w);
      unshared = unshared_some c.args.shared c.args.plan.now c.args.packets.now.items c.share_out.new.packets.items _ qs ts (queues_filled g at) (taps_served g at) size e.idle
          (λ own alone.
          let h = subst AreAlone (sym (e.stay (own_there c.args.shared c.args.plan.now _ (omega (arith, size, e.serves.size)) own))) alone in
          (shares.alone h, lanes_alone (spread_of c.args.plan.now) now c.share_out.new.packets.items qs h shares.shared));
    }

pub returns-clause-ready : goal.returns-clause-ready
returns-clause-ready g c = subst (All IsTapReady) (sym (taps_served g (goal.at.returns-clause-ready g c).After-share_out)) c.in_ok-serve_taps.ensures.serves.ready

pub returns-clause-queues : goal.returns-clause-queues
returns-clause-queues g c =
    let ws = c.share_out.new.lanes in
    let old = c.args.packets.now.items in
    let now = c.serve_taps.new.packets.items in
    let n = spread_of c.args.plan.now in
    let qs = c.open_lanes.new.lanes.queues in
    on_both c.share_out.result (c.share_out.new.packets.items ≡ []) (All HasMemory ws) (EachFrom (IsToWork n (map packet_of old)) 0 (written qs.len ws qs.items))
    (λ none memory.
    subst (EachFrom (IsToWork n (map packet_of old)) 0) (sym (queues_filled g (goal.at.returns-clause-queues g c).After-share_out))
    (all_to_work n old now ws c.in_ok-serve_taps.ensures.same c.requires.may.rising c.requires.may.few
    (subst (λ z. EachFrom (IsSharing n now z) 0 ws) none c.share_out.ensures.shares.shared) memory))
    c.share_out.ensures.all c.share_out.ensures.memory

pub returns-clause-size : goal.returns-clause-size
returns-clause-size g c =
    let ls = c.open_lanes.new.lanes in
    let qs = c.share_out.new.lanes in
    let ts = c.serve_taps.new.lanes in
    let plan = c.args.plan.now in
    let sizes = c.in_ok-open_lanes.ensures.size in
    on_both c.share_out.result (c.share_out.new.packets.items ≡ []) (All HasMemory qs)
    ((length (written ls.queues.len qs ls.queues.items) ≡ plan.queues) × (length (written ls.taps.len ts ls.taps.items) ≡ plan.taps))
    (λ none memory.
    of_both g (goal.at.returns-clause-size g c).After-share_out (λ qs ts. (length qs ≡ plan.queues) × (length ts ≡ plan.taps))
    (c.share_out.ensures.shares.size ∙ ap length c.deref_mut-2.ensures.value ∙ sizes.0, c.in_ok-serve_taps.ensures.serves.size ∙ ap length c.deref_mut.ensures.value ∙ sizes.1))
    c.share_out.ensures.all c.share_out.ensures.memory

pub returns-clause-taps : goal.returns-clause-taps
returns-clause-taps g c =
    let ts = c.serve_taps.new.lanes in
    let lanes = c.open_lanes.new.lanes.taps in
    let served = EachFrom (MayWatch c.args.shared c.args.plan.now (map packet_of c.args.packets.now.items)) 0 in
    on_both c.share_out.result (c.share_out.new.packets.items ≡ []) (All HasMemory c.share_out.new.lanes) (served (written lanes.len ts lanes.items))
    (λ none memory. subst served (sym (taps_served g (goal.at.returns-clause-taps g c).After-share_out)) c.in_ok-serve_taps.ensures.serves.served) c.share_out.ensures.all c.share_out.ensures.memory
