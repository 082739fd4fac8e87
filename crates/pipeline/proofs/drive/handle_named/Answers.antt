use Rattle.std.proofs.Common.{◌≡◌, ℕ, ◌∙◌, ◌+◌, ◌-◌, ◌^◌, ◌<◌, ◌≤◌, ◌++◌, min, Some, List, ap, sym, subst, refl, length}
use Rattle.std.specs.Arc.{arc_value}
use Rattle.block_pool.specs.Giving.{given_by, weights_given}
use Rattle.block_pool.specs.Listed.{blocks_in}
use Rattle.block_pool.specs.PassState.{SharedState}
use Rattle.block_pool.specs.PoolState.{home, weighed}
use Rattle.raw_block.specs.Views.{SoleState}
use Rattle.rtrb.specs.Ring.{sent, received, known_items}
use Rattle.rounds.specs.Benches.{options_at}
use Rattle.rounds.specs.Merging.{options_of}
use Rattle.rounds.specs.RoundsState.{BenchState, IntakeState, RoundsState}
use Rattle.rounds.specs.Weights.{weights_of}
use Rattle.rounds.specs.declared.round_stages.RoundRead.{RoundRead}
use Rattle.rounds.specs.declared.spares.Spares.{Spares}
use Rattle.rounds.specs.Handled.{GaveSpares}
use Rattle.pipeline.specs.declared.parcel.Parcel.{Parcel}
use Rattle.pipeline.specs.Handled.{weights_out}
use Rattle.block_supply.specs.Lists.{HasGiver, weights_listed}
use Rattle.pipeline.specs.Parcels.{weights_sent}
use Rattle.rounds.specs.Reads.{reader_at}
use Rattle.pipeline.proofs.Rows.{sum_of_both, weights_sent_append}
use Rattle.pipeline.proofs.Counting.{all_counted, all_counts, few_home, room_later, room_left, whole_home}
use Rattle.rounds.proofs.Going.{counted_as, ready_as}
use Rattle.pipeline.proofs.Together.{all_went, ends_as, idle_as, left_weights, one_again}
use Rattle.block_supply.proofs.Listing.{ones}
use Rattle.pipeline.proofs.Lending.{gave_home, given_ones, giver_back}
use Rattle.pipeline.proofs.drive.handle_named.Given as given
use Rattle.pipeline.proofs.drive.handle_named.Goals as goal
use Rattle.pipeline.proofs.drive.handle_named.Goals.{After-ending-ended}

-- where all blocks are: home, in lists, in rounds that nobody worked, or in the round that comes back
counted : (g : given.Over) (c : After-ending-ended g) (h : ℕ → ℕ)
    → weighed h c.run_sides-end.new.intake.stock + weighed h c.run_sides-end.new.list.blocks + weighed h c.close-taker.result.left.blocks + weights_given c.run_sides-end.new.giver h
    + weights_sent h (known_items c.ending-ended.new.from) + weights_out c.ending-ended.result h
    ≡ weighed h c.args.rounds.now.stock + weights_of c.args.read.round h + weights_listed h c.close-taker.result.pass.taken
counted g c h =
    let a = c.slots_beside-waiting.ensures in
    all_counted (weighed h c.run_sides-end.new.intake.stock) (weighed h c.rounds.inside.intake.stock) (weights_sent h (sent c.send_first.new.out)) (weighed h c.run_sides-end.new.list.blocks)
    (weights_given c.run_sides-end.new.giver h) (weights_sent h (received c.run_sides-end.new.from)) (weights_sent h (known_items c.ending-ended.new.from)) (weights_out c.ending-ended.result h)
    (weighed h c.new.result.taker.left.blocks)
    (c.run_sides-end.ensures.read.named h) (c.run_sides-end.ensures.worked.each h) (c.run_sides-end.new.supply.arrivals.taker.weighs h)
    (ap (λ t. weights_listed h t.pass.taken) c.new.ensures.same ∙ ap (weights_listed h) c.args.way.untaken.0) (ap (weights_listed h) c.args.way.ungiven.1)
    (sum_of_both (weights_sent h) (weights_sent_append h) (received c.run_sides-end.new.from) (received c.slots_beside-waiting.new.self) (known_items c.slots_beside-waiting.new.self) _ _ a.looked.1 a.fifo a.producer.1)
    (left_weights h g.H.RoundHandler.stopped c.run_sides-end.result c.ending-ended.result (known_items c.slots_beside-waiting.new.self) (known_items c.ending-ended.new.from) c.ending-ended.ensures.some
    c.ending-ended.ensures.none)
    (ap (λ t. weighed h t.left.blocks) c.close-taker.ensures.same) (ap (λ t. weights_listed h t.pass.taken) c.close-taker.ensures.same)
    (ap (λ (s : RoundsState). weighed h s.stock) c.rounds.view_is) (ap (weights_sent h) c.send_first.ensures.sent.1) (ap (λ (x : RoundRead). weights_of x.round h) c.send_first.ensures.sent.2)

-- once those of lists are home, with these
whole : (g : given.Over) (c : After-ending-ended g) (stock : List SoleState) (h : ℕ → ℕ)
    → weighed h stock + weights_listed h c.close-taker.result.pass.taken
    ≡ weighed h c.run_sides-end.new.intake.stock + weighed h c.run_sides-end.new.list.blocks + weighed h c.close-taker.result.left.blocks + weights_given c.run_sides-end.new.giver h
    → weighed h stock + weights_sent h (known_items c.ending-ended.new.from) + weights_out c.ending-ended.result h ≡ weighed h c.args.rounds.now.stock + weights_of c.args.read.round h
whole g c stock h came =
    whole_home (weighed h stock) (weights_listed h c.close-taker.result.pass.taken) (weights_sent h (known_items c.ending-ended.new.from)) (weights_out c.ending-ended.result h) (weighed h c.args.rounds.now.stock)
    (weights_of c.args.read.round h) came (counted g c h)

pub run_sides-end-requires-clause-reads : goal.run_sides-end-requires-clause-reads
run_sides-end-requires-clause-reads g c κs within =
    let on = c.requires.out.goes c.requires.full in
    let one = c.send_first.ensures.sent in
    record {
      ready = on.ready;
      link = on.link;
      named = ap (λ (s : RoundsState). s.blocks) c.rounds.view_is ∙ c.requires.named;
      first = (
        one.0,
        one.1,
        ap (λ (r : RoundRead). r.end) one.2 ∙ c.requires.full,
        subst (λ (r : RoundRead). length r.round.packets ≤ c.args.reader.now.place.number) (sym one.2) on.packets,
      );
    }

pub run_sides-end-requires-clause-works : goal.run_sides-end-requires-clause-works
run_sides-end-requires-clause-works g c κs within =
    let p = c.prepare.ensures in
    let r = c.in-Ok.ensures in
    let w = c.args.way in
    let first = c.args.rounds.now in
    let view = c.rounds.view_is in
    record {
      named = ap (λ (b : BenchState). b.blocks) p.same ∙ c.rounds.invariant.blocks ∙ ap (λ (s : RoundsState). s.blocks) view ∙ c.requires.named;
      room = r.room;
      empty = r.list;
      lent = w.ungiven.2;
      none = r.ring.2;
      start = ready_as (g.H.RoundHandler.did c.args.handler.now) g.H.RoundHandler.stopped g.H.RoundHandler.ready (options_at c.prepare.new.bench) (options_of first) c.prepare.new.bench.keep first.keep 0 c.args.into.now
          (sym (ap options_at p.same ∙ ap options_of view)) (sym (ap (λ (b : BenchState). b.keep) p.same ∙ ap (λ (s : RoundsState). s.keep) view)) c.requires.out.start;
    }

pub bring_home-requires : goal.bring_home-requires
bring_home-requires g c =
    let r = c.run_sides-end.ensures.read in
    let k = c.run_sides-end.ensures.worked in
    let w = c.args.way in
    let d = c.run_sides-end.new.supply.arrivals in
    record {
      giver = subst (λ (l : SharedState). HasGiver l c.run_sides-end.new.giver)
          (c.requires.way ∙ sym d.pooled ∙ sym (ap (λ t. arc_value t.lists) c.close-taker.ensures.same))
          (giver_back (arc_value w.taker.lists) (Some w.giver) c.run_sides-end.new.giver
          (record { it = w.giver; is = refl; pool_is = w.same; parts = w.ungiven.0; none = w.ungiven.2 }) k.lends);
      room = all_counts (length c.run_sides-end.new.intake.stock) (home c.run_sides-end.new.list) (home c.close-taker.result.left) (given_by c.run_sides-end.new.giver)
          (weights_sent (λ _. 1) (known_items c.ending-ended.new.from)) (weights_out c.ending-ended.result (λ _. 1)) (weighed (λ _. 1) c.args.rounds.now.stock)
          (weights_of c.args.read.round (λ _. 1)) (blocks_in c.close-taker.result.pass.taken)
          (counted g (goal.at.bring_home-requires g c).After-ending-ended (λ _. 1)) (ones c.run_sides-end.new.intake.stock) (ones c.run_sides-end.new.list.blocks)
          (ones c.close-taker.result.left.blocks) (given_ones c.run_sides-end.new.giver) (ones c.args.rounds.now.stock) (ap (λ (n : ℕ). length c.args.rounds.now.stock + n) c.blocks-2.ensures.weighs ∙ c.requires.out.out) (r.same.0 ∙ ap (λ (s : RoundsState). s.blocks) c.rounds.view_is);
    }

abbrev lent : IntakeState → Spares → BenchState → RoundsState
lent i s b = record { stock = i.stock; blocks = i.blocks; taken = i.taken; empties = i.empties; pauses = i.pauses; spares = s; budget = b.budget; plan = b.plan; keep = b.keep }

pub returns-in_default-clause-handled : goal.returns-in_default-clause-handled
returns-in_default-clause-handled g c = (
  refl,
  idle_as c.args.rounds.now _ (reader_at g.S.Source.left g.S.Source.faults c.args.reader.now c.args.rounds.now.taken) c.args.into.now
      (ap (lent c.rounds.inside.intake c.rounds.inside.spares) c.prepare.ensures.same ∙ c.rounds.view_is),
)

pub invariant_of-rounds-2 : goal.invariant_of-rounds-2
invariant_of-rounds-2 g c =
    let k = c.run_sides-end.ensures.worked in
    let f = c.bring_home.ensures in
    one_again c.rounds.inside.intake c.run_sides-end.new.intake c.bring_home.new.intake c.rounds.inside.bench c.prepare.new.bench c.run_sides-end.new.bench (home c.run_sides-end.new.list)
    c.rounds.invariant c.prepare.ensures.same c.run_sides-end.ensures.read.same k.same k.room f.same f.least

pub drop_parcels-requires : goal.drop_parcels-requires
drop_parcels-requires g c =
    let f = c.bring_home.ensures in
    record {
      room = room_left (length c.bring_home.new.intake.stock) (weights_sent (λ _. 1) (known_items c.ending-ended.new.from)) (weights_out c.ending-ended.result (λ _. 1)) (weights_of c.args.read.round (λ _. 1))
          (whole g (goal.at.drop_parcels-requires g c).After-ending-ended c.bring_home.new.intake.stock (λ _. 1) (f.named (λ _. 1))) (ones c.bring_home.new.intake.stock) (ones c.args.rounds.now.stock) (ap (λ (n : ℕ). length c.args.rounds.now.stock + n) c.blocks-2.ensures.weighs ∙ c.requires.out.out)
          (ap (λ (i : IntakeState). i.blocks) f.same ∙ c.run_sides-end.ensures.read.same.0 ∙ ap (λ (s : RoundsState). s.blocks) c.rounds.view_is);
    }

pub returns-clause-handled : goal.returns-clause-handled
returns-clause-handled g c =
    let r = c.run_sides-end.ensures.read in
    let k = c.run_sides-end.ensures.worked in
    let a = c.slots_beside-waiting.ensures in
    let e = c.ending-ended.ensures in
    let w = c.args.way in
    let p = c.prepare.ensures in
    let f = c.bring_home.ensures in
    let d = c.drop_parcels.ensures.same in
    let known = known_items c.slots_beside-waiting.new.self in
    let left = known_items c.ending-ended.new.from in
    let first = c.args.rounds.now in
    let new = c.drop_parcels.new.rounds in
    let intake = c.rounds.inside.intake in
    let did = g.H.RoundHandler.did c.args.handler.now in
    let view = c.rounds.view_is in
    let options : options_at c.prepare.new.bench ≡ options_of first = ap options_at p.same ∙ ap options_of view in
    let keep = ap (λ (b : BenchState). b.keep) p.same ∙ ap (λ (s : RoundsState). s.keep) view in
    let named : (h : ℕ → ℕ) → weighed h new.stock + weights_out c.ending-ended.result h ≡ weighed h first.stock + weights_of c.args.read.round h =
    λ h. ap (λ (n : ℕ). n + weights_out c.ending-ended.result h) (c.drop_parcels.ensures.named h) ∙ whole g (goal.at.returns-clause-handled g c).After-ending-ended c.bring_home.new.intake.stock h (f.named h) in
    all_went (did (options_of first)) g.H.RoundHandler.stopped (g.H.RoundHandler.ready (options_of first) first.keep) first new intake c.run_sides-end.new.intake.taken c.args.read
    (reader_at g.S.Source.left g.S.Source.faults c.args.reader.now first.taken) (reader_at g.S.Source.left g.S.Source.faults c.run_sides-end.new.reader new.taken)
    (sent c.send_first.new.out) (sent c.run_sides-end.new.supply.out) (received c.run_sides-end.new.from) known
    (record {
      blocks = ap (λ (s : RoundsState). s.blocks) view;
      budget = sym c.rounds.invariant.budget ∙ ap (λ (s : RoundsState). s.budget) view;
      before = ap (λ (s : RoundsState). s.taken) view;
      same = (
        ap (λ (s : RoundsState). s.blocks) d ∙ ap (λ (i : IntakeState). i.blocks) f.same ∙ r.same.0 ∙ ap (λ (s : RoundsState). s.blocks) view,
        ap options_of d ∙ ap options_at k.same ∙ options,
        ap (λ (s : RoundsState). s.keep) d ∙ ap (λ (b : BenchState). b.keep) k.same ∙ keep,
      );
      after = ap (λ (s : RoundsState). s.taken) d ∙ ap (λ (i : IntakeState). i.taken) f.same;
      pauses = few_home c.new.result.taker.pass.empties r.paused (ap (λ (s : RoundsState). s.pauses) d ∙ ap (λ (i : IntakeState). i.pauses) f.same) (ap (λ (s : RoundsState). s.pauses) view)
          (ap (λ (s : RoundsState). s.empties) d ∙ f.empties) (r.same.2 ∙ ap (λ (s : RoundsState). s.empties) view) (ap (λ t. t.pass.empties) c.close-taker.ensures.same);
      gives = subst (λ (s : Spares). GaveSpares s new.spares) (ap (λ (s : RoundsState). s.spares) view)
          (subst (GaveSpares c.rounds.inside.spares) (sym (ap (λ (s : RoundsState). s.spares) d))
          (gave_home _ c.rounds.inside.spares c.run_sides-end.new.spares c.refuse.new.self w.giver c.run_sides-end.new.giver k.spares
          (c.refuse.ensures.counted ∙ ap (λ (n : ℕ). record c.run_sides-end.new.spares { refused = min (c.run_sides-end.new.spares.refused + n) (2 ^ 64 - 1) }) f.fulls) c.refuse.ensures.later));
    })
    (record {
      out = c.requires.out.out;
      weighs = c.blocks-2.ensures.weighs;
      full = c.requires.full;
      few = subst (λ (n : ℕ). n < 2 ^ 64) c.taken.ensures.value c.taken.type_inv;
      alone = c.send_first.ensures.sent;
      on = r.read;
      fifo = ap (λ (l : List Parcel). l ++ known) (sym a.looked.1) ∙ a.fifo ∙ a.producer.1;
      later = r.later;
    })
    c.args.into.now c.run_sides-end.new.into
    (counted_as did g.H.RoundHandler.stopped g.H.RoundHandler.ready (options_of first) (options_at c.prepare.new.bench) first.keep c.prepare.new.bench.keep (2 ^ 32 + 4096) c.run_sides-end.new.into options
    keep k.ready)
    c.run_sides-end.result c.ending-ended.result left named
    (ends_as did g.H.RoundHandler.stopped (options_of first) (options_at c.prepare.new.bench) (received c.run_sides-end.new.from) c.args.into.now c.run_sides-end.new.into c.run_sides-end.result
    options k.handled)
    e.some e.none

pub invariant_of-rounds : goal.invariant_of-rounds
invariant_of-rounds g c =
    let p = c.prepare.ensures in
    let v = c.rounds.invariant in
    let i = c.rounds.inside.intake in
    record {
      blocks = ap (λ (b : BenchState). b.blocks) p.same ∙ v.blocks;
      budget = ap (λ (b : BenchState). b.budget) p.same ∙ v.budget;
      few = v.few;
      room = room_later (i.blocks + i.blocks) (length i.stock + length i.stock) c.rounds.inside.bench.room c.prepare.new.bench.room v.room p.later;
    }

pub returns-clause-same_source : goal.returns-clause-same_source
returns-clause-same_source g c = c.run_sides-end.ensures.same_source
