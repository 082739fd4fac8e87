use Rattle.std.proofs.Common.{◌≡◌, ◌+◌, ◌-◌, ◌≤◌, ◌^◌, ℕ, ◌∙◌, le_refl, [], ◌∷◌, None, Some, List, refl, inr, sym, ap, subst, arith, length}
use Rattle.block_pool.specs.Giving.{given_by, weights_given}
use Rattle.block_pool.specs.PoolState.{home, weighed}
use Rattle.rtrb.specs.Ring.{received}
use Rattle.rounds.specs.Benches.{options_at, GivesSpares, IsAsRead, Lends}
use Rattle.rounds.specs.RoundsState.{BenchState}
use Rattle.rounds.specs.Weights.{weights_of}
use Rattle.rounds.specs.declared.round_stages.RoundRead.{RoundRead}
use Rattle.rounds.specs.Handled.{Ends, IsReadyAtEnd, Went}
use Rattle.pipeline.specs.declared.parcel.Parcel.{Parcel}
use Rattle.pipeline.specs.Parcels.{last_blocks, packets_of, rounds_of, spares_before, spares_of, weights_sent, CountsSpares, IsLeft}
use Rattle.rounds.proofs.Going.{ready_as, went_more, went_ends, went_stopped}
use Rattle.block_supply.proofs.Listing.{weighed_none}
use Rattle.pipeline.proofs.Rows.{before_few, before_last, last_is, packets_append, packets_none, rounds_last, spares_last, weights_sent_append}
use Rattle.pipeline.proofs.Together.{handled_as}
use Rattle.pipeline.proofs.Kept.{bench_then, consumer_then}
use Rattle.pipeline.proofs.Counting.{came_more, left_last, may_bring, room_kept, room_more}
use Rattle.pipeline.proofs.Lending.{counts_again, counts_more, counts_none, given_least, left_again, left_few, left_then, lends_same, lends_then, lent_again, returns_fewer}
use Rattle.pipeline.proofs.sides.work_rounds.Given as given
use Rattle.pipeline.proofs.sides.work_rounds.Goals as goal
use Rattle.pipeline.proofs.sides.work_rounds.Goals.{After-handle, After-count, In-None-handle}

-- where the blocks of all rounds are that came, once the last of them was handled
came : (g : given.Over) (c : After-handle g) (h : ℕ → ℕ) → weighed h c.handle.new.home.blocks + weights_given c.handle.new.giver h
    ≡ weights_sent h (received c.next_round.new.from) + weights_given c.args.giver.now h
came g c h =
    let r = c.next_round.ensures.returns in
    came_more (weighed h c.loop.list.blocks) (weights_given c.loop.giver h) (weights_sent h (received c.loop.from)) (weights_given c.args.giver.now h) (weighed h c.next_round.new.list.blocks) (weights_given c.next_round.new.giver h) (weighed h c.handle.new.home.blocks)
    (weights_given c.handle.new.giver h) (c.loop.invariant.named h) (r.named h) (c.handle.ensures.brings.named h) (ap (λ (r : RoundRead). weights_of r.round h) c.open-number.ensures.same.1)
    (ap (weights_sent h) c.in-Some-next_round.ensures.item.came ∙ weights_sent_append h (received c.loop.from) (c.in-Some-next_round.parcel ∷ []))

lent_on : (g : given.Over) (c : After-handle g) → Lends c.args.giver.now c.handle.new.giver
lent_on g c =
    lends_then c.args.giver.now c.next_round.new.giver c.handle.new.giver (lends_then c.args.giver.now c.loop.giver c.next_round.new.giver c.loop.invariant.lends c.next_round.ensures.returns.gave) c.handle.ensures.gave

-- no more is left than the last of them had
left_on : (g : given.Over) (c : After-handle g) → IsLeft (last_blocks (received c.next_round.new.from)) c.handle.new.home c.args.giver.now c.handle.new.giver
left_on g c =
    let r = c.next_round.ensures.returns in
    let item = c.in-Some-next_round.ensures.item in
    left_again 0 (last_blocks (received c.next_round.new.from)) c.next_round.new.list c.handle.new.home c.args.giver.now c.next_round.new.giver c.handle.new.giver c.handle.ensures.gave
    (left_last (home c.next_round.new.list) (home c.handle.new.home) c.handle.ensures.brings.count (given_least c.next_round.new.giver c.handle.new.giver c.handle.ensures.gave)
    (ap (λ (r : RoundRead). r.round.blocks) c.open-number.ensures.same.1) (last_is (received c.loop.from) (received c.next_round.new.from) c.in-Some-next_round.parcel item.came))
    (left_again 0 0 c.loop.list c.next_round.new.list c.args.giver.now c.loop.giver c.next_round.new.giver r.gave
    (λ few. omega (arith, few, returns_fewer c.loop.giver c.next_round.new.giver c.loop.list c.next_round.new.list r)) c.loop.invariant.left)

-- of those before it the spares were given
spares_on : (g : given.Over) (c : After-handle g)
    → CountsSpares (spares_of (received c.loop.from)) c.args.spares.now c.loop.spares c.args.giver.now c.handle.new.giver
spares_on g c =
    counts_again _ _ c.args.spares.now c.loop.spares c.args.giver.now c.loop.giver c.handle.new.giver (le_refl (spares_of (received c.loop.from)))
    (lends_then c.loop.giver c.next_round.new.giver c.handle.new.giver c.next_round.ensures.returns.gave c.handle.ensures.gave) c.loop.invariant.spares

spares_left : (g : given.Over) (c : After-handle g)
    → CountsSpares (spares_before (received c.next_round.new.from)) c.args.spares.now c.loop.spares c.args.giver.now c.handle.new.giver
spares_left g c =
    subst (λ (n : ℕ). CountsSpares n c.args.spares.now c.loop.spares c.args.giver.now c.handle.new.giver)
    (sym (before_last (received c.loop.from) (received c.next_round.new.from) c.in-Some-next_round.parcel c.in-Some-next_round.ensures.item.came)) (spares_on g c)

-- what went of so many blocks, of which the others came to a list
went_elsewhere : (gone before blocks after given given' : ℕ) → gone ≡ before + blocks - after → after + given' ≡ before + blocks + given → given ≤ given' → gone + given ≡ given'
went_elsewhere gone before blocks after given given' is count least = omega arith

-- and its own
spares_more : (g : given.Over) (c : After-count g)
    → CountsSpares (spares_of (received c.next_round.new.from)) c.args.spares.now c.count.new.self c.args.giver.now c.handle.new.giver
spares_more g c =
    let p = c.in-Some-next_round.parcel in
    let o = c.open-number.ensures.same.1 in
    let n = spares_of (received c.loop.from) in
    let is = ap spares_of c.in-Some-next_round.ensures.item.came ∙ spares_last (received c.loop.from) p in
    subst (λ (k : ℕ). CountsSpares k c.args.spares.now c.count.new.self c.args.giver.now c.handle.new.giver)
    (omega (arith, is, ap (λ (r : RoundRead). length r.round.spares) o, c.spares-lent.ensures.spares))
    (counts_more n c.spares-lent.result c.gone.result c.args.spares.now c.loop.spares c.count.new.self c.args.giver.now c.next_round.new.giver c.handle.new.giver
    (lends_then c.args.giver.now c.loop.giver c.next_round.new.giver c.loop.invariant.lends c.next_round.ensures.returns.gave) c.handle.ensures.gave
    (went_elsewhere c.gone.result c.home-before.result c.blocks-blocks.result (home c.handle.new.home) (given_by c.next_round.new.giver) (given_by c.handle.new.giver) c.gone.ensures.value
    (omega (arith, c.handle.ensures.brings.count, c.home-before.ensures.home, c.blocks-blocks.ensures.blocks)) (given_least c.next_round.new.giver c.handle.new.giver c.handle.ensures.gave))
    (counts_again n n c.args.spares.now c.loop.spares c.args.giver.now c.loop.giver c.next_round.new.giver (le_refl n) c.next_round.ensures.returns.gave c.loop.invariant.spares)
    (subst (λ (k : ℕ). GivesSpares k c.next_round.new.giver c.handle.new.giver) (sym c.spares-lent.ensures.spares) (c.in-None-handle.ensures.gives_spares c.requires.gives refl))
    c.count.ensures.counted c.count.ensures.later)

-- what holds behind it
few_on : (g : given.Over) (c : After-handle g) → packets_of (rounds_of (received c.next_round.new.from)) ≤ 2 ^ 32 + 4096
few_on g c =
    let item = c.in-Some-next_round.ensures.item in
    let read = c.in-Some-next_round.parcel.read in
    let is_read : length read.round.packets ≤ 4096 = item.fits.is.few in
    omega (arith, ap packets_of (rounds_last (received c.loop.from) _ c.in-Some-next_round.parcel item.came), packets_append (rounds_of (received c.loop.from)) (read ∷ []), is_read, item.fits.packets)

ready_now : (g : given.Over) (c : After-handle g)
    → g.H.RoundHandler.ready (options_at c.args.bench.now) c.args.bench.now.keep (packets_of (rounds_of (received c.next_round.new.from))) c.handle.new.into
ready_now g c =
    let l = c.loop in
    let i = l.invariant in
    let first = c.args.bench.now in
    let read = c.in-Some-next_round.parcel.read in
    let n = packets_of (rounds_of (received l.from)) in
    let options = ap options_at i.bench in
    let keep = ap (λ (b : BenchState). b.keep) i.bench in
    let did = g.H.RoundHandler.did c.args.handler.now in
    subst (λ (m : ℕ). g.H.RoundHandler.ready (options_at first) first.keep m c.handle.new.into)
    (omega (
      arith,
      ap packets_of (rounds_last (received l.from) _ c.in-Some-next_round.parcel c.in-Some-next_round.ensures.item.came),
      packets_append (rounds_of (received l.from)) (read ∷ []),
      ap (λ (r : RoundRead). length r.round.packets) c.open-number.ensures.same.1,
    ))
    (ready_as did g.H.RoundHandler.stopped g.H.RoundHandler.ready (options_at first) (options_at l.bench) first.keep l.bench.keep (n + length c.open-number.result.1.round.packets) c.handle.new.into options keep
    (c.handle.ensures.ready n (ready_as did g.H.RoundHandler.stopped g.H.RoundHandler.ready (options_at l.bench) (options_at first) l.bench.keep first.keep n l.into (sym options) (sym keep) i.ready)))

ready_on : (g : given.Over) (c : After-handle g) → IsReadyAtEnd (g.H.RoundHandler.ready (options_at c.args.bench.now) c.args.bench.now.keep) c.handle.new.into
ready_on g c = (packets_of (rounds_of (received c.next_round.new.from)), few_on g c, ready_now g c)

-- what was done with them
went_on : (g : given.Over) (c : In-None-handle g)
    → Went (g.H.RoundHandler.did c.args.handler.now (options_at c.args.bench.now)) 0 c.args.into.now c.handle.new.into (rounds_of (received c.next_round.new.from))
went_on g c =
    let l = c.loop in
    let first = c.args.bench.now in
    let did = g.H.RoundHandler.did c.args.handler.now (options_at first) in
    let p = c.in-Some-next_round.parcel in
    let o = c.open-number.ensures.same in
    let item = c.in-Some-next_round.ensures.item in
    subst (Went did 0 c.args.into.now c.handle.new.into) (sym (rounds_last (received l.from) _ p item.came))
    (went_more did g.H.RoundHandler.stopped 0 c.args.into.now l.into c.handle.new.into (rounds_of (received l.from)) p.read l.invariant.went
    (handled_as (g.H.RoundHandler.did c.args.handler.now) g.H.RoundHandler.stopped g.H.RoundHandler.ready (options_at first) (options_at l.bench) l.into c.handle.new.into p.read c.open-number.result.1
    (0 + length (rounds_of (received l.from))) c.open-number.result.0 None (ap options_at l.invariant.bench) o.1 (omega (arith, o.0, item.fits.number)) c.in-None-handle.ensures.did))

pub handle-requires-clause-lent : goal.handle-requires-clause-lent
handle-requires-clause-lent g c = lent_again c.loop.giver c.next_round.new.giver c.next_round.ensures.returns.gave

pub handle-requires-clause-may : goal.handle-requires-clause-may
handle-requires-clause-may g c =
    let i = c.loop.invariant in
    let item = c.in-Some-next_round.ensures.item in
    may_bring c.in-Some-next_round.parcel.read.round.blocks g.N.PoolName.blocks c.loop.bench c.next_round.new.list (ap (λ (r : RoundRead). r.round.blocks) c.open-number.ensures.same.1) item.fits.blocks
    (ap (λ (b : BenchState). b.blocks) i.bench ∙ c.requires.works.named) item.room i.room

pub handle-requires-clause-read : goal.handle-requires-clause-read
handle-requires-clause-read g c = subst (λ (r : RoundRead). IsAsRead r.round) (sym c.open-number.ensures.same.1) c.in-Some-next_round.ensures.item.fits.is

pub loop-init : goal.loop-init
loop-init g c =
    let a = c.requires.works in
    let giver = c.args.giver.now in
    let first = c.args.bench.now in
    let into = c.args.into.now in
    record {
      from = ((refl, refl, refl, refl), refl);
      room = a.room;
      bench = refl;
      named = λ h. omega (arith, weighed_none h c.args.list.now.blocks a.empty, ap (weights_sent h) a.none);
      lends = lends_same giver a.lent;
      left = left_few 0 c.args.list.now giver giver (omega (arith, a.empty));
      spares = counts_none (spares_of (received c.args.from.now)) c.args.spares.now giver giver (ap spares_of a.none);
      went = subst (λ xs. Went (g.H.RoundHandler.did c.args.handler.now (options_at first)) 0 into into (rounds_of xs)) (sym a.none) refl;
      few = packets_none (2 ^ 32 + 4096) (received c.args.from.now) a.none;
      ready = subst (λ xs. g.H.RoundHandler.ready (options_at first) first.keep (packets_of (rounds_of xs)) into) (sym a.none) a.start;
    }

pub returns-in_default-clause-worked : goal.returns-in_default-clause-worked
returns-in_default-clause-worked g c =
    let l = c.loop in
    let i = l.invariant in
    let r = c.next_round.ensures.returns in
    let did = g.H.RoundHandler.did c.args.handler.now (options_at c.args.bench.now) in
    let same = c.in_default.ensures.item in
    record {
      handled = subst (λ (xs : List Parcel). Ends did g.H.RoundHandler.stopped 0 c.args.into.now l.into (rounds_of xs) c.stop.result) (sym same)
          (went_stopped did g.H.RoundHandler.stopped 0 c.args.into.now l.into (rounds_of (received l.from)) c.stop.result c.stop.ensures.end i.went);
      ready = (packets_of (rounds_of (received l.from)), i.few, i.ready);
      each = λ h. omega (arith, i.named h, r.named h, ap (weights_sent h) same);
      lends = lends_then c.args.giver.now l.giver c.next_round.new.giver i.lends r.gave;
      none_left = left_again 0 (last_blocks (received c.next_round.new.from)) l.list c.next_round.new.list c.args.giver.now l.giver c.next_round.new.giver r.gave
          (λ few. omega (arith, few, returns_fewer l.giver c.next_round.new.giver l.list c.next_round.new.list r)) i.left;
      spares = counts_again _ _ c.args.spares.now l.spares c.args.giver.now l.giver c.next_round.new.giver
          (omega (arith, before_few (received c.next_round.new.from), ap spares_of same)) r.gave i.spares;
      room = omega (arith, i.room);
      same = i.bench;
    }

pub handle-requires-clause-ready : goal.handle-requires-clause-ready
handle-requires-clause-ready g c =
    let l = c.loop in
    let i = l.invariant in
    let first = c.args.bench.now in
    let n = packets_of (rounds_of (received l.from)) in
    let few : n ≤ 2 ^ 32 = c.in-Some-next_round.ensures.item.fits.packets in (
      n,
      few,
      ready_as (g.H.RoundHandler.did c.args.handler.now) g.H.RoundHandler.stopped g.H.RoundHandler.ready (options_at l.bench) (options_at first) l.bench.keep first.keep n l.into (sym (ap options_at i.bench))
          (sym (ap (λ (b : BenchState). b.keep) i.bench)) i.ready,
    )

pub returns-in-Some-handle-clause-worked : goal.returns-in-Some-handle-clause-worked
returns-in-Some-handle-clause-worked g c =
    let l = c.loop in
    let i = l.invariant in
    let first = c.args.bench.now in
    let did = g.H.RoundHandler.did c.args.handler.now (options_at first) in
    let p = c.in-Some-next_round.parcel in
    let o = c.open-number.ensures.same in
    let item = c.in-Some-next_round.ensures.item in
    let b = c.handle.ensures.brings in
    let at = (goal.at.returns-in-Some-handle-clause-worked g c).After-handle in
    record {
      handled = subst (λ (rs : List RoundRead). Ends did g.H.RoundHandler.stopped 0 c.args.into.now c.handle.new.into rs c.in-Some-handle.end) (sym (rounds_last (received l.from) _ p item.came))
          (went_ends did g.H.RoundHandler.stopped 0 c.args.into.now l.into c.handle.new.into (rounds_of (received l.from)) (p.read ∷ []) c.in-Some-handle.end i.went
          (inr (
            (handled_as (g.H.RoundHandler.did c.args.handler.now) g.H.RoundHandler.stopped g.H.RoundHandler.ready (options_at first)
                (options_at l.bench) l.into c.handle.new.into p.read c.open-number.result.1
                (0 + length (rounds_of (received l.from))) c.open-number.result.0 (Some c.in-Some-handle.end) (ap options_at i.bench) o.1
                (omega (arith, o.0, item.fits.number)) c.in-Some-handle.ensures.did),
            refl,
          )));
      ready = ready_on g at;
      each = came g at;
      lends = lent_on g at;
      none_left = left_on g at;
      spares = spares_left g at;
      room = room_kept l.bench.room (home c.next_round.new.list) (home c.handle.new.home) c.handle.new.bench.room i.room b.room (ap (λ (b : BenchState). b.blocks) b.same);
      same = bench_then first l.bench c.handle.new.bench i.bench b.same;
    }

pub returns-in_default-make_ready-clause-worked : goal.returns-in_default-make_ready-clause-worked
returns-in_default-make_ready-clause-worked g c =
    let l = c.loop in
    let i = l.invariant in
    let first = c.args.bench.now in
    let did = g.H.RoundHandler.did c.args.handler.now (options_at first) in
    let b = c.handle.ensures.brings in
    let m = c.make_ready.ensures in
    let at = (goal.at.returns-in_default-make_ready-clause-worked g c).After-handle in
    record {
      handled = went_stopped did g.H.RoundHandler.stopped 0 c.args.into.now c.handle.new.into (rounds_of (received c.next_round.new.from)) c.stop-in_default-make_ready.result
          c.stop-in_default-make_ready.ensures.end (went_on g (goal.at.returns-in_default-make_ready-clause-worked g c).In-None-handle);
      ready = ready_on g at;
      each = came g at;
      lends = lent_on g at;
      none_left = left_on g at;
      spares = counts_again _ _ c.args.spares.now c.count.new.self c.args.giver.now c.handle.new.giver c.handle.new.giver (before_few (received c.next_round.new.from))
          (lends_same c.handle.new.giver (lent_again c.next_round.new.giver c.handle.new.giver c.handle.ensures.gave)) (spares_more g (goal.at.returns-in_default-make_ready-clause-worked g c).After-count);
      room = room_more l.bench.room (home c.next_round.new.list) (home c.handle.new.home) i.room b.room (ap (λ (b : BenchState). b.blocks) b.same) m.later (ap (λ (b : BenchState). b.blocks) m.same);
      same = bench_then first c.handle.new.bench c.make_ready.new.bench (bench_then first l.bench c.handle.new.bench i.bench b.same) m.same;
    }

pub loop-preserved : goal.loop-preserved
loop-preserved g c =
    let l = c.loop in
    let i = l.invariant in
    let first = c.args.bench.now in
    let p = (goal.at.loop-preserved g c).After-handle in
    let h = c.in-None-handle.ensures in
    let m = c.make_ready.ensures in
    let r = c.give_back.ensures.returns in
    record {
      from = consumer_then c.args.from.now l.from c.next_round.new.from i.from c.next_round.ensures.ring;
      room = c.in-Ok.ensures.room;
      bench = bench_then first c.handle.new.bench c.make_ready.new.bench (bench_then first l.bench c.handle.new.bench i.bench h.brings.same) m.same;
      named = λ x. r.named x ∙ came g p x;
      lends = lends_then c.args.giver.now c.handle.new.giver c.give_back.new.giver (lent_on g p) r.gave;
      spares = counts_again _ _ c.args.spares.now c.count.new.self c.args.giver.now c.handle.new.giver c.give_back.new.giver (le_refl (spares_of (received c.next_round.new.from))) r.gave
          (spares_more g (goal.at.loop-preserved g c).After-count);
      left = left_then 0 c.give_back.new.list c.args.giver.now c.handle.new.giver c.give_back.new.giver (lent_on g p) c.give_back.ensures.left;
      went = went_on g (goal.at.loop-preserved g c).In-None-handle;
      few = few_on g p;
      ready = ready_now g p;
    }
