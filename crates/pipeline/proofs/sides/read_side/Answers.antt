use Rattle.std.proofs.Common.{◌≡◌, ◌∙◌, ◌∷◌, ◌+◌, ◌++◌, [], ℕ, List, ap, sym, subst, refl, arith, length, length-append, append-nil}
use Rattle.rtrb.specs.Ring.{sent, SameProducer}
use Rattle.pipeline.specs.declared.parcel.Parcel.{Parcel}
use Rattle.block_supply.specs.Lists.{weights_home}
use Rattle.pipeline.specs.Parcels.{packets_of, rounds_of, weights_sent, IsFit}
use Rattle.pipeline.specs.Reads.{HasRead}
use Rattle.block_pool.specs.PoolState.{weighed}
use Rattle.crossing.specs.Arriving.{weights_to}
use Rattle.crossing.specs.declared.arrivals.Arrivals.{Arrivals}
use Rattle.crossing.specs.declared.post.Post.{Ghosts}
use Rattle.rounds.specs.RoundsState.{IntakeState}
use Rattle.rounds.specs.Weights.{weights_of}
use Rattle.pipeline.proofs.Counting.{least_equal, least_same, least_then, most_same, number_more, packets_more, read_more, read_stopped}
use Rattle.pipeline.proofs.Kept.{producer_then}
use Rattle.rounds.specs.Reads.{reader_at, Reads, Spot}
use Rattle.rounds.proofs.Going.{few_later, few_none, few_paused}
use Rattle.rounds.proofs.Rows.{all_go_last, full_end, reads_last}
use Rattle.pipeline.proofs.Rows.{packets_append, read_as, rounds_last, sent_more, weights_sent_append}
use Rattle.pipeline.proofs.sides.read_side.Given as given
use Rattle.pipeline.proofs.sides.read_side.Goals as goal
use Rattle.pipeline.proofs.sides.read_side.Goals.{After-is_full}

-- before the first turn
read_nothing : {W : Type 0} {G : Ghosts W} (intake : IntakeState) (at : Spot) (xs : List Parcel) (arrivals : Arrivals W G) → HasRead intake intake at at xs xs arrivals arrivals
read_nothing intake at xs arrivals = record {
  read = record { more = []; sent = sym (append-nil (rounds_of xs)); reads = refl };
  named = λ h. refl;
  paused = few_none _ _ _ _ (omega arith) refl;
  same = (refl, refl, refl);
  later = omega arith;
}

abbrev parcel : (g : given.Over) → After-is_full g → Parcel
parcel g c = record { number = c.loop.number; read = c.read_beside-read.result; spent = c.pick.result }

-- what was sent
sent_now : (g : given.Over) (c : After-is_full g) → sent c.send.new.ring ≡ sent c.loop.supply.out ++ parcel g c ∷ []
sent_now g c = c.send.ensures.sent ∙ ap (λ (xs : List Parcel). xs ++ parcel g c ∷ []) c.await_place.ensures.sent

ring_now : (g : given.Over) (c : After-is_full g) → SameProducer c.args.supply.now.out c.send.new.ring
ring_now g c = producer_then c.args.supply.now.out c.await_place.new.ring c.send.new.ring (producer_then c.args.supply.now.out c.loop.supply.out c.await_place.new.ring c.loop.invariant.ring c.await_place.ensures.ring) c.send.ensures.ring

-- with the last round
all_read : (g : given.Over) (c : After-is_full g) → HasRead c.args.intake.now c.read_beside-read.new.self
    (reader_at g.S.Source.left g.S.Source.faults c.args.reader.now c.args.intake.now.taken)
    (reader_at g.S.Source.left g.S.Source.faults c.read_beside-read.new.reader c.read_beside-read.new.self.taken)
    (sent c.args.supply.now.out) (sent c.send.new.ring) c.args.supply.now.arrivals c.pick.new.self
all_read g c =
    let l = c.loop in
    let i = l.invariant in
    let e = i.read in
    let w = c.await_place.ensures.same in
    let b = c.bring_more.ensures in
    let r = c.read_beside-read.ensures in
    let d = c.pick.ensures.same ∙ c.lend.ensures.same in
    let s = sent_now g c in
    record {
      read = record {
        more = e.read.more ++ c.read_beside-read.result ∷ [];
        sent = sent_more (sent c.args.supply.now.out) (sent l.supply.out) _ e.read.more (parcel g c) e.read.sent s;
        reads = reads_last c.args.intake.now.blocks c.args.intake.now.budget _ _ _ e.read.more c.read_beside-read.result e.read.reads i.go
            (read_as c.args.intake.now.blocks c.bring_more.new.self.blocks c.args.intake.now.budget c.bring_more.new.self.budget l.intake.taken c.bring_more.new.self.taken
            l.reader.place (g.S.Source.left l.reader.source.now) (g.S.Source.faults l.reader.source.now) _ c.read_beside-read.result (b.same.0 ∙ e.same.0) (b.same.2 ∙ e.same.1) b.same.1
            r.read);
      };
      named = λ h.
          read_more (weighed h l.intake.stock) (weights_sent h (sent l.supply.out)) (weights_to c.args.supply.now.arrivals h) (weighed h c.args.intake.now.stock) (weights_sent h (sent c.args.supply.now.out))
          (weights_to l.supply.arrivals h) (weighed h c.bring_more.new.self.stock) (weighed h c.read_beside-read.new.self.stock) (weights_of c.read_beside-read.result.round h) (weights_to c.bring_more.new.more h) (e.named h)
          (ap (λ t. weights_home h t.pass t.left) w) (b.named h) (r.named h) (ap (λ t. weights_home h t.pass t.left) d)
          (ap (weights_sent h) s ∙ weights_sent_append h (sent l.supply.out) (parcel g c ∷ []));
      paused = few_later _ _ _ _ _ _
          (few_paused _ _ _ _ _ _ (few_later _ _ _ _ _ _ e.paused (most_same _ _ _ (sym (ap (λ t. t.pass.empties) w)) b.asked) b.same.4) r.asked r.later_pauses r.paused)
          (least_equal _ _ (ap (λ t. t.pass.empties) d)) refl;
      same = (r.same.0 ∙ b.same.0 ∙ e.same.0, r.same.1 ∙ b.same.2 ∙ e.same.1, r.same.2 ∙ b.same.3 ∙ e.same.2);
      later = least_then _ _ _ e.later r.read.later;
    }

pub returns-then-has_stopped-clause-read : goal.returns-then-has_stopped-clause-read
returns-then-has_stopped-clause-read g c =
    let l = c.loop in
    let e = l.invariant.read in
    let w = c.await_place.ensures.same in
    let b = c.bring_more.ensures in
    let s = c.await_place.ensures.sent in
    record {
      read = record {
        more = e.read.more;
        sent = ap rounds_of s ∙ e.read.sent;
        reads = subst (λ (t : ℕ). Reads c.args.intake.now.blocks c.args.intake.now.budget
            (reader_at g.S.Source.left g.S.Source.faults c.args.reader.now c.args.intake.now.taken) e.read.more (reader_at g.S.Source.left g.S.Source.faults l.reader t)) (sym b.same.1) e.read.reads;
      };
      named = λ h.
          ap (λ (n : ℕ). weighed h c.bring_more.new.self.stock + n + weights_to c.args.supply.now.arrivals h) (ap (weights_sent h) s)
          ∙ read_stopped (weighed h l.intake.stock) (weights_sent h (sent l.supply.out)) (weights_to c.args.supply.now.arrivals h) (weighed h c.args.intake.now.stock)
          (weights_sent h (sent c.args.supply.now.out)) (weights_to l.supply.arrivals h) (weighed h c.bring_more.new.self.stock) (weights_to c.bring_more.new.more h) (e.named h) (ap (λ t. weights_home h t.pass t.left) w) (b.named h);
      paused = few_later _ _ _ _ _ _ e.paused (most_same _ _ _ (sym (ap (λ t. t.pass.empties) w)) b.asked) b.same.4;
      same = (b.same.0 ∙ e.same.0, b.same.2 ∙ e.same.1, b.same.3 ∙ e.same.2);
      later = e.later;
    }

pub returns-then-not-is_full-clause-read : goal.returns-then-not-is_full-clause-read
returns-then-not-is_full-clause-read g c = all_read g (goal.at.returns-then-not-is_full-clause-read g c).After-is_full

pub send-requires : goal.send-requires
send-requires g c =
    let l = c.loop in
    let i = l.invariant in
    let r = c.read_beside-read.ensures in
    record {
      allowed = subst (λ (xs : List Parcel). IsFit g.N.PoolName.blocks xs (record { number = l.number; read = c.read_beside-read.result; spent = c.pick.result })) (sym c.await_place.ensures.sent)
          (record {
            number = i.number;
            packets = least_then _ _ _ i.packets i.ready.counted.few;
            is = record { few = least_then _ _ _ r.read.size r.budget.1; captured = r.read.captured; numbers = (l.reader.place.number, r.read.numbers) };
            blocks = least_same _ _ _ (sym (c.bring_more.ensures.same.0 ∙ i.read.same.0 ∙ c.requires.reads.named)) r.read.within;
          });
    }

pub loop-init : goal.loop-init
unfolding read_nothing
loop-init g c =
    let a = c.requires.reads in
    record {
      ring = ((refl, refl, refl, refl), refl);
      same = refl;
      ready = a.ready;
      link = a.link;
      read = read_nothing c.args.intake.now (reader_at g.S.Source.left g.S.Source.faults c.args.reader.now c.args.intake.now.taken) (sent c.args.supply.now.out) c.args.supply.now.arrivals;
      go = tt;
      number = omega (arith, ap (λ (xs : List Parcel). length (rounds_of xs)) a.first.1);
      packets = omega (arith, ap (λ (xs : List Parcel). packets_of (rounds_of xs)) a.first.1, a.first.3);
      counted = omega arith;
    }

pub loop-preserved : goal.loop-preserved
unfolding all_read
loop-preserved g c =
    let l = c.loop in
    let i = l.invariant in
    let r = c.read_beside-read.ensures in
    let p = (goal.at.loop-preserved g c).After-is_full in
    let read = c.read_beside-read.result in
    let on = sym c.is_full.ensures.full ∙ c.if-not-is_full.false in
    let full = full_end read.end on in
    let passes = r.read.full full in
    let now = rounds_last (sent l.supply.out) _ (parcel g p) (sent_now g p) in
    record {
      ring = ring_now g p;
      same = r.same_source ∙ i.same;
      ready = passes.ready;
      link = passes.link ∙ i.link;
      read = all_read g p;
      go = all_go_last i.read.read.more read i.go on;
      number = ap (λ (n : ℕ). n + 1) i.number ∙ sym (ap length now ∙ length-append (rounds_of (sent l.supply.out)) (read ∷ []));
      packets = packets_more (packets_of (rounds_of (sent l.supply.out))) (length read.round.packets) l.reader.place.number c.bring_more.new.self.budget i.packets
          (ap packets_of now ∙ packets_append (rounds_of (sent l.supply.out)) (read ∷ [])) passes.number passes.full;
      counted = number_more l.number l.reader.place.number c.bring_more.new.self.budget i.counted passes.number r.budget.0;
    }

pub returns-then-not-begin-clause-read : goal.returns-then-not-begin-clause-read
returns-then-not-begin-clause-read g c =
    read_nothing c.args.intake.now (reader_at g.S.Source.left g.S.Source.faults c.args.reader.now c.args.intake.now.taken) (sent c.args.supply.now.out) c.args.supply.now.arrivals

pub returns-then-has_stopped-clause-same_source : goal.returns-then-has_stopped-clause-same_source
returns-then-has_stopped-clause-same_source g c = c.loop.invariant.same

pub returns-then-has_stopped-clause-ring : goal.returns-then-has_stopped-clause-ring
returns-then-has_stopped-clause-ring g c = producer_then c.args.supply.now.out c.loop.supply.out c.await_place.new.ring c.loop.invariant.ring c.await_place.ensures.ring

pub returns-then-not-is_full-clause-ring : goal.returns-then-not-is_full-clause-ring
returns-then-not-is_full-clause-ring g c = ring_now g (goal.at.returns-then-not-is_full-clause-ring g c).After-is_full

pub returns-then-not-is_full-clause-same_source : goal.returns-then-not-is_full-clause-same_source
returns-then-not-is_full-clause-same_source g c = c.read_beside-read.ensures.same_source ∙ c.loop.invariant.same
