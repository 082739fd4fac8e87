use Rattle.std.proofs.Common.{◌≡◌, ◌+◌, ◌≤◌, ◌∙◌, ℕ, sym, ap, subst, length, map, arith}
use Rattle.std.proofs.lemmas.List.{length-map}
use Rattle.offload_model.specs.Captured.{AreCaptured}
use Rattle.offload_model.specs.Written.{Options}
use Rattle.gro.specs.Slots.{packet_of}
use Rattle.check_totals.specs.Counts.{added, round_totals}
use Rattle.rounds.specs.Lanes.{IsKeptWorkOf}
use Rattle.block_pool.specs.Giving.{given_by}
use Rattle.block_pool.specs.PoolState.{PoolState}
use Rattle.rounds.specs.Benches.{options_at, Brings, BringsBeside, MayBring}
use Rattle.rounds.specs.RoundsState.{BenchState}
use Rattle.rounds.specs.Weights.{weights_of, weights_worked}
use Rattle.rounds.proofs.Lending.{brings_rest, given_least, may_less}
use Rattle.checking.proofs.Kept.{may_compare}
use Rattle.checking.proofs.RoundsCounted.{alike, captured_of, room, room_of_round, more_lanes, more_within, of_behind}
use Rattle.checking.proofs.counting.count_round.Given as given
use Rattle.checking.proofs.counting.count_round.Goals as goal
use Rattle.checking.proofs.counting.count_round.Goals.{After-compare_round}

-- behind comparing all of the round is home, but what went to others
brought : (g : given.Over) (c : After-compare_round g)
    → BringsBeside c.args.round.blocks (weights_of c.args.round) c.args.bench.now c.compare_round.new.bench c.args.home.now c.compare_round.new.home c.args.giver.now c.work_round.new.giver
brought g c =
    let worked = c.in_ok-worked.worked in
    let is = c.in_ok-worked.ensures in
    brings_rest worked.blocks c.args.round.blocks (weights_worked worked) (weights_of c.args.round) c.args.bench.now c.compare_round.new.bench c.args.home.now c.compare_round.new.home
    c.args.giver.now c.work_round.new.giver is.worked is.named
    (subst (λ (b : BenchState). Brings worked.blocks (weights_worked worked) b c.compare_round.new.bench c.args.home.now c.compare_round.new.home) is.same.0
    (subst (λ (p : PoolState). Brings worked.blocks (weights_worked worked) c.work_round.new.self c.compare_round.new.bench p c.compare_round.new.home) is.same.1 c.compare_round.ensures.brings))

less_given : (m n given given' : ℕ) → m + given' ≡ n + given → given ≤ given' → m ≤ n
less_given m n given given' sum least = omega arith

pub compare_round-requires-clause-worked : goal.compare_round-requires-clause-worked
compare_round-requires-clause-worked g c =
    let packets = c.args.round.packets in
    may_compare (options_at c.args.bench.now) (map packet_of packets) c.in_ok-worked.worked (c.in_ok-worked.ensures.checked c.requires.may.keep) c.requires.may.read.captured
    (omega (arith, c.requires.may.read.few, length-map packets packet_of))

pub add-requires-clause-within : goal.add-requires-clause-within
add-requires-clause-within g c =
    let packets = c.args.round.packets in
    let first = options_at c.args.bench.now in
    let same : options_at c.work_round.new.self ≡ first = ap options_at c.in_ok-worked.ensures.same.0 in
    let kept = subst (λ (o : Options). IsKeptWorkOf o (map packet_of packets) c.in_ok-worked.worked) (sym same) (c.in_ok-worked.ensures.checked c.requires.may.keep) in
    let is = c.in_ok-counted.ensures.totals (map packet_of packets) kept ∙ ap (λ (o : Options). round_totals o (map packet_of packets)) same in
    let w = c.requires.may.within in
    let captured : AreCaptured (map packet_of packets) = captured_of c.requires.may.read.numbers.0 packets c.requires.may.read.captured c.requires.may.read.numbers.1 in
    (room w.0 c.args.totals.now w.1 w.2, room_of_round first packets c.in_ok-counted.counted captured c.requires.may.read.few is)

pub add-requires-clause-alike : goal.add-requires-clause-alike
add-requires-clause-alike g c =
    let packets = c.args.round.packets in
    let first = options_at c.args.bench.now in
    let same : options_at c.work_round.new.self ≡ first = ap options_at c.in_ok-worked.ensures.same.0 in
    let kept = subst (λ (o : Options). IsKeptWorkOf o (map packet_of packets) c.in_ok-worked.worked) (sym same) (c.in_ok-worked.ensures.checked c.requires.may.keep) in
    let is = c.in_ok-counted.ensures.totals (map packet_of packets) kept ∙ ap (λ (o : Options). round_totals o (map packet_of packets)) same in
    alike first packets c.args.totals.now c.in_ok-counted.counted c.requires.may.lanes is

pub returns-clause-home : goal.returns-clause-home
returns-clause-home g c =
    let packets = c.args.round.packets in
    let first = options_at c.args.bench.now in
    let same : options_at c.work_round.new.self ≡ first = ap options_at c.in_ok-worked.ensures.same.0 in
    let kept = subst (λ (o : Options). IsKeptWorkOf o (map packet_of packets) c.in_ok-worked.worked) (sym same) (c.in_ok-worked.ensures.checked c.requires.may.keep) in
    let is = c.in_ok-counted.ensures.totals (map packet_of packets) kept ∙ ap (λ (o : Options). round_totals o (map packet_of packets)) same in
    let sum = c.add.ensures.added ∙ ap (added c.args.totals.now) is in
    let r = c.requires.may.read in
    record {
      lanes = more_lanes first packets c.args.totals.now c.add.new.self c.requires.may.lanes sum;
      within = λ n w. more_within first n packets c.args.totals.now c.add.new.self (captured_of r.numbers.0 packets r.captured r.numbers.1) sum w;
      brings = brought g (goal.at.returns-clause-home g c).After-compare_round;
      gave = c.work_round.ensures.gave;
    }

pub returns-in_err-counted-clause-home : goal.returns-in_err-counted-clause-home
returns-in_err-counted-clause-home g c =
    record {
      lanes = c.requires.may.lanes;
      within = λ n. of_behind n (length c.args.round.packets) c.args.totals.now;
      brings = brought g (goal.at.returns-in_err-counted-clause-home g c).After-compare_round;
      gave = c.work_round.ensures.gave;
    }

pub returns-in_err-worked-clause-home : goal.returns-in_err-worked-clause-home
returns-in_err-worked-clause-home g c =
    record {
      lanes = c.requires.may.lanes;
      within = λ n. of_behind n (length c.args.round.packets) c.args.totals.now;
      brings = c.in_err-worked.ensures.brings;
      gave = c.work_round.ensures.gave;
    }

pub compare_round-requires-clause-may : goal.compare_round-requires-clause-may
compare_round-requires-clause-may g c =
    let n = c.in_ok-worked.worked.blocks in
    let same = c.in_ok-worked.ensures.same in
    subst (λ (b : BenchState). MayBring n b c.work_round.new.home) (sym same.0)
    (subst (MayBring n c.args.bench.now) (sym same.1)
    (may_less n c.args.round.blocks c.args.bench.now c.args.home.now
    (less_given n c.args.round.blocks (given_by c.args.giver.now) (given_by c.work_round.new.giver) c.in_ok-worked.ensures.worked (given_least c.args.giver.now c.work_round.new.giver c.work_round.ensures.gave))
    c.requires.may.may))
