use Rattle.std.proofs.Common.{◌≡◌, ◌≤◌, ◌∙◌, ℕ, All, Option, Some, Result, Ok, Err, IsErr, MatchResult, IfOk, IfErr, ◌+◌, inl, inr, length, map, ap, subst, arith}
use Rattle.std.proofs.lemmas.Bool.{false≢true}
use Rattle.block_pool.specs.Giving.{given_by, given_in, GiverState}
use Rattle.block_pool.specs.Listed.{blocks_in}
use Rattle.block_pool.specs.PassState.{risen}
use Rattle.block_pool.specs.PoolState.{home}
use Rattle.block_supply.proofs.Listing.{ones}
use Rattle.block_supply.specs.declared.taker.Taker.{Taker}
use Rattle.offload_model.specs.Written.{round_records}
use Rattle.gro.specs.Slots.{packet_of}
use Rattle.lanes.specs.Lanes.{IsMerged}
use Rattle.rounds.specs.Benches.{fulls_by, options_at, GivesSpares}
use Rattle.ahead.specs.declared.paused.ReadAhead.{ReadAhead}
use Rattle.rounds.specs.declared.spares.Spares.{Spares}
use Rattle.rounds.specs.Filling.{reached}
use Rattle.ahead.specs.Ahead.{FillsAhead}
use Rattle.rounds.specs.Lanes.{worked_records, IsKeptWorkOf, WorksAs}
use Rattle.rounds.specs.Merging.{options_of}
use Rattle.ahead.specs.Ahead.{round_of}
use Rattle.rounds.specs.RoundsState.{BenchState, IntakeState, RestState, RoundsState, WorkedState}
use Rattle.ahead.proofs.Beside.{unread_ahead}
use Rattle.ahead.specs.Out.{blocks_out, GaveWorked}
use Rattle.ahead.proofs.ahead.work_listed.Given as given
use Rattle.ahead.proofs.ahead.work_listed.Goals.{After-work_beside-read}
use Rattle.ahead.proofs.ahead.work_listed.Goals as goal

-- what is so of what was worked is so of the answer
closed_ok : {E : Type 0} (P : WorkedState → Type 0) (worked : Result WorkedState RestState) (result : Result WorkedState E) → MatchResult worked (λ w. result ≡ Ok w) (λ _. IsErr result)
    → IfOk worked P → IfOk result P
closed_ok P (Ok w) result is p = rw is p
closed_ok P (Err rest) (Ok w) is p = absurd (false≢true is)
closed_ok P (Err rest) (Err e) is p = tt

closed_empties : (worked : Result WorkedState RestState) (old new : RoundsState)
    → MatchResult worked (λ _. new ≡ old) (λ rest. (new ≡ record old { stock = new.stock }) × (length new.stock ≡ length old.stock + rest.blocks)) → new.empties ≡ old.empties
closed_empties (Ok w) old new is = ap (λ (s : RoundsState). s.empties) is
closed_empties (Err rest) old new is = ap (λ (s : RoundsState). s.empties) is.0

closed_spares : (worked : Result WorkedState RestState) (old new : RoundsState)
    → MatchResult worked (λ _. new ≡ old) (λ rest. (new ≡ record old { stock = new.stock }) × (length new.stock ≡ length old.stock + rest.blocks)) → new.spares ≡ old.spares
closed_spares (Ok w) old new is = ap (λ (s : RoundsState). s.spares) is
closed_spares (Err rest) old new is = ap (λ (s : RoundsState). s.spares) is.0

-- its spares were given, or a put was refused
gave_worked : (n blocks refused refused' : ℕ) (from : GiverState) (to : Option GiverState) (read : ReadAhead) (worked : Result WorkedState RestState)
    → IfOk worked (λ w. w.blocks + given_by to ≡ blocks + given_in from) → IfOk worked (λ _. GivesSpares n (Some from) to) → (risen from.pass.fulls ≤ fulls_by to → risen refused ≤ refused')
    → IfOk worked (GaveWorked n blocks refused refused' read)
gave_worked n blocks refused refused' from to read (Ok w) out (inl gave) step = inl (omega (arith, out, gave))
gave_worked n blocks refused refused' from to read (Ok w) out (inr full) step = inr (inl (step full))
gave_worked n blocks refused refused' from to read (Err rest) out gives step = tt

all_ok : {A E : Type 0} {P : A → Type 0} (result : Result A E) → ((x : A) → P x) → IfOk result P
all_ok (Ok x) all = all x
all_ok (Err e) all = tt

-- of its blocks those that weren't given are out, or come home
closed_home : {E : Type 0} (blocks from given : ℕ) (worked : Result WorkedState RestState) (result : Result WorkedState E) (old new : RoundsState) → MatchResult worked (λ w. result ≡ Ok w) (λ _. IsErr result)
    → MatchResult worked (λ _. new ≡ old) (λ rest. (new ≡ record old { stock = new.stock }) × (length new.stock ≡ length old.stock + rest.blocks)) → IfOk worked (λ w. w.blocks + given ≡ blocks + from)
    → IfErr worked (λ r. r.blocks + given ≡ blocks + from) → length new.stock + blocks_out result + given ≡ length old.stock + blocks + from
closed_home blocks from given (Ok w) result old new is same out rest = omega (arith, ap (λ (s : RoundsState). length s.stock) same, ap blocks_out is, out)
closed_home blocks from given (Err r) (Ok w) old new is same out rest = absurd (false≢true is)
closed_home blocks from given (Err r) (Err e) old new is same out rest = omega (arith, same.1, rest)

lent_within : (blocks from given : ℕ) (worked : Result WorkedState RestState) → IfOk worked (λ w. w.blocks + given ≡ blocks + from) → IfErr worked (λ r. r.blocks + given ≡ blocks + from) → given ≤ blocks + from
lent_within blocks from given (Ok w) out rest = omega (arith, out)
lent_within blocks from given (Err r) out rest = omega (arith, rest)

rest_within : (blocks from given home made : ℕ) (worked : Result WorkedState RestState) → IfErr worked (λ r. r.blocks + given ≡ blocks + from) → home + blocks + from ≤ made + given
    → IfErr worked (λ r. home + r.blocks ≤ made)
rest_within blocks from given home made (Ok w) rest fits = tt
rest_within blocks from given home made (Err r) rest fits = omega (arith, rest, fits)

-- what came home of lists, by their number
came_listed : (g : given.Over) (c : After-work_beside-read g)
    → length c.work_beside-read.new.intake.stock + (round_of c.work_beside-read.result.0).blocks + home c.work_beside-read.new.more.taker.left
    ≡ length c.rounds.inside.intake.stock + blocks_in c.work_beside-read.new.more.taker.pass.taken
came_listed g c =
    let w = c.work_beside-read in
    let more = w.new.more.taker in
    let none = ap (λ (t : Taker). blocks_in t.pass.taken) c.new-more.ensures.same ∙ ap blocks_in c.requires.untaken.0 in
    omega (arith, w.ensures.reads.came.sum, ones more.left.blocks, more.weighs (λ _. 1), none)

pub bring_lists-requires-clause-room : goal.bring_lists-requires-clause-room
bring_lists-requires-clause-room g c =
    let w = c.work_beside-read in
    omega (
      arith,
      came_listed g (goal.at.bring_lists-requires-clause-room g c).After-work_beside-read,
      lent_within c.args.round.blocks (given_in c.args.giver) (given_by w.new.giver) w.result.1 w.ensures.works.lends.worked w.ensures.works.lends.rest,
      ap blocks_in c.requires.ungiven.1,
      c.requires.out,
      ap (λ (s : RoundsState). length s.stock) c.rounds.view_is,
      ap (λ (s : RoundsState). s.blocks) c.rounds.view_is,
      w.ensures.reads.same.0,
    )

pub close_work-requires : goal.close_work-requires
close_work-requires g c =
    let w = c.work_beside-read in
    record {
      out = rest_within c.args.round.blocks (given_in c.args.giver) (given_by w.new.giver) (length c.bring_lists.new.intake.stock) c.bring_lists.new.intake.blocks w.result.1 w.ensures.works.lends.rest (omega (
        arith,
        came_listed g (goal.at.close_work-requires g c).After-work_beside-read,
        c.bring_lists.ensures.home,
        ap (λ (s : IntakeState). s.blocks) c.bring_lists.ensures.same,
        ap blocks_in c.requires.ungiven.1,
        c.requires.out,
        ap (λ (s : RoundsState). length s.stock) c.rounds.view_is,
        ap (λ (s : RoundsState). s.blocks) c.rounds.view_is,
        w.ensures.reads.same.0,
      ));
    }

pub returns-clause-home : goal.returns-clause-home
returns-clause-home g c =
    let w = c.work_beside-read in
    omega (
      arith,
      came_listed g (goal.at.returns-clause-home g c).After-work_beside-read,
      c.bring_lists.ensures.home,
      closed_home c.args.round.blocks (given_in c.args.giver) (given_by w.new.giver) w.result.1 _ _ c.close_work.new.rounds c.close_work.ensures.worked c.close_work.ensures.home w.ensures.works.lends.worked w.ensures.works.lends.rest,
      ap blocks_in c.requires.ungiven.1,
      c.requires.out,
      ap (λ (s : RoundsState). length s.stock) c.rounds.view_is,
      ap (λ (s : RoundsState). s.blocks) c.rounds.view_is,
    )

pub returns-then-is_err-clause-fills : goal.returns-then-is_err-clause-fills
returns-then-is_err-clause-fills g c =
    let n = c.read_none-none in
    let i = c.args.rounds.now in
    unread_ahead i.blocks i.budget (reached g.S.Source.left g.S.Source.faults c.args.reader.now) n.result n.ensures.none.0 n.ensures.none.2 n.ensures.end

pub returns-clause-fills : goal.returns-clause-fills
returns-clause-fills g c =
    let w = c.work_beside-read in
    let i = c.rounds.inside.intake in
    let from = reached g.S.Source.left g.S.Source.faults c.args.reader.now in
    let to = reached g.S.Source.left g.S.Source.faults w.new.reader in
    let blocks : i.blocks ≡ c.args.rounds.now.blocks = ap (λ (s : RoundsState). s.blocks) c.rounds.view_is in
    let budget : i.budget ≡ c.args.rounds.now.budget = omega (arith, c.rounds.invariant.budget, ap (λ (s : RoundsState). s.budget) c.rounds.view_is) in
    subst (λ (n : ℕ). FillsAhead n c.args.rounds.now.budget from to w.result.0) blocks (subst (λ (n : ℕ). FillsAhead i.blocks n from to w.result.0) budget w.ensures.reads.fills)

pub returns-clause-works : goal.returns-clause-works
returns-clause-works g c =
    let w = c.work_beside-read in
    let is = c.close_work.ensures.worked in
    let ps = map packet_of c.args.round.packets in
    let options = options_of c.args.rounds.now in
    let lent = subst (λ (b : BenchState). WorksAs (options_at b) b.keep ps w.result.1) c.make_room.ensures.same w.ensures.works.works in
    let works = subst (λ (s : RoundsState). WorksAs (options_of s) s.keep ps w.result.1) c.rounds.view_is lent in
    record {
      records = closed_ok (λ (v : WorkedState). worked_records v ≡ round_records options ps) w.result.1 c.close_work.result is works.records;
      checked = λ keep. closed_ok (λ (v : WorkedState). IsKeptWorkOf options ps v) w.result.1 c.close_work.result is (works.checked keep);
      merged = closed_ok (λ (v : WorkedState). All IsMerged v.lanes.queues.items) w.result.1 c.close_work.result is works.merged;
    }

pub returns-clause-later_empties : goal.returns-clause-later_empties
returns-clause-later_empties g c =
    let w = c.work_beside-read in
    omega (
      arith,
      ap (λ (s : RoundsState). s.empties) c.rounds.view_is,
      w.ensures.reads.same.2,
      c.bring_lists.ensures.later,
      closed_empties w.result.1 _ c.close_work.new.rounds c.close_work.ensures.home,
    )

pub returns-then-is_err-clause-gives : goal.returns-then-is_err-clause-gives
returns-then-is_err-clause-gives g c = λ gives. all_ok c.work_round.result (λ w. inr (inr c.read_none-none.ensures.end))

pub returns-clause-gives : goal.returns-clause-gives
returns-clause-gives g c = λ gives.
    let w = c.work_beside-read in
    let refused = ap (λ (s : Spares). s.refused) (closed_spares w.result.1 _ c.close_work.new.rounds c.close_work.ensures.home) in
    let before = ap (λ (s : RoundsState). s.spares.refused) c.rounds.view_is in
    closed_ok (GaveWorked (length c.args.round.spares) c.args.round.blocks c.args.rounds.now.spares.refused c.close_work.new.rounds.spares.refused w.result.0) w.result.1 c.close_work.result c.close_work.ensures.worked
    (gave_worked (length c.args.round.spares) c.args.round.blocks c.args.rounds.now.spares.refused c.close_work.new.rounds.spares.refused c.args.giver w.new.giver w.result.0 w.result.1 w.ensures.works.lends.worked
    (w.ensures.works.gives_spares gives) (λ full. omega (arith, full, refused, before, c.bring_lists.ensures.fulls, ap (λ (s : Spares). s.refused) c.refuse.ensures.counted)))
