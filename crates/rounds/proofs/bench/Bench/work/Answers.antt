use Rattle.std.proofs.Common.{◌≡◌, ap, arith, length, map, refl, rules, subst, sym, List, ◌+◌, ◌-◌, ◌∙◌}
use Rattle.std.proofs.lemmas.Grind.{common_steps}
use Rattle.std.specs.Prelude.{IfOk}
use Rattle.block_pool.specs.Giving.{given_by, weights_given}
use Rattle.block_pool.specs.PoolState.{home}
use Rattle.gro.specs.Slots.{packet_of}
use Rattle.rounds.specs.declared.lane_work.Prepared.{Prepared}
use Rattle.rounds.specs.Prepared.{IsPrepared}
use Rattle.rounds.specs.Lanes.{IsKeptWorkOf}
use Rattle.raw_block.specs.Views.{SoleState}
use Rattle.rounds.specs.Benches.{options_at, GivesSpares, LeavesNoSpare}
use Rattle.rounds.specs.RoundsState.{BenchState}
use Rattle.rounds.specs.Weights.{weights_of, weights_left, weights_worked}
use Rattle.rounds.proofs.Keeping.{blocks_left, kept_work, out_worked, rest_left, settles, weights_back, weights_then}
use Rattle.rounds.proofs.Lending.{gives_spares, leaves_no_spare, of_worked, on_ok, went}
use Rattle.rounds.proofs.bench.Bench.work.Goals as goal

pub work_packets-done-requires-clause-shared : goal.work_packets-done-requires-clause-shared
work_packets-done-requires-clause-shared g c = λ shared some. c.in_ok-prepared.ensures.prepared.shown shared

pub overflow_sub-prepared : goal.overflow_sub-prepared
overflow_sub-prepared g c =
    let gone = went c.args.giver.now c.swap_list.new.giver c.work_packets-done.new.giver c.swap_list-2.new.giver c.in_ok-prepared.prepared.spares c.swap_list.new.list c.swap_list-2.new.list c.requires.lent
    c.swap_list.ensures.swapped c.work_packets-done.ensures.gave c.swap_list-2.ensures.swapped in
    omega (arith, gone.fewer, c.home.ensures.home, c.home-before.ensures.home)

pub settle-requires : goal.settle-requires
settle-requires g c =
    let k = c.in_ok-prepared.prepared in
    let w = c.work_packets-done in
    let gone = went c.args.giver.now c.swap_list.new.giver w.new.giver c.swap_list-2.new.giver k.spares c.swap_list.new.list c.swap_list-2.new.list c.requires.lent c.swap_list.ensures.swapped
    w.ensures.gave c.swap_list-2.ensures.swapped in
    let j : Prepared = record k { packets = w.new.packets; spares = c.swap_list-2.new.list; blocks = k.blocks - (c.home-before.result - c.home.result) } in
    let ps = map packet_of c.args.round.packets in
    let plan = c.self.inside.plan in
    let is = subst (λ (s : BenchState). IsPrepared c.args.self.now.keep s.plan.taps ps c.args.round.blocks k)
    (sym (c.self.view_is ∙ c.take_lanes-lanes.ensures.same ∙ c.in_ok-prepared.ensures.same)) c.in_ok-prepared.ensures.prepared in
    record {
      lanes = settles c.args.self.now.keep ps c.args.round.blocks plan k j c.self.invariant.5 is
          (record {
            same = refl;
            spares = omega (arith, gone.fewer, is.spares, c.home.ensures.home, c.home-before.ensures.home);
            count = omega (arith, gone.fewer, is.spares, c.home.ensures.home, c.home-before.ensures.home);
          })
          w.result w.new.lanes w.ensures.lanes w.ensures.windows w.ensures.merged w.ensures.packets w.ensures.all
          (out_worked k.shared plan (k.blocks - home k.spares) k.packets.items w.new.packets.items w.new.lanes k.clones.items is.round w.ensures.kept w.ensures.blocks
          w.ensures.named w.ensures.count w.ensures.clones w.ensures.alone w.ensures.idle);
    }

pub returns-clause-works : goal.returns-clause-works
returns-clause-works g c =
    let k = c.in_ok-prepared.prepared in
    let w = c.work_packets-done in
    let ps = map packet_of c.args.round.packets in
    let same = c.self.view_is ∙ c.take_lanes-lanes.ensures.same ∙ c.in_ok-prepared.ensures.same in
    let is = subst (λ (s : BenchState). IsPrepared c.args.self.now.keep s.plan.taps ps c.args.round.blocks k) (sym same) c.in_ok-prepared.ensures.prepared in
    record {
      records = grind (arith, common_steps);
      checked = λ keep. subst (λ (s : BenchState). IfOk c.settle.result (IsKeptWorkOf (options_at s) ps)) same
          (kept_work c.self.inside.plan c.self.inside.budget c.args.round.blocks (k.blocks - (c.home-before.result - c.home.result)) c.args.self.now.keep ps k w.result w.new.lanes c.settle.result keep
          is w.ensures.lanes w.ensures.windows w.ensures.merged c.settle.ensures.worked);
      merged = search rules;
    }

pub returns-clause-lends : goal.returns-clause-lends
returns-clause-lends g c =
    let k = c.in_ok-prepared.prepared in
    let w = c.work_packets-done in
    let end = c.settle.result in
    let from = c.args.giver.now in
    let to = c.swap_list-2.new.giver in
    let gone = went from c.swap_list.new.giver w.new.giver to k.spares c.swap_list.new.list c.swap_list-2.new.list c.requires.lent c.swap_list.ensures.swapped w.ensures.gave
    c.swap_list-2.ensures.swapped in
    let is = c.in_ok-prepared.ensures.prepared in
    let blocks : k.blocks - (c.home-before.result - c.home.result) + given_by to ≡ c.args.round.blocks + given_by from = omega (
      arith,
      gone.count,
      gone.fewer,
      is.size,
      is.spares,
      c.home.ensures.home,
      c.home-before.ensures.home,
    ) in
    record {
      worked = blocks_left w.result w.new.lanes k.clones.items _ c.args.round.blocks _ _ end blocks c.settle.ensures.worked;
      named = weights_then weights_worked _ (weights_of c.args.round) (weights_given from) (weights_given to) end
          (λ h. omega (arith, gone.named h, w.ensures.named h, c.in_ok-prepared.ensures.named h)) c.settle.ensures.named;
      rest = rest_left _ c.args.round.blocks _ _ end blocks c.settle.ensures.rest;
      named_back = weights_back weights_left _ (weights_of c.args.round) (weights_given from) (weights_given to) end
          (λ h. omega (arith, gone.named h, w.ensures.named h, c.in_ok-prepared.ensures.named h)) c.settle.ensures.named_back;
      gave = grind (arith, common_steps);
    }

pub returns-clause-none_left : goal.returns-clause-none_left
returns-clause-none_left g c = λ gives.
    let k = c.in_ok-prepared.prepared in
    let w = c.work_packets-done in
    let left = c.swap_list-2.new.list in
    of_worked w.result c.settle.result left.blocks (LeavesNoSpare c.args.giver.now c.swap_list-2.new.giver) c.settle.ensures.spares
    (on_ok w.result (λ none. leaves_no_spare c.args.giver.now c.swap_list.new.giver w.new.giver c.swap_list-2.new.giver k.spares c.swap_list.new.list left c.swap_list.ensures.swapped none
    c.swap_list-2.ensures.swapped) (w.ensures.none_left gives))

pub returns-clause-gives_spares : goal.returns-clause-gives_spares
returns-clause-gives_spares g c = λ gives.
    let k = c.in_ok-prepared.prepared in
    let w = c.work_packets-done in
    let left = c.swap_list-2.new.list in
    let from = c.args.giver.now in
    let to = c.swap_list-2.new.giver in
    let n = length c.args.round.spares in
    let gone = went from c.swap_list.new.giver w.new.giver to k.spares c.swap_list.new.list left c.requires.lent c.swap_list.ensures.swapped w.ensures.gave c.swap_list-2.ensures.swapped in
    of_worked w.result c.settle.result left.blocks (λ (s : List SoleState). GivesSpares n from to) c.settle.ensures.spares
    (on_ok w.result (λ none. gives_spares n from to k.spares left gone.count (ap (λ (z : List SoleState). length z) c.in_ok-prepared.ensures.spares)
    (leaves_no_spare from c.swap_list.new.giver w.new.giver to k.spares c.swap_list.new.list left c.swap_list.ensures.swapped none c.swap_list-2.ensures.swapped)) (w.ensures.none_left gives))
