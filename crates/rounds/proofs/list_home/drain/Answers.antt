use Rattle.std.proofs.Common.{◌≡◌, ◌∙◌, ◌+◌, ◌≤◌, ℕ, [], ap, length, refl, sym, subst, arith}
use Rattle.std.proofs.Math.Nat.{le_refl}
use Rattle.block_pool.specs.Listed.{blocks_in}
use Rattle.block_pool.specs.PassState.{PassState, IsHome, IsOwn}
use Rattle.block_pool.specs.PoolState.{PoolState, home, weighed}
use Rattle.rounds.specs.RoundsState.{IntakeState}
use Rattle.block_supply.specs.Lists.{weights_listed}
use Rattle.block_supply.proofs.Listing.{listed_last, ones, taken_least, weights_listed_last, weights_taken_all}
use Rattle.rounds.proofs.list_home.drain.Goals as goal

pub bring_in-requires : goal.bring_in-requires
bring_in-requires g c =
    let l = c.loop-waiting in
    let i = l.invariant in
    let took = c.in-Ok.ensures.taken in
    let here = c.home-waiting-in-loop-waiting in
    record {
      room = omega (
        arith,
        i.named (λ _. 1),
        ones l.intake.stock,
        ones c.args.intake.now.stock,
        c.requires.room,
        ap (λ (s : IntakeState). s.blocks) i.same,
        taken_least c.take.new.pass here.result (ap (λ (p : PassState PoolState). p.made) took ∙ i.made) here.ensures.blocks,
        ap (λ (p : PassState PoolState). blocks_in p.taken) took,
        listed_last l.pass.taken c.in-Ok.list,
        ap (λ (p : PassState PoolState). blocks_in p.put) took,
        ap blocks_in i.put,
        ap (λ (p : PassState PoolState). blocks_in p.put) c.home-waiting.ensures.same,
        ap (λ (p : PassState PoolState). blocks_in p.taken) c.home-waiting.ensures.same,
        ap home c.into_pool.ensures.value,
      );
    }

pub loop-waiting-preserved : goal.loop-waiting-preserved
loop-waiting-preserved g c =
    let l = c.loop-waiting in
    let i = l.invariant in
    let here = c.home-waiting-in-loop-waiting in
    let is = here.ensures.same ∙ c.in-Ok.ensures.taken in
    let brought = c.bring_in.ensures.home in
    record {
      own = (ap (λ (p : PassState PoolState). p.pool) is ∙ i.own.0, ap (λ (p : PassState PoolState). p.size) is ∙ i.own.1);
      parts = ap (λ (p : PassState PoolState). p.parts) is ∙ i.parts;
      made = ap (λ (p : PassState PoolState). p.made) is ∙ i.made;
      put = ap (λ (p : PassState PoolState). p.put) is ∙ i.put;
      same = brought.0 ∙ ap (λ (s : IntakeState). record s { stock = c.bring_in.new.self.stock }) i.same;
      named = λ h. omega (
        arith,
        i.named h,
        c.bring_in.ensures.named h,
        ap (λ (p : PassState PoolState). weights_listed h p.taken) is,
        weights_listed_last h l.pass.taken c.in-Ok.list,
        ap (λ (p : PoolState). weighed h p.blocks) c.into_pool.ensures.value,
      );
      rises = omega (arith, i.rises, brought.1);
      count = omega (
        arith,
        here.ensures.count,
        ap (λ (p : PassState PoolState). p.takes) here.ensures.same,
        ap (λ (p : PassState PoolState). p.puts) here.ensures.same,
      );
      here = subst (λ (p : PassState PoolState). IsHome p here.result) (sym here.ensures.same) here.ensures.blocks;
    }

le-zero : {n : ℕ} → n ≤ 0 → n ≡ 0
le-zero h = omega arith

pub loop-waiting-init : goal.loop-waiting-init
loop-waiting-init g c =
    let lists = c.args.lists.now in
    let n = c.home-waiting.result in
    let e = sym c.home-waiting.ensures.same in
    record {
      own = subst (λ (p : PassState PoolState). IsOwn lists p) e c.requires.own;
      parts = subst (λ (p : PassState PoolState). p.parts ≡ 65536) e c.requires.all;
      made = subst (λ (p : PassState PoolState). p.made ≡ []) e c.requires.made;
      put = refl;
      same = refl;
      named = λ h. refl;
      rises = le_refl (length c.args.intake.now.stock);
      count = subst (λ (p : PassState PoolState). n + p.takes ≡ lists.made + p.puts) e c.home-waiting.ensures.count;
      here = subst (λ (p : PassState PoolState). IsHome p n) e c.home-waiting.ensures.blocks;
    }

pub returns-clause-named : goal.returns-clause-named
returns-clause-named g c = λ h.
    let l = c.loop-waiting in
    let i = l.invariant in
    let same = c.home-waiting.ensures.same in
    let all = weights_taken_all h l.pass l.waiting (le-zero c.loop-waiting-test.false) i.made i.here ∙ ap (weights_listed h) i.put ∙ ap (λ (p : PassState PoolState). weights_listed h p.put) same in
    ap (λ (p : PassState PoolState). weighed h l.intake.stock + weights_listed h p.taken) (sym same) ∙ i.named h ∙ ap (λ (n : ℕ). weighed h c.args.intake.now.stock + n) all

pub returns-clause-home : goal.returns-clause-home
returns-clause-home g c =
    let l = c.loop-waiting in
    let i = l.invariant in
    let same = c.home-waiting.ensures.same in
    let all = weights_taken_all (λ _. 1) l.pass l.waiting (le-zero c.loop-waiting-test.false) i.made i.here ∙ ap blocks_in i.put ∙ ap (λ (p : PassState PoolState). blocks_in p.put) same in
    omega (arith, ap (λ (p : PassState PoolState). blocks_in p.taken) same, i.named (λ _. 1), ones l.intake.stock, ones c.args.intake.now.stock, all)
