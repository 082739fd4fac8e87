use Rattle.std.proofs.Common.{ℕ, ap, arith, length, subst, sym}
use Rattle.std.proofs.Common.{◌≡◌, ◌∙◌, ◌+◌, ◌-◌, ◌≤◌, ◌⊎◌, inl, inr}
use Rattle.block_pool.specs.PoolState.{home}
use Rattle.lanes.proofs.Listing.{refilled}
use Rattle.raw_block.specs.Views.{SoleState}
use Rattle.rounds.specs.Out.{IsOut}
use Rattle.rounds.specs.Table.{AllOpen}
use Rattle.rounds.specs.RoundsState.{BenchState, RestState}
use Rattle.rounds.specs.Weights.{weights_left}
use Rattle.block_supply.proofs.Listing.{weighed_none}
use Rattle.gro.specs.Packets.{PacketsState}
use Rattle.lanes.specs.declared.lane.Lanes.{Lanes}
use Rattle.lanes.specs.Lanes.{AreIdle}
use Rattle.rounds.proofs.bench.Bench.bring.Goals as goal

pub bring_out-requires-clause-out : goal.bring_out-requires-clause-out
bring_out-requires-clause-out c =
    let r = c.rest.inside in
    subst (λ (n : ℕ). IsOut r.shared n r.packets.items r.lanes r.clones.items) (omega (arith, c.home.ensures.home)) c.rest.invariant.1

pub bring_out-requires-clause-spare : goal.bring_out-requires-clause-spare
bring_out-requires-clause-spare c = omega (arith, ap (λ (r : RestState). r.blocks) c.rest.view_is, c.requires.may.room, ap (λ (b : BenchState). b.room) c.self.view_is)

-- all that was spare has a place, so none is left
none_left : (old n spare mid new left made : ℕ) → spare ≤ n → mid ≡ old + (n - spare)
    → new + left ≡ mid + spare → (left ≡ 0) ⊎ (new ≡ made) → old + n ≤ made → left ≡ 0
none_left old n spare mid new left made few home sum (inl none) room = none
none_left old n spare mid new left made few home sum (inr full) room = omega arith

spares_home : {blocks had before : ℕ} (old n spare mid new left made : ℕ) → spare ≤ blocks → mid ≡ old + (blocks - had) → had ≡ spare → blocks ≡ n → new + left ≡ mid + spare
    → (left ≡ 0) ⊎ (new ≡ made) → old + n ≤ before → made ≡ before → left ≡ 0
spares_home old n spare mid new left made few out has same sum all room made_is = none_left old n spare mid new left made (omega arith) (omega arith) sum all (omega arith)

pub invariant_of-self : goal.invariant_of-self
invariant_of-self c =
    let s = c.self.inside in
    let v = c.self.invariant in
    let b = c.bring_out in
    let lent = ap length c.deref_mut.ensures.value in
    let kept = refilled s.places.len b.new.table s.places.items (b.ensures.size ∙ lent) s.places.ok.0 in (
      subst (λ (n : ℕ). n ≤ 65536) (sym (ap length kept ∙ b.ensures.size ∙ lent)) v.0,
      subst AllOpen (sym kept) b.ensures.open,
      b.ensures.bare,
      ap (λ (p : PacketsState). p.items) c.replace.ensures.after ∙ b.ensures.none,
      subst (λ (l : Lanes). AreIdle l) (sym c.replace-2.ensures.after) b.ensures.idle,
      v.5,
      spares_home (home c.args.home.now) c.args.rest.blocks (home c.rest.inside.spares) (home b.new.pool) (home c.refill.new.self) (home c.refill.new.from) b.new.pool.made c.rest.invariant.0 b.ensures.adds.home
          c.home.ensures.home (ap (λ (r : RestState). r.blocks) c.rest.view_is) c.refill.ensures.sum c.refill.ensures.all c.requires.may.out b.ensures.adds.made.0,
      v.7,
    )

pub returns : goal.returns
returns c =
    let s = c.self.inside in
    let r = c.rest.inside in
    let b = c.bring_out in
    let f = c.refill in
    let n = c.args.rest.blocks in
    let old = c.args.home.now in
    let mid = b.new.pool in
    let blocks : r.blocks ≡ n = ap (λ (r : RestState). r.blocks) c.rest.view_is in
    let few = subst (λ (k : ℕ). home r.spares ≤ k) blocks c.rest.invariant.0 in
    let out : home mid ≡ home old + (n - home r.spares) =
    b.ensures.adds.home ∙ ap (λ (k : ℕ). home old + (r.blocks - k)) c.home.ensures.home ∙ ap (λ (k : ℕ). home old + (k - home r.spares)) blocks in
    let none = spares_home (home old) n (home r.spares) (home mid) (home f.new.self) (home f.new.from) mid.made c.rest.invariant.0 b.ensures.adds.home c.home.ensures.home blocks f.ensures.sum f.ensures.all
    c.requires.may.out b.ensures.adds.made.0 in
    let lent = ap length c.deref_mut.ensures.value in
    let size = b.ensures.size ∙ lent in
    let kept = refilled s.places.len b.new.table s.places.items size s.places.ok.0 in
    let spare = b.new.out.spare in
    let bench : ℕ → BenchState = λ k.
    record { room = spare; blocks = k; budget = s.budget; plan = s.plan; keep = s.keep } in
    let same_size = ap length kept ∙ size in
    let had = ap (λ (b : BenchState). b.room) c.self.view_is in
    record {
      brings = record {
        count = omega (arith, f.ensures.sum, none, out, few);
        named = λ h. omega (
          arith,
          f.ensures.blocks (λ (x : SoleState). h x.block),
          weighed_none h f.new.from.blocks none,
          b.ensures.adds.named h,
          ap (λ (r : RestState). weights_left r h) c.rest.view_is,
        );
        made = f.ensures.same.0 ∙ b.ensures.adds.made.0;
        taken = f.ensures.same.1 ∙ b.ensures.adds.made.1;
        room = omega (arith, b.ensures.spare, c.home.ensures.home, blocks, had);
        same = ap bench same_size ∙ ap (λ (b : BenchState). record b { room = spare }) c.self.view_is;
      };
    }
