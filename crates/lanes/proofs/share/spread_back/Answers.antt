use Rattle.std.proofs.Common.{◌≡◌, ◌-◌, Some, List, length-append, ◌∷◌, [], ◌++◌, length, set, take, ap, sym, subst, ◌∙◌, arith}
use Rattle.std.specs.Prelude.{reverse, slice_get}
use Rattle.std.specs.Option.{unwrap_or}
use Rattle.std.proofs.lemmas.Option.{slice_get_within, unwrap_or-slice_get}
use Rattle.gro.specs.declared.slot.Slot.{Slot as Held}
use Rattle.gro.specs.Slots.{AreHeld}
use Rattle.lanes.specs.Filling.{SharesOut}
use Rattle.lanes.specs.Work.{spread_of}
use Rattle.lanes.proofs.Sharing.{last_of, popped, shares_none, shares_stop, shares_turn}
use Rattle.lanes.proofs.share.spread_back.Goals as goal

pub loop-last-init : goal.loop-last-init
loop-last-init c = record {
  shares = shares_none (spread_of c.args.plan.now) (reverse c.args.packets.now.items) c.args.lanes.now c.requires.lanes.empty;
  held = c.requires.lanes.held;
}

pub returns-in_err-take_last-clause-shares : goal.returns-in_err-take_last-clause-shares
returns-in_err-take_last-clause-shares c =
    let l = c.loop-last in
    let n = spread_of c.args.plan.now in
    let every = reverse c.args.packets.now.items in
    let q = c.queue_for-queue.result in
    let m = c.take_last.new.lane in
    let back = c.in_err-take_last.ensures.back in
    subst (λ (z : List Held). SharesOut n every (reverse z) c.args.lanes.now (set l.lanes q m)) (sym back.1)
    (shares_stop n every (reverse l.packets.items) q c.args.lanes.now l.lanes c.index-lanes-queue.result m (omega arith) back.0 l.invariant.shares)

-- the packet that was looked at is the list's last
ends : (xs : List Held) (p : Held) → Some p ≡ slice_get xs (length xs - 1) → xs ≡ take (length xs - 1) xs ++ p ∷ []
ends xs p e =
    let few = slice_get_within xs (length xs - 1) p (sym e) in
    last_of (length xs - 1) xs p (omega (arith, few)) (ap (λ z. unwrap_or z p) e ∙ unwrap_or-slice_get xs (length xs - 1) p)

pub loop-last-smaller : goal.loop-last-smaller
loop-last-smaller c =
    let xs = c.loop-last.packets.items in
    let p = c.in-Some.last.now in
    let e = ends xs p (subst (λ (z : List Held). Some p ≡ slice_get z (length z - 1)) c.slots.ensures.slots c.in-Some.ensures.value) in
    let rest = take (length xs - 1) xs in
    omega (
      arith,
      ap length (c.in_ok-take_last.ensures.taken rest p e).1,
      ap length e,
      length-append rest (p ∷ []),
    )

pub loop-last-preserved : goal.loop-last-preserved
loop-last-preserved c =
    let l = c.loop-last in
    let xs = l.packets.items in
    let n = spread_of c.args.plan.now in
    let every = reverse c.args.packets.now.items in
    let p = c.in-Some.last.now in
    let q = c.queue_for-queue.result in
    let m = c.take_last.new.lane in
    let e = ends xs p (subst (λ (z : List Held). Some p ≡ slice_get z (length z - 1)) c.slots.ensures.slots c.in-Some.ensures.value) in
    let rest = take (length xs - 1) xs in
    let taken = c.in_ok-take_last.ensures.taken rest p e in
    let turned = popped xs rest p e in
    let now : rest ≡ c.take_last.new.packets.items = sym taken.1 in
    record {
      shares = subst (λ (z : List Held). SharesOut n every (reverse z) c.args.lanes.now (set l.lanes q m)) now
          (shares_turn n every (reverse rest) p q c.args.lanes.now l.lanes c.index-lanes-queue.result m (omega (arith, c.queue_for-queue.ensures.queue)) (omega arith)
          taken.0 (subst (λ (z : List Held). SharesOut n every z c.args.lanes.now l.lanes) turned l.invariant.shares));
      held = subst (λ (z : List Held). AreHeld (reverse z)) now (subst AreHeld turned l.invariant.held).1;
    }
