use Rattle.std.proofs.Common.{◌≡◌, ◌+◌, ◌<◌, ◌^◌, ℕ, List, length, map, sym, subst, arith}
use Rattle.std.specs.List.{AllByRecursion}
use Rattle.std.proofs.lemmas.List.{length-map}
use Rattle.frame_runs.specs.Chains.{indices}
use Rattle.frame_runs.specs.declared.run.Run.{Run}
use Rattle.gro_table.specs.Build.{pieces_in}
use Rattle.frame_runs.specs.Engine.{IsChain}
use Rattle.gro.specs.Slots.{packet_of}
use Rattle.gro_table.specs.Waiting.{run_held}
use Rattle.gro_table.proofs.Lining.{length-run}
use Rattle.frame_runs.proofs.Merging.{all_at}
use Rattle.gro_table.proofs.Placing.{pieces_at, places_end}
use Rattle.gro_table.proofs.places.all_places.Goals as goal

pub places_of-requires-clause-few : goal.places_of-requires-clause-few
places_of-requires-clause-few c =
    let lt : c.loop-i.i < length c.args.engine.now.runs.items = omega (arith, c.loop-i-test.true, c.loop-i.invariant.end) in
    subst (λ (z : List ℕ). pieces_in (run_held c.args.list.now z c.index.result.now) < 2 ^ 63) (sym c.deref.ensures.value)
    (omega (arith, c.requires.few, pieces_at c.args.list.now c.args.engine.now c.loop-i.i c.index.result.now c.requires.together c.index.ensures lt))

pub places_of-requires-clause-more : goal.places_of-requires-clause-more
places_of-requires-clause-more c =
    let e = c.args.engine.now in
    let l = c.args.list.now in
    let lt : c.loop-i.i < length e.runs.items = omega (arith, c.loop-i-test.true, c.loop-i.invariant.end) in
    let r : Run = c.index.result.now in
    subst (λ (z : List ℕ). length (run_held l z r) ≡ r.more + 1) (sym c.deref.ensures.value)
    (length-run l e c.requires.together r
    (subst (IsChain (map packet_of l.slots.items) e.next.items) (sym c.index.ensures)
    (all_at (IsChain (map packet_of l.slots.items) e.next.items) e.runs.items c.loop-i.i r c.requires.together.are.each lt)))

pub places_of-requires-clause-inside : goal.places_of-requires-clause-inside
places_of-requires-clause-inside c =
    let e = c.args.engine.now in
    let l = c.args.list.now in
    let lt : c.loop-i.i < length e.runs.items = omega (arith, c.loop-i-test.true, c.loop-i.invariant.end) in
    let r : Run = c.index.result.now in
    let chain = subst (IsChain (map packet_of l.slots.items) e.next.items) (sym c.index.ensures)
    (all_at (IsChain (map packet_of l.slots.items) e.next.items) e.runs.items c.loop-i.i r c.requires.together.are.each lt) in
    subst (λ (z : List ℕ). AllByRecursion (λ (k : ℕ). k < length l.slots.items) (indices z r)) (sym c.deref.ensures.value)
    (subst (λ (n : ℕ). AllByRecursion (λ (k : ℕ). k < n) (indices e.next.items r)) (length-map l.slots.items packet_of) chain.inside)

pub returns-clause-places : goal.returns-clause-places
returns-clause-places c =
    places_end (run_held c.args.list.now c.args.engine.now.next.items) c.args.engine.now.runs.items c.loop-i.all.items c.loop-i.i
    (omega (arith, c.loop-i.invariant.end, c.loop-i.invariant.within, c.loop-i-test.false)) c.loop-i.invariant.places
