use Rattle.std.proofs.Common.{rules, ◌≡◌, [], ◌∷◌, subst, sym, ◌∙◌}
use Rattle.std.specs.List.{AllByRecursion}
use Rattle.lane_crew.specs.Givers.{back_of, carried, Divided}
use Rattle.lane_crew.specs.Tasks.{Away, IsPlaced}
use Rattle.lane_crew.proofs.Dividing.{may_join, divided_first, divided_taken}
use Rattle.lane_crew.proofs.Returning.{brought, none_away, are_placed}
use Rattle.lane_crew.proofs.away.work_here.Goals as goal

pub put_back-requires-clause-may : goal.put_back-requires-clause-may
put_back-requires-clause-may g c =
    let l = c.loop-task in
    let task = c.in-Some.task in
    let answer = c.run.result in
    let rest = c.pop_front.new.self.items in
    let e : l.tasks.items ≡ task ∷ rest = c.in-Some.ensures.items in
    let m = c.requires.may in
    let d = subst (λ z. Divided m.0 l.giver (carried z)) e (l.invariant.taken m.0 m.1) in
    may_join m.0 l.giver (back_of answer) (carried rest) (divided_first m.0 l.giver task rest answer c.run.ensures.did d)

pub loop-task-preserved : goal.loop-task-preserved
loop-task-preserved g c =
    let l = c.loop-task in
    let m = c.put_back.new.lanes in
    let task = c.in-Some.task in
    let answer = c.run.result in
    let rest = c.pop_front.new.self.items in
    let e : l.tasks.items ≡ task ∷ rest = c.in-Some.ensures.items in
    record {
      places = are_placed answer l.lanes m rest c.put_back.ensures.put (subst (AllByRecursion (IsPlaced l.lanes)) e l.invariant.places).1;
      back = λ plan old away. brought plan old l.lanes m task rest answer c.run.ensures.did c.put_back.ensures.put (subst (Away plan old l.lanes) e (l.invariant.back plan old away));
      taken = λ old d. divided_taken old l.giver (back_of answer) c.put_back.new.giver (carried rest) c.put_back.ensures.taken
          (divided_first old l.giver task rest answer c.run.ensures.did (subst (λ z. Divided old l.giver (carried z)) e (l.invariant.taken old d)));
    }

pub returns-clause-did : goal.returns-clause-did
returns-clause-did g c =
    let l = c.loop-task in
    let e : l.tasks.items ≡ [] = search rules in
    λ plan old away. none_away plan old l.lanes (subst (Away plan old l.lanes) e (l.invariant.back plan old away))

pub returns-clause-back : goal.returns-clause-back
returns-clause-back g c =
    let l = c.loop-task in
    let e : l.tasks.items ≡ [] = search rules in
    λ old d. subst (λ z. Divided old l.giver (carried z)) e (l.invariant.taken old d)

pub returns-clause-none : goal.returns-clause-none
returns-clause-none g c =
    let e : c.loop-task.tasks.items ≡ [] = search rules in
    sym c.in_default.ensures.items ∙ e
