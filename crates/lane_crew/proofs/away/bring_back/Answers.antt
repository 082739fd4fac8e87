use Rattle.std.proofs.Common.{rules, ◌≡◌, [], ◌∷◌, subst}
use Rattle.std.specs.List.{AllByRecursion}
use Rattle.lane_crew.specs.Givers.{back_of, returned, Divided}
use Rattle.lane_crew.specs.Tasks.{HasPlace}
use Rattle.lane_crew.proofs.Dividing.{may_join, divided_taken}
use Rattle.lane_crew.proofs.Returning.{Answered, brought_next, all_answered, have_places}
use Rattle.lane_crew.proofs.away.bring_back.Goals as goal

pub put_back-requires-clause-may : goal.put_back-requires-clause-may
put_back-requires-clause-may g c =
    let l = c.loop-answer in
    let answer = c.in-Some.answer in
    let rest = c.pop_front.new.self.items in
    let e : l.done.items ≡ answer ∷ rest = c.in-Some.ensures.items in
    let m = c.requires.may in
    may_join m.0 l.giver (back_of answer) (returned rest) (subst (λ z. Divided m.0 l.giver (returned z)) e (l.invariant.taken m.0 m.1))

pub loop-answer-preserved : goal.loop-answer-preserved
loop-answer-preserved g c =
    let l = c.loop-answer in
    let m = c.put_back.new.lanes in
    let answer = c.in-Some.answer in
    let rest = c.pop_front.new.self.items in
    let e : l.done.items ≡ answer ∷ rest = c.in-Some.ensures.items in
    record {
      places = have_places answer l.lanes m rest c.put_back.ensures.put (subst (AllByRecursion (HasPlace l.lanes)) e l.invariant.places).1;
      back = λ plan old ts did away. brought_next plan old l.lanes m answer rest c.put_back.ensures.put (subst (Answered plan old l.lanes) e (l.invariant.back plan old ts did away));
      taken = λ old d. divided_taken old l.giver (back_of answer) c.put_back.new.giver (returned rest) c.put_back.ensures.taken
          (subst (λ z. Divided old l.giver (returned z)) e (l.invariant.taken old d));
    }

pub returns-clause-did : goal.returns-clause-did
returns-clause-did g c =
    let l = c.loop-answer in
    let e : l.done.items ≡ [] = search rules in
    λ plan old ts did away. all_answered plan old l.lanes (subst (Answered plan old l.lanes) e (l.invariant.back plan old ts did away))

pub returns-clause-back : goal.returns-clause-back
returns-clause-back g c =
    let l = c.loop-answer in
    let e : l.done.items ≡ [] = search rules in
    λ old d. subst (λ z. Divided old l.giver (returned z)) e (l.invariant.taken old d)
