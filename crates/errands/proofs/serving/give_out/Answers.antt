use Rattle.std.proofs.Common.{rules, ◌≡◌, ◌++◌, ◌∙◌, List, [], ◌∷◌, Option, Some, map, append_assoc, sym, ap, arith}
use Rattle.errands.specs.Answers.{open_place}
use Rattle.errands.proofs.Answering.{rest_answers}
use Rattle.errands.proofs.serving.give_out.Goals as goal

pub loop-place-preserved : goal.loop-place-preserved
loop-place-preserved g c =
    let i = c.loop-place.invariant in
    let left = c.pop.new.self.items in
    let now = c.loop-place.done.items in
    let e : c.loop-place.places.items ≡ left ++ Some c.in-Some-place.answer ∷ [] = c.in-Some.ensures.items ∙ ap (λ (p : Option g.row.D.Denot). left ++ p ∷ []) c.in-Some-place.is in
    let r = rest_answers c.loop-place.places.items left (Some c.in-Some-place.answer) e i.all in
    let pushed = c.push_front_reserved.ensures.items in
    record {
      out = ap (λ (l : List g.row.D.Denot). left ++ map Some l) pushed
          ∙ (sym (append_assoc left (Some c.in-Some-place.answer ∷ []) (map Some now)) ∙ (sym (ap (λ (l : List (Option g.row.D.Denot)). l ++ map Some now) e) ∙ i.out));
      size = search rules;
      all = r.0;
      room = search rules;
    }

pub unreachable-requires : goal.unreachable-requires
unreachable-requires g c =
    let i = c.loop-place.invariant in
    let r = rest_answers c.loop-place.places.items c.pop.new.self.items c.in-Some.place c.in-Some.ensures.items i.all in
    let o = ap open_place c.in-None.is in
    absurd (omega (arith, r.1, o))
