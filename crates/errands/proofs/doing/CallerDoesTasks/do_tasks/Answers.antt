use Rattle.std.proofs.Common.{rules, ◌≡◌, ◌++◌, ◌∙◌, List, [], ◌∷◌, append_assoc, sym, ap, subst}
use Rattle.errands.specs.Answers.{EachDid}
use Rattle.errands.proofs.doing.CallerDoesTasks.do_tasks.Goals as goal

each_last : {T D : Type 0} (did : T → D → Type 0) (ts : List T) (ds : List D) (t : T) (d : D) → EachDid did ts ds → did t d → EachDid did (ts ++ t ∷ []) (ds ++ d ∷ [])
each_last did [] [] t d h e = (e, tt)
each_last did [] (x ∷ ds) t d h e = absurd h
each_last did (x ∷ ts) [] t d h e = absurd h
each_last did (x ∷ ts) (y ∷ ds) t d h e = (h.0, each_last did ts ds t d h.1 e)

pub loop-task-preserved : goal.loop-task-preserved
loop-task-preserved g c =
    let i = c.loop-task.invariant in
    let front = i.did.0 in
    let rest = c.pop_front.new.self.items in
    let e : c.loop-task.tasks.items ≡ c.in-Some.task ∷ rest = c.in-Some.ensures.items in
    record {
      did = (
        front ++ c.in-Some.task ∷ [],
        i.did.1 ∙ (ap (λ (l : List g.row.T.Denot). front ++ l) e ∙ sym (append_assoc front (c.in-Some.task ∷ []) rest)),
        subst (λ (ds : List g.row.D.Denot). EachDid g.J.Job.did (front ++ c.in-Some.task ∷ []) ds) (sym c.push_back_reserved.ensures.items)
            (each_last g.J.Job.did front c.loop-task.done.items c.in-Some.task c.run.result i.did.2 c.run.ensures.did),
      );
      room = search rules;
    }
