use Rattle.std.proofs.Common.{◌≡◌, ◌<◌, ◌≤◌, ◌⊎◌, inl, inr, ◌++◌, ◌∙◌, List, ℕ, Option, Some, map, length, length-append, sym, ap, subst, refl, suc, [], ◌∷◌, arith}
use Rattle.std.proofs.lemmas.Bool.{cases_lt}
use Rattle.errands.specs.Answers.{AllBack, Places}
use Rattle.errands.specs.Rule.{times}
use Rattle.errands.proofs.Answering.{places_open, all_back, each_did, missing_open}
use Rattle.errands.proofs.serving.do_all.Goals as goal

pub collect-requires-clause-places : goal.collect-requires-clause-places
collect-requires-clause-places g c =
    let a = c.asked-first.ensures in
    places_open g.J.Job.did c.ask_all.new.asker.log c.ask_all.new.asker.back c.asked-first.result c.ask_all.new.places.items
    (λ j le. let n = a.later j (omega (arith, le, a.count)) in ap (λ (b : List ℕ). times j b) c.ask_all.ensures.back ∙ n) c.ask_all.ensures.open

pub collect-requires-clause-open : goal.collect-requires-clause-open
collect-requires-clause-open g c = missing_open c.ask_all.new.places.items c.ask_all.ensures.open

before_or_now : (first len : ℕ) (back : List ℕ) → AllBack first back → ((j : ℕ) → first ≤ j → j < len → 1 ≤ times j back) → AllBack len back
before_or_now first len back before now k lt = split (cases_lt k first)
  where
    split : (k < first) ⊎ (first ≤ k) → 1 ≤ times k back
    split (inl below) = before k below
    split (inr le) = now k le lt

pub returns-clause-before : goal.returns-clause-before
returns-clause-before g c =
    let a = c.asked-first.ensures in
    let e = c.collect.ensures in
    let long = ap length c.ask_all.ensures.log ∙ length-append c.args.asker.now.log c.args.tasks.now.items in
    let same = ap length e.log in
    before_or_now c.asked-first.result (length c.collect.new.asker.log) c.collect.new.asker.back e.before
    (λ j le lt. all_back g.J.Job.did c.ask_all.new.asker.log c.collect.new.asker.back c.asked-first.result c.collect.new.places.items e.all e.places j le
    (omega (arith, lt, long, same, a.count, e.size, c.ask_all.ensures.size)))

len_map : {A B : Type 0} (f : A → B) (xs : List A) → length (map f xs) ≡ length xs
len_map f [] = refl
len_map f (x ∷ xs) = ap suc (len_map f xs)

sizes : {A : Type 0} (n : ℕ) (ds : List A) (ps : List (Option A)) → map Some ds ≡ ps → length ps ≡ n → length ds ≡ n
sizes n ds ps e h = sym (len_map Some ds) ∙ (ap length e ∙ h)

pub returns-clause-did : goal.returns-clause-did
returns-clause-did g c =
    let a = c.asked-first.ensures in
    let e = c.collect.ensures in
    let out = c.give_out.ensures.out in
    let places : Places g.J.Job.did (c.args.asker.now.log ++ c.args.tasks.now.items) c.collect.new.asker.back (length c.args.asker.now.log) (map Some c.give_out.new.done.items) =
    subst (λ (ps : List (Option g.row.D.Denot)). Places g.J.Job.did (c.args.asker.now.log ++ c.args.tasks.now.items) c.collect.new.asker.back (length c.args.asker.now.log) ps) (sym out)
    (subst (λ (n : ℕ). Places g.J.Job.did (c.args.asker.now.log ++ c.args.tasks.now.items) c.collect.new.asker.back n c.collect.new.places.items) a.count
    (subst (λ (l : List g.row.T.Denot). Places g.J.Job.did l c.collect.new.asker.back c.asked-first.result c.collect.new.places.items) c.ask_all.ensures.log e.places)) in
    each_did g.J.Job.did c.args.asker.now.log c.args.tasks.now.items c.collect.new.asker.back c.give_out.new.done.items (sizes (length c.args.tasks.now.items) c.give_out.new.done.items
    c.collect.new.places.items out (omega (arith, e.size, c.ask_all.ensures.size))) places
