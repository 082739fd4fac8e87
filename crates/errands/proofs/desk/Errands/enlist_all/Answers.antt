use Rattle.std.proofs.Common.{rules, ◌≡◌, ◌<◌, ◌++◌, ℕ, zero, suc, List, [], ◌∷◌, length, get_or, subst, sym, arith}
use Rattle.errands.proofs.desk.Errands.enlist_all.Goals as goal

all_last : {A : Type 0} (xs : List A) (x e : A) → ((k : ℕ) (d : A) → k < length xs → get_or xs k d ≡ e) → x ≡ e → (k : ℕ) (d : A) → k < length (xs ++ x ∷ []) → get_or (xs ++ x ∷ []) k d ≡ e
all_last [] x e h is zero d lt = is
all_last [] x e h is (suc k) d lt = absurd (omega (arith, lt))
all_last (y ∷ ys) x e h is zero d lt = h zero d (omega arith)
all_last (y ∷ ys) x e h is (suc k) d lt = all_last ys x e (λ j z less. h (suc j) z (omega (arith, less))) is k d (omega (arith, lt))

all_pushed : {A : Type 0} (xs ys : List A) (x e : A) → ys ≡ xs ++ x ∷ [] → ((k : ℕ) (d : A) → k < length xs → get_or xs k d ≡ e) → x ≡ e → (k : ℕ) (d : A) → k < length ys → get_or ys k d ≡ e
all_pushed {A = A} xs ys x e same h is = subst (λ (zs : List A). (k : ℕ) (d : A) → k < length zs → get_or zs k d ≡ e) (sym same) (all_last xs x e h is)

pub loop-preserved : goal.loop-preserved
loop-preserved g c = record {
  same = search rules;
  own = all_pushed c.loop.runners.items c.push.new.self.items c.enlist.result c.args.self.now (search rules) c.loop.invariant.own (search rules);
  count = search rules;
}
