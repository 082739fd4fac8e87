use Rattle.std.proofs.Common.{◌≡◌, ◌∙◌, ℕ, length, arith}
use Rattle.rounds.proofs.Places.{named_last}
use Rattle.std.proofs.Math.Nat.{le_trans}
use Rattle.frags.specs.Account.{Account, Keeps, both, of_outcomes, of_sole}
use Rattle.frags.specs.RoundAccount.{of_lives, Settles}
use Rattle.rounds.specs.Marks.{all}
use Rattle.rounds.specs.Table.{of_places}
use Rattle.rounds.proofs.mark_table.sweep_soles.Goals as goal

-- one object of what was left settled
settles_last : (n k : ℕ) (s p q o r x : Account) → k ≡ n → Settles n s (both p o) → Keeps o (both x r) → Settles k (both p x) q → Settles n s (both q r)
settles_last n k s p q o r x same h kept g = λ m.
    let a = h m in
    let b = g m in
    let e = kept all m in (
      (λ f. omega (arith, a.0 f, b.0 f, (kept (of_lives f) m).0)),
      λ lt z.
          let y = b.1 (omega (arith, lt, same)) (omega (arith, z)) in
          let w = a.1 lt (omega (arith, y.0, z, e.0, e.1)) in
          (w.0, omega (arith, w.1, y.0, y.1, z, e.0, e.1)),
    )

pub loop-sole-preserved : goal.loop-sole-preserved
loop-sole-preserved c =
    let l = c.loop-sole in
    let e = c.bring_one.ensures in
    record {
      settles = settles_last (length c.args.places.now) (length l.places) (both (of_places c.args.places.now) (of_outcomes c.args.out.now)) (of_places l.places) (of_places c.bring_one.new.places) (of_outcomes l.out)
          (of_outcomes c.pop_sole.new.self) (of_sole c.in-Some.sole) l.invariant.size l.invariant.settles c.in-Some.ensures.kept e.settles;
      count = e.count ∙ l.invariant.count;
      named = λ names h named.
          let before = l.invariant.named names h named in
          let parts = named_last names l.out c.pop_sole.new.self c.in-Some.sole c.in-Some.ensures.receipts c.in-Some.ensures.soles before.0 in
          (parts.0, e.named names h parts.1 ∙ before.1);
      size = e.size ∙ l.invariant.size;
      owed = λ owed. e.owed (l.invariant.owed owed);
      made = e.made.0 ∙ l.invariant.made;
      taken = e.made.1 ∙ l.invariant.taken;
      receipts = c.in-Some.ensures.receipts ∙ l.invariant.receipts;
      spare = le_trans l.invariant.spare c.in-Some.ensures.places;
    }
