use Rattle.std.proofs.Common.{ℕ, List, ◌-◌, ◌∙◌, take, length, sym, ap, subst, arith, length-append}
use Rattle.std.proofs.lemmas.Result.{err_from_is_err_and}
use Rattle.off_io.specs.Content.{Owes}
use Rattle.off_io.proofs.Owing.{Owes-less, Owes-failed}
use Rattle.gso.specs.Places.{bytes_at}
use Rattle.records.proofs.Stretches.{front_first, behind_first}
use Rattle.records.proofs.Writing.{stopped}
use Rattle.records.proofs.segments.write_next.Goals as goal

pub returns-in_err-write_all-clause-writes : goal.returns-in_err-write_all-clause-writes
returns-in_err-write_all-clause-writes g c =
    let p = err_from_is_err_and c.from_residual.result c.from_residual.ensures.1 in
    let l = c.loop-left in
    let r = c.read-bytes in
    let s = c.args.segments.now.skb in
    let rest : List ℕ = take (l.left - length r.result.now) (bytes_at s r.new.place) in
    let e = c.in_err-write_all.ensures in
    let err = Owes-failed _ _ _ (take c.args.n (bytes_at s c.args.place.now)) r.result.now rest
    (subst (Owes _ _ (take c.args.n (bytes_at s c.args.place.now))) (front_first (bytes_at s l.place) r.result.now (bytes_at s r.new.place) l.left r.ensures.bytes r.ensures.most) l.invariant.owes)
    e.err in
    stopped c.from_residual.result _ _ _ _ _ _ p.0 _ p.1 err l.invariant.later e.cause

pub loop-left-preserved : goal.loop-left-preserved
loop-left-preserved g c =
    let l = c.loop-left in
    let i = l.invariant in
    let r = c.read-bytes in
    let s = c.args.segments.now.skb in
    let rest : List ℕ = take (l.left - length r.result.now) (bytes_at s r.new.place) in
    record {
      place = r.ensures.place;
      within = omega (arith, i.within, i.place.left, r.ensures.place.left, ap length r.ensures.bytes, length-append r.result.now (bytes_at s r.new.place));
      owes = Owes-less _ _ _ (take c.args.n (bytes_at s c.args.place.now)) r.result.now rest
          (subst (Owes _ _ (take c.args.n (bytes_at s c.args.place.now))) (front_first (bytes_at s l.place) r.result.now (bytes_at s r.new.place) l.left r.ensures.bytes r.ensures.most) i.owes)
          c.in_ok-write_all.ensures.ok;
      behind = sym (behind_first (bytes_at s l.place) r.result.now (bytes_at s r.new.place) l.left r.ensures.bytes r.ensures.most) ∙ i.behind;
      later = omega (arith, i.later, c.in_ok-write_all.ensures.cause.later);
    }
