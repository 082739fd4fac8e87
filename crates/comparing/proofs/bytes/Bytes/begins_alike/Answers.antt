use Rattle.std.proofs.Common.{◌∙◌, sym, length, ap, length-append, arith, refl}
use Rattle.std.proofs.lemmas.Bool.{false≢true}
use Rattle.comparing.proofs.Passing.{next_alike, both_more, begun, all_alike}
use Rattle.comparing.proofs.bytes.Bytes.begins_alike.Goals as goal

pub returns-then-not-begins_with : goal.returns-then-not-begins_with
returns-then-not-begins_with c =
    let l = c.loop-left in
    let x = c.take-bytes.result.now in
    record {
      same = (
        λ e. absurd (false≢true e),
        λ e. sym c.if-not-begins_with.true ∙ c.begins_with.ensures.same.1 (next_alike c.args.n l.left c.args.self.now c.args.others.now l.self l.own x c.take-bytes.new.self l.invariant.passed
            c.take-bytes.ensures.most c.take-bytes.ensures.bytes e),
      );
    }

pub loop-left-preserved : goal.loop-left-preserved
loop-left-preserved c =
    let l = c.loop-left in
    let x = c.take-bytes.result.now in
    record {
      within = omega (arith, l.invariant.within, ap length c.take-bytes.ensures.bytes, length-append x c.take-bytes.new.self);
      passed = both_more c.args.n l.left c.args.self.now c.args.others.now l.self l.own x c.begins_with.new.self c.take-bytes.new.self l.invariant.passed c.take-bytes.ensures.most
          (begun l.self x c.begins_with.new.self (c.begins_with.ensures.same.0 c.if-not-begins_with.false) (c.begins_with.ensures.behind c.if-not-begins_with.false)) c.take-bytes.ensures.bytes;
    }

pub returns : goal.returns
returns c =
    let l = c.loop-left in
    record { same = (λ e. all_alike c.args.n l.left c.args.self.now c.args.others.now l.self l.own c.loop-left-test.false l.invariant.passed, λ e. refl) }
