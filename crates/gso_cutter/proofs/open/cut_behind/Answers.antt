use Rattle.std.proofs.Common.{◌≡◌, ◌∙◌, true, false, [], Err, refl, sym, ap, subst, arith}
use Rattle.frags.specs.declared.pieces.ShareFault.{ShareFault}
use Rattle.skb.specs.SkbState.{SkbState, is_sole}
use Rattle.skb.specs.Cut.{IsCut}
use Rattle.gso_cutter.specs.Opening.{OpensAccount}
use Rattle.gso.proofs.Least.{elim_lt}
use Rattle.gso_cutter.proofs.Weights.{open_head, open_rest, opened_enough, bare, front_kept, enough_least, buffer_not_worn}
use Rattle.gso_cutter.proofs.open.cut_behind.Goals as goal

pub returns-in-Ok-clause-enough : goal.returns-in-Ok-clause-enough
returns-in-Ok-clause-enough c = λ some.
    opened_enough c.args.skb.now c.split_at.new.self c.args.at c.in-Ok.cut some c.len-in-Ok.ensures.fits c.len.ensures.fits c.requires.least c.in-Ok.ensures.split.2 c.in-Ok.ensures.split.3

pub returns-in-Ok-clause-front : goal.returns-in-Ok-clause-front
returns-in-Ok-clause-front c = front_kept c.args.skb.now c.split_at.new.self c.args.at c.in-Ok.cut c.requires.front c.in-Ok.ensures.split.2 c.in-Ok.ensures.split.3

pub returns-in-Ok-clause-account : goal.returns-in-Ok-clause-account
returns-in-Ok-clause-account c =
    let s = c.in-Ok.ensures.split in
    elim_lt (OpensAccount c.args.skb.now [] c.split_at.new.self c.in-Ok.cut) c.args.at _
    (λ l. open_head c.args.skb.now c.split_at.new.self c.args.at [] c.in-Ok.cut refl c.requires.least (s.2 l))
    (λ l. open_rest c.args.skb.now c.split_at.new.self c.args.at [] c.in-Ok.cut refl (s.3 l) (c.in-Ok.ensures.sums (λ j. absurd (omega (arith, l, j)))))

pub unreachable-requires : goal.unreachable-requires
unreachable-requires c =
    let s = c.args.skb.now in
    let e : false ≡ true = sym (buffer_not_worn c.args.at s c.requires.least (enough_least s.rest c.len.ensures.fits (omega (arith, c.requires.least)))) ∙
    (subst (λ (e : ShareFault). IsCut c.args.at s c.split_at.new.self (Err e)) c.in-Err-Worn.field-0-is c.in-Err-Worn.ensures.split).1 in
    cc

pub returns-in-Ok-clause-bare : goal.returns-in-Ok-clause-bare
returns-in-Ok-clause-bare c = bare c.split_at.new.self c.args.at c.len-in-Ok-2.ensures.fits c.in-Ok.ensures.bytes.1 (front_kept c.args.skb.now c.split_at.new.self c.args.at c.in-Ok.cut
    c.requires.front c.in-Ok.ensures.split.2 c.in-Ok.ensures.split.3)

pub returns-in-Ok-clause-shared : goal.returns-in-Ok-clause-shared
returns-in-Ok-clause-shared c = λ part.
    let s = c.in-Ok.ensures.split in
    elim_lt (is_sole c.split_at.new.self.head ≡ false) c.args.at _
    (λ l. ap (λ (z : SkbState). is_sole z.head) (s.2 l).1.1)
    (λ l. ap (λ (z : SkbState). is_sole z.head) (s.3 l).0 ∙ part)
