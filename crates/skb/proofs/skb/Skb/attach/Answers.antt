use Rattle.std.proofs.Common.{◌≡◌, ◌∙◌, ◌∷◌, List, ap, subst, arith}
use Rattle.std.specs.Prelude.{Ok}
use Rattle.frags.specs.Account.{KeepsMarks, both, of_outcomes}
use Rattle.frags.specs.PieceList.{size_of}
use Rattle.frags.specs.declared.pieces.Piece.{Piece}
use Rattle.skb.specs.SkbState.{SkbState, of_buffer, Attaches, buffer_size}
use Rattle.skb.specs.declared.skb.Skb.TheInside.{Inside}
use Rattle.frags.proofs.Accounts.{keeps_marks}
use Rattle.frags.proofs.PieceBytes.{size_of-append}
use Rattle.skb.proofs.Buffers.{attaches_joined, attaches_taken, joined_keeps, taken_marks}
use Rattle.skb.specs.Moving.{JoinsAccount}
use Rattle.skb.proofs.Moved.{joins_kept, joined_account, taken_account}
use Rattle.skb.proofs.skb.Skb.attach.Goals as goal

abbrev seen : Inside → SkbState
seen s = record { head = s.head; from = s.from; to = s.to; rest = s.rest }

abbrev with_rest : Inside → List Piece → SkbState
with_rest s rest = record { head = s.head; from = s.from; to = s.to; rest = rest }

-- what holds of the fields of two buffers holds of these
carried : (P : SkbState → SkbState → Type 0) (s t n m : SkbState) → s ≡ t → n ≡ m → P s n → P t m
carried P s t n m e f h = subst (λ (z : SkbState). P z m) e (subst (P s) f h)

pub invariant_of-self-then-from-to : goal.invariant_of-self-then-from-to
invariant_of-self-then-from-to c =
    let i = c.self.invariant in
    let s = ap size_of c.in_default.ensures.joined ∙ size_of-append c.self.inside.rest c.other.inside.rest in
    let u = ap buffer_size c.self.view_is in
    let v = ap buffer_size c.other.view_is in
    let r = c.requires.small in
    (i.0, i.1, i.2, omega arith)

pub returns-then-from-to-clause-attached : goal.returns-then-from-to-clause-attached
returns-then-from-to-clause-attached c =
    let s = c.self.inside in
    let n = c.other.inside in
    let o = c.args.out.now in
    let q = c.give_back_holder.new.self in
    carried (λ y z. Attaches y z o (with_rest s c.join_back.new.self) q (Ok tt)) (seen s) c.args.self.now (seen n) c.args.other c.self.view_is c.other.view_is
    (attaches_joined (seen s) (seen n) o q c.join_back.new.self c.if-from-to.true c.in_default.ensures.joined c.give_back_holder.ensures.kept)

pub invariant_of-self-2 : goal.invariant_of-self-2
invariant_of-self-2 c =
    let i = c.self.invariant in
    let e = c.in_default-append_all.ensures.appended.1.1 in
    let s = ap size_of e ∙ size_of-append
    c.self.inside.rest (record {
      part = c.in_default-append_all.ensures.appended.0;
      from = c.other.inside.from;
      to = c.other.inside.to;
    } ∷ c.other.inside.rest) in
    let u = ap buffer_size c.self.view_is in
    let v = ap buffer_size c.other.view_is in
    let r = c.requires.small in
    (i.0, i.1, i.2, omega arith)

pub returns-clause-attached : goal.returns-clause-attached
returns-clause-attached c =
    let s = c.self.inside in
    let n = c.other.inside in
    let o = c.args.out.now in
    carried (λ y z. Attaches y z o (with_rest s c.append_all.new.self) o (Ok tt)) (seen s) c.args.self.now (seen n) c.args.other c.self.view_is c.other.view_is
    (attaches_taken (seen s) (seen n) o c.append_all.new.self c.if-from-to.false c.in_default-append_all.ensures.appended)

pub returns-then-from-to-clause-marks : goal.returns-then-from-to-clause-marks
returns-then-from-to-clause-marks c =
    let s = c.self.inside in
    let n = c.other.inside in
    let o = c.args.out.now in
    let q = c.give_back_holder.new.self in
    let b = with_rest s c.join_back.new.self in
    carried (λ y z. KeepsMarks (both (of_buffer y) (both (of_buffer z) (of_outcomes o))) (both (of_buffer b) (of_outcomes q)))
    (seen s) c.args.self.now (seen n) c.args.other c.self.view_is c.other.view_is
    (keeps_marks _ _ (joined_keeps (seen s) (seen n) o q c.join_back.new.self c.in_default.ensures.joined c.give_back_holder.ensures.kept))

pub returns-clause-marks : goal.returns-clause-marks
returns-clause-marks c =
    let s = c.self.inside in
    let n = c.other.inside in
    let o = c.args.out.now in
    let w = c.in_default-append_all.ensures.appended in
    let b = with_rest s c.append_all.new.self in
    carried (λ y z. KeepsMarks (both (of_buffer y) (both (of_buffer z) (of_outcomes o))) (both (of_buffer b) (of_outcomes o)))
    (seen s) c.args.self.now (seen n) c.args.other c.self.view_is c.other.view_is
    (taken_marks (seen s) (seen n) o c.append_all.new.self w.0 w.1.0 w.1.1)

pub returns-then-from-to-clause-account : goal.returns-then-from-to-clause-account
returns-then-from-to-clause-account c =
    let s = c.self.inside in
    let n = c.other.inside in
    let o = c.args.out.now in
    let q = c.give_back_holder.new.self in
    carried (λ y z. JoinsAccount z (of_buffer y) o (of_buffer (with_rest s c.join_back.new.self)) q)
    (seen s) c.args.self.now (seen n) c.args.other c.self.view_is c.other.view_is
    (joined_account (seen s) (seen n) c.join_back.new.self o q c.in_default.ensures.joined c.give_back_holder.ensures.kept)

pub returns-clause-account : goal.returns-clause-account
returns-clause-account c =
    let s = c.self.inside in
    let n = c.other.inside in
    let o = c.args.out.now in
    let w = c.in_default-append_all.ensures.appended in
    carried (λ y z. JoinsAccount z (of_buffer y) o (of_buffer (with_rest s c.append_all.new.self)) o)
    (seen s) c.args.self.now (seen n) c.args.other c.self.view_is c.other.view_is
    (taken_account (seen s) (seen n) c.append_all.new.self o o w.0 w.1.0 w.1.1)

pub returns-then-from-to-clause-kept : goal.returns-then-from-to-clause-kept
returns-then-from-to-clause-kept c = λ e. joins_kept c.args.other _ c.args.out.now _
    c.give_back_holder.new.self e (returns-then-from-to-clause-account c)

pub returns-clause-kept : goal.returns-clause-kept
returns-clause-kept c = λ e. joins_kept c.args.other _ c.args.out.now _ c.args.out.now e (returns-clause-account c)
