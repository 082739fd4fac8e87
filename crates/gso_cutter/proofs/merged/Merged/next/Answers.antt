use Rattle.std.proofs.Common.{◌≡◌, ℕ, ◌+◌, ◌<◌, ◌++◌, ◌∙◌, List, length, min, take, drop, length-drop, refl, sym, ap, subst, arith, inl}
use Rattle.frags.specs.PieceList.{bytes_of}
use Rattle.frags.specs.declared.pieces.Piece.{Piece}
use Rattle.frags.specs.declared.holder.Holder.TheVariants.{Sole}
use Rattle.frame_layout.specs.Headers.{AtHeaders}
use Rattle.offload_model.specs.Mergeable.{IsLengthInRange}
use Rattle.segment_rule.specs.Segmentations.{segment_from}
use Rattle.gso_cutter.specs.Merged.{MergedState, IsAt, GivesSegment}
use Rattle.segment_rule.proofs.Segments.{places}
use Rattle.gso_cutter.proofs.Steps.{state, at_open, IsCutOff, cut_off, gives}
use Rattle.gso_cutter.proofs.merged.Merged.next.Goals.{In-Ok-cut_off}
use Rattle.gso_cutter.proofs.merged.Merged.next.Goals as goal

pub returns-then-self-clause-account : goal.returns-then-self-clause-account
returns-then-self-clause-account c = (c.args.self.now.skb.head, (inl refl, λ t m. (omega arith, omega arith)))

pub open-requires-clause-some : goal.open-requires-clause-some
open-requires-clause-some c =
    let k = c.self.invariant in
    omega (arith, c.payload_at-at.ensures.place, (places c.self.inside.cut k.frame k.at.in_bytes k.at.of).least)

pub returns-in_default-clause-next : goal.returns-in_default-clause-next
returns-in_default-clause-next c = λ f is.
    let s = c.self.inside in
    let less : s.i < s.cut.n = omega (arith, c.self.invariant.within, c.if-self.false) in
    let at = at_open s.sums s.skb c.open.new.skb s.pieces c.open.new.pieces s.cut s.i f (subst (IsAt f) (sym c.self.view_is) is) c.open.ensures.bytes in
    subst (λ (z : MergedState). (z.i < z.cut.n) × (c.args.spare ≡ c.args.spare) × IsAt f (state s.sums c.open.new.skb c.open.new.pieces s.cut s.i) × (s.cut ≡ z.cut) × (s.i ≡ z.i)) c.self.view_is
    (less, refl, at, refl, refl)

pub returns-in_default-cut_off-clause-next : goal.returns-in_default-cut_off-clause-next
returns-in_default-cut_off-clause-next c = λ f is.
    let s = c.self.inside in
    let less : s.i < s.cut.n = omega (arith, c.self.invariant.within, c.if-self.false) in
    let at : IsAt f (state s.sums c.open.new.skb c.cut_off.new.pieces s.cut s.i) = subst (λ (z : List Piece). IsAt f (state s.sums c.open.new.skb z s.cut s.i)) (sym c.in_default-cut_off.ensures.same)
    (at_open s.sums s.skb c.open.new.skb s.pieces c.open.new.pieces s.cut s.i f (subst (IsAt f) (sym c.self.view_is) is) c.open.ensures.bytes) in
    subst (λ (z : MergedState). (z.i < z.cut.n) × (c.args.spare ≡ c.args.spare) × IsAt f (state s.sums c.open.new.skb c.cut_off.new.pieces s.cut s.i) × (s.cut ≡ z.cut) × (s.i ≡ z.i)) c.self.view_is
    (less, refl, at, refl, refl)

-- what was cut off, of the frame f
taken : (c : In-Ok-cut_off) (f : List ℕ) → IsAt f (state c.self.inside.sums c.self.inside.skb c.self.inside.pieces c.self.inside.cut c.self.inside.i)
    → IsCutOff c.self.inside.sums c.open.new.skb c.cut_off.new.pieces c.in-Ok-cut_off.front c.self.inside.cut c.self.inside.i f
taken c f is =
    let s = c.self.inside in
    let e = c.in-Ok-cut_off.ensures.bytes in
    let some : c.min-n.result ≡ min s.cut.m (length (bytes_of c.open.new.pieces)) = omega (arith, c.min-n.ensures, c.len.ensures.bytes) in
    cut_off s.sums c.open.new.skb c.open.new.pieces c.cut_off.new.pieces c.in-Ok-cut_off.front s.cut s.i c.min-n.result f
    (at_open s.sums s.skb c.open.new.skb s.pieces c.open.new.pieces s.cut s.i f is c.open.ensures.bytes)
    (c.in-Ok.ensures.long ∙ c.payload_at-at.ensures.place) c.in-Ok.ensures.bare some e.0 e.2

-- and of the frame of the invariant
own : (c : In-Ok-cut_off)
    → IsCutOff c.self.inside.sums c.open.new.skb c.cut_off.new.pieces c.in-Ok-cut_off.front c.self.inside.cut c.self.inside.i c.self.invariant.frame
own c = taken c c.self.invariant.frame c.self.invariant.at

pub of_segment-sum-requires-clause-of : goal.of_segment-sum-requires-clause-of
of_segment-sum-requires-clause-of c =
    let k = c.self.invariant in
    let at = c.self.inside.cut.layout.payload_at in
    record {
      payload = drop at k.frame;
      known = k.sums;
      within = omega (arith, k.at.of.within, length-drop at k.frame);
      is = (own (goal.at.of_segment-sum-requires-clause-of c).In-Ok-cut_off).own;
    }

pub put_headers-requires-clause-laid : goal.put_headers-requires-clause-laid
put_headers-requires-clause-laid c = (own (goal.at.put_headers-requires-clause-laid c).In-Ok-cut_off).placed.laid

pub put_headers-requires-clause-low : goal.put_headers-requires-clause-low
put_headers-requires-clause-low c = (own (goal.at.put_headers-requires-clause-low c).In-Ok-cut_off).placed.low

pub put_headers-requires-clause-ranges : goal.put_headers-requires-clause-ranges
put_headers-requires-clause-ranges c =
    let cut = c.self.inside.cut in
    subst (λ (z : ℕ). AtHeaders (IsLengthInRange (cut.layout.payload_at + z)) cut.layout.headers) (sym c.of_segment-sum.ensures.len)
    (own (goal.at.put_headers-requires-clause-ranges c).In-Ok-cut_off).ranges

pub put_headers-requires-clause-few : goal.put_headers-requires-clause-few
put_headers-requires-clause-few c = omega (arith, (own (goal.at.put_headers-requires-clause-few c).In-Ok-cut_off).few, c.of_segment-sum.ensures.len)

pub new-requires-clause-range : goal.new-requires-clause-range
new-requires-clause-range c =
    let low = (own (goal.at.new-requires-clause-range c).In-Ok-cut_off).placed.low in
    let place = c.payload_at-at.ensures.place in
    (omega arith, omega arith)

pub new-requires-clause-small : goal.new-requires-clause-small
new-requires-clause-small c =
    let k = own (goal.at.new-requires-clause-small c).In-Ok-cut_off in
    omega (arith, c.in-Ok-cut_off.ensures.bytes.1, c.in-Ok-cut_off.ensures.bytes.2, c.min-n.ensures, c.len.ensures.small, c.payload_at-at.ensures.place, k.few, k.placed.low)

pub invariant_of-self-2 : goal.invariant_of-self-2
invariant_of-self-2 c =
    let k = c.self.invariant in
    let place = c.payload_at-at.ensures.place in
    record {
      frame = k.frame;
      at = (own (goal.at.invariant_of-self-2 c).In-Ok-cut_off).next;
      front = omega (arith, c.open.ensures.front, place);
      closed = λ e. absurd (e (c.in-Ok.ensures.size ∙ place));
      enough = c.cut_off.ensures.enough;
      within = omega (arith, k.within, c.if-self.false);
      sums = k.sums;
    }

pub returns-clause-next : goal.returns-clause-next
returns-clause-next c = λ f is.
    let s = c.self.inside in
    let front = c.in-Ok-cut_off.front in
    let at = s.cut.layout.payload_at in
    let place = c.payload_at-at.ensures.place in
    let less : s.i < s.cut.n = omega (arith, c.self.invariant.within, c.if-self.false) in
    let written = c.put_headers.ensures.segment (bytes_of front) c.of_segment-sum.ensures.sum
    ∙ ap (λ (z : List ℕ). segment_from s.cut s.i (take at z ++ bytes_of front)) c.head.ensures.bytes in
    let made = c.new.ensures.same ∙ ap (λ (z : ℕ). record { head = Sole c.put_headers.new.block; from = 64; to = 64 + z; rest = front }) place in
    subst (λ (z : MergedState). GivesSegment f z c.args.spare (state s.sums c.open.new.skb c.cut_off.new.pieces s.cut (s.i + 1)) c.new.result) c.self.view_is
    (gives s.sums s.skb c.open.new.skb s.pieces c.cut_off.new.pieces front s.cut s.i f (taken (goal.at.returns-clause-next c).In-Ok-cut_off f (subst (IsAt f) (sym c.self.view_is) is))
    c.args.spare c.put_headers.new.block c.new.result less written c.put_headers.ensures.mark c.put_headers.ensures.block made)
