use Rattle.std.proofs.Common.{◌+◌, ◌-◌, ℕ, map, get_or, refl, sym, subst, arith, le_refl}
use Rattle.std.proofs.lemmas.List.{length-map}
use Rattle.segment_rule.specs.Segmentations.{segments_at}
use Rattle.taps.specs.Clones.{packet_of}
use Rattle.comparing.specs.Segments.{segments_from}
use Rattle.comparing.proofs.Chains.{Counting, count_stop, ones_few}
use Rattle.comparing.proofs.Turning.{turned, ended_all, next_inside, none_counted}
use Rattle.comparing.proofs.counting.count_segments.Goals as goal

pub returns-then-at-kept-clause-counts : goal.returns-then-at-kept-clause-counts
returns-then-at-kept-clause-counts c = λ f is q p e own.
    let l = c.loop-i in
    let cut = c.args.cut.now in
    count_stop (map packet_of c.args.kept.now) q c.args.at.now (segments_at cut p) _ l.at l.count (omega (arith, length-map c.args.kept.now packet_of)) ((l.invariant.each f is).counting q p e own)

pub is_segment-is_same-requires-clause-of : goal.is_segment-is_same-requires-clause-of
is_segment-is_same-requires-clause-of c =
    let of = c.requires.of in
    (of.0, (c.loop-i.invariant.each of.0 of.1).cut_to)

pub loop-i-preserved : goal.loop-i-preserved
loop-i-preserved c =
    let l = c.loop-i in
    let cut = c.args.cut.now in
    let kept = c.args.kept.now in
    let b = c.is_segment-is_same.result in
    let to : ℕ = get_or c.args.kept_next.now l.at 0 in
    record {
      few = omega (arith, l.invariant.few, c.from-count.ensures, ones_few b);
      each = λ f is.
          let k = l.invariant.each f is in
          record {
            cut_to = c.is_segment-is_same.ensures.next f k.cut_to;
            counting = λ q p e own.
                subst (λ (z : ℕ). Counting (map packet_of kept) q c.args.at.now (segments_at cut p) (segments_from cut p (l.i + 1) (cut.n - (l.i + 1))) to (l.count + z)) (sym c.from-count.ensures)
                (turned cut kept c.args.kept_next.now f l.i l.at to l.count b c.index-kept-at.result c.requires.chain (omega arith) (omega arith) c.index-kept-at.is 0 refl
                (c.is_segment-is_same.ensures.same f k.cut_to) q p c.args.at.now e (k.counting q p e own));
          };
    }

pub returns-clause-counts : goal.returns-clause-counts
returns-clause-counts c = λ f is q p e own.
    let l = c.loop-i in
    ended_all (map packet_of c.args.kept.now) c.args.cut.now q p c.args.at.now l.i l.at l.count (omega arith) ((l.invariant.each f is).counting q p e own)

pub loop-i-init : goal.loop-i-init
loop-i-init c = record {
  few = le_refl 0;
  each = λ f is. none_counted (map packet_of c.args.kept.now) c.args.cut.now f c.args.headers.now c.args.payload.now c.again-payload.result c.args.at.now c.again-payload.ensures.same is;
}

pub bounds-kept_next-at : goal.bounds-kept_next-at
bounds-kept_next-at c = next_inside c.args.kept.now c.args.kept_next.now c.loop-i.at c.requires.chain c.if-at-kept.false
