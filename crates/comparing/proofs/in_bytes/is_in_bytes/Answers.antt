use Rattle.std.proofs.Common.{◌≡◌, ◌+◌, [], drop, sym, ap, subst, arith}
use Rattle.std.proofs.lemmas.List.{drop_all}
use Rattle.frags.specs.PieceList.{bytes_of}
use Rattle.skb.specs.Checksum.{AreBytes}
use Rattle.skb.specs.SkbState.{head_bytes}
use Rattle.skb.proofs.Summing.{bytes_more, piece_first}
use Rattle.comparing.proofs.in_bytes.is_in_bytes.Goals as goal

no_bytes : AreBytes []
no_bytes k = omega arith

pub loop-i-init : goal.loop-i-init
loop-i-init c =
    let s = c.args.skb.now in
    record {
      end = omega (arith, c.count-n.ensures.value);
      within = omega arith;
      rest = λ more. bytes_more (head_bytes s) (bytes_of s.rest) (subst AreBytes c.head.ensures.bytes c.in_bytes.ensures.in_bytes) more;
    }

pub loop-i-preserved : goal.loop-i-preserved
loop-i-preserved c =
    let l = c.loop-i in
    let i = l.invariant in
    let s = c.args.skb.now in
    let piece = c.slice.result.now in
    let first = piece_first s.rest l.i piece (omega (arith, i.end)) c.slice.ensures.bytes in
    record {
      end = i.end;
      within = omega arith;
      rest = λ more. i.rest (subst AreBytes (sym first) (bytes_more piece (bytes_of (drop (l.i + 1) s.rest)) c.in_bytes-in-loop-i.ensures.in_bytes more));
    }

pub returns : goal.returns
returns c =
    let l = c.loop-i in
    let i = l.invariant in
    let none : bytes_of (drop l.i c.args.skb.now.rest) ≡ [] = ap bytes_of (drop_all l.i c.args.skb.now.rest (omega (arith, i.end, i.within, c.loop-i.auto.i-end))) in
    record { in_bytes = i.rest (subst AreBytes (sym none) no_bytes) }
