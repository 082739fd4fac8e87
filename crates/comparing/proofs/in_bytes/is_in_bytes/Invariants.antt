use Rattle.std.proofs.Common.{◌≡◌, ◌≤◌, drop, length}
use Rattle.frags.specs.PieceList.{bytes_of}
use Rattle.skb.specs.Checksum.{AreBytes}
use Rattle.skb.specs.SkbState.{buffer_bytes}
use Rattle.comparing.proofs.in_bytes.is_in_bytes.Given as goal

abbrev pub invariant-loop-i : goal.invariant-loop-i
invariant-loop-i l = record {
  end : l.n ≡ length l.skb.rest;
  within : l.i ≤ l.n;
  rest : AreBytes (bytes_of (drop l.i l.skb.rest)) → AreBytes (buffer_bytes l.skb);
}
