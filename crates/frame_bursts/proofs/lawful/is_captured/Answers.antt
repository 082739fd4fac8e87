use Rattle.std.proofs.Common.{rules, length, refl, arith}
use Rattle.frame_bursts.proofs.Framing.{size_on, bytes_on}
use Rattle.frame_bursts.proofs.lawful.is_captured.Goals as goal

pub returns : goal.returns
returns c =
    let p = c.args.packet.now in
    record {
      captured = (
        λ t. record {
          number = search rules;
          sec = omega arith;
          frac = omega arith;
          original = omega (arith, c.missing-missing.ensures.missing p.original, c.if-packet-missing.false);
          short = omega (
            arith,
            size_on c.args.link p.bytes.now,
            c.missing-missing.ensures.missing (length p.bytes.now),
            c.len_in_bytes-len.ensures.len,
            c.if-len-missing.false,
          );
          in_bytes = bytes_on c.args.link p.bytes.now c.len_in_bytes-len.ensures.in_bytes;
        },
        λ a. refl,
      );
    }
