use Rattle.std.proofs.Common.{ℕ, List, ◌++◌, sym, ap, arith}
use Rattle.frags.specs.PieceList.{bytes_of}
use Rattle.gro.proofs.slot.SlotFrame.head.Goals as goal

pub returns-clause-front : goal.returns-clause-front
returns-clause-front c =
    let rest : List ℕ = bytes_of c.args.self.now.skb.rest in
    let held = c.requires.held in
    record {
      rest = rest;
      joined = ap (λ (z : List ℕ). z ++ rest) (sym c.head.ensures.bytes);
      enough = omega (arith, held.front, held.size, c.head.ensures.size);
    }
