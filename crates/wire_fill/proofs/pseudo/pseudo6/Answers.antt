use Rattle.std.proofs.Common.{◌+◌, ◌-◌, ◌/◌, ◌%◌, ℕ, List, [], ◌∷◌, ◌++◌, append_assoc, take, drop, ap, ◌∙◌, subst, refl, arith}
use Rattle.inet_sum.specs.Stands.{StandsFor}
use Rattle.net_bytes.specs.Bytes.{part, bytes16}
use Rattle.wire_fill.proofs.Addresses.{range_is}
use Rattle.wire_fill.proofs.pseudo.pseudo6.Goals as goal

pub returns : goal.returns
returns c = record {
  sum = λ rest.
      let h = c.args.head.now in
      let at = c.args.at in
      let high = bytes16 (c.args.len / 65536) in
      let low = bytes16 (c.args.len % 65536) in
      let last : List ℕ = 0 ∷ 0 ∷ 0 ∷ c.args.protocol ∷ [] in
      let range : List ℕ = take (at + 40 - (at + 8)) (drop (at + 8) h) in
      let all = c.add-2.ensures.sum ((range ++ high) ++ low) (c.add_number-2.ensures.sum (range ++ high) (c.add_number.ensures.sum range (c.add.ensures.sum [] c.new-sum.ensures.sum))) in
      let front : List ℕ = part (h ++ rest) (at + 8) 32 in
      subst (StandsFor c.add-2.new.self)
      (ap (λ (z : List ℕ). ((z ++ high) ++ low) ++ last) (range_is h rest (at + 8) (at + 8) (at + 40) 32 (omega arith) refl (omega (arith, c.requires.there)))
      ∙ append_assoc (front ++ high) low last ∙ append_assoc front high (low ++ last)) all;
}
