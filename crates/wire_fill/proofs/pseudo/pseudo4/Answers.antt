use Rattle.std.proofs.Common.{◌+◌, ◌-◌, ℕ, List, [], ◌∷◌, ◌++◌, append_assoc, take, drop, ap, ◌∙◌, subst, refl, arith}
use Rattle.inet_sum.specs.Stands.{StandsFor}
use Rattle.net_bytes.specs.Bytes.{part, bytes16}
use Rattle.wire_fill.proofs.Addresses.{range_is}
use Rattle.wire_fill.proofs.pseudo.pseudo4.Goals as goal

pub returns : goal.returns
returns c = record {
  sum = λ rest.
      let h = c.args.head.now in
      let at = c.args.at in
      let len = c.args.len in
      let zero_and : List ℕ = 0 ∷ c.args.protocol ∷ [] in
      let range : List ℕ = take (at + 20 - (at + 12)) (drop (at + 12) h) in
      let all = c.add_number.ensures.sum (range ++ zero_and) (c.add-2.ensures.sum range (c.add.ensures.sum [] c.new-sum.ensures.sum)) in
      let front : List ℕ = part (h ++ rest) (at + 12) 8 in
      subst (StandsFor c.add_number.new.self)
      (ap (λ (z : List ℕ). (z ++ zero_and) ++ bytes16 len) (range_is h rest (at + 12) (at + 12) (at + 20) 8 (omega arith) refl (omega (arith, c.requires.there)))
      ∙ append_assoc front zero_and (bytes16 len)) all;
}
