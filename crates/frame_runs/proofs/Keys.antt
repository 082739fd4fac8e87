-- The keys of flows: that two are one is an equivalence.
use Rattle.std.specs.Cmp.{IsEquivalence}
use Rattle.std.specs.Cmp.Lexicographic.{options_equiv}
use Rattle.std.proofs.lemmas.Cmp.{nat_list_eq_equiv}
use Rattle.frame_layout.specs.Key.{key_eq}

pub keys_equiv : IsEquivalence key_eq
keys_equiv = options_equiv nat_list_eq_equiv
