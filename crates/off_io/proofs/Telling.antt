-- Laws of facts that are told, one after the other.
use Rattle.std.proofs.Common.{ℕ, List, Option, None, Some}
use Rattle.off_io.specs.Told.{Told}

pub Told-weaker : (a b : Option (List ℕ)) (P Q : List ℕ → List ℕ → Type 0) → ((x y : List ℕ) → P x y → Q x y) → Told a b P → Told a b Q
Told-weaker None b P Q h p = tt
Told-weaker (Some x) None P Q h p = absurd p
Told-weaker (Some x) (Some y) P Q h p = h x y p

pub Told-then : (a b c : Option (List ℕ)) (P Q R : List ℕ → List ℕ → Type 0) → ((x y z : List ℕ) → P x y → Q y z → R x z) → Told a b P → Told b c Q → Told a c R
Told-then None b c P Q R h p q = tt
Told-then (Some x) None c P Q R h p q = absurd p
Told-then (Some x) (Some y) None P Q R h p q = absurd q
Told-then (Some x) (Some y) (Some z) P Q R h p q = h x y z p q

pub Told-same : (a : Option (List ℕ)) (P : List ℕ → List ℕ → Type 0) → ((x : List ℕ) → P x x) → Told a a P
Told-same None P h = tt
Told-same (Some x) P h = h x
