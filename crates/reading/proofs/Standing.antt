-- Where a reader stands at a record.
use Rattle.std.specs.Prelude.{⊤}
use Rattle.std.proofs.Common.{◌≡◌, ℕ, List, Option, None, Some, refl, ap}
use Rattle.off_io.specs.Told.{Told}
use Rattle.off_io.proofs.Telling.{Told-same, Told-then, Told-weaker}
use Rattle.pcap_io.specs.declared.heads.RecHead.{RecHead}
use Rattle.pcap_io.specs.declared.place.Place.{Place}
use Rattle.pcap_io.specs.Places.{IsReady}
use Rattle.reading.specs.Reading.{IsAt, Opens, StandsAt}

-- a reader's link is that of where the record begins
pub at_link : (kept : Option RecHead) (at place : Place) → IsAt kept at place → place.link ≡ at.link
at_link None at place is = ap (λ (p : Place). p.link) is.0
at_link (Some head) at place is = is.enters.link

-- at a record of which no header was taken the reader stands where it begins
pub stands_here : (place : Place) (left : Option (List ℕ)) → IsReady place → StandsAt None place place left left
stands_here place left ready = record { is = (refl, ready); told = Told-same left (Opens None place) (λ bytes. refl) }

-- a source that told what it has left tells it still
pub tells : (a b : Option (List ℕ)) (P : List ℕ → List ℕ → Type 0) → Told a b P → Told a b (λ _ _. ⊤)
tells a b P told = Told-weaker a b P (λ _ _. ⊤) (λ bytes left p. tt) told

pub tells_then : (a b c : Option (List ℕ)) (P : List ℕ → List ℕ → Type 0) → Told a b (λ _ _. ⊤) → Told b c P → Told a c (λ _ _. ⊤)
tells_then a b c P first told = Told-then a b c (λ _ _. ⊤) P (λ _ _. ⊤) (λ bytes rest left p q. tt) first told
