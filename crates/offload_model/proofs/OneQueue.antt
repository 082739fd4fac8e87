-- Where there is one queue, it has all flows.
use Rattle.std.proofs.Common.{◌≡◌, ℕ, ◌<◌, true, Option, List, [], ◌∷◌, refl, ap, arith}
use Rattle.std.specs.Prelude.{◌==◌}
use Rattle.std.specs.List.{filter}
use Rattle.std.proofs.lemmas.Bool.{eq-eqb}
use Rattle.pcap_io.specs.Capture.{Packet}
use Rattle.frame_layout.specs.Key.{key_of}
use Rattle.offload_model.specs.Rounds.{Spread, is_queued, runs_in}
use Rattle.offload_model.specs.CaptureLaws.{OneQueueHasAll}

pub all_queued : (spread : Spread) (ps : List Packet) → ((key : Option (List ℕ)) → spread key < 1) → filter (is_queued spread 0) ps ≡ ps
all_queued spread [] h = refl
all_queued spread (p ∷ ps) h =
    let queued : (spread (key_of p.frame) == 0) ≡ true = eq-eqb (spread (key_of p.frame)) 0 (omega (arith, h (key_of p.frame))) in
    rw queued (ap (λ z. p ∷ z) (all_queued spread ps h))

pub one_queue : OneQueueHasAll
one_queue segs spread ps h = ap (runs_in segs) (all_queued spread ps h)
