-- What is written goes record by record.
use Rattle.std.proofs.Common.{◌≡◌, ◌≤◌, ◌<◌, ◌+◌, ℕ, List, [], ◌∷◌, ◌++◌, length, refl, sym, ap, ◌∙◌, arith, Option, None}
use Rattle.std.specs.List.{flat_map}
use Rattle.net_bytes.specs.declared.order.Order.{Order}
use Rattle.pcap_io.specs.declared.heads.FileHead.{FileHead}
use Rattle.pcap_io.specs.declared.place.Place.{Place}
use Rattle.pcap_io.specs.declared.faults.CapFault.{CapFault}
use Rattle.pcap_io.specs.Capture.{Packet, Found, ended, one_more}
use Rattle.pcap_io.specs.Places.{found_at}
use Rattle.pcap_io.specs.Lengths.{lengths_at}
use Rattle.offload_model.specs.Need.{need_of, needed, exceeded_at, found_before}
use Rattle.offload_model.specs.Passing.{Stop, AtRound, Passed, stop_of}
use Rattle.offload_model.specs.Steps.{behind}
use Rattle.offload_model.proofs.Behind.{stop_on, made_full, made_last, made_less}
use Rattle.wire_model.specs.declared.wiring.Wiring.{Wiring}
use Rattle.wire_model.specs.Passing.{wire_bytes, wiring, WiringGoesByRecord}

abbrev passed : List ℕ → Stop → Passed
passed output stop = record { output = output; stop = stop }

abbrev made : Wiring → Order → Option (ℕ × ℕ) → Found → Passed
made o order e f = passed (flat_map (wire_bytes o order) f.packets) (stop_of f.fault e)

wires_whole : (blocks : ℕ) (o : Wiring) (place : Place) (bytes : List ℕ) (r : Packet) (mid : Place) (left : List ℕ) → need_of (length r.frame) ≤ blocks
    → mid.file ≡ place.file → found_at place bytes ≡ one_more r (found_at mid left) → lengths_at place bytes ≡ length r.frame ∷ lengths_at mid left
    → wiring blocks o place bytes ≡ behind 1 (wire_bytes o place.file.order r) (wiring blocks o mid left)
wires_whole blocks o place bytes r mid left fits file found lens =
    let order = place.file.order in
    let e = exceeded_at blocks 1 mid left in
    let f = found_before 1 e (found_at mid left) in
    made_full (made o order) blocks 1 place (r ∷ []) bytes (omega arith) mid left refl (omega (arith, fits)) found lens
    ∙ ap (passed (wire_bytes o order r ++ flat_map (wire_bytes o order) f.packets)) (stop_on f.fault e)
    ∙ ap (λ (h : FileHead). behind 1 (wire_bytes o order r) (made o h.order e f)) (sym file)

wires_less : (blocks : ℕ) (o : Wiring) (place : Place) (bytes : List ℕ) (len : ℕ) (more : List ℕ) → blocks < need_of len → lengths_at place bytes ≡ len ∷ more
    → wiring blocks o place bytes ≡ passed [] (AtRound 0 (need_of len))
wires_less blocks o place bytes len more ex lens =
    let need : 0 + need_of len ≡ need_of len = omega arith in
    made_less (made o place.file.order) blocks 1 place [] bytes (omega arith) len more (omega arith) (omega arith) (omega (arith, ex)) lens
    ∙ ap (λ (k : ℕ). passed [] (AtRound 0 k)) need

wires_last : (blocks : ℕ) (o : Wiring) (place : Place) (bytes more : List ℕ) (fault : Option CapFault) → length more ≤ 1 → needed more ≤ blocks
    → found_at place bytes ≡ ended fault → lengths_at place bytes ≡ more
    → wiring blocks o place bytes ≡ passed [] (stop_of fault None)
wires_last blocks o place bytes more fault few fits found lens =
    made_last (made o place.file.order) blocks 1 place [] bytes (omega arith) fault more (omega (arith, few)) (omega (arith, fits)) found lens

pub wiring_goes_by_record : WiringGoesByRecord
wiring_goes_by_record blocks o place bytes = record {
  whole = λ r mid left fits file found lens. wires_whole blocks o place bytes r mid left fits file found lens;
  exceeds = λ len more ex lens. wires_less blocks o place bytes len more ex lens;
  cut = λ len fault fits found lens. wires_last blocks o place bytes (len ∷ []) fault (omega arith) (omega (arith, fits)) found lens;
  none = λ fault found lens. wires_last blocks o place bytes [] fault (omega arith) (omega arith) found lens;
}
