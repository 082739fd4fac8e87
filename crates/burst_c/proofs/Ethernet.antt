-- The Ethernet header of a merged frame.
use Rattle.std.proofs.Common.{◌≡◌, ℕ, ◌<◌, ◌≤◌, inl, inr, Bool, true, false, List, [], ◌∷◌, map, Option, Some, None}
use Rattle.std.proofs.Common.{refl, sym, ap, subst, arith}
use Rattle.std.specs.Prelude.{unwrap_or}
use Rattle.std.specs.List.{AllByRecursion}
use Rattle.net_bytes.specs.Bytes.{byte}
use Rattle.frame_layout.specs.Headers.{AreLaid, AtHeaders, IsOutside, varying}
use Rattle.frame_layout.specs.Shape.{ethernet_there, header, outer_from, shape_of, typed_from, Layout}
use Rattle.frame_layout.specs.declared.layout.Header.{Header}
use Rattle.frame_layout.specs.declared.layout.Layer.TheVariants.{Ethernet}
use Rattle.frame_layout.proofs.Lemmas.{laid, laid_end, outside_all}
use Rattle.pcap_io.specs.Capture.{Packet}
use Rattle.offload_model.specs.Captured.{IsCaptured}
use Rattle.offload_model.specs.Mergeable.{IsMergeable}
use Rattle.offload_model.specs.Merged.{Merged}
use Rattle.offload_model.specs.Rounds.{runs_within}
use Rattle.offload_model.proofs.Flows.{IsItem, all_items}
use Rattle.offload_model.proofs.Lists.{all_of}
use Rattle.offload_model.proofs.Records.{merged_of_is, merged_run, IsMergedRun}
use Rattle.frame_bursts.specs.Burst.{frames_of, Says}
use Rattle.frame_bursts.specs.declared.told.BurstRun.{BurstRun}
use Rattle.offload_model.proofs.Items.{within_are}
use Rattle.burst_c.specs.Inverse.{EthernetStays, HasItsEthernet}

-- a shape begins with an Ethernet header
first_header : (there : Bool) (rest : Option Layout) (l : Layout) → header Ethernet 0 there rest ≡ Some l
    → (tail : List Header) × (l.headers ≡ (record { layer = Ethernet; at = 0 } ∷ tail))
unfolding header
first_header false rest l e = absurd cc
first_header true None l e = absurd cc
first_header true (Some r) l e = (r.headers, sym (ap (λ (z : Option Layout). (unwrap_or z l).headers) e))

starts : (f : List ℕ) (l : Layout) → shape_of f ≡ Some l → (tail : List Header) × (l.headers ≡ (record { layer = Ethernet; at = 0 } ∷ tail))
unfolding shape_of
starts f l e = first_header (ethernet_there f 0) (typed_from f (outer_from f) 2 12) l e

-- in which no byte is one of a field that may differ
outside : (hs tail : List Header) (end k : ℕ) → hs ≡ (record { layer = Ethernet; at = 0 } ∷ tail) → AreLaid 0 hs end → k < 14
    → AtHeaders (IsOutside k) hs × (14 ≤ end)
outside hs tail end k e laid less =
    let lies = subst (λ (z : List Header). AreLaid 0 z end) e laid in (
      subst (AtHeaders (IsOutside k)) (sym e) (tt, outside_all varying refl 14 tail end k lies.1 (inl less)),
      laid_end 14 tail end lies.1,
    )

begins : (p q : Packet) (ps : List Packet) → IsMergeable (p ∷ q ∷ ps) → AllByRecursion IsCaptured (p ∷ q ∷ ps)
    → HasItsEthernet (p ∷ q ∷ ps)
begins p q ps m captured k less =
    let run : List Packet = p ∷ q ∷ ps in
    let known : IsMergedRun m.0 p run = merged_run p q ps m
    (all_of IsCaptured (λ (x : Packet). (k : ℕ) → byte x.frame k < 256) run (λ x c. c.in_bytes) captured) in
    let s = starts p.frame m.0 known.first_shape in
    let out = outside m.0.headers s.0 m.0.payload_at k s.1 (laid p.frame m.0 known.first_shape).0 less in
    subst (λ (z : Merged). byte z.packet.frame k ≡ byte p.frame k) (sym (merged_of_is p q ps m.0 known.first_shape))
    (known.merged.like.headers k (omega (arith, less, out.1)) out.0)

begins_in : (s : BurstRun) (run : List Packet) → Says s run → IsItem run → 2 ≤ s.n → HasItsEthernet run
begins_in s [] says item two = absurd (omega (arith, item.full))
begins_in s (p ∷ []) says item two = absurd (omega (arith, says.n, two))
begins_in s (p ∷ q ∷ ps) says item two = elim item.allowed [
  | inl one ↦ absurd (omega (arith, one))
  | inr m ↦ begins p q ps m item.captured
]

all_begin : (F : BurstRun → List Packet) (told : List BurstRun) → AllByRecursion (λ r. Says r (F r)) told
    → AllByRecursion IsItem (map F told) → AllByRecursion (λ r. 2 ≤ r.n → HasItsEthernet (F r)) told
all_begin F [] says items = tt
all_begin F (r ∷ told) says items = (begins_in r (F r) says.0 items.0, all_begin F told says.1 items.1)

pub ethernet_stays : EthernetStays
ethernet_stays limits ps next told c m =
    all_begin (frames_of ps next) told m.each
    (subst (AllByRecursion IsItem) (sym m.runs) (all_items ps (runs_within limits ps) c.each (within_are limits ps c.rising)))
