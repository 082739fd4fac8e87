-- What is asked of the headers of two frames.
use Rattle.std.specs.Prelude.{ℕ, ◌+◌, ◌-◌, ◌<◌, ◌≤◌, ◌^◌, Bool, [], ◌∷◌, length}
use Rattle.frame_layout.specs.Headers.{is_outside, size, AtHeaders}
use Rattle.frame_layout.specs.Shape.{Layout}
use Rattle.frame_layout.specs.declared.layout.Layer.{Layer}
use Rattle.frame_runs.specs.declared.lent.Lent.{Lent}
use Rattle.pcap_io.specs.Capture.{Packet}
use Rattle.offload_model.specs.Mergeable.{payloads_of}
use Rattle.offload_model.specs.Tests.{are_ids_in_step, are_udp_sums_alike, is_ack_alone, is_length_in_range}
use Rattle.offload_model.specs.Tests.{is_sequence_behind}
use Rattle.frame_causes.specs.declared.asked.Asked.{Asked}
use Rattle.frame_causes.specs.declared.asked.Asked.TheVariants.{Outside, UdpSums, AckAlone, Sequence, Ids, Lengths}

-- how long the frame is that two packets of a layout come to
abbrev pub total_of : Layout → Packet → Packet → ℕ
total_of layout p q = layout.payload_at + length (payloads_of layout (p ∷ q ∷ []))

-- the model's test of two packets that each condition is
abbrev pub asks : Asked → Layout → Packet → Packet → Layer → ℕ → Bool
asks (Outside k) layout p q = is_outside k
asks UdpSums layout p q = are_udp_sums_alike q.frame p.frame
asks AckAlone layout p q = is_ack_alone p.frame
asks Sequence layout p q = is_sequence_behind p.frame q.frame (length p.frame - layout.payload_at)
asks Ids layout p q = are_ids_in_step p.frame (p ∷ q ∷ [])
asks Lengths layout p q = is_length_in_range (total_of layout p q)

-- both frames have the headers of a layout, which lie before the payload, and aren't long
pub record AreThere (layout : Layout) (first second : Lent) : Type 0 where
  pub inside : AtHeaders (λ layer at. at + size layer ≤ layout.payload_at) layout.headers
  pub first_has : layout.payload_at ≤ length first.bytes.now
  pub second_has : layout.payload_at ≤ length second.bytes.now
  pub first_few : length first.bytes.now < 2 ^ 32
  pub second_few : length second.bytes.now < 2 ^ 32
