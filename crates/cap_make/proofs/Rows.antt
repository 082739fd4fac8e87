-- Worked numbers, by computing.
use Rattle.std.proofs.Common.{◌≡◌, ◌/◌, ◌^◌, [], ◌∷◌, length, slice_index, refl}
use Rattle.cap_make.specs.Draws.{next_state, drawn, draws}
use Rattle.cap_make.specs.Frames.{counting, tcp, ip4, tcp_ip4, plain, vxlan, tunnelled, frame_of}
use Rattle.cap_make.specs.Capture.{made, records_from, packets_from, packet_at, first_next, segment_by}

seed_1 : next_state 1 ≡ 7806831264735756412
unfolding next_state
seed_1 = refl

seed_1_quotient : 7806831264735756412 / 2 ^ 33 ≡ 908834774
seed_1_quotient = refl

seed_1_flow : drawn 7806831264735756412 8 ≡ 6
seed_1_flow = refl

seed_0 : next_state 0 ≡ 1442695040888963407
unfolding next_state
seed_0 = refl

seed_0_quotient : 1442695040888963407 / 2 ^ 33 ≡ 167951807
seed_0_quotient = refl

seed_0_flow : drawn 1442695040888963407 8 ≡ 7
seed_0_flow = refl

seed_0_event : drawn (next_state 1442695040888963407) 16 ≡ 8
unfolding next_state
seed_0_event = refl

-- no record: the file header alone
no_record : made 0 0 ≡ 0xd4 ∷ 0xc3 ∷ 0xb2 ∷ 0xa1 ∷ 2 ∷ 0 ∷ 4 ∷ 0 ∷ 0 ∷ 0 ∷ 0 ∷ 0 ∷ 0 ∷ 0 ∷ 0 ∷ 0 ∷ 0 ∷ 0 ∷ 4 ∷ 0 ∷ 1 ∷ 0 ∷ 0 ∷ 0 ∷ []
unfolding made records_from packets_from
no_record = refl

-- record 0 of seed 0: in a tunnel, with a full payload that begins with its flow, and without PSH
seed_0_length : length (packet_at (first_next 0) 0).frame ≡ 1304
unfolding packet_at draws next_state segment_by frame_of counting plain tunnelled vxlan ip4 tcp_ip4 tcp
seed_0_length = refl

seed_0_bytes : (slice_index (packet_at (first_next 0) 0).frame 97 ≡ 0x10) × (slice_index (packet_at (first_next 0) 0).frame 104 ≡ 7)
unfolding packet_at draws next_state segment_by frame_of counting plain tunnelled vxlan ip4 tcp_ip4 tcp
seed_0_bytes = (refl, refl)
