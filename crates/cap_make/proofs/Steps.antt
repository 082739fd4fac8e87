-- Records one after the other.
use Rattle.std.proofs.Common.{◌≡◌, ℕ, zero, suc, ◌+◌, ◌-◌, ◌%◌, ◌<◌, ◌++◌, List, [], length, refl, sym, ap, ◌∙◌, arith, length-append}
use Rattle.net_bytes.specs.declared.order.Order.TheVariants.{Little}
use Rattle.pcap_io.specs.declared.heads.Link.TheVariants.{Ethernet}
use Rattle.pcap_io.specs.Split.{spelled}
use Rattle.pcap_io.specs.Written.{file_bytes}
use Rattle.cap_make.specs.declared.draws.RecordDraws.{RecordDraws}
use Rattle.cap_make.specs.declared.segment.Segment.{Segment}
use Rattle.cap_make.specs.Draws.{draws}
use Rattle.cap_make.specs.Frames.{counting, frame_of}
use Rattle.cap_make.specs.Capture.{Next, packets_from, records_from, packet_at, packet_of, segment_by, frame_from, after, first_next, made, made_head}
use Rattle.cap_make.proofs.Counting.{counting-same}

one_more : (more r : ℕ) (next : Next) → records_from (suc more) r next ≡ spelled Little (packet_at next r) ++ records_from more (r + 1) (after next)
unfolding records_from packets_from
one_more more r next = refl

-- the record of this number, and those behind it
pub next_first : (count r : ℕ) (next : Next) → r < count
    → records_from (count - r) r next ≡ spelled Little (packet_at next r) ++ records_from (count - (r + 1)) (r + 1) (after next)
next_first count r next h =
    let e : count - r ≡ suc (count - (r + 1)) = omega arith in
    ap (λ n. records_from n r next) e ∙ one_more (count - (r + 1)) r next

-- a record's frame, from its draws
pub made_record : (d : RecordDraws) (s : Segment) (next : Next) (r first : ℕ) (frame : List ℕ) → d ≡ draws next.state → s ≡ segment_by d next
    → first % 256 ≡ (d.flow + r) % 256 → frame ≡ frame_of s (counting first d.payload_len) → spelled Little (packet_of frame r) ≡ spelled Little (packet_at next r)
unfolding packet_at
made_record d s next r first frame de se fe e =
    let f : frame ≡ frame_from d s r = e ∙ ap (λ z. frame_of s z) (counting-same first (d.flow + r) d.payload_len fe) in
    let g : frame_from d s r ≡ frame_from (draws next.state) (segment_by (draws next.state) next) r = rw (se, de) refl in
    ap (λ z. spelled Little (packet_of z r)) (f ∙ g)

-- what is still owed, once a record is made
pub next_owed : (count r : ℕ) (next then_next : Next) (bytes : List ℕ) → r < count → bytes ≡ spelled Little (packet_at next r) → then_next ≡ after next
    → records_from (count - r) r next ≡ bytes ++ records_from (count - (r + 1)) (r + 1) then_next
next_owed count r next then_next bytes h e f =
    next_first count r next h
    ∙ ap (λ z. z ++ records_from (count - (r + 1)) (r + 1) (after next)) (sym e)
    ∙ ap (λ z. bytes ++ records_from (count - (r + 1)) (r + 1) z) (sym f)

none_from : (r : ℕ) (next : Next) → records_from zero r next ≡ []
unfolding records_from packets_from
none_from r next = refl

pub none_owed : (more r : ℕ) (next : Next) → more ≡ 0 → records_from more r next ≡ []
none_owed more r next e = ap (λ n. records_from n r next) e ∙ none_from r next

pub made_is : (seed count : ℕ) → file_bytes made_head Ethernet ++ records_from (count - 0) 0 (first_next seed) ≡ made seed count
unfolding made
made_is seed count = let e : count - 0 ≡ count = omega arith in ap (λ n. file_bytes made_head Ethernet ++ records_from n 0 (first_next seed)) e

-- how long what is still to come is, once a record is made
pub next_length : (count r len : ℕ) (next then_next : Next) (bytes : List ℕ) → r < count → bytes ≡ spelled Little (packet_at next r) → then_next ≡ after next
    → len + length (records_from (count - r) r next) ≡ len + length bytes + length (records_from (count - (r + 1)) (r + 1) then_next)
next_length count r len next then_next bytes h e f =
    omega (arith, ap length (next_owed count r next then_next bytes h e f), length-append bytes (records_from (count - (r + 1)) (r + 1) then_next))

pub none_length : (more r : ℕ) (next : Next) → more ≡ 0 → length (records_from more r next) ≡ 0
none_length more r next e = ap length (none_owed more r next e)
