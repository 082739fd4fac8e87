-- The packets of a plan, written one after another.
use Rattle.std.proofs.Common.{◌≡◌, ℕ, List, [], ◌∷◌, ◌++◌, map, refl, sym, ap, ◌∙◌}
use Rattle.std.specs.List.{flat_map, range_with_len}
use Rattle.net_bytes.specs.declared.order.Order.{Order}
use Rattle.pcap_io.specs.Capture.{Packet}
use Rattle.offload_model.specs.Segments.{with_frame}
use Rattle.offload_model.specs.Written.{record_bytes}
use Rattle.skb.specs.SkbState.{buffer_bytes}
use Rattle.segment_rule.specs.Segmentations.{segment_at}
use Rattle.gso.specs.Places.{SegmentsState}
use Rattle.gso.specs.Planning.{packets_by}
use Rattle.gso.specs.declared.judging.Plan.TheVariants.{Segments}
use Rattle.records.specs.Records.{segment_bytes}
use Rattle.records.specs.declared.record.Time.{Time}

segments_bytes : (order : Order) (p : Packet) (time : Time) (g : SegmentsState) (is : List ℕ) → p.sec ≡ time.sec → p.frac ≡ time.frac → p.frame ≡ buffer_bytes g.skb
    → flat_map (segment_bytes order time g) is ≡ flat_map (record_bytes order) (map (λ j. with_frame p (segment_at g.cut p.frame j)) is)
segments_bytes order p time g [] sec frac frame = refl
segments_bytes order p time g (i ∷ is) sec frac frame =
    let f = segment_at g.cut p.frame i in
    let one : segment_bytes order time g i ≡ record_bytes order (with_frame p f) = rw (sym sec, sym frac, sym frame) refl in
    ap (λ (z : List ℕ). z ++ flat_map (segment_bytes order time g) is) one ∙ ap (λ (z : List ℕ). record_bytes order (with_frame p f) ++ z) (segments_bytes order p time g is sec frac frame)

-- what is written of the segments of a merged frame is what is written of a plan's packets
pub plan_bytes : (order : Order) (p : Packet) (time : Time) (g : SegmentsState) → p.sec ≡ time.sec → p.frac ≡ time.frac → p.frame ≡ buffer_bytes g.skb
    → flat_map (segment_bytes order time g) (range_with_len 0 g.cut.n) ≡ flat_map (record_bytes order) (packets_by (Segments g.cut g.sums) p)
plan_bytes order p time g sec frac frame = segments_bytes order p time g (range_with_len 0 g.cut.n) sec frac frame
