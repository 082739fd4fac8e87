-- A record's headers and the frame behind them.
use Rattle.std.proofs.Common.{◌≡◌, ◌+◌, ℕ, List, [], ◌++◌, length, drop, ap, ◌∙◌, arith, Option, None, Some, append_assoc, append-nil}
use Rattle.std.proofs.lemmas.List.{take_at, drop_at, drop_all}
use borrow.Rule.Slice.PartMut.{put_mid, post_of}
use Rattle.net_bytes.specs.declared.order.Order.{Order}
use Rattle.pcap_io.specs.declared.off_head.OffHead2.{OffHead2}
use Rattle.pcap_io.specs.Capture.{packet}
use Rattle.pcap_io.specs.Written.{rec_bytes, off_bytes2}
use Rattle.offload_model.specs.Written.{record_bytes}
use Rattle.offload_model.proofs.Opened.{length-off_bytes2}
use Rattle.records.specs.Records.{headed, heads_of}

pub record_is : (order : Order) (sec frac len original : ℕ) (head : Option OffHead2) (frame : List ℕ) → len ≡ length frame
    → heads_of order sec frac len original head ++ frame ≡ record_bytes order (headed head (packet 0 sec frac original frame))
record_is order sec frac len original None frame size = ap (λ (k : ℕ). rec_bytes order sec frac k original ++ frame) size
record_is order sec frac len original (Some head) frame size =
    let body = off_bytes2 head ++ frame in
    let captured : len + 16 ≡ length body = omega (arith, size, length-off_bytes2 head frame) in
    let all : original + 16 ≡ 16 + original = omega arith in
    append_assoc (rec_bytes order sec frac (len + 16) (original + 16)) (off_bytes2 head) frame
    ∙ ap (λ (k : ℕ). rec_bytes order sec frac k (original + 16) ++ body) captured
    ∙ ap (λ (k : ℕ). rec_bytes order sec frac (length body) k ++ body) all

-- two parts of a row that were copied in
pub both_are : (first second a b zeros : List ℕ) → a ≡ first → b ≡ second → length first ≡ 16 → length zeros ≡ 16 → put_mid 16 16 (a ++ zeros) b ≡ first ++ second
both_are first second a b zeros p q size rest =
    let e : post_of 16 16 (first ++ zeros) ≡ [] = ap (drop 16) (drop_at first zeros 16 size) ∙ drop_all 16 zeros (omega (arith, rest)) in
    ap (λ (l : List ℕ). put_mid 16 16 (l ++ zeros) b) p ∙ ap (put_mid 16 16 (first ++ zeros)) q
    ∙ ap (λ (l : List ℕ). l ++ (second ++ post_of 16 16 (first ++ zeros))) (take_at first zeros 16 size)
    ∙ ap (λ (l : List ℕ). first ++ (second ++ l)) e ∙ ap (λ (l : List ℕ). first ++ l) (append-nil second)

pub joined_is : (xs a b c d : List ℕ) → xs ≡ a ++ b → a ≡ c → b ≡ d → xs ≡ c ++ d
joined_is xs a b c d p q r = p ∙ ap (λ (l : List ℕ). l ++ b) q ∙ ap (λ (l : List ℕ). c ++ l) r

-- both headers of a record, and the frame's headers with what is behind them
pub row_is : (order : Order) (sec frac len : ℕ) (head : OffHead2) (row header second headers behind frame : List ℕ) → row ≡ header ++ second → header ≡ rec_bytes order sec frac (len + 16) (len + 16)
    → second ≡ off_bytes2 head → len ≡ length frame → headers ++ behind ≡ frame
    → (row ++ headers) ++ behind ≡ record_bytes order (headed (Some head) (packet 0 sec frac (length frame) frame))
row_is order sec frac len head row header second headers behind frame parts first is size whole =
    append_assoc row headers behind ∙ ap (λ (z : List ℕ). row ++ z) whole
    ∙ ap (λ (z : List ℕ). z ++ frame) (joined_is row header second (rec_bytes order sec frac (len + 16) (len + 16)) (off_bytes2 head) parts first is)
    ∙ record_is order sec frac len len (Some head) frame size
    ∙ ap (λ (n : ℕ). record_bytes order (headed (Some head) (packet 0 sec frac n frame))) size
