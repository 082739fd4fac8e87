-- A segment as a record, whose payload is written from where it lies.
use Rattle.std.proofs.Common.{◌≡◌, ℕ, suc, ◌+◌, ◌-◌, ◌*◌, ◌<◌, ◌≤◌, List, ◌++◌, length, take, drop, min, refl, sym, ap, ◌∙◌, subst, arith, Option, Result, Ok, Err, length-append, length-drop}
use Rattle.std.specs.Prelude.{OnOk}
use Rattle.std.specs.List.{flat_map, range_with_len}
use Rattle.std.specs.Io.KnownBytes.{Appends}
use Rattle.std.proofs.lemmas.List.{drop_at, drop-drop}
use Rattle.std.proofs.Math.Seq.{take-append-add}
use Rattle.off_io.specs.Content.{AppendsPrefix, Owes}
use Rattle.off_io.proofs.Owing.{Owes-all, Owes-less, Owes-failed}
use Rattle.net_bytes.specs.declared.order.Order.{Order}
use Rattle.pcap_io.specs.Written.{rec_bytes}
use Rattle.skb.specs.SkbState.{buffer_bytes}
use Rattle.segment_rule.specs.Segmentations.{segment_at}
use Rattle.gso.specs.declared.place.Place.{Place}
use Rattle.gso.specs.Places.{SegmentsState, IsPlace, IsPayloadPlace, bytes_at, own_at}
use Rattle.gso.proofs.Payloads.{own_long, next_place}
use Rattle.records.specs.declared.record.Time.{Time}
use Rattle.records.specs.Records.{segment_bytes}

-- ---- the next n bytes, slice by slice

-- the first n bytes of xs, where b stands in front of the others
pub front_first : (xs b rest : List ℕ) (n : ℕ) → xs ≡ b ++ rest → length b ≤ n → take n xs ≡ b ++ take (n - length b) rest
front_first xs b rest n e few =
    let k : length b + (n - length b) ≡ n = omega (arith, few) in
    ap (take n) e ∙ ap (λ (z : ℕ). take z (b ++ rest)) (sym k) ∙ take-append-add b rest (n - length b)

pub behind_first : (xs b rest : List ℕ) (n : ℕ) → xs ≡ b ++ rest → length b ≤ n → drop n xs ≡ drop (n - length b) rest
behind_first xs b rest n e few =
    let k : length b + (n - length b) ≡ n = omega (arith, few) in
    ap (drop n) e ∙ ap (λ (z : ℕ). drop z (b ++ rest)) (sym k) ∙ sym (drop-drop (n - length b) (length b) (b ++ rest)) ∙ ap (drop (n - length b)) (drop_at b rest (length b) refl)

-- ---- both headers in one row

-- and the record that they begin
module _ (order : Order) (time : Time) (g : SegmentsState) (i n len : ℕ) (place : Place) (row header : List ℕ) (at : IsPayloadPlace g i place) (k : n ≡ min g.cut.m place.left) where
  abbrev frame : List ℕ
  frame = segment_at g.cut (buffer_bytes g.skb) i

  pub record_is : header ≡ rec_bytes order time.sec time.frac len len → row ++ own_at g place ≡ header ++ frame → length row ≡ 16 + g.cut.layout.payload_at → length header ≡ 16
      → len ≡ g.cut.layout.payload_at + n → row ++ take n (bytes_at g.skb place) ≡ segment_bytes order time g i
  record_is bytes is long head all =
      let size : len ≡ length frame = omega (arith, ap length is, length-append row (own_at g place), length-append header frame, long, head, own_long g i place at, k, all) in
      ap (λ (z : ℕ). row ++ take z (bytes_at g.skb place)) k ∙ is ∙ ap (λ (z : List ℕ). z ++ frame) bytes ∙ ap (λ (z : ℕ). rec_bytes order time.sec time.frac z z ++ frame) size

  pub short : length (buffer_bytes g.skb) ≤ 262144 → n ≤ 262144
  short few =
      omega (arith, k, at.place.left, ap length at.bytes, length-drop (i * g.cut.m) (drop g.cut.layout.payload_at (buffer_bytes g.skb)), length-drop g.cut.layout.payload_at (buffer_bytes g.skb), few)

  pub next_by : {T E : Type 0} (r : Result T E) (q : Place) → OnOk r (IsPlace g.skb q × (bytes_at g.skb q ≡ drop n (bytes_at g.skb place))) → OnOk r (IsPayloadPlace g (i + 1) q)
  next_by (Ok x) q b = next_place g i n place q at k b.0 b.1
  next_by (Err x) q b = tt

-- ---- one segment after the other

module _ (f : ℕ → List ℕ) (n : ℕ) where
  first_of : (i : ℕ) → i < n → flat_map f (range_with_len i (n - i)) ≡ f i ++ flat_map f (range_with_len (i + 1) (n - (i + 1)))
  first_of i less =
      let k : n - i ≡ suc (n - (i + 1)) = omega (arith, less) in
      ap (λ (z : ℕ). flat_map f (range_with_len i z)) k

  pub owes_less : (i : ℕ) (a b c : Option (List ℕ)) (all : List ℕ) → i < n → Owes a b all (flat_map f (range_with_len i (n - i))) → Appends b c (f i)
      → Owes a c all (flat_map f (range_with_len (i + 1) (n - (i + 1))))
  owes_less i a b c all less owes wrote =
      Owes-less a b c all (f i) (flat_map f (range_with_len (i + 1) (n - (i + 1)))) (subst (Owes a b all) (first_of i less) owes) wrote

  pub owes_failed : (i : ℕ) (a b c : Option (List ℕ)) (all : List ℕ) → i < n → Owes a b all (flat_map f (range_with_len i (n - i))) → AppendsPrefix b c (f i) → AppendsPrefix a c all
  owes_failed i a b c all less owes wrote =
      Owes-failed a b c all (f i) (flat_map f (range_with_len (i + 1) (n - (i + 1)))) (subst (Owes a b all) (first_of i less) owes) wrote

  pub owes_first : (a : Option (List ℕ)) → Owes a a (flat_map f (range_with_len 0 n)) (flat_map f (range_with_len 0 (n - 0)))
  owes_first a =
      let k : n ≡ n - 0 = omega arith in
      subst (λ (z : ℕ). Owes a a (flat_map f (range_with_len 0 n)) (flat_map f (range_with_len 0 z))) k (Owes-all a (flat_map f (range_with_len 0 n)))
