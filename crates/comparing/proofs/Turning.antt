-- One segment more, compared.
use Rattle.std.proofs.Common.{◌≡◌, ℕ, ◌+◌, ◌-◌, ◌<◌, ◌≤◌, Bool, Option, List, length, map, get_or, sym, ap, ◌∙◌, subst, arith}
use Rattle.std.specs.Prelude.{Decides}
use Rattle.std.specs.Int.{from_bool}
use Rattle.std.proofs.lemmas.List.{get_or-map, length-map}
use Rattle.pcap_io.specs.Capture.{Packet}
use Rattle.offload_model.specs.Segments.{with_frame}
use Rattle.skb.specs.SkbState.{buffer_bytes}
use Rattle.segment_rule.specs.declared.segmentation.Segmentation.{Segmentation}
use Rattle.segment_rule.specs.Segmentations.{segment_at, segments_at}
use Rattle.taps.specs.declared.clones.TapClone.{TapClone}
use Rattle.taps.specs.Clones.{packet_of}
use Rattle.check_totals.specs.Returned.{is_same}
use Rattle.comparing.specs.Chain.{IsChain, IsOwn, Counts}
use Rattle.comparing.specs.Segments.{IsCutTo, segments_from}
use Rattle.comparing.proofs.Chains.{Counting, count_turn, count_end, same_packet, ones, count_start}
use Rattle.comparing.proofs.Segmenting.{one_more, none_more}

pub kept_at : (kept : List TapClone) (at : ℕ) (clone : TapClone) → at < length kept → clone ≡ get_or kept at clone → get_or (map packet_of kept) at (packet_of clone) ≡ packet_of clone
kept_at kept at clone l is = get_or-map packet_of kept at clone (packet_of clone) l ∙ ap packet_of (sym is)

-- each packet has a next place
pub next_inside : (kept : List TapClone) (next : List ℕ) (at : ℕ) → IsChain (map packet_of kept) next → at < length kept → at < length next
next_inside kept next at c l = omega (arith, l, c.long, length-map kept packet_of)

module _ (cut : Segmentation) (kept : List TapClone) (next : List ℕ) (f : List ℕ) (i at to n : ℕ) (b : Bool) (clone : TapClone) (chain : IsChain (map packet_of kept) next)
    (less : i < cut.n) (there : at < length kept) (is : clone ≡ get_or kept at clone) (e : ℕ) (goes : to ≡ get_or next at e)
    (same : Decides b ((clone.original ≡ length (segment_at cut f i)) × (buffer_bytes clone.skb ≡ segment_at cut f i))) where
  same_is : (p : Packet) → p.frame ≡ f → b ≡ is_same (with_frame p (segment_at cut p.frame i)) (get_or (map packet_of kept) at (packet_of clone))
  same_is p h =
      same_packet b (with_frame p (segment_at cut p.frame i)) (packet_of clone)
      (subst (λ z. Decides b ((clone.original ≡ length (segment_at cut z i)) × (buffer_bytes clone.skb ≡ segment_at cut z i))) (sym h) same)
      ∙ ap (is_same (with_frame p (segment_at cut p.frame i))) (sym (kept_at kept at clone there is))

  pub turned : (q : Option (List ℕ)) (p : Packet) (from : ℕ) → p.frame ≡ f → Counting (map packet_of kept) q from (segments_at cut p) (segments_from cut p i (cut.n - i)) at n
      → Counting (map packet_of kept) q from (segments_at cut p) (segments_from cut p (i + 1) (cut.n - (i + 1))) to (n + from_bool b)
  turned q p from h k =
      subst (Counting (map packet_of kept) q from (segments_at cut p) (segments_from cut p (i + 1) (cut.n - (i + 1))) to) (ap (λ z. n + z) (sym (ones b)))
      (count_turn (map packet_of kept) next q from (segments_at cut p) (with_frame p (segment_at cut p.frame i)) (segments_from cut p (i + 1) (cut.n - (i + 1))) at to n b (packet_of clone) e chain
      (subst (λ z. Counting (map packet_of kept) q from (segments_at cut p) z at n) (one_more cut p i cut.n less) k)
      (omega (arith, there, length-map kept packet_of)) goes (same_is p h))

-- of the frame f, i segments were compared with the packets from a place on
pub record IsCounted (ps : List Packet) (cut : Segmentation) (f headers payload : List ℕ) (from i at n : ℕ) : Type 0 where
  pub cut_to : IsCutTo cut f headers i payload
  pub counting : (q : Option (List ℕ)) (p : Packet) → p.frame ≡ f → IsOwn ps q from
      → Counting ps q from (segments_at cut p) (segments_from cut p i (cut.n - i)) at n

pub none_counted : (ps : List Packet) (cut : Segmentation) (f headers payload again : List ℕ) (from : ℕ) → again ≡ payload → IsCutTo cut f headers 0 payload
    → IsCounted ps cut f headers again from 0 from 0
none_counted ps cut f headers payload again from e is = record {
  cut_to = subst (IsCutTo cut f headers 0) (sym e) is;
  counting = λ q p same own.
      subst (λ (k : ℕ). Counting ps q from (segments_at cut p) (segments_from cut p 0 k) from 0) (let k : cut.n ≡ cut.n - 0 = omega arith in k) (count_start ps q from (segments_at cut p) own);
}

pub ended_all : (ps : List Packet) (cut : Segmentation) (q : Option (List ℕ)) (p : Packet) (from i at n : ℕ) → cut.n ≤ i → Counting ps q from (segments_at cut p)
    (segments_from cut p i (cut.n - i)) at n → Counts ps q from (segments_at cut p) at n
ended_all ps cut q p from i at n l k = count_end ps q from (segments_at cut p) (segments_from cut p i (cut.n - i)) at n (none_more cut p i cut.n l) k
