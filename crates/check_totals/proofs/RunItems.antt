-- What is known of the item that a run of packets comes to.
use Rattle.std.proofs.Common.{◌≡◌, ℕ, suc, ◌^◌, ◌<◌, ◌≤◌, inl, inr, true, false, List, [], ◌∷◌, length, get_or, map, refl, sym, ap, ◌∙◌, arith, subst}
use Rattle.std.specs.Prelude.{◌==◌, if◌then◌else◌}
use Rattle.std.specs.List.{AllByRecursion}
use Rattle.std.proofs.lemmas.Bool.{ne_eqb}
use Rattle.net_bytes.specs.Bytes.{byte}
use Rattle.frame_layout.specs.Key.{key_of}
use Rattle.frame_layout.specs.Shape.{Layout}
use Rattle.pcap_io.specs.Limits.{most_frame}
use Rattle.pcap_io.specs.Capture.{Packet}
use Rattle.pcap_io.specs.declared.off_head.OffHead2.{OffHead2}
use Rattle.offload_model.specs.Mergeable.{IsMergeable}
use Rattle.offload_model.specs.Merged.{Merged, merged_of}
use Rattle.offload_model.specs.Segments.{merged_in, frames_of, with_frame, segments_by, IsLawfulSuper}
use Rattle.offload_model.specs.Tests.{is_lawful_by}
use Rattle.offload_model.specs.Written.{head_of}
use Rattle.offload_model.specs.Captured.{IsCaptured, content}
use Rattle.check_totals.specs.Returned.{packets_in}
use Rattle.offload_model.proofs.Lists.{all_of}
use Rattle.offload_model.proofs.Decides.{decides_lawful}
use Rattle.offload_model.proofs.Flows.{IsItem}
use Rattle.offload_model.proofs.Records.{IsMergedRun, merged_run, merged_of_is, merged_by}

-- the item of a run whose first packet is p
pub record IsRunItem (p : Packet) (run : List Packet) (r : Merged) : Type 0 where
  pub lawful : is_lawful_by (head_of 0 r) r.packet ≡ true
  pub back : map content (packets_in r) ≡ map content run
  pub key : key_of r.packet.frame ≡ key_of p.frame
  pub original : r.packet.original < 2 ^ 31
  pub short : length r.packet.frame ≤ most_frame
  pub count : r.n ≡ length run

in_bytes : (ps : List Packet) → AllByRecursion IsCaptured ps → AllByRecursion (λ p. (k : ℕ) → byte p.frame k < 256) ps
in_bytes ps a = all_of IsCaptured (λ (p : Packet). (k : ℕ) → byte p.frame k < 256) ps (λ p c. c.in_bytes) a

contents : (p : Packet) (ps : List Packet) → AllByRecursion (λ p. p.original ≡ length p.frame) ps → map content (map (with_frame p) (map (λ p. p.frame) ps)) ≡ map content ps
contents p [] a = refl
contents p (x ∷ xs) a = ap (λ n. (n, x.frame) ∷ map content (map (with_frame p) (map (λ (p : Packet). p.frame) xs))) (sym a.0) ∙ ap (λ z. content x ∷ z) (contents p xs a.1)

whole_all : (qs : List Packet) → ((i : ℕ) (d : Packet) → i < length qs → (get_or qs i d).original ≡ length (get_or qs i d).frame) → AllByRecursion (λ p. p.original ≡ length p.frame) qs
whole_all [] f = tt
whole_all (q ∷ qs) f = (f 0 q (omega arith), whole_all qs (λ i d l. f (suc i) d (omega arith)))

pub kind_is : (r : Merged) → 2 ≤ r.n → (head_of 0 r).kind ≡ 1
kind_is r two = let no : (r.n == 1) ≡ false = ne_eqb r.n 1 (λ e. omega arith) in rw no refl

of_merged : (h : OffHead2) (p : Packet) → h.kind ≡ 1 → segments_by h p ≡ map (with_frame p) (frames_of (merged_in h p))
of_merged h p e = ap (λ k. if k == 0 then p ∷ [] else (if k == 1 then map (with_frame p) (frames_of (merged_in h p)) else [])) e

several : (p q : Packet) (ps : List Packet) (m : IsMergeable (p ∷ q ∷ ps)) → AllByRecursion IsCaptured (p ∷ q ∷ ps) → IsRunItem p (p ∷ q ∷ ps) (merged_by m.0 p (p ∷ q ∷ ps))
several p q ps m captured =
    let run : List Packet = p ∷ q ∷ ps in
    let layout : Layout = m.0 in
    let k : IsMergedRun layout p run = merged_run p q ps m (in_bytes run captured) in
    let r : Merged = merged_by layout p run in
    let kind : (head_of 0 r).kind ≡ 1 = kind_is r m.1.several in
    let super : IsLawfulSuper (head_of 0 r) r.packet = record { kind = kind; lane = omega arith; layout = layout; cuttable = k.cuttable } in
    record {
      lawful = (decides_lawful (head_of 0 r) r.packet).1 (inr (inl super));
      back = ap (map content) (of_merged (head_of 0 r) r.packet kind)
          ∙ ap (λ z. map content (map (with_frame r.packet) z)) k.back
          ∙ contents r.packet run (whole_all run (λ i d l. (m.1.candidates.at i d l).whole));
      key = k.same_key;
      original = omega (arith, k.short, m.1.short);
      short = omega (arith, k.short, m.1.short);
      count = refl;
    }

pub run_item : (p : Packet) (ps : List Packet) → IsItem (p ∷ ps) → IsRunItem p (p ∷ ps) (merged_of (p ∷ ps))
run_item p [] i = record { lawful = refl; back = refl; key = refl; original = i.captured.0.original; short = i.captured.0.short; count = refl }
run_item p (q ∷ ps) i = elim i.allowed [
  | inl one ↦ absurd (omega (arith, one))
  | inr m ↦ subst (IsRunItem p (p ∷ q ∷ ps)) (sym (merged_of_is p q ps m.0 (merged_run p q ps m (in_bytes (p ∷ q ∷ ps) i.captured)).first_shape)) (several p q ps m i.captured)
]
