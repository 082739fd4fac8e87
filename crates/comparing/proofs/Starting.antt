-- A run of several packets, as its merged frame begins to be compared.
use Rattle.std.proofs.Common.{◌≡◌, ℕ, List, ◌∷◌, ◌++◌, length, get_or, map, sym, ap, ◌∙◌, subst, arith}
use Rattle.std.specs.List.{AllByRecursion}
use Rattle.std.proofs.lemmas.List.{length-map}
use Rattle.pcap_io.specs.Capture.{Packet}
use Rattle.skb.specs.Checksum.{AreBytes}
use Rattle.offload_model.specs.Merged.{merged_of}
use Rattle.segment_rule.specs.declared.segmentation.Segmentation.{Segmentation}
use Rattle.frame_runs.specs.declared.run.Run.{Run}
use Rattle.gro.specs.declared.slot.Slot.{Slot}
use Rattle.frame_runs.specs.Chains.{behind, packet_at, run_of}
use Rattle.frame_runs.specs.Engine.{Knows, KnowsSome}
use Rattle.frame_runs.specs.MergedRun.{headers_size, payloads_behind}
use Rattle.gro.specs.Slots.{packet_of, IsHeld}
use Rattle.comparing.specs.Items.{item_at, IsToCompare}
use Rattle.comparing.specs.Segments.{IsCutTo, IsCutOf}
use Rattle.comparing.proofs.Runs.{here, run_in_bytes, first_inside}
use Rattle.comparing.proofs.Segmenting.{started}
use Rattle.frame_runs.proofs.Payloads.{all_at}

module _ (slots : List Slot) (next : List ℕ) (run : Run) (c : IsToCompare slots next run) (s : Slot) (is : s ≡ get_or slots run.first s) where
  pub first_is : packet_at (map packet_of slots) run.first ≡ packet_of s
  first_is = here slots run.first s (omega (arith, c.is.inside.0, length-map slots packet_of)) is

  knows : Knows run (packet_of s) (map (packet_at (map packet_of slots)) (behind next run))
  knows = subst (λ (p : Packet). Knows run p (map (packet_at (map packet_of slots)) (behind next run))) first_is c.is.knows

  pub knows_some : KnowsSome run (packet_of s)
  knows_some = (map (packet_at (map packet_of slots)) (behind next run), knows)

  pub first_held : IsHeld s
  first_held = subst IsHeld (sym is) (all_at IsHeld slots run.first s c.are (first_inside slots next run c.is))

  in_bytes : AllByRecursion (λ (x : Packet). AreBytes x.frame) (packet_of s ∷ map (packet_at (map packet_of slots)) (behind next run))
  in_bytes =
      subst (λ (p : Packet). AllByRecursion (λ (x : Packet). AreBytes x.frame) (p ∷ map (packet_at (map packet_of slots)) (behind next run))) first_is (run_in_bytes slots next run c.is c.in_bytes)

  module _ (cut : Segmentation)
      (cuts : (rest : List Packet) → Knows run (packet_of s) rest → AllByRecursion (λ (x : Packet). AreBytes x.frame) (packet_of s ∷ rest) → IsCutOf cut (merged_of (packet_of s ∷ rest))) where
    pub cut_of_run : IsCutOf cut (item_at slots next run)
    cut_of_run =
        let rest : List Packet = map (packet_at (map packet_of slots)) (behind next run) in
        subst (λ (p : Packet). IsCutOf cut (merged_of (p ∷ rest))) (sym first_is) (cuts rest knows in_bytes)

    module _ (headers payload : List ℕ) (place : cut.layout.payload_at ≡ headers_size run) (size : length headers ≡ headers_size run)
        (read : payload ≡ payloads_behind (headers_size run) (run_of (map packet_of slots) next run))
        (frame : (rest : List Packet) → Knows run (packet_of s) rest
        → headers ++ payloads_behind (headers_size run) (packet_of s ∷ rest) ≡ (merged_of (packet_of s ∷ rest)).packet.frame) where
      whole : headers ++ payloads_behind (headers_size run) (run_of (map packet_of slots) next run) ≡ (item_at slots next run).packet.frame
      whole =
          let rest : List Packet = map (packet_at (map packet_of slots)) (behind next run) in
          subst (λ (p : Packet). headers ++ payloads_behind (headers_size run) (p ∷ rest) ≡ (merged_of (p ∷ rest)).packet.frame) (sym first_is) (frame rest knows)

      pub begins : IsCutTo cut (item_at slots next run).packet.frame headers 0 payload
      begins =
          let k : IsCutOf cut (item_at slots next run) = cut_of_run in
          started cut (item_at slots next run).packet.frame headers payload k.in_bytes k.short k.of (ap (λ (z : List ℕ). headers ++ z) read ∙ whole) (size ∙ sym place)
