-- What a run of packets in buffers comes to.
use Rattle.std.proofs.Common.{suc, ◌≡◌, ℕ, ◌+◌, ◌-◌, ◌<◌, ◌≤◌, ◌^◌, List, [], ◌∷◌, ◌++◌, length, get_or, map, drop, refl, sym, ap, ◌∙◌, subst, arith, length-append, length-drop}
use Rattle.inet_sum.specs.Stands.{FoldAndLength, StandsFor}
use Rattle.frame_layout.specs.Shape.{Layout}
use Rattle.frame_layout.specs.Headers.{AtHeaders, AreLaid}
use Rattle.std.proofs.lemmas.List.{length-map}
use Rattle.frame_layout.specs.Segment.{HasFlags}
use Rattle.offload_model.specs.Frames.{merged_frame}
use Rattle.merge_rule.proofs.Knows.{bounded}
use Rattle.frame_layout.proofs.Lemmas.{laid}
use Rattle.pcap_io.specs.Capture.{Packet}
use Rattle.offload_model.specs.Mergeable.{payloads_of, IsLengthInRange}
use Rattle.offload_model.specs.Merged.{frame_at, frame_of_run, merged_of}
use Rattle.merge_rule.specs.declared.rule.Progress.{Progress}
use Rattle.merge_rule.specs.Runs.{IsRunOf}
use Rattle.merge_rule.proofs.Merge.{made, made_is, laid_out, in_range, payload_short, first_short, few}
use Rattle.skb.specs.SkbState.{buffer_bytes, buffer_size}
use Rattle.gro_table.specs.declared.packet.Packet.{Packet as Held}
use Rattle.gro_table.specs.Held.{packet_of, AreHeld}
use Rattle.gro_table.specs.Build.{payloads, AreJoinable, sizes_behind}

pub payloads_held : (layout : Layout) (ps : List Held) → payloads layout.payload_at ps ≡ payloads_of layout (map packet_of ps)
payloads_held layout [] = refl
payloads_held layout (p ∷ ps) = ap (λ (z : List ℕ). drop layout.payload_at (buffer_bytes p.skb) ++ z) (payloads_held layout ps)

pub joinable : (at : ℕ) (ps : List Held) → at ≤ 200 → AreHeld ps
    → ((i : ℕ) (d : Packet) → i < length (map packet_of ps) → at ≤ length (get_or (map packet_of ps) i d).frame) → AreJoinable at ps
joinable at [] low h f = tt
joinable at (p ∷ ps) low h f = (
  (omega (arith, low, h.0.front, h.0.size, f 0 (packet_of p) (omega arith)), h.0.front),
  joinable at ps low h.1 (λ i d l. f (suc i) d (omega arith)),
)

pub sizes_are : (at : ℕ) (ps : List Held) → AreHeld ps → sizes_behind at ps ≡ length (payloads at ps)
sizes_are at [] h = refl
sizes_are at (p ∷ ps) h =
    omega (arith, sizes_are at ps h.1, h.0.size, length-drop at (buffer_bytes p.skb), length-append (drop at (buffer_bytes p.skb)) (payloads at ps))

module _ (p : Packet) (ps : List Packet) (layout : Layout) (sum : FoldAndLength) (bits : ℕ) (state : Progress) (r : IsRunOf layout sum bits state p (p ∷ ps)) where
  pub all_inside : (i : ℕ) (d : Packet) → i < length (p ∷ ps) → layout.payload_at ≤ length (get_or (p ∷ ps) i d).frame
  all_inside i d h = (laid (get_or (p ∷ ps) i d).frame layout (r.progress.line.shapes.at i d h)).1

  pub comes_to : (frame : List ℕ) (original n m modes : ℕ) → 1 ≤ length ps → frame ≡ frame_of_run layout (p ∷ ps)
      → original ≡ length frame → n ≡ length (p ∷ ps) → m ≡ length p.frame - layout.payload_at → modes ≡ state.modes
      → made p.number p.sec p.frac original n m modes frame ≡ merged_of (p ∷ ps)
  comes_to frame original n m modes several ef eo en em es =
      made_is p ps layout frame original n m modes r.shape several ef eo en em (es ∙ r.progress.staying (omega arith))

-- what is known of a run's packets where they lie in buffers
pub record IsHeldRun (first : Held) (rest : List Held) (layout : Layout) (sum : FoldAndLength) (bits : ℕ) (state : Progress) : Type 0 where
  pub laid : AreLaid 0 layout.headers layout.payload_at
  pub low : layout.payload_at ≤ 200
  pub ranges : AtHeaders (IsLengthInRange (layout.payload_at + sum.len)) layout.headers
  pub few : layout.payload_at + sum.len < 2 ^ 31
  pub payload : StandsFor sum (payloads layout.payload_at (first ∷ rest))
  pub each : AreJoinable layout.payload_at (first ∷ rest)
  pub small : layout.payload_at + sizes_behind layout.payload_at (first ∷ rest) < 2 ^ 31
  pub fits_m : buffer_size first.skb - layout.payload_at ≤ 262070
  pub fits_n : length rest + 1 ≤ 262070

module _ (first : Held) (rest : List Held) (layout : Layout) (sum : FoldAndLength) (bits : ℕ) (state : Progress)
    (r : IsRunOf layout sum bits state (packet_of first) (packet_of first ∷ map packet_of rest)) (held : AreHeld (first ∷ rest)) where
  abbrev p : Packet
  p = packet_of first

  abbrev ps : List Packet
  ps = map packet_of rest

  pub held_run : IsHeldRun first rest layout sum bits state
  held_run =
      let low = (bounded p ps layout sum bits state r).2 in
      let short = payload_short p ps layout sum bits state r in
      let payload = subst (StandsFor sum) (sym (payloads_held layout (first ∷ rest))) r.payload in
      record {
        laid = laid_out p ps layout sum bits state r;
        low = low;
        ranges = in_range p ps layout sum bits state r (layout.payload_at + sum.len) refl;
        few = omega (arith, short);
        payload = payload;
        each = joinable layout.payload_at (first ∷ rest) low held (all_inside p ps layout sum bits state r);
        small = omega (arith, sizes_are layout.payload_at (first ∷ rest) held, payload.1, short);
        fits_m = omega (arith, first_short p ps layout sum bits state r, held.0.size);
        fits_n = omega (arith, few p ps layout sum bits state r, length-map rest packet_of);
      }

  pub item_is : (frame : List ℕ) (original n m modes : ℕ) → 1 ≤ length rest
      → ((last : List ℕ) → AtHeaders (HasFlags bits last) layout.headers → frame ≡ merged_frame layout (buffer_bytes first.skb) last (payloads layout.payload_at (first ∷ rest)))
      → original ≡ length frame → n ≡ length rest + 1 → m ≡ buffer_size first.skb - layout.payload_at → modes ≡ state.modes
      → made p.number p.sec p.frac original n m modes frame ≡ merged_of (p ∷ ps)
  item_is frame original n m modes several f eo en em es =
      let last : List ℕ = frame_at (p ∷ ps) (length (p ∷ ps) - 1) in
      let whole : frame ≡ frame_of_run layout (p ∷ ps) =
      f last r.flags ∙ ap (λ (z : List ℕ). merged_frame layout (buffer_bytes first.skb) last z) (payloads_held layout (first ∷ rest)) in
      let long = length-map rest packet_of in
      comes_to p ps layout sum bits state r frame original n m modes (omega (arith, several, long)) whole eo (omega (arith, en, long))
      (omega (arith, em, held.0.size)) es
