-- What is said of a run without its Ethernet header.
use Rattle.std.proofs.Common.{◌≡◌, ℕ, ◌+◌, ◌-◌, ◌≤◌, List, [], ◌∷◌, ◌++◌, Option, Some, length, take, drop}
use Rattle.std.proofs.Common.{refl, sym, ap, ◌∙◌, subst, arith}
use Rattle.std.proofs.lemmas.List.{append-nil, drop-append-le}
use Rattle.frame_layout.specs.Headers.{AreLaid}
use Rattle.frame_layout.specs.Shape.{ethernet_there, header, outer_from, shape_of, typed_from, Layout}
use Rattle.frame_layout.specs.declared.layout.Header.{Header}
use Rattle.frame_layout.specs.declared.layout.Layer.TheVariants.{Ethernet}
use Rattle.frame_layout.proofs.Lemmas.{laid, laid_end}
use Rattle.std.proofs.Common.{Bool, true, false, None}
use Rattle.std.specs.Prelude.{unwrap_or}
use Rattle.pcap_io.specs.Capture.{Packet}
use Rattle.offload_model.specs.Merged.{frame_at, merged_of}
use Rattle.merge_rule.proofs.Knows.{run_some}
use Rattle.merge_rule.specs.Runs.{IsRunBy}
use Rattle.frame_runs.specs.declared.run.Run.{Run}
use Rattle.frame_runs.specs.Engine.{Knows}
use Rattle.frame_runs.specs.MergedRun.{headers_size, payload_place, payloads_behind}
use Rattle.frame_bursts.specs.Burst.{Says, SaysRaw}
use Rattle.frame_bursts.specs.Places.{HasPlaces}
use Rattle.frame_bursts.specs.Without.{IsWithout}
use Rattle.frame_bursts.specs.declared.told.BurstRun.{BurstRun}

-- a shape begins with an Ethernet header
first_header : (there : Bool) (rest : Option Layout) (l : Layout) → header Ethernet 0 there rest ≡ Some l
    → (tail : List Header) × (l.headers ≡ (record { layer = Ethernet; at = 0 } ∷ tail))
unfolding header
first_header false rest l e = absurd cc
first_header true None l e = absurd cc
first_header true (Some r) l e = (r.headers, sym (ap (λ (z : Option Layout). (unwrap_or z l).headers) e))

starts : (f : List ℕ) (l : Layout) → shape_of f ≡ Some l → (tail : List Header) × (l.headers ≡ (record { layer = Ethernet; at = 0 } ∷ tail))
unfolding shape_of
starts f l e = first_header (ethernet_there f 0) (typed_from f (outer_from f) 2 12) l e

-- so its headers have 14 bytes at least
has_ethernet : (f : List ℕ) (l : Layout) → shape_of f ≡ Some l → 14 ≤ l.payload_at
has_ethernet f l e =
    let s = starts f l e in
    laid_end 14 s.0 l.payload_at (subst (λ (z : List Header). AreLaid 0 z l.payload_at) s.1 (laid f l e).0).1

sized : (run : Run) (p : Packet) (rest : List Packet) (o : Option Layout) → run.layout ≡ o → Knows run p rest
    → 1 ≤ run.more → 14 ≤ headers_size run
sized run p rest None e k several =
    let alone = subst (λ (z : Option Layout). IsRunBy z run.payload run.flags run.progress p (p ∷ rest)) e k.is in
    absurd (omega (arith, alone.0, k.more, several))
sized run p rest (Some l) e k several =
    omega (
      arith,
      ap payload_place e,
      has_ethernet p.frame l
          (run_some run.layout run.payload run.flags run.progress p (p ∷ rest) l k.is e).shape,
    )

pub front_there : (run : Run) (p : Packet) (rest : List Packet) → Knows run p rest → 1 ≤ run.more → 14 ≤ headers_size run
front_there run p rest k several = sized run p rest run.layout refl k several

-- ---- a run of several frames has them all behind its headers

module _ (a b : BurstRun) (w : IsWithout a b) where
  alone_frame : (p : Packet) → a.n ≤ 1
      → take b.headers_length b.headers ++ payloads_behind (b.headers_length + 14) (p ∷ []) ≡ drop 14 p.frame
  alone_frame p one =
      ap (λ (z : ℕ). take z b.headers ++ payloads_behind (z + 14) (p ∷ [])) (w.alone one) ∙ append-nil (drop 14 p.frame)

  frame_of : (run : List Packet) → Says a run → 2 ≤ a.n
      → take b.headers_length b.headers ++ payloads_behind (b.headers_length + 14) run
      ≡ drop 14 (merged_of run).packet.frame
  frame_of run says two =
      ap (λ (z : List ℕ). z ++ payloads_behind (b.headers_length + 14) run) (w.headers two)
      ∙ ap (λ (z : ℕ). drop 14 (take a.headers_length a.headers) ++ payloads_behind z run) (w.size two)
      ∙ sym (drop-append-le 14 (take a.headers_length a.headers) (payloads_behind a.headers_length run) (w.enough two))
      ∙ ap (drop 14) says.frame

  frames : (p : Packet) (rest : List Packet) → Says a (p ∷ rest) → a.n ≡ length rest + 1
      → take b.headers_length b.headers ++ payloads_behind (b.headers_length + 14) (p ∷ rest)
      ≡ drop 14 (merged_of (p ∷ rest)).packet.frame
  frames p [] says n = alone_frame p (omega (arith, n))
  frames p (x ∷ xs) says n = frame_of (p ∷ x ∷ xs) says (omega (arith, n))

  pub says_raw : (p : Packet) (rest : List Packet) → Says a (p ∷ rest) → a.n ≡ length rest + 1 → SaysRaw b (p ∷ rest)
  says_raw p rest says n =
      let run : List Packet = p ∷ rest in
      record {
        n = w.n ∙ says.n;
        m = w.m ∙ says.m;
        modes = w.modes ∙ says.modes;
        kind = w.kind ∙ says.kind;
        long = w.long ∙ ap (λ (z : ℕ). z - 14) says.long;
        frame = frames p rest says n;
        places = λ two. (
          a.ip_at,
          a.leaf_at,
          subst (λ (z : ℕ). HasPlaces (frame_at run 0) (merged_of run).packet.frame a.ip_at a.leaf_at z b.pseudo)
              (sym w.leaf)
              (subst (HasPlaces (frame_at run 0) (merged_of run).packet.frame a.ip_at a.leaf_at a.leaf) (sym w.pseudo)
              (says.places (omega (arith, two, w.n)))),
          w.ip_at,
          w.leaf_at,
        );
        alone = λ one.
            let zeros = says.alone (omega (arith, one, w.n)) in (
              omega (arith, w.ip_at, zeros.0),
              (
                omega (arith, w.leaf_at, zeros.1.0),
                (omega (arith, w.leaf, zeros.1.1.0), omega (arith, w.pseudo, zeros.1.1.1)),
              ),
            );
      }
