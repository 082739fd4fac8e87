-- What the tests of the next packet say of the run.
use Rattle.std.proofs.Common.{◌≡◌, ℕ, suc, ◌+◌, ◌-◌, ◌*◌, ◌%◌, ◌^◌, ◌<◌, ◌≤◌, inl, inr, Bool, true, false, Some, List, [], ◌∷◌, ◌++◌, length, get_or, drop, refl, sym, ap, ◌∙◌, subst, arith}
use Rattle.std.proofs.Common.{length-append}
use Rattle.std.specs.Prelude.{◌==◌, ◌||◌}
use Rattle.std.specs.Bool.{Decides}
use Rattle.std.proofs.lemmas.Bool.Decides.{Decides-and}
use Rattle.std.proofs.lemmas.Bool.{and_parts, and_from, or_cases, eqb-true, eq-eqb, ne_eqb}
use Rattle.std.proofs.lemmas.List.{length-drop}
use Rattle.std.proofs.lemmas.List.Concat.{flat_map-append}
use Rattle.net_bytes.specs.Bytes.{byte, be16}
use Rattle.ip_headers.specs.Ip4.{dont_fragment}
use Rattle.frame_layout.specs.Shape.{Layout, shape_of}
use Rattle.frame_layout.specs.Headers.{AtHeaders, all_headers}
use Rattle.frame_layout.specs.Candidate.{IsCandidate}
use Rattle.frame_layout.specs.declared.layout.Header.{Header}
use Rattle.frame_layout.specs.declared.layout.Layer.{Layer}
use Rattle.frame_layout.specs.declared.layout.Layer.TheVariants.{Ip4}
use Rattle.frame_layout.proofs.Lemmas.{headers_map, headers_map3, decides_headers, laid}
use Rattle.pcap_io.specs.Capture.{Packet}
use Rattle.offload_model.specs.Each.{Each}
use Rattle.offload_model.specs.Mergeable.{AreUdpSumsAlike, IsSequenceBehind, AreIdsInStep, IsLengthInRange, payloads_of}
use Rattle.offload_model.specs.Merged.{is_fixed_in, modes_at, modes_of, modes_behind}
use Rattle.offload_model.proofs.Decides.{decides_udp, decides_sequence, decides_range}
use Rattle.offload_model.proofs.Modes.{at_behind}
use Rattle.offload_model.proofs.Grows.{Continues, AreIdsRising, AreIdsStaying, ids_rise, ids_stay, ids_before}
use Rattle.merge_rule.specs.Next.{is_next_at, is_next_id_at, are_ids_next, IsNext}
use Rattle.merge_rule.specs.Runs.{IsProgress}

or_right : (x y : Bool) → y ≡ true → (x || y) ≡ true
or_right true y e = refl
or_right false y e = e

or_left : (x y : Bool) → x ≡ true → (x || y) ≡ true
or_left true y e = refl
or_left false y e = absurd cc

-- ---- identifications

pub each_one : {X : Type 0} (P : ℕ → X → Type 0) (x : X) → P 0 x → Each P (x ∷ [])
each_one P x p = record {
  at = λ i d h. let z : 0 ≡ i = omega arith in subst (λ i. P i (get_or (x ∷ []) i d)) z p;
}

module _ (p x : Packet) (small : (k : ℕ) → byte p.frame k < 256) where
  pub rising_one : (at : ℕ) → AreIdsRising p.frame (p ∷ []) at
  rising_one at = each_one (λ i q. be16 q.frame (at + 4) ≡ (be16 p.frame (at + 4) + i) % 2 ^ 16) p (omega (arith, small (at + 4), small (at + 4 + 1)))

  staying_one : (at : ℕ) → AreIdsStaying p.frame (p ∷ []) at
  staying_one at = each_one (λ i q. be16 q.frame (at + 4) ≡ be16 p.frame (at + 4)) p refl

  -- of two packets or more, what the identifications do is what the second's does
  second_rises : (q : Packet) (qs : List Packet) (at : ℕ) → AreIdsRising p.frame (p ∷ q ∷ qs) at → is_fixed_in (p ∷ q ∷ qs) at ≡ false
  second_rises q qs at r = ne_eqb _ _ (λ e. omega (arith, e, r.at 1 q (omega arith), small (at + 4), small (at + 4 + 1)))

  second_stays : (q : Packet) (qs : List Packet) (at : ℕ) → AreIdsStaying p.frame (p ∷ q ∷ qs) at → is_fixed_in (p ∷ q ∷ qs) at ≡ true
  second_stays q qs at s = eq-eqb _ _ (s.at 1 q (omega arith))

  low : (b : Bool) (n s : ℕ) → n ≡ modes_at Ip4 b s → (n % 2 == 1) ≡ b
  low true n s e = eq-eqb _ _ (omega arith)
  low false n s e = ne_eqb _ _ (λ h. omega arith)

  more : (n : ℕ) → (suc (suc n) == 1) ≡ false
  more n = ne_eqb _ _ (λ h. omega arith)

  id_at_from : (ps : List Packet) (modes s : ℕ) (l : Layer) (at : ℕ) → (2 ≤ length (p ∷ ps) → modes ≡ modes_at l (is_fixed_in (p ∷ ps) at) s)
      → AreIdsInStep p.frame (p ∷ ps) l at → is_next_id_at (length (p ∷ ps)) modes p.frame x.frame l at ≡ true
      → AreIdsInStep p.frame ((p ∷ ps) ++ (x ∷ [])) l at
  id_at_from [] modes s Ip4 at know i e = elim (or_cases _ _ e) [
    | inl t ↦ ids_rise p.frame (p ∷ []) x at (rising_one at) (eqb-true _ _ t)
    | inr t ↦ let u : (dont_fragment p.frame at ≡ true) × ((be16 x.frame (at + 4) == be16 p.frame (at + 4)) ≡ true) = and_parts _ _ t in
        ids_stay p.frame (p ∷ []) x at u.0 (staying_one at) (eqb-true _ _ u.1)
  ]
  id_at_from (q ∷ qs) modes s Ip4 at know (inl r) e =
      let m : (modes % 2 == 1) ≡ false = low (is_fixed_in (p ∷ q ∷ qs) at) modes s (know (omega arith)) ∙ second_rises q qs at r in
      ids_rise p.frame (p ∷ q ∷ qs) x at r (eqb-true _ _ (rw (more (length qs), m) at e))
  id_at_from (q ∷ qs) modes s Ip4 at know (inr t) e =
      let m : (modes % 2 == 1) ≡ true = low (is_fixed_in (p ∷ q ∷ qs) at) modes s (know (omega arith)) ∙ second_stays q qs at t.1 in
      ids_stay p.frame (p ∷ q ∷ qs) x at t.0 t.1 (eqb-true _ _ (rw (more (length qs), m) at e))
  id_at_from ps modes s _ at know i e = tt

  id_at_to : (ps : List Packet) (modes s : ℕ) (l : Layer) (at : ℕ) → (2 ≤ length (p ∷ ps) → modes ≡ modes_at l (is_fixed_in (p ∷ ps) at) s)
      → AreIdsInStep p.frame ((p ∷ ps) ++ (x ∷ [])) l at → is_next_id_at (length (p ∷ ps)) modes p.frame x.frame l at ≡ true
  id_at_to [] modes s Ip4 at know i = elim (ids_before p.frame (p ∷ []) x at i) [
    | inl t ↦ or_left _ _ (eq-eqb _ _ t.1)
    | inr t ↦ or_right _ _ (and_from _ _ t.0 (eq-eqb _ _ t.2))
  ]
  id_at_to (q ∷ qs) modes s Ip4 at know i = elim (ids_before p.frame (p ∷ q ∷ qs) x at i) [
    | inl t ↦
        let m : (modes % 2 == 1) ≡ false = low (is_fixed_in (p ∷ q ∷ qs) at) modes s (know (omega arith)) ∙ second_rises q qs at t.0 in
        rw (more (length qs), m) (eq-eqb _ _ t.1)
    | inr t ↦
        let m : (modes % 2 == 1) ≡ true = low (is_fixed_in (p ∷ q ∷ qs) at) modes s (know (omega arith)) ∙ second_stays q qs at t.1 in
        rw (more (length qs), m) (eq-eqb _ _ t.2)
  ]
  id_at_to ps modes s _ at know i = refl

  pub ids_from : (ps : List Packet) (modes : ℕ) (hs : List Header) → (2 ≤ length (p ∷ ps) → modes ≡ modes_of (is_fixed_in (p ∷ ps)) hs)
      → AtHeaders (AreIdsInStep p.frame (p ∷ ps)) hs → are_ids_next (length (p ∷ ps)) modes p.frame x.frame hs ≡ true
      → AtHeaders (AreIdsInStep p.frame ((p ∷ ps) ++ (x ∷ []))) hs
  ids_from ps modes [] know i e = tt
  ids_from ps modes (h ∷ hs) know i e =
      let s : (is_next_id_at (length (p ∷ ps)) modes p.frame x.frame h.layer h.at ≡ true) × (are_ids_next (length (p ∷ ps)) (modes_behind h.layer modes) p.frame x.frame hs
      ≡ true) = and_parts _ _ e in (
        id_at_from ps modes (modes_of (is_fixed_in (p ∷ ps)) hs) h.layer h.at know i.0 s.0,
        ids_from ps (modes_behind h.layer modes) hs (λ two. ap (modes_behind h.layer) (know two) ∙ at_behind h.layer (is_fixed_in (p ∷ ps) h.at) (modes_of (is_fixed_in (p ∷ ps)) hs)) i.1 s.1,
      )

  pub ids_to : (ps : List Packet) (modes : ℕ) (hs : List Header) → (2 ≤ length (p ∷ ps) → modes ≡ modes_of (is_fixed_in (p ∷ ps)) hs)
      → AtHeaders (AreIdsInStep p.frame ((p ∷ ps) ++ (x ∷ []))) hs → are_ids_next (length (p ∷ ps)) modes p.frame x.frame hs ≡ true
  ids_to ps modes [] know i = refl
  ids_to ps modes (h ∷ hs) know i =
      and_from _ _ (id_at_to ps modes (modes_of (is_fixed_in (p ∷ ps)) hs) h.layer h.at know i.0)
      (ids_to ps (modes_behind h.layer modes) hs (λ two. ap (modes_behind h.layer) (know two) ∙ at_behind h.layer (is_fixed_in (p ∷ ps) h.at) (modes_of (is_fixed_in (p ∷ ps)) hs)) i.1)

-- ---- lengths

each_tail : {X : Type 0} (P : X → Type 0) (x : X) (xs : List X) → Each (λ i y. P y) (x ∷ xs) → Each (λ i y. P y) xs
each_tail P x xs e = record { at = λ i d h. e.at (suc i) d (omega arith) }

pub full_payloads : (layout : Layout) (n : ℕ) (ps : List Packet) → Each (λ i p. length p.frame ≡ n) ps → length (payloads_of layout ps) ≡ length ps * (n - layout.payload_at)
full_payloads layout n [] e = omega arith
full_payloads layout n (p ∷ ps) e =
    let m : ℕ = n - layout.payload_at in
    let s : suc (length ps) * m ≡ m + length ps * m = omega arith in
    omega (
      arith,
      length-append (drop layout.payload_at p.frame) (payloads_of layout ps),
      length-drop layout.payload_at p.frame,
      e.at 0 p (omega arith),
      full_payloads layout n ps (each_tail (λ p. length p.frame ≡ n) p ps e),
      s,
    )

pub more_payloads : (layout : Layout) (ps : List Packet) (x : Packet) → length (payloads_of layout (ps ++ (x ∷ []))) ≡ length (payloads_of layout ps) + (length x.frame - layout.payload_at)
more_payloads layout ps x =
    omega (
      arith,
      ap length (flat_map-append (λ (p : Packet). drop layout.payload_at p.frame) ps (x ∷ [])),
      length-append (payloads_of layout ps) (drop layout.payload_at x.frame ++ []),
      length-append (drop layout.payload_at x.frame) [],
      length-drop layout.payload_at x.frame,
    )

-- ---- what the state and the tests together say

abbrev IsNextAt : List ℕ → List ℕ → ℕ → ℕ → Layer → ℕ → Type 0
IsNextAt first x n len l at = AreUdpSumsAlike x first l at × (IsSequenceBehind first x n l at × IsLengthInRange len l at)

decides_next : (first x : List ℕ) (n len : ℕ) (hs : List Header) → Decides (all_headers (is_next_at first x n len) hs) (AtHeaders (IsNextAt first x n len) hs)
decides_next first x n len hs = decides_headers _ (IsNextAt first x n len)
    (λ l at. Decides-and _ _ (decides_udp x first l at) (Decides-and _ _ (decides_sequence first x n l at) (decides_range len l at))) hs

module _ (layout : Layout) (p : Packet) (ps : List Packet) (x : Packet) (total modes : ℕ) (small : (k : ℕ) → byte p.frame k < 256) where
  pub continues : IsProgress layout p.frame (p ∷ ps) true total modes → IsCandidate x.frame x.original layout → shape_of x.frame ≡ Some layout
      → IsNext layout p.frame (length (p ∷ ps)) total modes x.frame → Continues layout p.frame (p ∷ ps) x
  continues r c s t =
      let n : total - layout.payload_at ≡ length (p ∷ ps) * (length p.frame - layout.payload_at)
      = omega (arith, r.long, full_payloads layout (length p.frame) (p ∷ ps) (r.full refl)) in
      let len : total + (length x.frame - layout.payload_at) ≡ layout.payload_at + length (payloads_of layout ((p ∷ ps) ++ (x ∷ [])))
      = omega (arith, r.long, more_payloads layout (p ∷ ps) x) in
      let next : AtHeaders (IsNextAt p.frame x.frame (total - layout.payload_at) (total + (length x.frame - layout.payload_at))) layout.headers
      = (decides_next p.frame x.frame (total - layout.payload_at) (total + (length x.frame - layout.payload_at)) layout.headers).0 t.numbers in
      record {
        shape_is = s;
        candidate = c;
        headers = λ k b o. sym (t.alike k b o);
        udp_sums = headers_map (λ l at h. h.0) layout.headers next;
        full = r.full refl;
        shorter = t.shorter;
        flags = r.flags refl;
        sequence = subst (λ n. AtHeaders (IsSequenceBehind p.frame x.frame n) layout.headers) n (headers_map (λ l at h. h.1.0) layout.headers next);
        ids = ids_from p x small ps modes layout.headers r.staying r.line.ids t.ids;
        fits = subst (λ n. AtHeaders (IsLengthInRange n) layout.headers) len (headers_map (λ l at h. h.1.1) layout.headers next);
        short = omega (arith, len, t.room);
      }

  pub passes : (o : Bool) → IsProgress layout p.frame (p ∷ ps) o total modes → Continues layout p.frame (p ∷ ps) x
      → (o ≡ true) × IsNext layout p.frame (length (p ∷ ps)) total modes x.frame
  passes false r c = absurd (r.shut refl c.full c.flags)
  passes true r c =
      let n : length (p ∷ ps) * (length p.frame - layout.payload_at) ≡ total - layout.payload_at
      = omega (arith, r.long, full_payloads layout (length p.frame) (p ∷ ps) (r.full refl)) in
      let len : layout.payload_at + length (payloads_of layout ((p ∷ ps) ++ (x ∷ []))) ≡ total + (length x.frame - layout.payload_at)
      = omega (arith, r.long, more_payloads layout (p ∷ ps) x) in (
        refl,
        record {
          shorter = c.shorter;
          there = (laid x.frame layout c.shape_is).1;
          alike = λ k b o. sym (c.headers k b o);
          numbers = (decides_next p.frame x.frame (total - layout.payload_at) (total + (length x.frame - layout.payload_at)) layout.headers).1
              (headers_map3 (λ l at u q r. (u, (q, r))) layout.headers c.udp_sums
              (subst (λ n. AtHeaders (IsSequenceBehind p.frame x.frame n) layout.headers) n c.sequence)
              (subst (λ n. AtHeaders (IsLengthInRange n) layout.headers) len c.fits));
          room = omega (arith, len, c.short);
          ids = ids_to p x small ps modes layout.headers r.staying c.ids;
        },
      )
