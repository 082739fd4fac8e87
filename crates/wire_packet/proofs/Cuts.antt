-- How a packet is cut, case by case.
use Rattle.std.proofs.Common.{◌≡◌, ◌&&◌, ◌||◌, ◌+◌, ◌-◌, ◌/◌, ◌^◌, ◌<◌, ◌≤◌, ℕ, Bool, true, false, List, [], ◌∷◌, length, refl, sym, ap, ◌∙◌, subst, Option, None, Some, arith}
use Rattle.std.specs.Prelude.{if◌then◌else◌, nat_lt}
use Rattle.std.specs.Option.{unwrap_or}
use Rattle.std.proofs.lemmas.Bool.{lt-ltb, le-ltb}
use Rattle.pcap_io.specs.Limits.{most_frame}
use Rattle.pcap_io.specs.Capture.{Packet, packet}
use Rattle.pcap_io.specs.declared.off_head.OffHead2.{OffHead2}
use Rattle.pcap_io.specs.declared.off_head.AnyHead.TheVariants.{V2}
use Rattle.frame_layout.specs.Shape.{Layout, shape_of}
use Rattle.frame_layout.specs.Segment.{last_header}
use Rattle.offload_model.specs.Merged.{layout_of}
use Rattle.offload_model.specs.Segments.{merged_in, segments_by}
use Rattle.offload_model.specs.Tests.{is_cuttable_as, is_lawful_by, is_lawful_super, is_opened_by}
use Rattle.offload_model.proofs.Decides.{decides_opened}
use Rattle.gso.specs.Planning.{IsLawfulBehind}
use Rattle.wire_model.specs.Wire.{carries_tcp, cut_head, cut_of, is_cut, is_tcp_by, payload_length}

abbrev pub head_by : ℕ → ℕ → OffHead2
head_by mss payload = record { version = 2; kind = 1; modes = 0; lane = 0; n = (payload + (mss - 1)) / mss; m = mss; number = 0 }

pub cut_if : (b : Bool) (mss : ℕ) (p : Packet) → is_cut mss p ≡ b → cut_of mss p ≡ (if b then segments_by (cut_head mss p.frame) p else p ∷ [])
cut_if b mss p e = ap (λ x. if x then segments_by (cut_head mss p.frame) p else p ∷ []) e

abbrev no_headers : Layout
no_headers = record { headers = []; payload_at = 0 }

pub no_layout : (mss : ℕ) (p : Packet) → None ≡ shape_of p.frame → is_cut mss p ≡ false
no_layout mss p e =
    let none : layout_of p.frame ≡ no_headers = ap (λ (o : Option Layout). unwrap_or o no_headers) (sym e) in
    ap (λ (l : Layout). is_tcp_by (last_header l.headers) && (nat_lt mss (payload_length p.frame) && is_lawful_super (cut_head mss p.frame) p)) none

-- ---- of a frame that has a shape

both_or : (x y : Bool) → y ≡ false → (b : Bool) → (x && (y && b)) ≡ false
both_or true y e b = ap (λ z. z && b) e
both_or false y e b = refl

-- number and time don't make a record lawful
cuttable_alike : (o : Option Layout) (number sec frac n : ℕ) (f : List ℕ) (h : OffHead2)
    → is_cuttable_as o (merged_in h (packet 0 0 0 n f)) ≡ is_cuttable_as o (merged_in h (packet number sec frac n f))
cuttable_alike None number sec frac n f h = refl
cuttable_alike (Some layout) number sec frac n f h = refl

or_false : (b : Bool) → (b || false) ≡ b
or_false true = refl
or_false false = refl

module _ (mss number sec frac original : ℕ) (f : List ℕ) (l : Layout) (e : Some l ≡ shape_of f) where
  abbrev p : Packet
  p = packet number sec frac original f

  abbrev payload : ℕ
  payload = length f - l.payload_at

  layout_is : layout_of f ≡ l
  layout_is = ap (λ (o : Option Layout). unwrap_or o no_headers) (sym e)

  payload_is : payload_length f ≡ payload
  payload_is = ap (λ (x : Layout). length f - x.payload_at) layout_is

  pub head_is : cut_head mss f ≡ head_by mss payload
  head_is = ap (head_by mss) payload_is

  pub not_tcp : is_tcp_by (last_header l.headers) ≡ false → is_cut mss p ≡ false
  not_tcp is =
      (ap (λ b. b && (nat_lt mss (payload_length f) && is_lawful_super (cut_head mss f) p)) (ap (λ (x : Layout). is_tcp_by (last_header x.headers)) layout_is ∙ is))

  pub not_long : payload ≤ mss → is_cut mss p ≡ false
  not_long le =
      (both_or (carries_tcp f) (nat_lt mss (payload_length f)) (le-ltb mss (payload_length f) (omega (arith, le, payload_is))) (is_lawful_super (cut_head mss f) p))

  module _ (h : OffHead2) (is : h ≡ head_by mss payload) (tcp : is_tcp_by (last_header l.headers) ≡ true) (long : mss < payload) (low : original < 2 ^ 31) (short : length f ≤ most_frame) where
    by_test : is_cut mss p ≡ is_lawful_super (head_by mss payload) p
    by_test =
        ap (λ b. b && (nat_lt mss (payload_length f) && is_lawful_super (cut_head mss f) p)) (ap (λ (x : Layout). is_tcp_by (last_header x.headers)) layout_is ∙ tcp)
        ∙ ap (λ b. b && is_lawful_super (cut_head mss f) p) (lt-ltb mss (payload_length f) (omega (arith, long, payload_is)))
        ∙ ap (λ (x : OffHead2). is_lawful_super x p) head_is

    abbrev behind : Bool
    behind = is_opened_by (V2 (head_by mss payload)) (16 + length f) (original + 16) && is_lawful_by (head_by mss payload) (packet 0 0 0 (original + 16 - 16) f)

    behind_is : behind ≡ is_lawful_super (head_by mss payload) p
    behind_is =
        let opened = (decides_opened (V2 (head_by mss payload)) (16 + length f) (original + 16)).1
        (record { version = refl; there = omega arith; short = omega (arith, short); above = omega arith; within = omega (arith, low) }) in
        let same : original + 16 - 16 ≡ original = omega arith in
        ap (λ b. b && is_lawful_by (head_by mss payload) (packet 0 0 0 (original + 16 - 16) f)) opened
        ∙ ap (λ n. is_lawful_by (head_by mss payload) (packet 0 0 0 n f)) same
        ∙ or_false (is_lawful_super (head_by mss payload) (packet 0 0 0 original f))
        ∙ cuttable_alike (shape_of f) number sec frac original f (head_by mss payload)

    pub cut_true : IsLawfulBehind (V2 h) (original + 16) f → is_cut mss p ≡ true
    cut_true lawful =
        let here : behind ≡ true = subst (λ (x : OffHead2). IsLawfulBehind (V2 x) (original + 16) f) is lawful in
        by_test ∙ sym behind_is ∙ here

    pub cut_so : IsLawfulBehind (V2 h) (original + 16) f → cut_of mss p ≡ segments_by h p
    cut_so lawful = cut_if true mss p (cut_true lawful) ∙ ap (λ (x : OffHead2). segments_by x p) (head_is ∙ sym is)

    pub cut_not : (IsLawfulBehind (V2 h) (original + 16) f → ⊥) → is_cut mss p ≡ false
    cut_not unlawful = by_test ∙ sym behind_is ∙ not_true behind refl
      where
        not_true : (b : Bool) → behind ≡ b → behind ≡ false
        not_true false q = q
        not_true true q = absurd (unlawful (subst (λ (x : OffHead2). IsLawfulBehind (V2 x) (original + 16) f) (sym is) q))
