-- Frames that a capture may have, whose numbers rise.
use Rattle.std.proofs.Common.{zero, suc, ◌≡◌, ℕ, ◌+◌, ◌-◌, ◌<◌, ◌≤◌, List, [], ◌∷◌}
use Rattle.std.proofs.Common.{length, map, take, get_or}
use Rattle.std.proofs.Common.{sym, ap, subst, arith}
use Rattle.std.specs.List.{AllByRecursion}
use Rattle.maximal_runs.specs.Cut.{AllNeighbours}
use Rattle.pcap_io.specs.Capture.{Packet}
use Rattle.offload_model.specs.Captured.{IsCaptured}
use Rattle.frame_runs.specs.declared.lent.Lent.{Lent}
use Rattle.frame_runs.specs.Lent.{IsShort}
use Rattle.frame_bursts.specs.Burst.{AreFrames}
use Rattle.frame_bursts.specs.Links.{framed}
use Rattle.frame_bursts.specs.declared.link.Link.{Link}
use Rattle.frame_bursts.specs.declared.link.Link.TheVariants.{Ethernet}

module _ (link : Link) where
  abbrev IsOne : Lent → Type 0
  IsOne f = IsCaptured (framed link f)

  -- one is above the one before it
  abbrev Rise : List Lent → Type 0
  Rise fs = (j k : ℕ) (d : Lent) → j ≡ k + 1 → j < length fs → (get_or fs k d).number < (get_or fs j d).number

  rise : (fs : List Lent) → Rise fs → AllNeighbours (λ (p q : Packet). p.number < q.number) (map (framed link) fs)
  rise [] f = tt
  rise (x ∷ []) f = tt
  rise (x ∷ y ∷ fs) f = (
    f 1 0 x (omega arith) (omega arith),
    rise (y ∷ fs) (λ j k d e h. f (suc j) (suc k) d (omega (arith, e)) (omega (arith, h))),
  )

  each_one : (fs : List Lent) → ((k : ℕ) (d : Lent) → k < length fs → IsOne (get_or fs k d))
      → AllByRecursion IsCaptured (map (framed link) fs)
  each_one [] f = tt
  each_one (x ∷ fs) f = (f 0 x (omega arith), each_one fs (λ k d h. f (suc k) d (omega (arith, h))))

  pub are_frames : (fs : List Lent) (n : ℕ) → length fs ≤ n
      → ((k : ℕ) (d : Lent) → k < n → k < length fs → IsOne (get_or fs k d))
      → ((j k : ℕ) (d : Lent) → j ≡ k + 1 → j < n → j < length fs
      → (get_or fs k d).number < (get_or fs j d).number) → AreFrames link fs
  are_frames fs n few each rises = record {
    each = each_one fs (λ k d h. each k d (omega (arith, h, few)) h);
    rising = rise fs (λ j k d e h. rises j k d e (omega (arith, h, few)) h);
  }

  -- the first n of them
  pub known_each : (fs : List Lent) (n k : ℕ) (d : Lent) → AllByRecursion IsCaptured (take n (map (framed link) fs)) → k < n
      → k < length fs → IsOne (get_or fs k d)
  known_each [] n k d a h l = absurd (omega (arith, l))
  known_each (x ∷ fs) zero k d a h l = absurd (omega (arith, h))
  known_each (x ∷ fs) (suc n) zero d a h l = a.0
  known_each (x ∷ fs) (suc n) (suc k) d a h l = known_each fs n k d a.1 (omega (arith, h)) (omega (arith, l))

  pub known_rise : (fs : List Lent) (n j k : ℕ) (d : Lent)
      → AllNeighbours (λ (p q : Packet). p.number < q.number) (take n (map (framed link) fs)) → j ≡ k + 1 → j < n
      → j < length fs → (get_or fs k d).number < (get_or fs j d).number
  known_rise [] n j k d r e h l = absurd (omega (arith, l))
  known_rise (x ∷ []) n j k d r e h l = absurd (omega (arith, e, l))
  known_rise (x ∷ y ∷ fs) zero j k d r e h l = absurd (omega (arith, h))
  known_rise (x ∷ y ∷ fs) (suc zero) j k d r e h l = absurd (omega (arith, e, h))
  known_rise (x ∷ y ∷ fs) (suc (suc n)) zero k d r e h l = absurd (omega (arith, e))
  known_rise (x ∷ y ∷ fs) (suc (suc n)) (suc j) zero d r e h l =
      let first : 0 ≡ j = omega (arith, e) in
      subst (λ (z : ℕ). x.number < (get_or (y ∷ fs) z d).number) first r.0
  known_rise (x ∷ y ∷ fs) (suc (suc n)) (suc j) (suc k) d r e h l =
      known_rise (y ∷ fs) (suc n) j k d r.1 (omega (arith, e)) (omega (arith, h)) (omega (arith, l))

  -- ---- and frames that aren't so

  one_at : (fs : List Lent) (k : ℕ) (d : Lent) → AllByRecursion IsCaptured (map (framed link) fs) → k < length fs
      → IsOne (get_or fs k d)
  one_at [] k d a h = absurd (omega (arith, h))
  one_at (x ∷ fs) zero d a h = a.0
  one_at (x ∷ fs) (suc k) d a h = one_at fs k d a.1 (omega (arith, h))

  pub not_captured : (fs : List Lent) (i : ℕ) (x : Lent) → i < length fs → x ≡ get_or fs i x → (IsOne x → ⊥)
      → AreFrames link fs → ⊥
  not_captured fs i x h is not a = not (subst IsOne (sym is) (one_at fs i x a.each h))

  risen : (fs : List Lent) → AllNeighbours (λ (p q : Packet). p.number < q.number) (map (framed link) fs) → Rise fs
  risen [] r j k d e h = absurd (omega (arith, h))
  risen (x ∷ []) r j k d e h = absurd (omega (arith, e, h))
  risen (x ∷ y ∷ fs) r zero k d e h = absurd (omega (arith, e))
  risen (x ∷ y ∷ fs) r (suc j) zero d e h =
      let first : 0 ≡ j = omega (arith, e) in
      subst (λ (z : ℕ). x.number < (get_or (y ∷ fs) z d).number) first r.0
  risen (x ∷ y ∷ fs) r (suc j) (suc k) d e h = risen (y ∷ fs) r.1 j k d (omega (arith, e)) (omega (arith, h))

  pub not_above : (fs : List Lent) (i : ℕ) (x y : Lent) → 0 < i → i < length fs → x ≡ get_or fs i y
      → y ≡ get_or fs (i - 1) y → x.number ≤ y.number → AreFrames link fs → ⊥
  not_above fs i x y some h is before le a =
      let r : (get_or fs (i - 1) y).number < (get_or fs i y).number
      = risen fs a.rising i (i - 1) y (omega (arith, some)) h in
      omega (arith, r, le, ap (λ (z : Lent). z.number) is, ap (λ (z : Lent). z.number) before)

-- ---- what the engine asks of them

pub all_short : (fs : List Lent) → AreFrames Ethernet fs → AllByRecursion IsShort fs
all_short fs a = short fs a.each
  where
    short : (gs : List Lent) → AllByRecursion IsCaptured (map (framed Ethernet) gs) → AllByRecursion IsShort gs
    short [] c = tt
    short (x ∷ gs) c = (c.0.short, short gs c.1)
