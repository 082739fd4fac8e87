-- The hash of a key, read where its words lie in the frame.
use Rattle.std.proofs.Common.{◌≡◌, ℕ, ◌-◌, ◌≤◌, Some, None, List, length, refl, sym, ap, ◌∙◌, subst, arith, ◌<◌, Bool}
use Rattle.std.specs.Prelude.{nat_lt, if◌then◌else◌}
use Rattle.std.specs.List.{flat_map}
use Rattle.std.specs.Option.{option_map}
use Rattle.net_bytes.specs.Bytes.{be32}
use Rattle.frame_layout.specs.Key.{flow_part, key_of}
use Rattle.frame_layout.specs.Plain.{plain_key}
use Rattle.frame_layout.specs.Shape.{shape_of}
use Rattle.frame_layout.proofs.Lemmas.{plain_long, host_byte, address_byte, port_byte}
use Rattle.frame_runs.specs.Flows.{mixed, hash_of}
use Rattle.std.proofs.lemmas.Bool.{lt-ltb, le-ltb}

by_words : (key : List ℕ) (n : ℕ) → n ≡ 26
    → (if nat_lt n 26 then 0 else mixed (be32 key (n - 4)) (be32 key (n - 9)) (be32 key (n - 13)) (be32 key (n - 25)))
    ≡ mixed (be32 key 22) (be32 key 17) (be32 key 13) (be32 key 1)
by_words key n e = subst (λ n. (if nat_lt n 26 then 0 else mixed (be32 key (n - 4)) (be32 key (n - 9)) (be32 key (n - 13)) (be32 key (n - 25)))
    ≡ mixed (be32 key 22) (be32 key 17) (be32 key 13) (be32 key 1)) (sym e) refl

module _ (f : List ℕ) (long : 54 ≤ length f) where
  ports_are : be32 f 34 ≡ be32 (plain_key f) 22
  ports_are = omega (arith, port_byte f long 0 (omega arith), port_byte f long 1 (omega arith), port_byte f long 2 (omega arith), port_byte f long 3 (omega arith))

  nearer_is : be32 f 30 ≡ be32 (plain_key f) 17
  nearer_is = omega (arith, address_byte f long 4 (omega arith), address_byte f long 5 (omega arith), address_byte f long 6 (omega arith), address_byte f long 7 (omega arith))

  farther_is : be32 f 26 ≡ be32 (plain_key f) 13
  farther_is = omega (arith, address_byte f long 0 (omega arith), address_byte f long 1 (omega arith), address_byte f long 2 (omega arith), address_byte f long 3 (omega arith))

  host_is : be32 f 1 ≡ be32 (plain_key f) 1
  host_is = omega (arith, host_byte f long 1 (omega arith), host_byte f long 2 (omega arith), host_byte f long 3 (omega arith), host_byte f long 4 (omega arith))

  pub plain_hashed : mixed (be32 f 34) (be32 f 30) (be32 f 26) (be32 f 1) ≡ hash_of (Some (plain_key f))
  plain_hashed =
      ap (λ z. mixed z (be32 f 30) (be32 f 26) (be32 f 1)) ports_are
      ∙ ap (λ z. mixed (be32 (plain_key f) 22) z (be32 f 26) (be32 f 1)) nearer_is
      ∙ ap (λ z. mixed (be32 (plain_key f) 22) (be32 (plain_key f) 17) z (be32 f 1)) farther_is
      ∙ ap (λ z. mixed (be32 (plain_key f) 22) (be32 (plain_key f) 17) (be32 (plain_key f) 13) z) host_is
      ∙ sym (by_words (plain_key f) (length (plain_key f)) (plain_long f long))

-- a frame without a shape has no key
pub no_key : (f : List ℕ) → None ≡ shape_of f → None ≡ key_of f
unfolding key_of
no_key f e = ap (option_map (λ layout. flat_map (λ h. flow_part f h.layer h.at) layout.headers)) e

pub short_hash : (key : List ℕ) → length key < 26 → 0 ≡ hash_of (Some key)
short_hash key l =
    let n = length key in
    sym (ap (λ (b : Bool). if b then 0 else mixed (be32 key (n - 4)) (be32 key (n - 9)) (be32 key (n - 13)) (be32 key (n - 25))) (lt-ltb n 26 l))

pub long_hash : (key : List ℕ) (ports nearer farther host : ℕ) → 26 ≤ length key → ports ≡ be32 key (length key - 4) → nearer ≡ be32 key (length key - 9) → farther ≡ be32 key (length key - 13)
    → host ≡ be32 key (length key - 25) → mixed ports nearer farther host ≡ hash_of (Some key)
long_hash key ports nearer farther host l p q r s =
    let n = length key in
    ap (λ (z : ℕ). mixed z nearer farther host) p ∙ ap (λ (z : ℕ). mixed (be32 key (n - 4)) z farther host) q ∙ ap (λ (z : ℕ). mixed (be32 key (n - 4)) (be32 key (n - 9)) z host) r
    ∙ ap (mixed (be32 key (n - 4)) (be32 key (n - 9)) (be32 key (n - 13))) s
    ∙ sym (ap (λ (b : Bool). if b then 0 else mixed (be32 key (n - 4)) (be32 key (n - 9)) (be32 key (n - 13)) (be32 key (n - 25))) (le-ltb n 26 l))
