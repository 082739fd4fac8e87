-- The bytes of a hash key, two digits at a time.
use Rattle.std.proofs.Common.{◌≡◌, ℕ, ◌+◌, ◌*◌, ◌<◌, Option, Some, None, List, [], ◌∷◌, ◌++◌, length, take, drop, get_or, set, refl, sym, ap, ◌∙◌, arith, append_assoc, add-one, option_and_then}
use Rattle.std.specs.Prelude.{◌≤◌, ◌==◌, if◌then◌else◌, option_map}
use Rattle.std.proofs.lemmas.List.{append-nil, drop_all, drop_more, take_all}
use Rattle.std.proofs.Math.Seq.{take-suc-set}
use Rattle.offload_words.specs.Rss.{hash_key_in, hex_byte, hex_bytes}

-- two digits more
two_more : (text : List ℕ) (i : ℕ) → 2 * i + 1 < length text
    → hex_bytes (drop (2 * i) text) ≡ option_and_then (λ byte. option_map (λ bytes. byte ∷ bytes) (hex_bytes (drop (2 * (i + 1)) text))) (hex_byte (get_or text (2 * i) 0) (get_or text (2 * i + 1) 0))
two_more text i h =
    let e : 2 * i + 1 + 1 ≡ 2 * (i + 1) = omega arith in
    ap hex_bytes (drop_more text (2 * i) 0 (omega arith)
    ∙ ap (λ (z : List ℕ). get_or text (2 * i) 0 ∷ z) (drop_more text (2 * i + 1) 0 h ∙ ap (λ (n : ℕ). get_or text (2 * i + 1) 0 ∷ drop n text) e))

-- what is left behind one byte more
byte_more : (o rest : Option (List ℕ)) (done : List ℕ) (byte : ℕ) (two : Option ℕ)
    → o ≡ option_map (λ bytes. done ++ bytes) (option_and_then (λ byte. option_map (λ bytes. byte ∷ bytes) rest) two) → Some byte ≡ two
    → o ≡ option_map (λ bytes. (done ++ byte ∷ []) ++ bytes) rest
byte_more o rest done byte two e s =
    e ∙ ap (λ (t : Option ℕ). option_map (λ bytes. done ++ bytes) (option_and_then (λ byte. option_map (λ bytes. byte ∷ bytes) rest) t)) (sym s) ∙ go rest
  where
    go : (r : Option (List ℕ)) → option_map (λ bytes. done ++ bytes) (option_map (λ bytes. byte ∷ bytes) r) ≡ option_map (λ bytes. (done ++ byte ∷ []) ++ bytes) r
    go None = refl
    go (Some bytes) = ap Some (sym (append_assoc done (byte ∷ []) bytes))

pub none_yet : (text : List ℕ) → hex_bytes text ≡ option_map (λ bytes. bytes) (hex_bytes (drop (2 * 0) text))
none_yet text = go (hex_bytes text)
  where
    go : (o : Option (List ℕ)) → o ≡ option_map (λ bytes. bytes) o
    go None = refl
    go (Some bytes) = refl

pub key_more : (text key : List ℕ) (i byte : ℕ) → 2 * i + 1 < length text → i < length key
    → hex_bytes text ≡ option_map (λ bytes. take i key ++ bytes) (hex_bytes (drop (2 * i) text))
    → Some byte ≡ hex_byte (get_or text (2 * i) 0) (get_or text (2 * i + 1) 0)
    → hex_bytes text ≡ option_map (λ bytes. take (i + 1) (set key i byte) ++ bytes) (hex_bytes (drop (2 * (i + 1)) text))
key_more text key i byte h l e s =
    byte_more (hex_bytes text) (hex_bytes (drop (2 * (i + 1)) text)) (take i key) byte (hex_byte (get_or text (2 * i) 0) (get_or text (2 * i + 1) 0))
    (e ∙ ap (option_map (λ bytes. take i key ++ bytes)) (two_more text i h)) s
    ∙ ap (λ (z : List ℕ). option_map (λ bytes. z ++ bytes) (hex_bytes (drop (2 * (i + 1)) text))) (sym (written key i byte l))
  where
    written : (key : List ℕ) (i byte : ℕ) → i < length key → take (i + 1) (set key i byte) ≡ take i key ++ byte ∷ []
    written key i byte l = rw add-one (take-suc-set key i byte l)

-- ---- the key of a text as long as two digits for each byte

module _ (text key : List ℕ) (i : ℕ) (long : length text ≡ 80) (done : hex_bytes text ≡ option_map (λ bytes. take i key ++ bytes) (hex_bytes (drop (2 * i) text))) where
  by_digits : hash_key_in text ≡ option_map (λ bytes. take i key ++ bytes) (hex_bytes (drop (2 * i) text))
  by_digits = ap (λ (n : ℕ). if n == 80 then hex_bytes text else None) long ∙ done

  pub whole_key : length key ≡ 40 → 40 ≤ i → i ≤ 40 → Some key ≡ hash_key_in text
  whole_key l low high =
      sym (by_digits
      ∙ ap (λ (z : List ℕ). option_map (λ bytes. take i key ++ bytes) (hex_bytes z)) (drop_all (2 * i) text (omega arith))
      ∙ ap (λ (z : List ℕ). Some (z ++ [])) (take_all i key (omega arith)) ∙ ap Some (append-nil key))

  pub no_key : i < 40 → None ≡ hex_byte (get_or text (2 * i) 0) (get_or text (2 * i + 1) 0) → None ≡ hash_key_in text
  no_key near none =
      let next = λ (byte : Option ℕ). option_and_then (λ b. option_map (λ bytes. b ∷ bytes) (hex_bytes (drop (2 * (i + 1)) text))) byte in
      sym (by_digits ∙ ap (option_map (λ bytes. take i key ++ bytes)) (two_more text i (omega arith) ∙ ap next (sym none)))
