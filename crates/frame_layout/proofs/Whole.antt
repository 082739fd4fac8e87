-- Sums over all words, the field itself among them.
use Rattle.std.proofs.Common.{◌≡◌, ℕ, ◌+◌, ◌-◌, ◌%◌, ◌<◌, ◌≤◌, List, ◌∷◌, ◌++◌, length}
use Rattle.std.proofs.Common.{length-append, take, take-add, drop, append_assoc, take-append-drop, refl, sym, ap, ◌∙◌, arith}
use Rattle.std.specs.Prelude.{◌==◌}
use Rattle.std.proofs.lemmas.List.{length-take, length-drop, drop-drop, get_or-take, get_or-drop, drop_more}
use Rattle.std.proofs.lemmas.List.Folds.{drop_split}
use Rattle.inet_sum.specs.Sum.{word_sum, folded, fold_of, joined_fold}
use Rattle.inet_sum.proofs.Folds.{even-append, folded-add, joined_is, right_where_full}
use Rattle.net_bytes.specs.Bytes.{byte, be16, put16, part, bytes16}
use Rattle.frame_layout.specs.Candidate.{pseudo, pseudo_header, ip4_sum, tcp_sum}
use Rattle.frame_layout.specs.declared.layout.Header.{Header}
use Rattle.frame_layout.specs.declared.layout.Layer.{Layer}
use Rattle.frame_layout.specs.declared.layout.Layer.TheVariants.{Ip4, Ip6}
use Rattle.frame_layout.specs.Front.{AreAddressesWithin}
use Rattle.frame_layout.proofs.Zeroed.{zeroed_split, pseudo_even, same_part_long, same_pseudo}

-- what a field adds to the words of a list
with_field : (xs : List ℕ) (o : ℕ) → o + 2 ≤ length xs → o % 2 ≡ 0 → word_sum xs ≡ word_sum (put16 xs o 0) + be16 xs o
with_field xs o h even =
    let front : length (take o xs) % 2 ≡ 0 = omega (arith, length-take o xs) in
    let two : o + 1 + 1 ≡ o + 2 = omega arith in
    let own : drop o xs ≡ byte xs o ∷ byte xs (o + 1) ∷ drop (o + 2) xs
    = drop_more xs o 0 (omega arith) ∙ ap (λ z. byte xs o ∷ z) (drop_more xs (o + 1) 0 (omega arith) ∙ ap (λ z. byte xs (o + 1) ∷ drop z xs) two) in
    let all : word_sum xs ≡ word_sum (take o xs) + word_sum (byte xs o ∷ byte xs (o + 1) ∷ drop (o + 2) xs)
    = ap word_sum (sym (take-append-drop o xs)) ∙ even-append (take o xs) (drop o xs) front ∙ ap (λ z. word_sum (take o xs) + word_sum z) own in
    let none : word_sum (put16 xs o 0) ≡ word_sum (take o xs) + word_sum (0 ∷ 0 ∷ drop (o + 2) xs)
    = ap word_sum (zeroed_split xs o h) ∙ even-append (take o xs) (0 ∷ 0 ∷ drop (o + 2) xs) front in
    omega (arith, all, none)

-- a field within a part of a list
part_field : (h : List ℕ) (at n o : ℕ) → o + 2 ≤ n → be16 (part h at n) o ≡ be16 h (at + o)
part_field h at n o b =
    let next : at + (o + 1) ≡ at + o + 1 = omega arith in
    omega (
      arith,
      get_or-take n (drop at h) o 0 (omega arith),
      get_or-take n (drop at h) (o + 1) 0 (omega arith),
      get_or-drop at h o 0,
      get_or-drop at h (o + 1) 0 ∙ ap (byte h) next,
    )

-- addresses that are there are there in more bytes
more_addresses : (m n : ℕ) (l : Layer) (at : ℕ) → m ≤ n → AreAddressesWithin m l at → AreAddressesWithin n l at
more_addresses m n Ip4 at h a = omega arith
more_addresses m n Ip6 at h a = omega arith
more_addresses m n _ at h a = tt

-- the sum of an IPv4 header stands in it exactly where all of its words have the fold 65535
pub ip4_right : (h : List ℕ) (at n : ℕ) → at + 20 ≤ length h → be16 h (at + 10) < 65535 → folded n ≡ fold_of (part h at 20)
    → (folded n == 65535) ≡ (be16 h (at + 10) == ip4_sum h at)
ip4_right h at n fits small e =
    let xs : List ℕ = part h at 20 in
    let long : 10 + 2 ≤ length xs = omega (arith, length-take 20 (drop at h), length-drop at h) in
    let words : word_sum xs ≡ word_sum (put16 xs 10 0) + be16 h (at + 10)
    = with_field xs 10 long refl ∙ ap (λ z. word_sum (put16 xs 10 0) + z) (part_field h at 20 10 (omega arith)) in
    ap (λ z. z == 65535) (e ∙ ap folded words) ∙ right_where_full (word_sum (put16 xs 10 0)) (be16 h (at + 10)) small

-- IPv4's addresses and what they stand in front of are summed as one list
pub close_total : (h : List ℕ) (ip : Header) (protocol at end n a : ℕ) → ip.layer ≡ Ip4 → at ≡ ip.at + 20 → at ≤ end → end ≤ length h
    → folded a ≡ fold_of (take (end - (at - 8)) (drop (at - 8) h))
    → folded (a + protocol + n) ≡ fold_of (pseudo h ip protocol n ++ part h at (end - at))
close_total h ip protocol at end n a layer place inside fits e =
    let x : List ℕ = part h (ip.at + 12) 8 in
    let t : List ℕ = 0 ∷ protocol ∷ bytes16 n in
    let y : List ℕ = part h at (end - at) in
    let from : at - 8 ≡ ip.at + 12 = omega (arith, place) in
    let long : end - (at - 8) ≡ 8 + (end - at) = omega (arith, place, inside) in
    let next : ip.at + 12 + 8 ≡ at = omega (arith, place) in
    let all : take (end - (at - 8)) (drop (at - 8) h) ≡ x ++ y
    = ap (λ z. take (end - (at - 8)) (drop z h)) from ∙ ap (λ z. take z (drop (ip.at + 12) h)) long
    ∙ take-add 8 (end - at) (drop (ip.at + 12) h)
    ∙ ap (λ z. x ++ take (end - at) z) (drop-drop 8 (ip.at + 12) h ∙ ap (λ z. drop z h) next) in
    let lx : length x ≡ 8 = omega (arith, length-take 8 (drop (ip.at + 12) h), length-drop (ip.at + 12) h) in
    let ex : length x % 2 ≡ 0 = omega (arith, lx) in
    let et : length (x ++ t) % 2 ≡ 0 = omega (arith, lx, length-append x t) in
    let g : a + protocol + n ≡ a + (protocol + n) = omega arith in
    let words : word_sum (x ++ y) + (protocol + n) ≡ word_sum ((x ++ t) ++ y)
    = omega (arith, even-append x y ex, even-append (x ++ t) y et, even-append x t ex) in
    let own : x ++ t ≡ pseudo h ip protocol n = ap (λ l. pseudo_header h l ip.at protocol n) (sym layer) in
    ap folded g
    ∙ sym (folded-add a (protocol + n))
    ∙ ap (λ z. folded (z + folded (protocol + n))) (e ∙ ap fold_of all)
    ∙ folded-add (word_sum (x ++ y)) (protocol + n)
    ∙ ap folded words
    ∙ ap (λ z. fold_of (z ++ y)) own

-- the fold of the pseudo header, of the first bytes of what it is of, and of what is behind these
pub whole_total : (h : List ℕ) (ip : Header) (protocol at end n a behind : ℕ) (rest : List ℕ) → at ≤ end → end ≤ length h
    → AreAddressesWithin (length h) ip.layer ip.at
    → folded a ≡ fold_of (pseudo h ip protocol n ++ part h at (end - at)) → behind ≡ fold_of rest
    → joined_fold ((end - at) % 2 == 1) (folded a) behind ≡ fold_of ((pseudo h ip protocol n ++ part h at (end - at)) ++ rest)
whole_total h ip protocol at end n a behind rest inside fits addresses ea eb =
    let x : List ℕ = pseudo h ip protocol n in
    let y : List ℕ = part h at (end - at) in
    let even : length x % 2 ≡ 0 = pseudo_even h ip.layer ip.at protocol n addresses in
    let ly : length y ≡ end - at = omega (arith, length-take (end - at) (drop at h), length-drop at h) in
    let parity : (length (x ++ y) % 2 == 1) ≡ ((end - at) % 2 == 1) = ap (λ z. z == 1) (omega (arith, length-append x y, even, ly)) in
    ap (λ z. joined_fold z (folded a) behind) (sym parity) ∙ joined_is (x ++ y) rest (folded a) behind (length (x ++ y)) ea eb refl

-- these are all that the sum is of
whole_is : (h f : List ℕ) (ip : Header) (protocol at end n : ℕ) → at ≤ end → end ≤ length h → length h ≤ length f
    → AreAddressesWithin (length h) ip.layer ip.at → n ≡ length f - at
    → ((k : ℕ) → k < length h → byte f k ≡ byte h k)
    → (pseudo h ip protocol n ++ part h at (end - at)) ++ drop end f ≡ pseudo f ip protocol (length f - at) ++ drop at f
whole_is h f ip protocol at end n inside fits long addresses e begins =
    let same : part h at (end - at) ≡ part f at (end - at) = same_part_long h f at (end - at) (omega arith)
    (omega arith) (λ k a b. sym (begins k (omega arith))) in
    append_assoc (pseudo h ip protocol n) (part h at (end - at)) (drop end f)
    ∙ ap (λ z. pseudo h ip protocol n ++ (z ++ drop end f)) same
    ∙ ap (λ z. pseudo h ip protocol n ++ z) (sym (drop_split f at end inside))
    ∙ ap (λ z. z ++ drop at f) (same_pseudo h f ip.layer ip.at protocol n addresses long begins)
    ∙ ap (λ z. pseudo f ip protocol z ++ drop at f) e

-- TCP's sum stands in its field exactly where all words have the fold 65535
pub tcp_right : (h f : List ℕ) (ip : Header) (at end n a behind : ℕ) → at + 20 ≤ end → end ≤ length h → length h ≤ length f
    → AreAddressesWithin (length h) ip.layer ip.at → n ≡ length f - at
    → ((k : ℕ) → k < length h → byte f k ≡ byte h k)
    → be16 h (at + 16) < 65535
    → a ≡ joined_fold ((end - at) % 2 == 1) behind (fold_of (drop end f))
    → behind ≡ fold_of (pseudo h ip 6 n ++ part h at (end - at))
    → (a == 65535) ≡ (be16 h (at + 16) == tcp_sum f ip at)
tcp_right h f ip at end n a behind inside fits long addresses e begins small ea eb =
    let x : List ℕ = pseudo f ip 6 (length f - at) in
    let xs : List ℕ = drop at f in
    let within : AreAddressesWithin (length f) ip.layer ip.at = more_addresses (length h) (length f) ip.layer ip.at long addresses in
    let even : length x % 2 ≡ 0 = pseudo_even f ip.layer ip.at 6 (length f - at) within in
    let next : at + 16 + 1 ≡ at + 17 = omega arith in
    let field : be16 xs 16 ≡ be16 h (at + 16) = omega (
      arith,
      get_or-drop at f 16 0,
      get_or-drop at f 17 0,
      begins (at + 16) (omega arith),
      begins (at + 17) (omega arith),
      ap (byte h) next,
    ) in
    let words : word_sum (x ++ xs) ≡ word_sum (x ++ put16 xs 16 0) + be16 h (at + 16)
    = omega (
      arith,
      even-append x xs even,
      even-append x (put16 xs 16 0) even,
      with_field xs 16 (omega (arith, length-drop at f)) refl,
      field,
    ) in
    let all : a ≡ folded (word_sum (x ++ xs))
    = ea ∙ ap (λ z. joined_fold ((end - at) % 2 == 1) z (fold_of (drop end f))) eb
    ∙ whole_total h ip 6 at end n (word_sum (pseudo h ip 6 n ++ part h at (end - at))) (fold_of (drop end f)) (drop end f)
    (omega arith) fits addresses refl refl
    ∙ ap fold_of (whole_is h f ip 6 at end n (omega arith) fits long addresses e begins) in
    ap (λ z. z == 65535) (all ∙ ap folded words) ∙ right_where_full (word_sum (x ++ put16 xs 16 0)) (be16 h (at + 16)) small
