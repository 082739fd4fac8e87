-- Bytes that count up.
use Rattle.std.proofs.Common.{◌≡◌, ℕ, ◌+◌, ◌-◌, ◌<◌, ◌≤◌, ◌%◌, List, [], ◌++◌, length, get_or, take, drop, zero-add, sym, ap, ◌∙◌, arith}
use Rattle.std.proofs.lemmas.List.{append-nil, drop_all, drop_at, length-drop, length-take-le}
use borrow.Rule.Slice.PartMut.{put_mid}
use Rattle.std.proofs.Math.Nat.{mod-add-mod}
use Rattle.std.proofs.lemmas.List.FromFn.{fill_by_all, length-map-range_with_len, get_or-map-range_with_len}
use Rattle.cap_make.specs.Frames.{counting}

pub length-counting : (first len : ℕ) → length (counting first len) ≡ len
unfolding counting
length-counting first len = length-map-range_with_len (λ k. (first + k) % 256) 0 len

-- a list that holds at each place what counting gives there
pub counted : (first : ℕ) (xs : List ℕ) (n : ℕ) → length xs ≡ n → ((k : ℕ) → k < n → get_or xs k 0 ≡ (first + k) % 256) → xs ≡ counting first n
unfolding counting
counted first xs n e h = fill_by_all (λ k. (first + k) % 256) xs n 0 e h

at_counting : (first len k : ℕ) → k < len → get_or (counting first len) k 0 ≡ (first + k) % 256
unfolding counting
at_counting first len k h = get_or-map-range_with_len (λ k. (first + k) % 256) 0 len k k 0 h (zero-add k)

-- counting goes round at 256
pub counting-mod : (first len : ℕ) → counting (first % 256) len ≡ counting first len
counting-mod first len = counted first (counting (first % 256) len) len (length-counting (first % 256) len) (λ k h. at_counting (first % 256) len k h ∙ mod-add-mod first 256 k)

-- numbers that are one by 256 count alike
pub counting-same : (a b len : ℕ) → a % 256 ≡ b % 256 → counting a len ≡ counting b len
counting-same a b len e = sym (counting-mod a len) ∙ ap (λ z. counting z len) e ∙ counting-mod b len

-- what stands in a buffer behind the place from which it was counted up
pub started : (xs ys : List ℕ) (len first n : ℕ) → length xs ≡ 1320 → len ≤ 1320 → ys ≡ counting (first % 256) n → n ≡ len
    → drop (1320 - len) (put_mid (1320 - len) (1320 - (1320 - len)) xs ys) ≡ counting first len
started xs ys len first n all fits e same =
    let a = 1320 - len in
    let k = 1320 - (1320 - len) in
    let none : drop k (drop a xs) ≡ [] = drop_all k (drop a xs) (omega (arith, length-drop a xs)) in
    let front : length (take a xs) ≡ a = length-take-le a xs (omega arith) in
    ap (λ z. drop a (take a xs ++ (ys ++ z))) none
    ∙ ap (λ z. drop a (take a xs ++ z)) (append-nil ys)
    ∙ drop_at (take a xs) ys a front
    ∙ e ∙ ap (λ z. counting (first % 256) z) same ∙ counting-mod first len

pub room : (xs : List ℕ) (len : ℕ) → length xs ≡ 1320 → len ≤ 1320 → length (take (1320 - (1320 - len)) (drop (1320 - len) xs)) ≡ len
room xs len all fits = length-take-le (1320 - (1320 - len)) (drop (1320 - len) xs) (omega (arith, length-drop (1320 - len) xs)) ∙ omega arith
