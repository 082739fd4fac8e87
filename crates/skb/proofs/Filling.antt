-- Blocks that are filled one after another with a buffer's bytes.
use Rattle.std.proofs.Common.{◌≡◌, ℕ, Bool, ◌+◌, ◌-◌, ◌*◌, ◌<◌, ◌≤◌, List, [], ◌∷◌, ◌++◌, length, min, take, drop}
use Rattle.std.proofs.Common.{slice_range, refl, sym, ap, ◌∙◌, append_assoc, append-nil, arith, length-append}
use Rattle.std.proofs.lemmas.List.{drop-drop, take-append-drop, take-append-le}
use Rattle.block_weight.specs.WeightRule.{full_weight}
use Rattle.raw_block.specs.Views.{SoleState, PartState}
use Rattle.frags.specs.Account.{every, counted, at_home, soles_home}
use Rattle.frags.specs.PieceList.{bytes_of, size_of, pieces_held, least_weight}
use Rattle.frags.specs.declared.pieces.Piece.{Piece}
use Rattle.frags.proofs.Accounts.{soles_home-append, pieces_held-append}
use Rattle.frags.proofs.PieceBytes.{size_of-append}
use Rattle.frags.proofs.Joining.{bytes_of-append}
use Rattle.frags.specs.declared.holder.Holder.TheVariants.{Sole}
use Rattle.std.specs.Prelude.{Ok}
use Rattle.skb.specs.SkbState.{SkbState, buffer_bytes, buffer_size, is_sole, of_buffer}
use Rattle.skb.specs.Copy.{IsCopy, IsNextBlock, blocks_for, copy_need}

-- what is done and what is left, of the bytes from `from` on and the spares `first`
pub record Filled (a : SkbState) (from : ℕ) (first : List SoleState) (at room : ℕ) (s : List SoleState) (c : List Piece) : Type 0 where
  pub within : at ≤ buffer_size a
  pub bytes : bytes_of c ++ drop at (buffer_bytes a) ≡ drop from (buffer_bytes a)
  pub size : size_of c + (buffer_size a - at) ≡ buffer_size a - from
  pub count : length c + blocks_for (buffer_size a - at) ≡ blocks_for (buffer_size a - from)
  pub places : blocks_for (buffer_size a - at) ≤ room
  pub enough : blocks_for (buffer_size a - at) ≤ length s
  pub whole : least_weight c ≡ full_weight
  pub spares : take (length s - blocks_for (buffer_size a - at)) s ≡ take (length first - blocks_for (buffer_size a - from)) first
  pub marks : (bs : ℕ → Bool) (m : ℕ) → pieces_held (every bs) m c + full_weight * soles_home bs m s ≡ full_weight * soles_home bs m first

pub least_weight-behind : (c : List Piece) (x : Piece) → x.part.weight ≡ full_weight → least_weight (c ++ x ∷ []) ≡ least_weight c
least_weight-behind [] x e = omega arith
least_weight-behind (p ∷ ps) x e = ap (λ (w : ℕ). min p.part.weight w) (least_weight-behind ps x e)

pub one_block_less : (k n : ℕ) → 0 < k → n ≡ min k 2048 → blocks_for (k - n) + 1 ≡ blocks_for k
one_block_less k n pos e = omega arith

pub next_bytes : (xs ys : List ℕ) (at n : ℕ) (c d : List Piece) (x : Piece) → slice_range x.part.bytes x.from x.to
    ≡ slice_range xs at (at + n) → d ≡ c ++ x ∷ [] → bytes_of c ++ drop at xs ≡ ys → bytes_of d ++ drop (at + n) xs ≡ ys
next_bytes xs ys at n c d x e f g =
    let u : (at + n) - at ≡ n = omega arith in
    let block : List ℕ = slice_range x.part.bytes x.from x.to in
    let b : block ≡ take n (drop at xs) = e ∙ ap (λ (i : ℕ). take i (drop at xs)) u in
    let h : bytes_of d ≡ bytes_of c ++ block = ap bytes_of f ∙ bytes_of-append c (x ∷ [])
    ∙ ap (λ (z : List ℕ). bytes_of c ++ z) (append-nil block) in
    let r : block ++ drop (at + n) xs ≡ drop at xs = ap (λ (z : List ℕ). z ++ drop (at + n) xs) b
    ∙ ap (λ (z : List ℕ). take n (drop at xs) ++ z) (sym (drop-drop n at xs)) ∙ take-append-drop n (drop at xs) in
    ap (λ (z : List ℕ). z ++ drop (at + n) xs) h ∙ append_assoc (bytes_of c) block (drop (at + n) xs)
    ∙ ap (λ (z : List ℕ). bytes_of c ++ z) r ∙ g

pub whole_marks : (bs : ℕ → Bool) (m : ℕ) (p : PartState) (b : SoleState) → p.life.block ≡ b.block → p.mark ≡ b.mark
    → p.weight ≡ full_weight → counted (every bs) m p.life p.mark p.weight ≡ full_weight * at_home bs m b.block b.mark
whole_marks bs m p b o e f =
    let u : counted (every bs) m p.life p.mark p.weight ≡ counted (every bs) m p.life b.mark full_weight = cc (e, f) in
    let v : counted (every bs) m p.life b.mark full_weight ≡ full_weight * at_home bs m b.block b.mark = grind arith in
    u ∙ v

pub filled_next : (a : SkbState) (from : ℕ) (first : List SoleState) (at room end less : ℕ) (s t : List SoleState)
    (c d : List Piece) → Filled a from first at room s c → at < buffer_size a → end ≡ at + min (buffer_size a - at) 2048
    → less + 1 ≡ room → IsNextBlock a at s c t d → Filled a from first end less t d
filled_next a from first at room end less s t c d h lt e r w =
    let n : ℕ = min (buffer_size a - at) 2048 in
    let b = w.0 in
    let p = w.1.0 in
    let k = w.1.1 in
    let x : Piece = record { part = p; from = 0; to = n } in
    let i = h.within in
    let hs = h.size in
    let hc = h.count in
    let hp = h.places in
    let he = h.enough in
    let left : buffer_size a - end ≡ (buffer_size a - at) - n = omega arith in
    let o : blocks_for ((buffer_size a - at) - n) + 1 ≡ blocks_for (buffer_size a - at) =
    one_block_less (buffer_size a - at) n (omega arith) refl in
    let o2 : blocks_for (buffer_size a - end) + 1 ≡ blocks_for (buffer_size a - at) = ap (λ (z : ℕ). blocks_for z + 1) left ∙ o in
    let ls : length s ≡ length t + 1 = ap length k.0 ∙ length-append t (b ∷ []) in
    let lc : length d ≡ length c + 1 = ap length k.4 ∙ length-append c (x ∷ []) in
    let sc = ap size_of k.4 ∙ size_of-append c (x ∷ []) in
    let j : ℕ = length t - blocks_for (buffer_size a - end) in
    let q : length s - blocks_for (buffer_size a - at) ≡ j = omega arith in
    record {
      within = omega arith;
      bytes = ap (λ (z : ℕ). bytes_of d ++ drop z (buffer_bytes a)) e
          ∙ next_bytes (buffer_bytes a) (drop from (buffer_bytes a)) at n c d x k.3 k.4 h.bytes;
      size = omega arith;
      count = omega arith;
      places = omega arith;
      enough = omega arith;
      whole = ap least_weight k.4 ∙ least_weight-behind c x k.2 ∙ h.whole;
      spares = sym (take-append-le j t (b ∷ []) (omega arith)) ∙ sym (ap (λ (z : List SoleState). take j z) k.0)
          ∙ sym (ap (λ (z : ℕ). take z s) q) ∙ h.spares;
      marks = λ bs m.
          let f = ap (soles_home bs m) k.0 ∙ soles_home-append bs m t (b ∷ []) in
          let g = ap (pieces_held (every bs) m) k.4 ∙ pieces_held-append (every bs) m c (x ∷ []) in
          let v = whole_marks bs m p b k.5 k.1 k.2 in
          let hm = h.marks bs m in
          omega arith;
    }

-- a head's block and blocks behind it, from the end of the spares
pub copied : (a c : SkbState) (s u t : List SoleState) (b x : SoleState) (k : ℕ) (r : List Piece) → s ≡ u ++ b ∷ [] → k
    ≡ min (buffer_size a) 1984 → slice_range x.bytes 64 (64 + k) ≡ slice_range (buffer_bytes a) 0 (0 + k) → bytes_of r
    ≡ drop k (buffer_bytes a) → length r ≡ blocks_for (buffer_size a - k) → least_weight r ≡ full_weight
    → t ≡ take (length u - blocks_for (buffer_size a - k)) u → c ≡ record {
      head = Sole x;
      from = 64;
      to = 64 + k;
      rest = r;
    } → copy_need a ≤ length s → IsCopy a s t (Ok c)
copied a c s u t b x k r es ek ex er el ew et ec need =
    let ls : length s ≡ length u + 1 = ap length es ∙ length-append u (b ∷ []) in
    let o : blocks_for (buffer_size a - k) + 1 ≡ copy_need a = omega arith in
    let j : ℕ = length u - blocks_for (buffer_size a - k) in
    let q : length s - copy_need a ≡ j = omega arith in
    let z : (0 + k) - 0 ≡ k = omega arith in
    let h : slice_range x.bytes 64 (64 + k) ≡ take k (buffer_bytes a) = ex ∙ ap (λ (i : ℕ). take i (buffer_bytes a)) z in
    let e : slice_range x.bytes 64 (64 + k) ++ bytes_of r ≡ buffer_bytes a = ap (λ (y : List ℕ). y ++ bytes_of r) h
    ∙ ap (λ (y : List ℕ). take k (buffer_bytes a) ++ y) er ∙ take-append-drop k (buffer_bytes a) in
    let l = ap (λ (y : SkbState). length y.rest) ec in (
      need,
      et ∙ sym (take-append-le j u (b ∷ []) (omega arith)) ∙ sym (ap (λ (y : List SoleState). take j y) es)
          ∙ sym (ap (λ (i : ℕ). take i s) q),
      ap buffer_bytes ec ∙ e,
      ap (λ (y : SkbState). y.from) ec,
      ap (λ (y : SkbState). y.to) ec ∙ ap (λ (i : ℕ). 64 + i) ek,
      ap (λ (y : SkbState). is_sole y.head) ec,
      ap (λ (y : SkbState). least_weight y.rest) ec ∙ ew,
      omega arith,
    )

pub copied_marks : (bs : ℕ → Bool) (m : ℕ) (c : SkbState) (s u t : List SoleState) (b x : SoleState) (k : ℕ)
    (r : List Piece) → s ≡ u ++ b ∷ [] → x.block ≡ b.block → x.mark ≡ b.mark → c
    ≡ record { head = Sole x; from = 64; to = 64 + k; rest = r }
    → pieces_held (every bs) m r + full_weight * soles_home bs m t ≡ full_weight * soles_home bs m u
    → (of_buffer c).held (every bs) m + full_weight * ((of_buffer c).homes bs m + soles_home bs m t) ≡ full_weight * soles_home bs m s
copied_marks bs m c s u t b x k r es eo ex ec h =
    let f = ap (soles_home bs m) es ∙ soles_home-append bs m u (b ∷ []) in
    let g = ap (λ (y : SkbState). (of_buffer y).held (every bs) m) ec in
    let i = ap (λ (y : SkbState). (of_buffer y).homes bs m) ec in
    let n : at_home bs m x.block x.mark ≡ at_home bs m b.block b.mark = cc (eo, ex) in
    omega arith
