-- The bytes of a buffer whose ends are cut.
use Rattle.std.proofs.Common.{◌≡◌, ℕ, ◌+◌, ◌-◌, ◌<◌, ◌≤◌, List, [], ◌∷◌, ◌++◌, Bool, true, false, length, min, take}
use Rattle.std.proofs.Common.{slice_range, append_assoc, append-nil, refl, sym, ap, ◌∙◌, arith}
use Rattle.std.proofs.lemmas.Bool.{cond_both}
use borrow.Author.Tests.{ltb-true, ltb-false}
use lib.Dec.{ltb}
use Rattle.frags.specs.Holders.{block}
use Rattle.frags.specs.PieceList.{bytes_of, size_of, cut_front}
use Rattle.frags.specs.declared.pieces.Piece.{Piece}
use Rattle.frags.specs.declared.holder.Holder.{Holder}
use Rattle.frags.proofs.Joining.{part_block}
use Rattle.frags.proofs.Splits.{halves}
use Rattle.raw_block.specs.Views.{PartState}
use Rattle.skb.specs.Cut.{KeepsGift}
use Rattle.skb.specs.SkbState.{SkbState, buffer_bytes, buffer_size, head_size}
use Rattle.skb.proofs.Buffers.{trim_rest, trim_head}

pub by_bool : (P : Type 0) (v : Bool) → (v ≡ true → P) → (v ≡ false → P) → P
by_bool P true f g = f refl
by_bool P false f g = g refl

pub by_le : (P : Type 0) (a b : ℕ) → (a ≤ b → P) → (b ≤ a → P) → P
by_le P a b f g = by_bool P (ltb a b) (λ e. let h = ltb-true a b e in f (omega arith)) (λ e. g (ltb-false a b e))

pub trimmed : (f : SkbState) (r : List Piece) (n k : ℕ) → length (block f.head) ≡ 2048 → f.to ≤ 2048 → f.from ≤ f.to → k
    ≡ min n (size_of f.rest) → n ≤ buffer_size f → bytes_of r ≡ take (size_of f.rest - k) (bytes_of f.rest)
    → buffer_bytes (record f { to = f.to - (n - k); rest = r }) ≡ take (buffer_size f - n) (buffer_bytes f)
trimmed f r n k h t o e s g =
    let P : Type 0 = buffer_bytes (record f { to = f.to - (n - k); rest = r }) ≡ take (buffer_size f - n) (buffer_bytes f) in
    by_le P n (size_of f.rest)
    (λ l. let u : k ≡ n = omega arith in let v : f.to - (n - k) ≡ f.to = omega arith in
    let w : bytes_of r ≡ take (size_of f.rest - n) (bytes_of f.rest) = g ∙ ap (λ (i : ℕ). take (size_of f.rest - i) (bytes_of f.rest)) u in
    ap (λ (i : ℕ). buffer_bytes (record f { to = i; rest = r })) v ∙ trim_rest f r n h t l w)
    (λ l. let u : k ≡ size_of f.rest = omega arith in let z : size_of f.rest - k ≡ 0 = omega arith in
    let w : bytes_of r ≡ [] = g ∙ ap (λ (i : ℕ). take i (bytes_of f.rest)) z in
    ap (λ (i : ℕ). buffer_bytes (record f { to = f.to - (n - i); rest = r })) u ∙ trim_head f r n h o t l s w)

pub size_of-cut : (n : ℕ) (ps : List Piece) → n ≤ size_of ps → size_of (cut_front n ps) + n ≡ size_of ps
size_of-cut n [] h = omega arith
size_of-cut n (p ∷ ps) h =
    let s : ℕ = p.to - p.from in
    cond_both (ltb n s) (record p { from = p.from + n } ∷ ps) (cut_front (n - s) ps) (λ (z : List Piece). size_of z + n ≡ size_of (p ∷ ps))
    (λ e. let l = ltb-true n s e in omega arith)
    (λ e. let l = ltb-false n s e in let i = size_of-cut (n - s) ps (omega arith) in omega arith)

-- both halves of a head that is cut, and the pieces after it
pub cut_head : (f : SkbState) (n : ℕ) (k : Holder) (r : PartState) (rest c : List Piece) → KeepsGift f.head k r
    → n < head_size f → rest ≡ [] → c ≡ (record { part = r; from = f.from + n; to = f.to }) ∷ f.rest
    → buffer_bytes f ≡ buffer_bytes (record { head = k; from = f.from; to = f.from + n; rest = rest }) ++ bytes_of c
cut_head f n k r rest c w lt er ec =
    let p : PartState = w.0 in
    let x : Piece = record { part = p; from = f.from; to = f.to } in
    let after : List ℕ = bytes_of f.rest in
    let a : List ℕ = slice_range p.bytes f.from (f.from + n) in
    let b : List ℕ = slice_range p.bytes (f.from + n) f.to in
    let pb : p.bytes ≡ block f.head = part_block f.head p w.1.0 in
    let ek : slice_range (block k) f.from (f.from + n) ≡ a = ap (λ (z : Holder). slice_range (block z) f.from (f.from + n)) w.1.2 in
    let eb : bytes_of c ≡ b ++ after = ap bytes_of ec ∙ ap (λ (z : PartState). slice_range z.bytes (f.from + n) f.to ++ after) w.1.3 in
    let en : bytes_of rest ≡ [] = ap bytes_of er in
    let front : slice_range (block k) f.from (f.from + n) ++ bytes_of rest
    ≡ a = ap (λ (z : List ℕ). slice_range (block k) f.from (f.from + n) ++ z) en
    ∙ append-nil (slice_range (block k) f.from (f.from + n)) ∙ ek in
    ap (λ (z : List ℕ). slice_range z f.from f.to ++ after) (sym pb) ∙ ap (λ (z : List ℕ). z ++ after) (halves x n lt)
    ∙ append_assoc a b after
    ∙ ap (λ (z : List ℕ). a ++ z) (sym eb) ∙ ap (λ (z : List ℕ). z ++ bytes_of c) (sym front)
