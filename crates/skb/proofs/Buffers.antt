-- How a buffer's calls keep its bytes and its account.
use Rattle.std.proofs.Common.{◌≡◌, ℕ, ◌+◌, ◌-◌, ◌*◌, ◌<◌, ◌≤◌, List, [], ◌∷◌, ◌++◌, Bool, false, length, take, drop}
use Rattle.std.proofs.Common.{slice_range, refl, ap, sym, append_assoc, ◌∙◌, zero, suc, arith, length-drop}
use Rattle.std.proofs.lemmas.List.{length-take, drop-append-le, drop-take, drop-drop, append-nil, length-take-le}
use Rattle.std.proofs.lemmas.List.{take-append-le}
use Rattle.std.proofs.Math.Seq.{drop-append-add, take-append-add, take-append_seam}
use Rattle.std.specs.Prelude.{Ok, ◌≢◌, cond, ◌==◌}
use Rattle.std.proofs.lemmas.Bool.{cond_both, true≢false}
use borrow.Author.Tests.{eqb-true}
use lib.Dec.{eqb}
use Rattle.block_weight.specs.WeightRule.{full_weight}
use Rattle.raw_block.specs.Views.{SoleState, PartState}
use Rattle.frags.specs.OutcomesState.{OutcomesState}
use Rattle.frags.specs.Account.{Tests, Keeps, KeepsMarks, both, every, counted, at_home, of_part, of_sole, of_holder, of_outcomes}
use Rattle.frags.specs.Gifts.{gift, less, gave}
use Rattle.frags.specs.Holders.{block, AsPart}
use Rattle.frags.specs.PieceList.{bytes_of, size_of, pieces_held}
use Rattle.frags.specs.declared.pieces.Piece.{Piece}
use Rattle.frags.specs.declared.holder.Holder.{Holder}
use Rattle.frags.specs.declared.holder.Holder.TheVariants.{Sole, Part}
use Rattle.frags.proofs.Accounts.{counted-le, pieces_held-append}
use Rattle.frags.proofs.Joining.{released_keeps, part_block, bytes_of-append}
use Rattle.skb.specs.SkbState.{SkbState, is_sole, written, written_head, tailroom, IsPut, Owned, of_buffer, of_unshared}
use Rattle.skb.specs.SkbState.{buffer_bytes, buffer_size, head_bytes, Attaches, IsLent, Gives}
use Rattle.skb.specs.declared.sharing.Unshared.{Unshared}
use Rattle.skb.specs.declared.sharing.Unshared.TheVariants.{Unused, Gave}

pub owned_keeps : (a : Holder) (s : SoleState) (h : Holder) (u : Unshared) → Owned a s h u
    → Keeps (both (of_holder a) (of_sole s)) (both (of_holder h) (of_unshared u))
owned_keeps (Sole b) s (Sole x) (Unused u) k t m =
    let e = ap (λ (z : SoleState). at_home t.blocks m z.block z.mark) k.0 in
    let f = ap (λ (z : SoleState). at_home t.blocks m z.block z.mark) k.1 in
    (omega arith, omega arith)
owned_keeps (Part p) s (Sole x) (Unused u) k t m =
    let e : at_home t.blocks m x.block x.mark ≡ at_home t.blocks m p.life.block p.mark = cc (k.4, k.1) in
    let f = ap (λ (z : SoleState). at_home t.blocks m z.block z.mark) k.2 in
    let c = counted-le t m p.life p.mark p.weight k.3 in
    (omega arith, omega arith)
owned_keeps (Part p) s (Sole x) (Gave r n) k t m =
    let e : at_home t.blocks m x.block x.mark ≡ at_home t.blocks m s.block s.mark = cc (k.6, k.1) in
    let g = k.4 in let l = k.5 in
    let f = released_keeps p r (omega arith) k.2 t m in
    (omega arith, omega arith)
owned_keeps (Sole b) s (Sole x) (Gave r n) k t m = absurd k
owned_keeps (Sole b) s (Part x) u k t m = absurd k
owned_keeps (Part p) s (Part x) u k t m = absurd k

pub unshared_keeps : (a b : SkbState) (s : SoleState) (u : Unshared) → Owned a.head s b.head u → b.rest ≡ a.rest
    → Keeps (both (of_buffer a) (of_sole s)) (both (of_buffer b) (of_unshared u))
unshared_keeps a b s u k e t m =
    let h = owned_keeps a.head s b.head u k t m in
    let f = ap (pieces_held t m) e in
    (omega arith, omega arith)

pub lent_gives : (a h q : Holder) (g : PartState) → IsLent a h → Gives h q g → (block q ≡ block a) × (g.bytes ≡ block a)
lent_gives (Sole s) (Part p) (Part q) g l k = (ap (λ (z : PartState). z.bytes) k.0 ∙ l.2, ap (λ (z : PartState). z.bytes) k.1 ∙ l.2)
lent_gives (Part r) (Part p) (Part q) g l k = (
  ap (λ (z : PartState). z.bytes) (k.0)
      ∙ ap (λ (z : PartState). z.bytes) l,
  ap (λ (z : PartState). z.bytes) k.1 ∙ ap (λ (z : PartState). z.bytes) l,
)
lent_gives a (Part p) (Sole s) g l k = absurd k
lent_gives a (Sole s) q g l k = absurd l

-- the bytes of a buffer behind which another's pieces stand
pub joined_bytes : (a c : SkbState) (r : List Piece) → c.from ≡ c.to → r ≡ a.rest ++ c.rest
    → buffer_bytes (record a { rest = r }) ≡ buffer_bytes a ++ buffer_bytes c
joined_bytes a c r e f =
    let z : c.to - c.from ≡ 0 = omega arith in
    let h : head_bytes c ≡ [] = ap (λ (n : ℕ). take n (drop c.from (block c.head))) z in
    let g : buffer_bytes c ≡ bytes_of c.rest = ap (λ (x : List ℕ). x ++ bytes_of c.rest) h in
    let k : bytes_of r ≡ bytes_of a.rest ++ bytes_of c.rest = ap bytes_of f ∙ bytes_of-append a.rest c.rest in
    ap (λ (x : List ℕ). head_bytes a ++ x) k ∙ sym (append_assoc (head_bytes a) (bytes_of a.rest) (bytes_of c.rest))
    ∙ ap (λ (x : List ℕ). buffer_bytes a ++ x) (sym g)

pub taken_bytes : (a c : SkbState) (p : PartState) (r : List Piece) → p.bytes ≡ block c.head → r
    ≡ a.rest ++ (record { part = p; from = c.from; to = c.to }) ∷ c.rest → buffer_bytes (record a { rest = r })
    ≡ buffer_bytes a ++ buffer_bytes c
taken_bytes a c p r e f =
    let x : Piece = record { part = p; from = c.from; to = c.to } in
    let g : bytes_of (x ∷ c.rest) ≡ buffer_bytes c = ap (λ (z : List ℕ). slice_range z c.from c.to ++ bytes_of c.rest) e in
    let k : bytes_of r ≡ bytes_of a.rest ++ buffer_bytes c = ap bytes_of f ∙ bytes_of-append a.rest (x ∷ c.rest)
    ∙ ap (λ (z : List ℕ). bytes_of a.rest ++ z) g in
    ap (λ (z : List ℕ). head_bytes a ++ z) k ∙ sym (append_assoc (head_bytes a) (bytes_of a.rest) (buffer_bytes c))

pub joined_keeps : (a c : SkbState) (o q : OutcomesState) (r : List Piece) → r ≡ a.rest ++ c.rest
    → Keeps (both (of_holder c.head) (of_outcomes o)) (of_outcomes q)
    → Keeps (both (of_buffer a) (both (of_buffer c) (of_outcomes o)))
    (both (of_buffer (record a { rest = r })) (of_outcomes q))
joined_keeps a c o q r e k t m =
    let f = k t m in
    let g = ap (pieces_held t m) e ∙ pieces_held-append t m a.rest c.rest in
    (omega arith, omega arith)

pub attaches_joined : (a c : SkbState) (o q : OutcomesState) (r : List Piece) → c.from ≡ c.to → r ≡ a.rest ++ c.rest
    → Keeps (both (of_holder c.head) (of_outcomes o)) (of_outcomes q) → Attaches a c o (record a { rest = r }) q (Ok tt)
attaches_joined a c o q r e f k = (joined_bytes a c r e f, refl, refl, refl, (λ _. (f, joined_keeps a c o q r f k)), (λ n. absurd (n e)))

pub attaches_taken : (a c : SkbState) (o : OutcomesState) (r : List Piece) → c.from ≢ c.to
    → ((p : PartState) × (AsPart c.head p × (r ≡ a.rest ++ (record { part = p; from = c.from; to = c.to }) ∷ c.rest)))
    → Attaches a c o (record a { rest = r }) o (Ok tt)
attaches_taken a c o r n w = (
  taken_bytes a c w.0 r (part_block c.head w.0 w.1.0) w.1.1,
  refl,
  refl,
  refl,
  (λ e. absurd (n e)),
  (λ _. (refl, w)),
)

pub length-head : (f : SkbState) → length (block f.head) ≡ 2048 → f.to ≤ 2048 → length (head_bytes f) ≡ f.to - f.from
length-head f h k = omega (arith, length-take (f.to - f.from) (drop f.from (block f.head)), length-drop f.from (block f.head))

pub pull_head : (f : SkbState) (n : ℕ) → length (block f.head) ≡ 2048 → f.to ≤ 2048 → n ≤ f.to - f.from
    → buffer_bytes (record f { from = f.from + n }) ≡ drop n (buffer_bytes f)
pull_head f n h k e =
    let m : ℕ = f.to - (f.from + n) in
    let x : List ℕ = block f.head in
    let u : f.to - f.from ≡ n + m = omega arith in
    let l = length-head f h k in
    let j : n ≤ length (head_bytes f) = omega arith in
    let a : drop n (head_bytes f) ≡ head_bytes (record f { from = f.from + n }) =
    ap (λ (z : ℕ). drop n (take z (drop f.from x))) u ∙ drop-take n m (drop f.from x)
    ∙ ap (λ (z : List ℕ). take m z) (drop-drop n f.from x) in
    ap (λ (z : List ℕ). z ++ bytes_of f.rest) (sym a) ∙ sym (drop-append-le n (head_bytes f) (bytes_of f.rest) j)

pub pull_rest : (f : SkbState) (r : List Piece) (n : ℕ) → length (block f.head) ≡ 2048 → f.to ≤ 2048 → f.to - f.from ≤ n
    → bytes_of r ≡ drop (n - (f.to - f.from)) (bytes_of f.rest) → buffer_bytes (record f { from = f.to; rest = r })
    ≡ drop n (buffer_bytes f)
pull_rest f r n h k e g =
    let l = length-head f h k in
    let u : n ≡ length (head_bytes f) + (n - (f.to - f.from)) = omega arith in
    let z : f.to - f.to ≡ 0 = omega arith in
    let y : take (f.to - f.to) (drop f.to (block f.head)) ≡ [] = ap (λ (w : ℕ). take w (drop f.to (block f.head))) z in
    ap (λ (w : List ℕ). w ++ bytes_of r) y ∙ g ∙ sym (drop-append-add (head_bytes f) (bytes_of f.rest)
    (n - (f.to - f.from))) ∙ ap (λ (w : ℕ). drop w (buffer_bytes f)) (sym u)

-- what a part gives away and what it keeps is what it had
pub less_gave : (t : Tests) (m : ℕ) (p : PartState) → 1 < p.weight
    → counted t m p.life p.mark (less p).weight + counted t m p.life p.mark (gave p).weight
    ≡ counted t m p.life p.mark p.weight
less_gave t m p h = let g : gift p.weight ≤ p.weight = omega arith in grind arith

pub gives_sums : (t : Tests) (m : ℕ) (a h q : Holder) (g : PartState) → IsLent a h → Gives h q g
    → (of_holder q).held t m + (of_part g).held t m ≡ (of_holder h).held t m
gives_sums t m a (Part p) (Part q) g l k =
    let u = ap (λ (z : PartState). (of_part z).held t m) k.0 in
    let v = ap (λ (z : PartState). (of_part z).held t m) k.1 in
    let w = less_gave t m p k.2 in
    omega arith
gives_sums t m a (Part p) (Sole s) g l k = absurd k
gives_sums t m a (Sole s) q g l k = absurd l

pub lent_marks : (bs : ℕ → Bool) (m : ℕ) (a h : Holder) → IsLent a h → (of_holder h).held (every bs) m
    ≡ (of_holder a).held (every bs) m + full_weight * (of_holder a).homes bs m
lent_marks bs m (Sole s) (Part p) l =
    let u : counted (every bs) m p.life p.mark p.weight ≡ counted (every bs) m p.life s.mark full_weight = cc (l.0, l.3) in
    let v : counted (every bs) m p.life s.mark full_weight ≡ full_weight * at_home bs m s.block s.mark = let i = l.1 in grind arith in
    omega arith
lent_marks bs m (Part r) (Part p) l = let u = ap (λ (z : PartState). (of_part z).held (every bs) m) l in omega arith
lent_marks bs m a (Sole s) l = absurd l

-- the head's bytes and what is written behind them
pub written_behind : (b xs : List ℕ) (from to : ℕ) → from ≤ to → to ≤ length b
    → slice_range (written b to xs) from (to + length xs) ≡ slice_range b from to ++ xs
written_behind b xs from to h k =
    let m : ℕ = to - from in
    let tail : List ℕ = drop (to + length xs) b in
    let a : List ℕ = take to b in
    let la : length a ≡ to = length-take-le to b k in
    let u : to ≡ from + m = omega arith in
    let d : drop from (a ++ (xs ++ tail)) ≡ drop from a ++ (xs ++ tail) = drop-append-le from a (xs ++ tail) (omega arith) in
    let e : drop from a ≡ take m (drop from b) = ap (λ (n : ℕ). drop from (take n b)) u ∙ drop-take from m b in
    let x : List ℕ = take m (drop from b) in
    let lx : length x ≡ m = length-take-le m (drop from b) (omega (arith, length-drop from b)) in
    let n : (to + length xs) - from ≡ length x + length xs = omega arith in
    ap (λ (z : List ℕ). slice_range z from (to + length xs)) (append_assoc a xs tail)
    ∙ ap (λ (z : List ℕ). take ((to + length xs) - from) z) (d ∙ ap (λ (z : List ℕ). z ++ (xs ++ tail)) e)
    ∙ ap (λ (j : ℕ). take j (x ++ (xs ++ tail))) n ∙ take-append-add x (xs ++ tail) (length xs)
    ∙ ap (λ (z : List ℕ). x ++ z) (take-append_seam xs tail)

pub no_room : (p : Piece) (ps : List Piece) (n : ℕ) → cond (length (p ∷ ps) == 0) n 0 ≡ 0
no_room p ps n = cond_both (eqb (length (p ∷ ps)) 0) n 0 (λ (z : ℕ). z ≡ 0)
    (λ e. let f : length (p ∷ ps) ≡ 0 = eqb-true (length (p ∷ ps)) 0 e in absurd (omega arith)) (λ e. refl)

-- no bytes behind pieces, or no pieces
pub behind_rest : (h xs : List ℕ) (rest : List Piece) (to : ℕ) → length xs ≤ cond (length rest == 0) (2048 - to) 0
    → (h ++ xs) ++ bytes_of rest ≡ (h ++ bytes_of rest) ++ xs
behind_rest h xs [] to k = append-nil (h ++ xs) ∙ ap (λ (z : List ℕ). z ++ xs) (sym (append-nil h))
behind_rest h [] (p ∷ ps) to k = ap (λ (z : List ℕ). z ++ bytes_of (p ∷ ps)) (append-nil h) ∙ sym (append-nil (h ++ bytes_of (p ∷ ps)))
behind_rest h (x ∷ xs) (p ∷ ps) to k = let z = no_room p ps (2048 - to) in absurd (omega arith)

pub puts : (a : SkbState) (s w : SoleState) (xs : List ℕ) → a.head ≡ Sole s → w.bytes ≡ written s.bytes a.to xs → w.mark
    ≡ s.mark → w.block ≡ s.block → length (block a.head) ≡ 2048 → a.from ≤ a.to → a.to ≤ 2048 → length xs ≤ tailroom a
    → IsPut a xs (record a { head = Sole w; to = a.to + length xs }) (Ok tt)
puts a s w xs e wb wm wo l h k r =
    let we : w ≡ record s { bytes = written s.bytes a.to xs } = λ i. record { block = wo i; bytes = wb i; mark = wm i } in
    let b : block a.head ≡ s.bytes = ap block e in
    let lb : length s.bytes ≡ 2048 = sym (ap length b) ∙ l in
    let f : Sole w ≡ written_head a.head a.to xs = ap Sole we ∙ sym (ap (λ (z : Holder). written_head z a.to xs) e) in
    let g : slice_range w.bytes a.from (a.to + length xs) ≡ head_bytes a ++ xs =
    ap (λ (z : List ℕ). slice_range z a.from (a.to + length xs)) wb
    ∙ written_behind s.bytes xs a.from a.to h (omega arith) ∙ ap (λ (z : List ℕ). slice_range z a.from a.to ++ xs)
    (sym b) in (
      r,
      ap is_sole e,
      ap (λ (z : Holder). record a { head = z; to = a.to + length xs }) f,
      ap (λ (z : List ℕ). z ++ bytes_of a.rest) g ∙ behind_rest (head_bytes a) xs a.rest a.to r,
    )

pub take_shorter : (k m : ℕ) (l : List ℕ) → k ≤ m → take k (take m l) ≡ take k l
take_shorter zero m l h = refl
take_shorter (suc k) zero l h = absurd (omega arith)
take_shorter (suc k) (suc m) [] h = refl
take_shorter (suc k) (suc m) (x ∷ xs) h = ap (λ (z : List ℕ). x ∷ z) (take_shorter k m xs (omega arith))

-- the last bytes of the pieces go
pub trim_rest : (f : SkbState) (r : List Piece) (n : ℕ) → length (block f.head) ≡ 2048 → f.to ≤ 2048
    → n ≤ size_of f.rest → bytes_of r ≡ take (size_of f.rest - n) (bytes_of f.rest)
    → buffer_bytes (record f { rest = r }) ≡ take (buffer_size f - n) (buffer_bytes f)
trim_rest f r n h k e g =
    let l = length-head f h k in
    let u : buffer_size f - n ≡ length (head_bytes f) + (size_of f.rest - n) = omega arith in
    ap (λ (z : List ℕ). head_bytes f ++ z) g ∙ sym (take-append-add (head_bytes f) (bytes_of f.rest)
    (size_of f.rest - n)) ∙ ap (λ (z : ℕ). take z (buffer_bytes f)) (sym u)

-- all pieces go, and the last bytes of the head
pub trim_head : (f : SkbState) (r : List Piece) (n : ℕ) → length (block f.head) ≡ 2048 → f.from ≤ f.to → f.to ≤ 2048
    → size_of f.rest ≤ n → n ≤ buffer_size f → bytes_of r ≡ []
    → buffer_bytes (record f { to = f.to - (n - size_of f.rest); rest = r }) ≡ take (buffer_size f - n) (buffer_bytes f)
trim_head f r n h o k e b g =
    let l = length-head f h k in
    let t : ℕ = f.to - (n - size_of f.rest) in
    let j : ℕ = buffer_size f - n in
    let u : t - f.from ≡ j = omega arith in
    let x : List ℕ = drop f.from (block f.head) in
    let q : List ℕ = take (t - f.from) x in
    let jl : j ≤ f.to - f.from = omega arith in
    ap (λ (z : List ℕ). q ++ z) g ∙ append-nil q ∙ ap (λ (z : ℕ). take z x) u
    ∙ sym (take_shorter j (f.to - f.from) x jl) ∙ sym (take-append-le j (head_bytes f) (bytes_of f.rest)
    (omega arith))

-- a Sole that becomes a part keeps what its mark holds
pub taken_marks : (a c : SkbState) (o : OutcomesState) (r : List Piece) (p : PartState) → AsPart c.head p → r
    ≡ a.rest ++ (record { part = p; from = c.from; to = c.to }) ∷ c.rest
    → KeepsMarks (both (of_buffer a) (both (of_buffer c) (of_outcomes o)))
    (both (of_buffer (record a { rest = r })) (of_outcomes o))
taken_marks a c o r p k e bs m =
    let x : Piece = record { part = p; from = c.from; to = c.to } in
    let g = ap (pieces_held (every bs) m) e ∙ pieces_held-append (every bs) m a.rest (x ∷ c.rest) in
    let l = lent_marks bs m c.head (Part p) k in
    omega arith

-- a part that is lent counts as it did
pub lent_held : (t : Tests) (m : ℕ) (a h : Holder) → is_sole a ≡ false → IsLent a h → (of_holder h).held t m ≡ (of_holder a).held t m
lent_held t m (Part r) (Part p) e l = ap (λ (z : PartState). (of_part z).held t m) l
lent_held t m (Sole s) h e l = absurd (true≢false e)
lent_held t m (Part r) (Sole s) e l = absurd l
