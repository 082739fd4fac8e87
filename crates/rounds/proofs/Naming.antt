-- Which block each mark of a round has, and that these are just the blocks of its packets.
use Rattle.std.proofs.Common.{◌≡◌, ℕ, zero, suc, ◌+◌, List, [], ◌∷◌, ◌++◌, length, map, get_or, Bool, true, false, refl, sym, ap, ◌∙◌, subst, arith}
use Rattle.std.specs.Prelude.{◌==◌}
use Rattle.std.specs.List.{sum_by}
use Rattle.std.proofs.lemmas.List.Sums.{sum_by-cons}
use Rattle.raw_block.specs.Views.{PartState, SoleState}
use Rattle.frags.specs.Account.{every, counted, of_part, of_holder}
use Rattle.frags.specs.Holders.{name_of}
use Rattle.frags.specs.PieceList.{of_pieces}
use Rattle.frags.specs.declared.pieces.Piece.{Piece}
use Rattle.frags.specs.declared.holder.Holder.{Holder}
use Rattle.frags.specs.declared.holder.Holder.TheVariants.{Sole, Part}
use Rattle.skb.specs.SkbState.{IsLent}
use Rattle.gro.specs.declared.slot.Slot.{Slot as Held}
use Rattle.gro.specs.Slots.{of_packets, counts_of, weighed_slots, AreLent}
use Rattle.reading.specs.Laid.{LaidFrom, WholeFrom}
use Rattle.rounds.specs.Marks.{by_marks, blocks_but, IsNamed}

-- ---- names, one for each mark

-- these pieces have the blocks that are named from mark k on
abbrev NamesPieces : (ℕ → ℕ) → ℕ → List Piece → Type 0
NamesPieces names k [] = Unit {0}
NamesPieces names k (p ∷ ps) = (names k ≡ p.part.life.block) × NamesPieces names (k + 1) ps

abbrev pub NamesPackets : (ℕ → ℕ) → ℕ → List Held → Type 0
NamesPackets names k [] = Unit {0}
NamesPackets names k (p ∷ ps) = (names k ≡ name_of p.skb.head) × NamesPieces names (k + 1) p.skb.rest × NamesPackets names (k + 1 + length p.skb.rest) ps

-- the names of all blocks of packets, in their order
abbrev names_in : List Held → List ℕ
names_in [] = []
names_in (p ∷ ps) = name_of p.skb.head ∷ (map (λ (q : Piece). q.part.life.block) p.skb.rest ++ names_in ps)

abbrev pub name_at : List Held → ℕ → ℕ
name_at ps m = get_or (names_in ps) m 0

-- names that follow one another, of pieces and of what comes behind them
piece_names : (names : ℕ → ℕ) (k : ℕ) (ps : List Piece) (rest : List ℕ)
    → ((i : ℕ) → names (k + i) ≡ get_or (map (λ (q : Piece). q.part.life.block) ps ++ rest) i 0)
    → NamesPieces names k ps × ((i : ℕ) → names (k + length ps + i) ≡ get_or rest i 0)
piece_names names k [] rest at = (tt, λ i. let e : k + 0 + i ≡ k + i = omega arith in ap names e ∙ at i)
piece_names names k (p ∷ ps) rest at =
    let next = piece_names names (k + 1) ps rest (λ i. let e : k + 1 + i ≡ k + suc i = omega arith in ap names e ∙ at (suc i)) in
    let first : k ≡ k + 0 = omega arith in (
      (ap names first ∙ at 0, next.0),
      λ i. let e : k + length (p ∷ ps) + i ≡ k + 1 + length ps + i = omega arith in ap names e ∙ next.1 i,
    )

packet_names : (names : ℕ → ℕ) (k : ℕ) (ps : List Held) → ((i : ℕ) → names (k + i) ≡ get_or (names_in ps) i 0) → NamesPackets names k ps
packet_names names k [] at = tt
packet_names names k (p ∷ ps) at =
    let rest = piece_names names (k + 1) p.skb.rest (names_in ps) (λ i. let e : k + 1 + i ≡ k + suc i = omega arith in ap names e ∙ at (suc i)) in
    let first : k ≡ k + 0 = omega arith in
    (ap names first ∙ at 0, rest.0, packet_names names (k + 1 + length p.skb.rest) ps rest.1)

pub names_are : (ps : List Held) → NamesPackets (name_at ps) 0 ps
names_are ps = packet_names (name_at ps) 0 ps (λ i. let e : 0 + i ≡ i = omega arith in ap (name_at ps) e)

-- ---- what they weigh

marks_join : (w : ℕ → ℕ) (k m n : ℕ) → by_marks w k (m + n) ≡ by_marks w k m + by_marks w (k + m) n
marks_join w k zero n =
    let e : k ≡ k + 0 = omega arith in
    let s : 0 + n ≡ n = omega arith in
    omega (arith, ap (by_marks w k) s, ap (λ (i : ℕ). by_marks w i n) e)
marks_join w k (suc m) n =
    let e : k + 1 + m ≡ k + suc m = omega arith in
    let s : suc m + n ≡ suc (m + n) = omega arith in
    omega (arith, ap (by_marks w k) s, marks_join w (k + 1) m n, ap (λ (i : ℕ). by_marks w i n) e)

pieces_weigh : (names h : ℕ → ℕ) (k : ℕ) (ps : List Piece) → NamesPieces names k ps
    → by_marks (λ m. h (names m)) k (length ps) ≡ sum_by (λ (p : Piece). h p.part.life.block) ps
pieces_weigh names h k [] is = refl
pieces_weigh names h k (p ∷ ps) is = omega (arith, ap h is.0, pieces_weigh names h (k + 1) ps is.1, sum_by-cons (λ (p : Piece). h p.part.life.block) p ps)

-- the blocks of n marks are those of packets with n blocks
pub marks_weigh : (names h : ℕ → ℕ) (k : ℕ) (ps : List Held) → NamesPackets names k ps → by_marks (λ m. h (names m)) k (counts_of ps) ≡ weighed_slots h ps
marks_weigh names h k [] is = refl
marks_weigh names h k (p ∷ ps) is =
    let w : ℕ → ℕ = λ m. h (names m) in
    let n = length p.skb.rest in
    let e : counts_of (p ∷ ps) ≡ suc (n + counts_of ps) = omega arith in
    omega (arith, ap (by_marks w k) e, ap h is.0, marks_join w (k + 1) n (counts_of ps), pieces_weigh names h (k + 1) p.skb.rest is.1, marks_weigh names h (k + 1 + n) ps is.2)

-- ---- packets as they are lent have these blocks at their marks

part_named' : (names : ℕ → ℕ) (p : PartState) (m : ℕ) (own : Bool) → (p.mark == m) ≡ own → names p.mark ≡ p.life.block
    → counted (every (blocks_but (names m))) m p.life p.mark p.weight ≡ 0
part_named' names p m true e is = let same : p.mark ≡ m = grind (arith, e) in let n : names m ≡ p.life.block = sym (ap names same) ∙ is in grind (arith, e, n)
part_named' names p m false e is = grind (arith, e)

part_named : (names : ℕ → ℕ) (k : ℕ) (p : PartState) → p.mark ≡ k → names k ≡ p.life.block → IsNamed names (of_part p)
part_named names k p e is = record { held = λ m. part_named' names p m (p.mark == m) refl (ap names e ∙ is); home = λ m. refl }

pieces_named : (names : ℕ → ℕ) (k : ℕ) (ps : List Piece) → WholeFrom k ps → NamesPieces names k ps → IsNamed names (of_pieces ps)
pieces_named names k [] laid is = record { held = λ m. refl; home = λ m. refl }
pieces_named names k (p ∷ ps) laid is =
    let a = part_named names k p.part laid.1 is.0 in
    let b = pieces_named names (k + 1) ps laid.2 is.1 in
    record { held = λ m. omega (arith, a.held m, b.held m); home = λ m. refl }

head_named : (names : ℕ → ℕ) (k : ℕ) (s : SoleState) (h : Holder) → s.mark ≡ k → names k ≡ s.block → IsLent (Sole s) h → IsNamed names (of_holder h)
head_named names k s (Sole x) e is lent = absurd lent
head_named names k s (Part p) e is lent = part_named names k p (lent.3 ∙ e) (is ∙ sym lent.1)

pub lent_named : (names : ℕ → ℕ) (k : ℕ) (ps qs : List Held) → LaidFrom k ps → AreLent ps qs → NamesPackets names k ps → IsNamed names (of_packets qs)
lent_named names k [] qs laid lent is = subst (λ (z : List Held). IsNamed names (of_packets z)) (sym lent) (record { held = λ m. refl; home = λ m. refl })
lent_named names k (p ∷ ps) qs laid lent is =
    let head = laid.0.head in
    let a = head_named names k head.0 lent.0 head.2 (is.0 ∙ ap name_of head.1) (subst (λ (g : Holder). IsLent g lent.0) head.1 lent.1.1.0) in
    let b = pieces_named names (k + 1) p.skb.rest laid.0.rest is.1 in
    let at : k + (length p.skb.rest + 1) ≡ k + 1 + length p.skb.rest = omega arith in
    let c = lent_named names (k + 1 + length p.skb.rest) ps lent.1.0 (subst (λ (i : ℕ). LaidFrom i ps) at laid.1) lent.1.1.2 is.2 in
    subst (λ (z : List Held). IsNamed names (of_packets z)) (sym lent.1.1.1)
    (record { held = λ m. omega (arith, a.held m, b.held m, c.held m); home = λ m. omega (arith, a.home m, b.home m, c.home m) })
