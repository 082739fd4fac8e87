-- What follows from how a buffer comes to stand behind pieces.
use Rattle.std.proofs.Common.{◌≡◌, ℕ, ◌+◌, ◌-◌, ◌≤◌, List, [], ◌∷◌, ◌++◌, false, take, drop, slice_range, refl, ap, sym}
use Rattle.std.proofs.Common.{◌∙◌, subst, inl, inr, arith}
use Rattle.std.proofs.lemmas.Bool.{true≢false}
use Rattle.raw_block.specs.Views.{PartState}
use Rattle.frags.specs.OutcomesState.{OutcomesState}
use Rattle.frags.specs.Account.{Account, Keeps, both, of_holder, of_outcomes}
use Rattle.frags.specs.Holders.{block, AsPart}
use Rattle.frags.specs.PieceList.{bytes_of, size_of, of_pieces, pieces_held, least_weight}
use Rattle.frags.specs.declared.pieces.Piece.{Piece}
use Rattle.frags.specs.declared.holder.Holder.{Holder}
use Rattle.frags.specs.declared.holder.Holder.TheVariants.{Sole, Part}
use Rattle.frags.proofs.Accounts.{pieces_held-append}
use Rattle.frags.proofs.PieceBytes.{size_of-append}
use Rattle.frags.proofs.Joining.{part_block, bytes_of-append}
use Rattle.skb.specs.SkbState.{SkbState, is_sole, buffer_bytes, buffer_size, head_least, of_buffer}
use Rattle.skb.specs.Moving.{HandedOn, MovesRest, MovesHead, JoinsAccount, KeepsLeast}

least-append : (w : ℕ) (a b : List Piece) → w ≤ least_weight a → w ≤ least_weight b → w ≤ least_weight (a ++ b)
least-append w [] b h k = k
least-append w (x ∷ xs) b h k = let i = least-append w xs b (omega arith) k in omega arith

rest_bytes : (c : SkbState) → c.from ≡ c.to → buffer_bytes c ≡ bytes_of c.rest
rest_bytes c e =
    let z : c.to - c.from ≡ 0 = omega arith in
    ap (λ (n : ℕ). take n (drop c.from (block c.head)) ++ bytes_of c.rest) z

pub part_least : (h : Holder) (p : PartState) → AsPart h p → head_least h ≡ p.weight
part_least (Sole s) p e = sym e.0
part_least (Part r) p e = sym (ap (λ (z : PartState). z.weight) e)

module _ (c : SkbState) (a b : List Piece) (o q : OutcomesState) where
  pub rest_bytes_moved : c.from ≡ c.to → MovesRest c a o b q → bytes_of b ≡ bytes_of a ++ buffer_bytes c
  rest_bytes_moved e m = ap bytes_of m.0 ∙ bytes_of-append a c.rest ∙ ap (λ (z : List ℕ). bytes_of a ++ z) (sym (rest_bytes c e))

  pub head_bytes_moved : MovesHead c a o b q → bytes_of b ≡ bytes_of a ++ buffer_bytes c
  head_bytes_moved m =
      let p : PartState = m.1.0 in
      let x : Piece = record { part = p; from = c.from; to = c.to } in
      let g : bytes_of (x ∷ c.rest) ≡ buffer_bytes c = ap (λ (z : List ℕ). slice_range z c.from c.to ++ bytes_of c.rest)
      (part_block c.head p m.1.1.0) in
      ap bytes_of m.1.1.1 ∙ bytes_of-append a (x ∷ c.rest) ∙ ap (λ (z : List ℕ). bytes_of a ++ z) g

  pub rest_size_moved : c.from ≡ c.to → MovesRest c a o b q → size_of b ≡ size_of a + buffer_size c
  rest_size_moved e m = omega (arith, ap size_of m.0, size_of-append a c.rest)

  pub head_size_moved : MovesHead c a o b q → size_of b ≡ size_of a + buffer_size c
  head_size_moved m =
      let x : Piece = record { part = m.1.0; from = c.from; to = c.to } in
      omega (arith, ap size_of m.1.1.1, size_of-append a (x ∷ c.rest))

  pub rest_account : MovesRest c a o b q → JoinsAccount c (of_pieces a) o (of_pieces b) q
  rest_account m = (
    c.head,
    (
      inl refl,
      λ t n.
          let k = m.2 t n in
          let g = ap (pieces_held t n) m.0 ∙ pieces_held-append t n a c.rest in
          (omega arith, omega arith),
    ),
  )

  pub head_account : MovesHead c a o b q → JoinsAccount c (of_pieces a) o (of_pieces b) q
  head_account m =
      let p : PartState = m.1.0 in
      let x : Piece = record { part = p; from = c.from; to = c.to } in (
        Part p,
        (
          inr m.1.1.0,
          λ t n.
              let g = ap (pieces_held t n) m.1.1.1 ∙ pieces_held-append t n a (x ∷ c.rest) in
              let h = ap (λ (z : OutcomesState). (of_outcomes z).held t n) m.0 in
              let j = ap (λ (z : OutcomesState). (of_outcomes z).homes t.blocks n) m.0 in
              (omega arith, omega arith),
        ),
      )

  pub rest_least : MovesRest c a o b q → KeepsLeast c a b
  rest_least m w h k =
      let e = ap least_weight m.0 in
      let f = least-append w a c.rest k (omega arith) in
      omega arith

  pub head_least_moved : MovesHead c a o b q → KeepsLeast c a b
  head_least_moved m w h k =
      let p : PartState = m.1.0 in
      let x : Piece = record { part = p; from = c.from; to = c.to } in
      let e = ap least_weight m.1.1.1 in
      let l = part_least c.head p m.1.1.0 in
      let f = least-append w a (x ∷ c.rest) k (omega arith) in
      omega arith

pub handed_part : (a h : Holder) → is_sole a ≡ false → HandedOn a h → h ≡ a
handed_part (Sole s) h e k = absurd (true≢false e)
handed_part (Part p) (Sole s) e k = elim k [ inl l ↦ l | inr l ↦ absurd l ]
handed_part (Part p) (Part r) e k = elim k [ inl l ↦ l | inr l ↦ ap Part l ]

-- no life begins where the head is a part
pub joins_kept : (c : SkbState) (a : Account) (o : OutcomesState) (b : Account) (q : OutcomesState) → is_sole c.head
    ≡ false → JoinsAccount c a o b q
    → Keeps (both a (both (of_buffer c) (of_outcomes o))) (both b (of_outcomes q))
joins_kept c a o b q e k = subst (λ h. Keeps (both a (both (of_buffer (record c { head = h })) (of_outcomes o)))
    (both b (of_outcomes q))) (handed_part c.head k.0 e k.1.0) k.1.1

-- the same of a buffer that stands behind another's pieces
module _ (a c : SkbState) (r : List Piece) (o q : OutcomesState) where
  pub joined_account : r ≡ a.rest ++ c.rest → Keeps (both (of_holder c.head) (of_outcomes o)) (of_outcomes q)
      → JoinsAccount c (of_buffer a) o (of_buffer (record a { rest = r })) q
  joined_account e m = (
    c.head,
    (
      inl refl,
      λ t n.
          let k = m t n in
          let g = ap (pieces_held t n) e ∙ pieces_held-append t n a.rest c.rest in
          (omega arith, omega arith),
    ),
  )

  pub taken_account : (p : PartState) → AsPart c.head p → r ≡ a.rest ++ (record { part = p; from = c.from; to = c.to })
      ∷ c.rest → JoinsAccount c (of_buffer a) o (of_buffer (record a { rest = r })) o
  taken_account p k e =
      let x : Piece = record { part = p; from = c.from; to = c.to } in (
        Part p,
        (
          inr k,
          λ t n.
              let g = ap (pieces_held t n) e ∙ pieces_held-append t n a.rest (x ∷ c.rest) in
              (omega arith, omega arith),
        ),
      )
