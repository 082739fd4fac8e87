-- Packets joined into one buffer.
use Rattle.std.proofs.Common.{◌≡◌, ℕ, ◌+◌, ◌-◌, List, [], ◌∷◌, ◌++◌, length, drop, refl, ap, ◌∙◌, subst, inl, inr, arith, append_assoc, length-append, length-drop}
use Rattle.std.proofs.lemmas.List.{append-nil, length-take-le}
use Rattle.std.proofs.lemmas.Bool.{cases_lt}
use Rattle.raw_block.specs.Views.{SoleState}
use Rattle.frags.specs.Account.{Keeps, both, of_outcomes, at_home, soles_home, receipts_held}
use Rattle.frags.specs.OutcomesState.{OutcomesState}
use Rattle.frags.specs.PieceList.{bytes_of, size_of, AllFit}
use Rattle.frags.specs.declared.holder.Holder.TheVariants.{Sole}
use Rattle.frags.specs.declared.pieces.Piece.{Piece}
use Rattle.frags.proofs.PieceBytes.{length-bytes_of}
use Rattle.skb.specs.SkbState.{SkbState, buffer_bytes, of_buffer}
use Rattle.skb.specs.Fronts.{IsFronted, front_of}
use Rattle.gro_table.specs.declared.packet.Packet.{Packet as Held}
use Rattle.gro_table.specs.Held.{of_packets, AreLentFrom, with_head}
use Rattle.gro_table.specs.Build.{Build, build, IsSameBlock, TakesBuffer, TakesPackets, payloads}
use Rattle.gro_table.specs.Items.{HoldsAll}
use Rattle.gro_table.proofs.Lent.{none_lent}

-- the same where the place of the payload and the pieces are read from what has them
pub begun : (s : SkbState) (at place : ℕ) (ps : List Piece) (g : SoleState) (q : OutcomesState) (b : Build) → place ≡ at → ps ≡ []
    → TakesBuffer s place (build g place ps q) b → TakesBuffer s at (build g at [] q) b
begun s at place ps g q b e f t =
    subst (λ (z : ℕ). TakesBuffer s z (build g z [] q) b) e (subst (λ (z : List Piece). TakesBuffer s place (build g place z q) b) f t)

pub followed : (rs : List Held) (at place : ℕ) (b c : Build) → place ≡ at → TakesPackets rs place b c → TakesPackets rs at b c
followed rs at place b c e t = subst (λ (z : ℕ). TakesPackets rs z b c) e t

module _ (p : Held) (rs : List Held) (at : ℕ) (g : SoleState) (o q : OutcomesState) (b c : Build)
    (empty : (o.soles ≡ []) × (o.receipts ≡ []))
    (same : IsSameBlock p.spare1 g)
    (soles : q.soles ≡ o.soles ++ p.spare2 ∷ []) (receipts : q.receipts ≡ o.receipts)
    (t : TakesBuffer p.skb at (build g at [] q) b)
    (u : TakesPackets rs at b c)
  where
    abbrev buffer : SkbState
    buffer = record { head = Sole c.block; from = 64; to = 64 + c.filled; rest = c.pieces }

    one : length q.soles ≡ 1
    one = omega (arith, ap length soles, length-append o.soles (p.spare2 ∷ []), ap length empty.0)

    no_receipts : length q.receipts ≡ 0
    no_receipts = omega (arith, ap length receipts, ap length empty.1)

    pub bytes_are : buffer_bytes buffer ≡ front_of g at ++ payloads at (p ∷ rs)
    bytes_are =
        let d : List ℕ = drop at (buffer_bytes p.skb) in
        u.bytes ∙ ap (λ (z : List ℕ). z ++ payloads at rs) (t.bytes ∙ ap (λ (z : List ℕ). z ++ d) (append-nil (front_of g at))) ∙ append_assoc (front_of g at) d (payloads at rs)

    front_long : length (front_of c.block c.filled) ≡ c.filled
    front_long =
        omega (arith, length-take-le ((64 + c.filled) - 64) (drop 64 c.block.bytes) (omega (arith, length-drop 64 c.block.bytes, u.is.size, u.is.low)))

    pub size_is : AllFit c.pieces → length (front_of g at) ≡ at → c.filled + size_of c.pieces ≡ at + length (payloads at (p ∷ rs))
    size_is fits l =
        omega (
          arith,
          front_long,
          length-bytes_of c.pieces fits,
          length-append (front_of c.block c.filled) (bytes_of c.pieces),
          ap length bytes_are,
          length-append (front_of g at) (payloads at (p ∷ rs)),
          l,
        )

    fronted : IsFronted buffer
    fronted = elim (cases_lt c.filled 200) [
      | inl lt ↦ omega (arith, ap size_of (u.is.bare lt))
      | inr ge ↦ omega (arith, ge)
    ]

    kept : (qs : List Held) × (AreLentFrom (p ∷ rs) qs × Keeps (of_packets qs) (both (of_buffer buffer) (of_outcomes c.out)))
    kept = (
      with_head p t.account.0 ∷ u.account.0,
      (
        (t.account.0, (u.account.0, (t.account.1.0, refl, u.account.1.0))),
        λ x m.
            let k = t.account.1.1 x m in
            let j = u.account.1.1 x m in
            let e = ap (soles_home x.blocks m) soles ∙ ap (λ (z : List SoleState). soles_home x.blocks m (z ++ p.spare2 ∷ [])) empty.0 in
            let f = ap (receipts_held x m) (receipts ∙ empty.1) in
            let i = ap (λ (z : ℕ). at_home x.blocks m z c.block.mark) (u.same.0 ∙ t.same.0 ∙ same.0) in
            let n = ap (at_home x.blocks m p.spare1.block) (u.same.1 ∙ t.same.1 ∙ same.1) in
            (omega arith, omega arith),
      ),
    )

    pub holds : HoldsAll (p ∷ rs) buffer c.out
    holds = record {
      front = fronted;
      count = omega (arith, u.count, t.count, one, no_receipts);
      soles = omega (arith, u.soles, t.soles, one);
      account = kept;
      shared = λ s. subst (λ (z : List Held). Keeps (of_packets z) (both (of_buffer buffer) (of_outcomes c.out))) (none_lent (p ∷ rs) kept.0 s kept.1.0) kept.1.1;
      least = λ w h z. let l = u.least w z.1 (t.least w z.0 h) in omega (arith, h, l);
    }
