-- Packets' bytes follow, one packet's behind the other's.
use Rattle.std.proofs.Common.{◌≡◌, ℕ, ◌+◌, List, [], ◌∷◌, ◌++◌, length, drop, refl, ap, sym, ◌∙◌, subst, arith, append_assoc, length-append}
use Rattle.std.proofs.lemmas.List.{append-nil}
use Rattle.raw_block.specs.Views.{SoleState}
use Rattle.frags.specs.OutcomesState.{OutcomesState}
use Rattle.frags.specs.declared.pieces.Piece.{Piece}
use Rattle.frags.proofs.Accounts.{soles_home-append}
use Rattle.frags.specs.Account.{soles_home, receipts_held}
use Rattle.skb.specs.SkbState.{buffer_bytes}
use Rattle.gro_table.specs.declared.packet.Packet.{Packet as Held}
use Rattle.gro_table.specs.Held.{of_packets, with_head}
use Rattle.gro_table.specs.Build.{Build, build, built, IsBuild, TakesBuffer, TakesPackets, TakesAccount, payloads}

module _ (p : Held) (at filled : ℕ) (h : SoleState) (ps : List Piece) (o o1 o2 : OutcomesState) (b : Build)
    (s1 : o1.soles ≡ o.soles ++ p.spare1 ∷ []) (r1 : o1.receipts ≡ o.receipts)
    (s2 : o2.soles ≡ o1.soles ++ p.spare2 ∷ []) (r2 : o2.receipts ≡ o1.receipts)
    (t : TakesBuffer p.skb at (build h filled ps o2) b)
  where
    n1 : length o1.soles ≡ length o.soles + 1
    n1 = omega (arith, ap length s1, length-append o.soles (p.spare1 ∷ []))

    n2 : length o2.soles ≡ length o.soles + 2
    n2 = omega (arith, ap length s2, length-append o1.soles (p.spare2 ∷ []), n1)

    pub packet_taken : TakesPackets (p ∷ []) at (build h filled ps o) b
    packet_taken = record {
      is = t.is;
      bytes = t.bytes ∙ ap (λ (z : List ℕ). built (build h filled ps o) ++ z) (sym (append-nil (drop at (buffer_bytes p.skb))));
      same = t.same;
      count = omega (arith, t.count, n2, ap length r1, ap length r2);
      soles = omega (arith, t.soles, n2);
      account = (
        with_head p t.account.0 ∷ [],
        (
          (t.account.0, ([], (t.account.1.0, refl, refl))),
          λ u m.
              let k = t.account.1.1 u m in
              let a = ap (receipts_held u m) r1 in
              let c = ap (receipts_held u m) r2 in
              let d = ap (soles_home u.blocks m) s1 ∙ soles_home-append u.blocks m o.soles (p.spare1 ∷ []) in
              let e = ap (soles_home u.blocks m) s2 ∙ soles_home-append u.blocks m o1.soles (p.spare2 ∷ []) in
              (omega arith, omega arith),
        ),
      );
      least = λ w z y. t.least w z.0 y;
    }

pub none_taken : (at : ℕ) (a : Build) → IsBuild a → TakesPackets [] at a a
none_taken at a i = record {
  is = i;
  bytes = sym (append-nil (built a));
  same = (refl, refl);
  count = omega arith;
  soles = omega arith;
  account = ([], (refl, λ u m. (omega arith, omega arith)));
  least = λ w z y. y;
}

account_then : (p : Held) (ps : List Held) (a b c : Build) → TakesAccount (p ∷ []) a b → TakesAccount ps b c → TakesAccount (p ∷ ps) a c
account_then p ps a b c f g =
    let h = f.1.0.0 in
    let one : f.0 ≡ with_head p h ∷ [] = f.1.0.1.1.1 ∙ ap (λ (z : List Held). with_head p h ∷ z) f.1.0.1.1.2 in (
      with_head p h ∷ g.0,
      (
        (h, (g.0, (f.1.0.1.1.0, refl, g.1.0))),
        λ u m.
            let i = f.1.1 u m in
            let j = g.1.1 u m in
            let k = ap (λ (z : List Held). (of_packets z).held u m) one in
            let l = ap (λ (z : List Held). (of_packets z).homes u.blocks m) one in
            (omega arith, omega arith),
      ),
    )

pub taken_then : (p : Held) (ps : List Held) (at : ℕ) (a b c : Build) → TakesPackets (p ∷ []) at a b → TakesPackets ps at b c → TakesPackets (p ∷ ps) at a c
taken_then p ps at a b c f g =
    let d : List ℕ = drop at (buffer_bytes p.skb) in
    record {
      is = g.is;
      bytes = g.bytes ∙ ap (λ (z : List ℕ). z ++ payloads at ps) (f.bytes ∙ ap (λ (z : List ℕ). built a ++ z) (append-nil d)) ∙ append_assoc (built a) d (payloads at ps);
      same = (g.same.0 ∙ f.same.0, g.same.1 ∙ f.same.1);
      count = omega (arith, f.count, g.count);
      soles = omega (arith, f.soles, g.soles);
      account = account_then p ps a b c f.account g.account;
      least = λ w z y. g.least w z.1 (f.least w (z.0, tt) y);
    }

pub then_all : (p : Held) (xs ys all : List Held) (at : ℕ) (first a b : Build) → xs ≡ p ∷ ys → TakesPackets (p ∷ []) at a b
    → ((c : Build) → TakesPackets xs at a c → TakesPackets all at first c)
    → (c : Build) → TakesPackets ys at b c → TakesPackets all at first c
then_all p xs ys all at first a b e f g c h = g c (subst (λ (z : List Held). TakesPackets z at a c) (sym e) (taken_then p ys at a b c f h))
