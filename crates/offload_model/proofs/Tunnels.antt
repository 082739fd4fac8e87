-- Packets of a run go through one tunnel.
use Rattle.std.proofs.Common.{◌≡◌, ℕ, ◌+◌, List, [], ◌∷◌, refl, ap, ◌∙◌, arith}
use Rattle.frame_layout.specs.Headers.{AtHeaders}
use Rattle.frame_layout.specs.declared.layout.Header.{Header}
use Rattle.frame_layout.specs.declared.layout.Layer.{Layer}
use Rattle.frame_layout.specs.declared.layout.Layer.TheVariants.{Vxlan, KeyedGre}
use Rattle.frame_layout.proofs.Lemmas.{IsAlikeAt, alike_at, laid}
use Rattle.offload_model.specs.Laws.{tunnel_at, tunnel_of, TunnelsAreOne}
use Rattle.vxlan.specs.Vxlan.{network_identifier}
use Rattle.vxlan.specs.Gre.{key}

same_at : (f g : List ℕ) (l : Layer) (at : ℕ) (xs ys : List ℕ) → xs ≡ ys → IsAlikeAt f g l at → tunnel_at f l at xs ≡ tunnel_at g l at ys
same_at f g Vxlan at xs ys e alike =
    let n : network_identifier f at ≡ network_identifier g at =
    omega (arith, alike.same (at + 4) (omega arith) (omega arith) tt, alike.same (at + 4 + 1) (omega arith) (omega arith) tt, alike.same (at + 6) (omega arith) (omega arith) tt) in
    ap (λ z. z ∷ xs) n ∙ ap (λ z. network_identifier g at ∷ z) e
same_at f g KeyedGre at xs ys e alike =
    let n : key f at ≡ key g at =
    omega (
      arith,
      alike.same (at + 4) (omega arith) (omega arith) tt,
      alike.same (at + 4 + 1) (omega arith) (omega arith) tt,
      alike.same (at + 4 + 2) (omega arith) (omega arith) tt,
      alike.same (at + 4 + 2 + 1) (omega arith) (omega arith) tt,
    ) in
    ap (λ z. z ∷ xs) n ∙ ap (λ z. key g at ∷ z) e
same_at f g _ at xs ys e alike = e

same : (f g : List ℕ) (hs : List Header) → AtHeaders (IsAlikeAt f g) hs → tunnel_of f hs ≡ tunnel_of g hs
same f g [] a = refl
same f g (h ∷ hs) a = same_at f g h.layer h.at (tunnel_of f hs) (tunnel_of g hs) (same f g hs a.1) a.0

pub tunnels_are_one : TunnelsAreOne
tunnels_are_one layout first ps m = record {
  at = λ i d l. (
    m.shapes.at i d l,
    same _ first layout.headers (alike_at layout _ first (laid _ layout (m.shapes.at i d l)).0 (m.headers.at i d l)),
  );
}
