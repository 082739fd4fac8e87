use Rattle.std.proofs.Common.{◌≡◌, ℕ, Option, List, sym, subst}
use Rattle.std.specs.Bool.{Decides}
use Rattle.frame_layout.specs.Key.{key_of}
use Rattle.frame_layout.proofs.Lemmas.{decides_key}
use Rattle.frame_runs.proofs.Judged.{front_of}
use Rattle.frame_runs.proofs.candidacy.is_key_same.Goals as goal

pub returns : goal.returns
returns g c =
    let s : List ℕ = (g.F.Frame.packet c.args.first.now).frame in
    let t : List ℕ = (g.F.Frame.packet c.args.next.now).frame in
    let r = c.eq.result in
    let own : c.key-own.result ≡ key_of s = c.key-own.ensures.front s (front_of c.head-first_head.result.now s c.head-first_head.ensures.front) in
    let other : c.key-other.result ≡ key_of t = c.key-other.ensures.front t (front_of c.head-next_head.result.now t c.head-next_head.ensures.front) in
    let d : Decides r (c.key-own.result ≡ c.key-other.result)
    = subst (λ b. Decides b (c.key-own.result ≡ c.key-other.result)) (sym c.eq.ensures) (decides_key c.key-own.result c.key-other.result) in
    record {
      same = subst (λ (z : Option (List ℕ)). Decides r (z ≡ key_of t)) own
          (subst (λ (z : Option (List ℕ)). Decides r (c.key-own.result ≡ z)) other d);
    }
