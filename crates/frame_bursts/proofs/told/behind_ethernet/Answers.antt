use Rattle.std.proofs.Common.{◌≡◌, ℕ, ◌+◌, ◌-◌, List, length, take, drop, ap, sym, ◌∙◌, arith}
use Rattle.std.proofs.lemmas.List.{drop-take, length-drop, length-take-le, take_at}
use Rattle.frame_bursts.proofs.told.behind_ethernet.Goals as goal

pub returns-clause-behind : goal.returns-clause-behind
returns-clause-behind c =
    let hs : List ℕ = c.args.headers.now in
    let end : ℕ = c.args.end in
    let copy : c.copy_from_slice.new.self ≡ take (end - 14) (drop 14 hs) = c.copy_from_slice.ensures.after in
    take_at c.copy_from_slice.new.self _ (end - 14) (ap length copy ∙ length-take-le (end - 14) (drop 14 hs)
    (omega (arith, length-drop 14 hs, c.told-headers, c.requires.inside)))
    ∙ copy
    ∙ sym (drop-take 14 (end - 14) hs)
    ∙ ap (λ (z : ℕ). drop 14 (take z hs)) (let e : 14 + (end - 14) ≡ end = omega (arith, c.requires.front) in e)

pub returns-clause-enough : goal.returns-clause-enough
returns-clause-enough c =
    omega (arith, c.requires.front, c.requires.inside, length-take-le c.args.end c.args.headers.now (omega (arith, c.told-headers, c.requires.inside)))
