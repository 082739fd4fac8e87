use Rattle.std.proofs.Common.{ℕ, List, subst}
use Rattle.merge_rule.specs.Runs.{IsShaped}
use Rattle.frame_runs.proofs.Judged.{front_of}
use Rattle.frame_runs.proofs.flow_hash.flow_hash.Goals as goal

pub returns-in-Some : goal.returns-in-Some
returns-in-Some g c =
    let f : List ℕ = (g.F.Frame.packet c.args.slot.now).frame in
    record { hash = c.layout_hash.ensures.hash f (front_of c.head.result.now f c.head.ensures.front) (subst (λ z. IsShaped z f) c.in-Some.is c.requires.shaped) }

pub returns-in-None : goal.returns-in-None
returns-in-None g c =
    let f : List ℕ = (g.F.Frame.packet c.args.slot.now).frame in
    record { hash = c.head_hash.ensures.hash f (front_of c.head-in-None.result.now f c.head-in-None.ensures.front) }

pub layout_hash-requires : goal.layout_hash-requires
layout_hash-requires g c =
    let f : List ℕ = (g.F.Frame.packet c.args.slot.now).frame in
    record { shape = (f, (front_of c.head.result.now f c.head.ensures.front, subst (λ z. IsShaped z f) c.in-Some.is c.requires.shaped)) }
