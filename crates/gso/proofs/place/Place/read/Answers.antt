use Rattle.std.proofs.Common.{◌≡◌, ◌+◌, ◌-◌, ℕ, take, drop, ap, refl, arith}
use Rattle.gso.proofs.Places.{there, place_ended, bytes_on}
use Rattle.gso.proofs.place.Place.read.Goals as goal

pub slice_of-bytes-requires : goal.slice_of-bytes-requires
slice_of-bytes-requires c = record { within = there c.args.skb.now c.args.self.now c.requires.place (omega (arith, c.requires.some, c.requires.there)) }

pub overflow_add-self-then-self-n : goal.overflow_add-self-then-self-n
overflow_add-self-then-self-n c =
    omega (arith, there c.args.skb.now c.args.self.now c.requires.place (omega (arith, c.requires.some, c.requires.there)), c.count.ensures.value, c.count.type_inv)

pub returns-then-self-n-clause-place : goal.returns-then-self-n-clause-place
returns-then-self-n-clause-place c =
    let b = c.slice_of-bytes in
    place_ended c.args.skb.now c.args.self.now c.min-n.result b.result.now (take c.min-n.result (drop c.args.self.now.at b.result.now)) c.requires.place b.ensures.bytes refl
    (omega (arith, c.min-n.ensures)) c.if-self-n.true

pub returns-else-self-n-clause-bytes : goal.returns-else-self-n-clause-bytes
returns-else-self-n-clause-bytes c =
    let b = c.slice_of-bytes in
    let p = c.args.self.now in
    let n = c.min-n.result in
    let k : (p.at + n) - p.at ≡ n = omega arith in
    bytes_on c.args.skb.now p n b.result.now (take ((p.at + n) - p.at) (drop p.at b.result.now)) c.requires.place b.ensures.bytes (ap (λ (z : ℕ). take z (drop p.at b.result.now)) k)
    (omega (arith, c.min-n.ensures))
