use Rattle.std.proofs.Common.{◌+◌, ◌-◌, drop, length, length-append, refl, sym, ap, ◌∙◌, arith}
use Rattle.std.proofs.lemmas.List.{length-drop}
use Rattle.pcap_io.specs.Headers.{head_size as size_of}
use Rattle.skb.specs.SkbState.{buffer_bytes, buffer_size, head_size}
use Rattle.segmenting.proofs.Heads.{behind_front, is_there, sizes}
use Rattle.segmenting.proofs.opening.take_head.Goals as goal

pub pull-requires : goal.pull-requires
pull-requires c =
    let s = c.args.skb.now in
    let front = c.args.front.now in
    let head = c.in-Some.head in
    let there = is_there front (buffer_bytes s) head c.requires.long c.in-Some.ensures.head (c.in-Some.ensures.there.0 refl) in
    record { spare = λ less. absurd (omega (arith, less, c.requires.front, there, c.len.ensures.size, c.len.ensures.bytes, c.size.ensures.size, (sizes head).1)) }

pub unreachable-requires : goal.unreachable-requires
unreachable-requires c =
    let s = c.args.skb.now in
    let head = c.in-Some.head in
    let there = is_there c.args.front.now (buffer_bytes s) head c.requires.long c.in-Some.ensures.head (c.in-Some.ensures.there.0 refl) in
    omega (arith, c.in-Err.ensures.bytes.0, there, c.len.ensures.size, c.len.ensures.bytes, c.size.ensures.size)

pub returns-clause-size : goal.returns-clause-size
returns-clause-size c =
    let s = c.args.skb.now in
    let front = c.args.front.now in
    let head = c.in-Some.head in
    let there = is_there front (buffer_bytes s) head c.requires.long c.in-Some.ensures.head (c.in-Some.ensures.there.0 refl) in
    omega (arith, ap length c.in-Ok.ensures.bytes, length-drop (c.size.result - 12) (buffer_bytes s), length-append front (buffer_bytes s), c.requires.long, there, c.size.ensures.size, (sizes head).0)

pub returns-clause-behind : goal.returns-clause-behind
returns-clause-behind c =
    let bytes = buffer_bytes c.args.skb.now in
    let head = c.in-Some.head in
    c.in-Ok.ensures.bytes ∙ ap (λ n. drop (n - 12) bytes) c.size.ensures.size ∙ sym (behind_front c.args.front.now bytes (size_of head) c.requires.long (sizes head).0)

pub returns-clause-within : goal.returns-clause-within
returns-clause-within c =
    let s = c.args.skb.now in
    let head = c.in-Some.head in
    let there = is_there c.args.front.now (buffer_bytes s) head c.requires.long c.in-Some.ensures.head (c.in-Some.ensures.there.0 refl) in
    (c.in-Ok.ensures.within (omega (arith, c.requires.front, there, c.len.ensures.size, c.len.ensures.bytes, c.size.ensures.size, (sizes head).1))).0
    ∙ ap (λ n. record s { from = s.from + (n - 12) }) c.size.ensures.size

pub returns-clause-front : goal.returns-clause-front
returns-clause-front c =
    let s = c.args.skb.now in
    let head = c.in-Some.head in
    let there = is_there c.args.front.now (buffer_bytes s) head c.requires.long c.in-Some.ensures.head (c.in-Some.ensures.there.0 refl) in
    let same = (c.in-Ok.ensures.within (omega (arith, c.requires.front, there, c.len.ensures.size, c.len.ensures.bytes, c.size.ensures.size, (sizes head).1))).0 in
    omega (arith, ap buffer_size same, ap head_size same, c.requires.front, c.size.ensures.size, (sizes head).1)

pub returns-clause-out : goal.returns-clause-out
returns-clause-out c =
    let s = c.args.skb.now in
    let head = c.in-Some.head in
    let there = is_there c.args.front.now (buffer_bytes s) head c.requires.long c.in-Some.ensures.head (c.in-Some.ensures.there.0 refl) in
    (c.in-Ok.ensures.within (omega (arith, c.requires.front, there, c.len.ensures.size, c.len.ensures.bytes, c.size.ensures.size, (sizes head).1))).1
