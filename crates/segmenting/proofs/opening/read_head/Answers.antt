use Rattle.std.proofs.Common.{◌≡◌, ◌++◌, take, drop, length, length-append, refl, sym, ap, ◌∙◌, subst, arith}
use Rattle.std.specs.Prelude.{IfSome}
use Rattle.std.proofs.lemmas.Bool.{false≢true}
use Rattle.std.proofs.lemmas.List.{length-take}
use Rattle.frags.specs.PieceList.{bytes_of}
use Rattle.pcap_io.specs.Headers.{any_head}
use Rattle.skb.specs.SkbState.{buffer_bytes, head_bytes}
use Rattle.segmenting.proofs.Heads.{sizes, there_alone, there_more, there_still, whole_is}
use Rattle.segmenting.proofs.opening.read_head.Goals as goal

pub returns-in-Some-first_chunk-clause-head : goal.returns-in-Some-first_chunk-clause-head
returns-in-Some-first_chunk-clause-head c =
    let s = c.args.skb.now in
    let front = c.args.front.now in
    let rest = c.in-Some-first_chunk.rest.now in
    let first = c.in-Some-first_chunk.ensures.cases in
    let more = drop 4 (head_bytes s) ++ bytes_of s.rest in
    let whole = whole_is front rest (head_bytes s) (bytes_of s.rest) (first.same ∙ ap (take 4) c.head.ensures.bytes) in
    let long = length-append front rest in
    let same = ap any_head c.joined.ensures.bytes ∙ sym (there_more (front ++ rest) more (omega (arith, long, c.requires.long)) (omega (
      arith,
      long,
      c.requires.long,
      ap length first.same,
      length-take
          4 c.head.result.now,
      first.enough,
    ))) ∙ ap any_head (sym whole) in
    subst (λ h. IfSome c.read-in-Some-first_chunk.result (λ head. head ≡ h)) same c.read-in-Some-first_chunk.ensures.fields

pub returns-in-Some-first_chunk-clause-there : goal.returns-in-Some-first_chunk-clause-there
returns-in-Some-first_chunk-clause-there c =
    let s = c.args.skb.now in
    let front = c.args.front.now in
    let bytes = c.joined.result in
    let first = c.in-Some-first_chunk.ensures.cases in
    let all = front ++ buffer_bytes s in (
      λ some. omega (arith, (sizes (any_head all)).1, length-append front (buffer_bytes s), c.requires.long, first.enough, c.head.ensures.size, c.len.ensures.size, c.len.ensures.bytes),
      λ there. c.read-in-Some-first_chunk.ensures.there.1 (omega (
        arith,
        (sizes (any_head bytes)).1,
        ap length c.joined.ensures.bytes,
        length-append front c.in-Some-first_chunk.rest.now,
        c.requires.long,
        ap length first.same,
        length-take 4 c.head.result.now,
        first.enough,
      )),
    )

pub returns-in-Some-clause-head : goal.returns-in-Some-clause-head
returns-in-Some-clause-head c = c.in-Some.ensures.fields ∙ sym (there_still c.args.front.now (buffer_bytes c.args.skb.now) c.requires.long (c.in-Some.ensures.there.0 refl)).0

pub returns-in-Some-clause-there : goal.returns-in-Some-clause-there
returns-in-Some-clause-there c = (λ _. (there_still c.args.front.now (buffer_bytes c.args.skb.now) c.requires.long (c.in-Some.ensures.there.0 refl)).1, λ _. refl)

pub returns-in-None-clause-there : goal.returns-in-None-clause-there
returns-in-None-clause-there c =
    let bytes = buffer_bytes c.args.skb.now in (
      λ some. absurd (false≢true some),
      λ there. c.in_default.ensures.there.1 (there_alone c.args.front.now bytes c.requires.long (omega (arith, c.in-None.ensures.cases, c.head.ensures.size, c.len.ensures.size, c.len.ensures.bytes, c.requires.front)) there),
    )
