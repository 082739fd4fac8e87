use Rattle.std.proofs.Common.{◌∙◌, sym, arith, lt_of_lt_of_le}
use Rattle.comparing.proofs.Unread.{next_there, left_is, fewer, next_left, some_begins, in_head, own_left, own_fewer}
use Rattle.comparing.proofs.payload.Payload.take.Goals as goal

pub overflow_sub-self-then-is_read : goal.overflow_sub-self-then-is_read
overflow_sub-self-then-is_read c =
    let u = c.self.inside in
    let read = c.is_read.ensures.read c.if-is_read.true in
    omega (
      arith,
      fewer u.bytes u.from u.packets.now u.next.now u.more u.behind u.left c.self.invariant read.0 read.1 c.index-self-k.result c.behind-own.result c.take-bytes.result.now
          c.take-bytes.new.self c.behind-own.ensures.all c.take-bytes.ensures.bytes,
    )

pub invariant_of-self : goal.invariant_of-self
invariant_of-self c =
    let u = c.self.inside in
    let read = c.is_read.ensures.read c.if-is_read.true in
    next_left u.bytes u.from u.packets.now u.next.now u.more u.behind u.left c.self.invariant read.0 read.1 c.index-self-k.result c.behind-own.result c.take-bytes.result.now
    c.take-bytes.new.self c.behind-own.ensures.all c.take-bytes.ensures.bytes

pub returns-then-is_read-clause-bytes : goal.returns-then-is_read-clause-bytes
returns-then-is_read-clause-bytes c =
    let u = c.self.inside in
    let read = c.is_read.ensures.read c.if-is_read.true in
    sym c.self.view_is ∙ left_is u.bytes u.from u.packets.now u.next.now u.more u.behind u.left c.self.invariant read.0 read.1 c.index-self-k.result c.behind-own.result
    c.take-bytes.result.now c.take-bytes.new.self c.behind-own.ensures.all c.take-bytes.ensures.bytes

pub returns-then-is_read-clause-some : goal.returns-then-is_read-clause-some
returns-then-is_read-clause-some c = λ most some.
    let u = c.self.inside in
    let read = c.is_read.ensures.read c.if-is_read.true in
    let i = c.self.invariant in
    let has = next_there u.bytes u.from u.packets.now u.next.now u.more u.behind u.left i read.0 read.1 in
    c.take-bytes.ensures.some most (some_begins u.packets.now u.from u.behind c.index-self-k.result i.are i.low has c.behind-own.result c.behind-own.ensures.all)

pub behind-own-requires : goal.behind-own-requires
behind-own-requires c =
    let u = c.self.inside in
    let read = c.is_read.ensures.read c.if-is_read.true in
    let i = c.self.invariant in
    record {
      inside = in_head u.packets.now u.from u.behind c.index-self-k.result i.are i.low
          (next_there u.bytes u.from u.packets.now u.next.now u.more u.behind u.left i read.0 read.1);
    }

pub overflow_sub-self-2 : goal.overflow_sub-self-2
overflow_sub-self-2 c =
    let u = c.self.inside in
    own_fewer u.bytes c.take-bytes-2.result.now c.take-bytes-2.new.self u.from u.packets.now u.next.now u.more u.behind u.left c.take-bytes-2.ensures.bytes c.self.invariant

pub invariant_of-self-2 : goal.invariant_of-self-2
invariant_of-self-2 c =
    let u = c.self.inside in
    own_left u.bytes c.take-bytes-2.result.now c.take-bytes-2.new.self u.from u.packets.now u.next.now u.more u.behind u.left c.take-bytes-2.ensures.bytes c.self.invariant

pub bounds-self-inside-k-then-is_read : goal.bounds-self-inside-k-then-is_read
bounds-self-inside-k-then-is_read c =
    let u = c.self.inside in
    let read = c.is_read.ensures.read c.if-is_read.true in
    let i = c.self.invariant in
    lt_of_lt_of_le (next_there u.bytes u.from u.packets.now u.next.now u.more u.behind u.left i read.0 read.1).inside i.linked

pub overflow_sub-self : goal.overflow_sub-self
overflow_sub-self c = (c.is_read.ensures.read c.if-is_read.true).1
