use Rattle.std.proofs.Common.{◌≡◌, ◌+◌, ℕ, length, take, ap, subst, arith, rules}
use Rattle.std.proofs.lemmas.Result.{err_from_is_err_and}
use Rattle.off_io.specs.Content.{AppendsPrefix}
use Rattle.off_io.proofs.Appending.{prefix_more}
use Rattle.gso.specs.Places.{bytes_at}
use Rattle.records.proofs.Stretches.{record_is, short, next_by}
use Rattle.records.proofs.Writing.{stopped, written}
use Rattle.records.proofs.segments.write_segment.Goals as goal

pub overflow_add-len : goal.overflow_add-len
overflow_add-len g c =
    omega (
      arith,
      c.headers_len.ensures.low,
      short c.args.file.now.order c.args.time c.args.segments.now c.args.i c.payload_len-n.result 0 c.args.place.now c.args.row.now c.args.row.now c.requires.at c.payload_len-n.ensures.len
          c.headers_len.ensures.short,
    )

pub overflow_cast-len : goal.overflow_cast-len
overflow_cast-len g c =
    omega (
      arith,
      c.headers_len.ensures.low,
      short c.args.file.now.order c.args.time c.args.segments.now c.args.i c.payload_len-n.result 0 c.args.place.now c.args.row.now c.args.row.now c.requires.at c.payload_len-n.ensures.len
          c.headers_len.ensures.short,
    )

pub returns-in_err-write_all-clause-writes : goal.returns-in_err-write_all-clause-writes
returns-in_err-write_all-clause-writes g c =
    let p = err_from_is_err_and c.from_residual.result c.from_residual.ensures.1 in
    let s = c.args.segments.now in
    let n = c.payload_len-n.result in
    let h = c.record_header-header in
    let head : length h.result ≡ 16 = search rules in
    let is = record_is c.args.file.now.order c.args.time s c.args.i n (c.headers_len.result + n) c.args.place.now c.put_row.new.row h.result c.requires.at c.payload_len-n.ensures.len h.ensures.bytes
    c.put_row.ensures.row c.put_row.ensures.size head (ap (λ (z : ℕ). z + n) c.headers_len.ensures.len) in
    let e = c.in_err-write_all.ensures in
    let err = subst (AppendsPrefix _ _) is (prefix_more _ _ c.put_row.new.row (take n (bytes_at s.skb c.args.place.now)) e.err) in
    stopped c.from_residual.result _ _ _ _ _ _ p.0 _ p.1 err (omega arith) e.cause

pub returns-clause-writes : goal.returns-clause-writes
returns-clause-writes g c =
    let s = c.args.segments.now in
    let n = c.payload_len-n.result in
    let h = c.record_header-header in
    let head : length h.result ≡ 16 = search rules in
    let is = record_is c.args.file.now.order c.args.time s c.args.i n (c.headers_len.result + n) c.args.place.now c.put_row.new.row h.result c.requires.at c.payload_len-n.ensures.len h.ensures.bytes
    c.put_row.ensures.row c.put_row.ensures.size head (ap (λ (z : ℕ). z + n) c.headers_len.ensures.len) in
    let e = c.in_ok-write_all.ensures in
    written c.write_next.result _ _ _ _ _ _ _ c.put_row.new.row (take n (bytes_at s.skb c.args.place.now)) is e.ok e.cause.later c.write_next.ensures.writes

pub returns-clause-next : goal.returns-clause-next
returns-clause-next g c =
    next_by c.args.file.now.order c.args.time c.args.segments.now c.args.i c.payload_len-n.result 0 c.args.place.now c.args.row.now c.args.row.now c.requires.at c.payload_len-n.ensures.len
    c.write_next.result c.write_next.new.place c.write_next.ensures.behind
