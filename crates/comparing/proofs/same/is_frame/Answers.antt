use Rattle.std.proofs.Common.{◌∙◌, sym, ◌+◌, ℕ, length, take, ap, length-append, length-take-le}
use Rattle.std.proofs.lemmas.Bool.{false≢true}
use Rattle.skb.specs.SkbState.{buffer_bytes}
use Rattle.comparing.proofs.Passing.{whole_alike, header_begins}
use Rattle.comparing.proofs.same.is_frame.Goals as goal

pub returns-then-not-begins_with : goal.returns-then-not-begins_with
returns-then-not-begins_with c = record {
  same = (
    λ e. absurd (false≢true e),
    λ e. sym c.if-not-begins_with.true ∙ c.begins_with.ensures.same.1 (header_begins (buffer_bytes c.args.skb.now) c.behind-bytes.result c.args.header.now c.args.payload.now c.args.n
        c.behind-bytes.ensures.all e),
  );
}

pub returns : goal.returns
returns c = record {
  same = whole_alike (buffer_bytes c.args.skb.now) c.behind-bytes.result c.args.header.now c.begins_with.new.self c.args.payload.now c.args.n c.begins_alike.result
      (sym c.len.ensures.bytes ∙ c.if-len-header.false) c.behind-bytes.ensures.all (c.begins_with.ensures.same.0 c.if-not-begins_with.false)
      (c.begins_with.ensures.behind c.if-not-begins_with.false) c.begins_alike.ensures.same;
}

pub returns-then-len-header : goal.returns-then-len-header
returns-then-len-header c =
    let header = c.args.header.now in
    let payload = c.args.payload.now in
    record {
      same = (
        λ e. absurd (false≢true e),
        λ e. absurd (c.if-len-header.true (c.len.ensures.bytes ∙ ap length e ∙ length-append header (take c.args.n payload)
            ∙ ap (λ (k : ℕ). length header + k) (length-take-le c.args.n payload c.requires.there))),
      );
    }
