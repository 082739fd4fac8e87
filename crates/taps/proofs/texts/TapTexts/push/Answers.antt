use Rattle.std.proofs.Common.{ℕ, List, ◌++◌, ◌∷◌, [], length, map, arith, ap, sym, ◌∙◌, subst, length-append}
use Rattle.std.specs.List.{slice_range}
use Rattle.skb.specs.SkbState.{buffer_bytes}
use Rattle.taps.specs.Texts.{text_at}
use Rattle.taps.specs.declared.texts.Span.{Span}
use Rattle.taps.proofs.Spans.{AreWithin, within_more, texts_more}
use Rattle.taps.proofs.texts.TapTexts.push.Goals as goal

pub invariant_of-self-2 : goal.invariant_of-self-2
invariant_of-self-2 c =
    let e = c.in_ok-append.ensures.ok in
    let ys : List ℕ = slice_range (buffer_bytes c.args.packet.now.skb.now) c.args.from c.args.to in
    let s : Span = record {
      number = c.args.packet.now.number;
      sec = c.args.packet.now.sec;
      frac = c.args.packet.now.frac;
      original = c.args.packet.now.original;
      from = c.len-start.result;
      to = c.len.result;
    } in
    subst (AreWithin c.append.new.bytes.items) (sym {A = List Span} c.in_ok-push.ensures.items)
    (within_more c.self.inside.bytes.items ys c.append.new.bytes.items c.self.inside.spans.items s e c.self.invariant (
      (omega (arith, ap length e, length-append c.self.inside.bytes.items ys, c.in_ok-append.ensures.more, c.self.inside.bytes.ok, c.append.new.bytes.ok, c.len-start.ensures, c.len.ensures)),
      (omega (arith, c.len.ensures, c.append.new.bytes.ok)),
    ))

pub returns : goal.returns
returns c =
    let ys : List ℕ = slice_range (buffer_bytes c.args.packet.now.skb.now) c.args.from c.args.to in
    let s : Span = record {
      number = c.args.packet.now.number;
      sec = c.args.packet.now.sec;
      frac = c.args.packet.now.frac;
      original = c.args.packet.now.original;
      from = c.len-start.result;
      to = c.len.result;
    } in
    record {
      pushed =
          ap (map (text_at c.append.new.bytes.items)) c.in_ok-push.ensures.items
          ∙ texts_more c.self.inside.bytes.items ys c.append.new.bytes.items c.self.inside.spans.items s c.in_ok-append.ensures.ok c.self.invariant
          (omega (arith, c.len-start.ensures, c.self.inside.bytes.ok)) (omega (arith, c.len.ensures, c.append.new.bytes.ok))
          ∙ ap (λ z. z ++ record { number = s.number; sec = s.sec; frac = s.frac; original = s.original; frame = ys } ∷ []) c.self.view_is;
    }
