use Rattle.std.proofs.Common.{◌≡◌, ◌≤◌, ℕ, refl, sym, ap, ◌∙◌, subst, arith}
use Rattle.std.specs.Prelude.{None}
use Rattle.pcap_io.specs.Headers.{first_that_holds, head_refusals, captured_limit, is_bad_original, lacks_off_head}
use Rattle.pcap_io.proofs.Judging.{counted_next, lawful_is, number_behind}
use Rattle.pcap_io.proofs.place.Place.enter.Goals as goal

pub returns : goal.returns
returns c =
    let p = c.args.self.now in
    let head = c.args.head.now in
    let order = p.file.order in
    let lawful : first_that_holds (head_refusals order p.link p.number head) ≡ None = sym
    c.refuse_head.ensures.refused ∙ c.in_default.is in
    let is = lawful_is order p.link p.number head lawful in
    let captured = c.get32-3.ensures.number ∙ number_behind order 4 8 head in
    let original = c.get32-4.ensures.number ∙ number_behind order 4 12 head in
    let limit = subst (λ (n : ℕ). n ≤ captured_limit p.link) (sym captured) is.limit in
    record {
      lawful = lawful;
      fields = record {
        sec = c.get32.ensures.number;
        frac = c.get32-2.ensures.number
            ∙ number_behind order 4 4 head;
        captured = captured;
        original = original;
      };
      limit = limit;
      original = ap (is_bad_original p.link) original ∙ is.original;
      off_head = ap (lacks_off_head p.link) captured ∙ is.off_head;
      enters = record {
        file = refl;
        link = refl;
        number = refl;
        offset = omega (arith, c.from.ensures);
        current = refl;
        body = refl;
        goes_on = c.requires.goes_on;
        numbered = refl;
        lies = refl;
      };
      counted = counted_next p _ c.from.result c.requires.counted is.few (subst (λ (n : ℕ). n ≤ captured_limit
          p.link) (sym c.from.ensures) limit) refl refl;
      refused = tt;
    }
