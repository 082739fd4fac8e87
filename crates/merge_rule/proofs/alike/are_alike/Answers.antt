use Rattle.std.proofs.Common.{◌+◌, ◌++◌, drop, get_or, sym, subst}
use Rattle.std.proofs.lemmas.List.{drop_more}
use Rattle.frame_layout.specs.declared.layout.Header.{Header}
use Rattle.frame_layout.specs.declared.layout.Layer.TheVariants.{Ethernet}
use Rattle.merge_rule.specs.Next.{fields_at, varying_in, AreAlikeFrom}
use Rattle.merge_rule.proofs.Headers.{apart_all}
use Rattle.merge_rule.proofs.alike.are_alike.Goals as goal

pub loop-header-init : goal.loop-header-init
loop-header-init c = (apart_all 0 c.args.end c.args.headers.now c.requires.laid, (λ a. a, λ a. a))

pub returns-in_default : goal.returns-in_default
returns-in_default c =
    let d : Header = record { layer = Ethernet; at = 0 } in
    let hs = c.args.headers.now in
    let i = c.loop-header.header-index in
    record {
      alike = (
        λ e. absurd cc,
        λ a. absurd (c.in_default.ensures.alike (varying_in (drop (i + 1) hs))
            (subst (λ z. AreAlikeFrom c.args.first.now c.args.next.now c.args.end c.loop-header.from (fields_at (get_or hs i d).at z ++ varying_in (drop (i + 1) hs)))
            (sym c.varying-fields.ensures.fields)
            (subst (λ z. AreAlikeFrom c.args.first.now c.args.next.now c.args.end c.loop-header.from (varying_in z)) (drop_more hs i d c.loop-header-test.true) (c.loop-header.invariant.1.1 a)))),
      );
    }
