use Rattle.std.proofs.Common.{◌-◌, arith}
use Rattle.std.proofs.lemmas.Bool.Decides.{Decides-eqb}
use Rattle.std.proofs.lemmas.Slice.Eq.{slice_eq-Decides}
use Rattle.merge_rule.proofs.Headers.{same_parts, parts_same}
use Rattle.merge_rule.proofs.alike.are_many_same.Goals as goal

pub returns : goal.returns
returns c =
    let d = slice_eq-Decides Decides-eqb _ _ c.eq.result c.eq.ensures in
    record {
      same = (
        λ t. parts_same c.args.first.now c.args.next.now c.args.from c.args.to (c.args.to - c.args.from) (omega arith) (d.0 t),
        λ a. d.1 (same_parts c.args.first.now c.args.next.now c.args.from c.args.to (c.args.to - c.args.from) (omega arith) c.requires.first c.requires.next a),
      );
    }
