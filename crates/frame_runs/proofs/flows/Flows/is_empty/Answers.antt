use Rattle.std.proofs.Common.{◌≡◌, None, subst, arith}
use Rattle.slab.specs.Slab.{slab_len}
use Rattle.frame_runs.specs.declared.flows.Flows.{Flows}
use Rattle.frame_runs.specs.Flows.{place_of}
use Rattle.frame_runs.proofs.Flowing.{none_in}
use Rattle.frame_runs.proofs.flows.Flows.is_empty.Goals as goal

pub returns : goal.returns
returns c = record {
  none = λ e ps q.
      let none : slab_len c.self.inside.groups ≡ 0 = grind (arith, e, c.is_empty.ensures) in
      subst (λ (z : Flows). place_of ps z q ≡ None) c.self.view_is (none_in ps q c.self.inside.groups.slots none);
}
