use Rattle.std.proofs.Common.{◌+◌, ◌++◌, [], ◌∷◌, arith, refl}
use Rattle.std.proofs.lemmas.Bool.{false≢true, leb-true, le-leb}
use Rattle.frame_layout.specs.Shape.{Layout}
use Rattle.pcap_io.specs.Capture.{Packet}
use Rattle.offload_model.proofs.Within.{short}
use Rattle.merge_rule.proofs.Knows.{no_first_by, len_with}
use Rattle.frame_runs.specs.declared.run.Run.{Run}
use Rattle.frame_runs.proofs.Running.{known, few_enough, too_many}
use Rattle.frame_runs.proofs.run.Run.is_within.Goals as goal

pub returns-then-self-limits : goal.returns-then-self-limits
returns-then-self-limits g c =
    let run : Run = c.args.self.now in
    let x : Packet = g.F.Frame.packet c.args.next.now in
    record {
      within = λ p rest k m. (
        λ e. absurd (false≢true e),
        λ w. absurd (too_many p x rest run.more c.args.limits.segs c.if-self-limits.true k.more w.0),
      );
    }

pub returns-then-limits-ge-FRAME_LIMIT : goal.returns-then-limits-ge-FRAME_LIMIT
returns-then-limits-ge-FRAME_LIMIT g c =
    let run : Run = c.args.self.now in
    let x : Packet = g.F.Frame.packet c.args.next.now in
    record {
      within = λ p rest k m.
          let few = few_enough p x rest run.more c.args.limits.segs c.if-self-limits.false k.more in
          (λ e. (few, omega (arith, short ((p ∷ rest) ++ (x ∷ [])) m, c.if-limits-ge-FRAME_LIMIT.true)), λ w. refl);
    }

pub returns-in_default : goal.returns-in_default
returns-in_default g c =
    let run : Run = c.args.self.now in
    let x : Packet = g.F.Frame.packet c.args.next.now in
    record { within = λ p rest k m. absurd (no_first_by run.layout run.payload run.flags run.progress p x rest k.is c.in_default.is m) }

pub returns : goal.returns
returns g c =
    let run : Run = c.args.self.now in
    let x : Packet = g.F.Frame.packet c.args.next.now in
    record {
      within = λ p rest k m.
          let few = few_enough p x rest run.more c.args.limits.segs c.if-self-limits.false k.more in
          let layout : Layout = c.in-Some.layout in
          let long = len_with p rest layout run.payload run.flags run.progress (known run p rest layout c.in-Some.is k) x m in (
            λ e. (few, omega (arith, long, leb-true (run.progress.total + c.len.result) (c.args.limits.bytes + c.payload_at.result) e, c.len.ensures.len, c.payload_at.ensures.place)),
            λ w. le-leb (run.progress.total + c.len.result) (c.args.limits.bytes + c.payload_at.result) (omega (arith, long, w.1, c.len.ensures.len, c.payload_at.ensures.place)),
          );
    }
