use Rattle.std.proofs.Common.{◌≡◌, ◌+◌, ◌≤◌, ◌++◌, length, sym, ap, ◌∙◌, subst, arith, length-take}
use Rattle.frame_layout.specs.Shape.{Layout}
use Rattle.frame_layout.specs.Headers.{AtHeaders}
use Rattle.offload_model.specs.Mergeable.{IsLengthInRange}
use Rattle.offload_model.specs.Edits.{with_edits, with_lengths_and_sums, put_flags_of}
use Rattle.offload_model.specs.Frames.{merged_frame, IsMergedFrame}
use Rattle.offload_model.proofs.Functions.{merged_is}
use Rattle.header_fill.proofs.Along.{flags_same}
use Rattle.frame_layout.proofs.Lemmas.{inside_all}
use Rattle.header_fill.proofs.merge_headers.Goals as goal

pub put_flags-requires : goal.put_flags-requires
put_flags-requires c = record { inside = inside_all 0 (length c.args.head.now) c.args.headers.now c.requires.laid }

pub fill-requires-clause-ranges : goal.fill-requires-clause-ranges
fill-requires-clause-ranges c =
    subst (λ n. AtHeaders (IsLengthInRange (n + c.args.payload.len)) c.args.headers.now) (sym c.put_flags.auto.head) c.requires.ranges

pub returns-clause-merged : goal.returns-clause-merged
returns-clause-merged c = λ first last bytes begins has s.
    c.fill.ensures.filled bytes s
    ∙ ap (with_lengths_and_sums c.args.headers.now)
    (c.put_flags.ensures.edited bytes
    ∙ flags_same c.args.flags last c.args.headers.now (c.args.head.now ++ bytes) has
    ∙ ap (λ z. with_edits (put_flags_of last) c.args.headers.now (z ++ bytes)) (sym begins))

pub returns-clause-frame : goal.returns-clause-frame
returns-clause-frame c = λ first last bytes begins has s in_first in_last in_bytes.
    let layout : Layout = record { headers = c.args.headers.now; payload_at = length c.args.head.now } in
    let whole : length c.args.head.now ≤ length first = omega (arith, ap length begins, length-take (length c.args.head.now) first) in
    let merged : c.fill.new.head ++ bytes ≡ merged_frame layout first last bytes
    = c.fill.ensures.filled bytes s
    ∙ ap (with_lengths_and_sums c.args.headers.now)
    (c.put_flags.ensures.edited bytes
    ∙ flags_same c.args.flags last c.args.headers.now (c.args.head.now ++ bytes) has
    ∙ ap (λ z. with_edits (put_flags_of last) c.args.headers.now (z ++ bytes)) (sym begins)) in
    subst (IsMergedFrame layout first last bytes) (sym merged)
    (merged_is layout first last bytes c.requires.laid whole in_first in_last in_bytes
    (subst (λ n. AtHeaders (IsLengthInRange (length c.args.head.now + n)) c.args.headers.now) s.1 c.requires.ranges))
