use Rattle.std.proofs.Common.{◌≡◌, ◌+◌, ◌≤◌, ℕ, List, length, take, sym, ap, ◌∙◌, subst}
use Rattle.std.proofs.lemmas.List.{length-take-le}
use Rattle.frame_layout.specs.declared.layout.Header.{Header}
use Rattle.frame_layout.specs.Headers.{AtHeaders, AreLaid}
use Rattle.frame_layout.specs.Segment.{HasFlags}
use Rattle.offload_model.specs.Frames.{merged_frame}
use Rattle.offload_model.specs.Mergeable.{IsLengthInRange}
use Rattle.frame_runs.proofs.merged_run.fill_headers.Goals as goal

-- the first bytes of the head, as many as the headers have
taken : (head old : List ℕ) (at n : ℕ) → at ≡ n → n ≤ length head → old ≡ take at head → (old ≡ take n head) × (length old ≡ n)
taken head old at n e h is =
    let t : old ≡ take n head = is ∙ ap (λ (z : ℕ). take z head) e in
    (t, ap length t ∙ length-take-le n head h)

pub merge_headers-requires-clause-laid : goal.merge_headers-requires-clause-laid
merge_headers-requires-clause-laid c =
    let layout = c.args.layout.now in
    let old : List ℕ = c.copy_from_slice.new.self in
    let t = taken c.args.head.now old c.payload_at.result layout.payload_at c.payload_at.ensures.place c.requires.inside c.copy_from_slice.ensures.after in
    subst (λ (z : List Header). AreLaid 0 z (length old)) (sym c.headers.ensures.headers) (subst (λ (z : ℕ). AreLaid 0 layout.headers z) (sym t.1) c.requires.laid)

pub merge_headers-requires-clause-ranges : goal.merge_headers-requires-clause-ranges
merge_headers-requires-clause-ranges c =
    let layout = c.args.layout.now in
    let old : List ℕ = c.copy_from_slice.new.self in
    let t = taken c.args.head.now old c.payload_at.result layout.payload_at c.payload_at.ensures.place c.requires.inside c.copy_from_slice.ensures.after in
    subst (AtHeaders (IsLengthInRange (length old + c.args.payload.len))) (sym c.headers.ensures.headers)
    (subst (λ (z : ℕ). AtHeaders (IsLengthInRange (z + c.args.payload.len)) layout.headers) (sym t.1) c.requires.ranges)

pub returns-clause-merged : goal.returns-clause-merged
returns-clause-merged c = λ first last bytes same flags sum.
    let layout = c.args.layout.now in
    let old : List ℕ = c.copy_from_slice.new.self in
    let t = taken c.args.head.now old c.payload_at.result layout.payload_at c.payload_at.ensures.place c.requires.inside c.copy_from_slice.ensures.after in
    c.merge_headers.ensures.merged first last bytes (ap (λ (z : ℕ). take z first) t.1 ∙ same ∙ sym t.0)
    (subst (AtHeaders (HasFlags c.args.flags last)) (sym c.headers.ensures.headers) flags) sum
    ∙ ap (λ (z : List Header). merged_frame (record { headers = z; payload_at = length old }) first last bytes) c.headers.ensures.headers
    ∙ ap (λ (z : ℕ). merged_frame (record { headers = layout.headers; payload_at = z }) first last bytes) t.1
