use Rattle.std.proofs.Common.{◌+◌, ◌≤◌, length, sym, ◌∙◌, subst}
use Rattle.frame_layout.specs.Headers.{AtHeaders, size}
use Rattle.offload_model.specs.Mergeable.{IsLengthInRange}
use Rattle.frame_layout.proofs.Lemmas.{inside_all}
use Rattle.segment_rule.proofs.segmentation.Segmentation.put_headers.Goals as goal

pub put_places-requires : goal.put_places-requires
put_places-requires c = record {
  inside = subst (λ hs. AtHeaders (λ layer at. at + size layer ≤ length c.args.head.now) hs) (sym c.headers-headers.ensures.headers)
      (inside_all 0 (length c.args.head.now) c.args.self.now.layout.headers c.requires.laid);
}

pub put_flags-requires : goal.put_flags-requires
put_flags-requires c = record {
  inside = subst (λ hs. AtHeaders (λ layer at. at + size layer ≤ length c.put_places.new.head) hs) (sym c.headers-headers.ensures.headers)
      (subst (λ n. AtHeaders (λ layer at. at + size layer ≤ n) c.args.self.now.layout.headers) (sym c.put_places.auto.head)
      (inside_all 0 (length c.args.head.now) c.args.self.now.layout.headers c.requires.laid));
}

pub fill-requires-clause-ranges : goal.fill-requires-clause-ranges
fill-requires-clause-ranges c =
    subst (λ hs. AtHeaders (IsLengthInRange (length c.if-i-n.head + c.args.payload.len)) hs) (sym c.headers-headers.ensures.headers)
    (subst (λ n. AtHeaders (IsLengthInRange (n + c.args.payload.len)) c.args.self.now.layout.headers) (sym (c.if-i-n.auto.head ∙ c.put_places.auto.head)) c.requires.ranges)
