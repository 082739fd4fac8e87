use Rattle.std.proofs.Common.{◌≡◌, drop}
use Rattle.frame_layout.specs.Headers.{all_headers}
use Rattle.offload_model.specs.Tests.{is_ack_alone}
use Rattle.merge_rule.proofs.next.are_acks_alone.Given as goal

abbrev pub invariant-loop-header : goal.invariant-loop-header
invariant-loop-header l = all_headers (is_ack_alone l.frame) (drop l.header-index l.headers) ≡ all_headers (is_ack_alone l.frame) l.headers
