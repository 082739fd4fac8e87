use Rattle.std.proofs.Common.{◌-◌, ◌≤◌, [], take, drop, subst, arith}
use Rattle.std.proofs.lemmas.List.{length-drop}
use Rattle.inet_sum.specs.Stands.{StandsFor}
use Rattle.frame_bursts.specs.Links.{raw_packet}
use Rattle.frame_bursts.proofs.Framing.{at_in_head, behind_at, bytes_behind}
use Rattle.frame_bursts.proofs.raw_frame.RawFrameFrame.sum_from.Goals as goal

pub returns-clause-sum : goal.returns-clause-sum
returns-clause-sum c =
    let f = c.args.self.now in
    let at : c.args.at ≤ f.head_len = at_in_head f c.requires.held c.args.at c.requires.low c.requires.inside in
    subst (StandsFor c.joined.result) (behind_at f c.requires.held c.args.at at)
    (c.joined.ensures.sum (take (f.head_len - c.args.at) (drop c.args.at f.head)) c.requires.held.front.rest
    (c.add.ensures.sum [] c.new-sum.ensures.sum) c.requires.held.behind)

pub returns-clause-len : goal.returns-clause-len
returns-clause-len c =
    let sum = returns-clause-sum c in
    omega (arith, sum.1, length-drop c.args.at (raw_packet c.args.self.now).frame, c.requires.inside)

pub returns-clause-in_bytes : goal.returns-clause-in_bytes
returns-clause-in_bytes c = bytes_behind c.args.at (raw_packet c.args.self.now).frame c.requires.held.in_bytes
