use Rattle.std.proofs.Common.{arith, ◌≡◌, ◌∙◌, ◌+◌, ◌%◌, ap}
use Rattle.cap_make.specs.Capture.{Next}
use Rattle.cap_make.specs.Draws.{draws}
use Rattle.cap_make.specs.Frames.{frame_of}
use Rattle.cap_make.proofs.Steps.{made_record}
use Rattle.cap_make.proofs.maker.Maker.next_record.Goals as goal

pub returns-clause-bytes : goal.returns-clause-bytes
returns-clause-bytes c =
    let d = c.draw_record-drawn.result in
    let s = c.segment-segment.result in
    let first : (c.from.result + c.args.number % 256) % 256 ≡ (d.flow + c.args.number) % 256 = omega arith in
    c.push_header.ensures.bytes
    ∙ made_record d s c.args.self.now c.args.number _ c.push_frame.new.buffer (c.draw_record-drawn.ensures.draws ∙ ap (λ (n : Next). draws n.state) c.self.view_is) c.segment-segment.ensures.segment
    first
    (c.push_frame.ensures.bytes ∙ ap (λ z. frame_of s z) c.start.ensures.bytes)
