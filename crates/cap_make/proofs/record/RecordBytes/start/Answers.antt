use Rattle.std.proofs.Common.{ap, ◌∙◌, length}
use Rattle.cap_make.proofs.Counting.{room, started, length-counting}
use Rattle.cap_make.proofs.record.RecordBytes.start.Goals as goal

pub returns-clause-bytes : goal.returns-clause-bytes
returns-clause-bytes c = started c.self.inside.bytes c.count_up.new.bytes c.args.len c.args.first _ c.self.told c.requires.room c.count_up.ensures.bytes
    (room c.self.inside.bytes c.args.len c.self.told c.requires.room)

pub returns-clause-len : goal.returns-clause-len
returns-clause-len c = ap length (returns-clause-bytes c) ∙ length-counting c.args.first c.args.len
