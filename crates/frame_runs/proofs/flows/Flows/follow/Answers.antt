use Rattle.std.proofs.Common.{◌+◌, ℕ, Some, None, Option, List}
use Rattle.std.specs.Prelude.{if◌then◌else◌}
use Rattle.frame_layout.specs.Key.{key_of}
use Rattle.frame_runs.proofs.Flowing.{puts_again, puts_none}
use Rattle.frame_runs.proofs.flows.Flows.follow.Goals as goal

pub begin-requires-clause-room : goal.begin-requires-clause-room
begin-requires-clause-room g c = c.close.ensures.room 1 c.requires.room

pub returns-clause-flows : goal.returns-clause-flows
returns-clause-flows g c = λ ps flows is own.
    let key : Option (List ℕ) = key_of (g.F.Frame.packet c.args.slot.now).frame in
    c.begin.ensures.flows ps (c.close.ensures.flows ps flows own) is (puts_none ps c.args.self.now c.close.new.self key (c.close.ensures.puts ps flows own))

pub returns-clause-puts : goal.returns-clause-puts
returns-clause-puts g c = λ ps flows is own.
    let key : Option (List ℕ) = key_of (g.F.Frame.packet c.args.slot.now).frame in
    puts_again ps c.args.self.now c.close.new.self c.begin.new.self key None (if c.args.is_open then Some c.args.group.run else None) (c.close.ensures.puts ps flows own)
    (c.begin.ensures.puts ps (c.close.ensures.flows ps flows own) is (puts_none ps c.args.self.now c.close.new.self key (c.close.ensures.puts ps flows own)))

pub returns-clause-room : goal.returns-clause-room
returns-clause-room g c = λ n room. c.begin.ensures.room n (c.close.ensures.room (n + 1) room)
