use Rattle.std.proofs.Common.{◌≡◌, ◌∷◌, ◌++◌, [], List, length, length-append, ap, ◌∙◌, arith}
use Rattle.std.proofs.lemmas.List.{nil_from_length}
use Rattle.gro.specs.declared.slot.Slot.{Slot as Held}
use Rattle.wire_records.proofs.run.only_packet.Goals.{In-Some}
use Rattle.wire_records.proofs.run.only_packet.Goals as goal

none_left : (c : In-Some) → c.pop.new.self.items ≡ []
none_left c = nil_from_length c.pop.new.self.items (omega (arith, c.requires.one, ap length c.in-Some.ensures.some, length-append c.pop.new.self.items (c.in-Some.packet ∷ [])))

pub returns-clause-none : goal.returns-clause-none
returns-clause-none c = none_left c

pub returns-clause-only : goal.returns-clause-only
returns-clause-only c = c.in-Some.ensures.some ∙ ap (λ (ps : List Held). ps ++ c.in-Some.packet ∷ []) (none_left c)
