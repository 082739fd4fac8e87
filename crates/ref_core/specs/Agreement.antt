-- Whole runs of the two machines, and that they give the same answers.
use Rattle.std.specs.Prelude.{◌≡◌, ℕ, List, [], ◌∷◌}
use Rattle.ref_core.specs.SetMachine.{first_sets, set_step}
use Rattle.ref_core.specs.WeightMachine.{first_weights, weight_step}
use Rattle.ref_core.specs.declared.event.Event.{Event}
use Rattle.ref_core.specs.declared.event.Answer.{Answer}
use Rattle.ref_core.specs.declared.event.Answer.TheVariants.{BadGive}

module _ {S : Type 0} (step : S → Event → S × Answer) where
  -- the answers to the events, one after the other
  abbrev pub answers_of : S → List Event → List Answer
  answers_of s [] = []
  answers_of s (event ∷ events) = (step s event).1 ∷ answers_of (step s event).0 events

  -- the state after the events
  abbrev pub after : S → List Event → S
  after s [] = s
  after s (event ∷ events) = after (step s event).0 events

abbrev pub IsNotBadGive : Answer → Type 0
IsNotBadGive BadGive = ⊥
IsNotBadGive _ = Unit {0}

abbrev pub NoBadGive : List Answer → Type 0
NoBadGive [] = Unit {0}
NoBadGive (answer ∷ rest) = IsNotBadGive answer × NoBadGive rest

-- over every list of events at which the weight machine answers no `BadGive`, both give the same answers
abbrev pub MachinesAgree : Type 0
MachinesAgree = (blocks : ℕ) (events : List Event) → NoBadGive (answers_of weight_step (first_weights blocks) events)
    → answers_of set_step (first_sets blocks) events ≡ answers_of weight_step (first_weights blocks) events
