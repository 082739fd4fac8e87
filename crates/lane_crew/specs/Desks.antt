-- A desk of lanes at which nothing was asked.
use Rattle.std.specs.Prelude.{◌≡◌, [], All}
use Rattle.lane_crew.specs.declared.crew.LaneDesk.{LaneDesk}

abbrev pub IsOpenDesk : LaneDesk → Type 0
IsOpenDesk d =
    (d.asker.desk ≡ d.errands) × (d.asker.log ≡ [])
    × (d.own ≡ d.errands) × All (λ r. r ≡ d.errands) d.runners.items
