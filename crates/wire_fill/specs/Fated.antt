-- What was done to sums.
use Rattle.std.specs.Prelude.{◌≡◌, ℕ, Bool, List, if◌then◌else◌}
use Rattle.frame_layout.specs.declared.layout.Header.{Header}
use Rattle.frame_layout.specs.declared.layout.Layer.{Layer}
use Rattle.wire_model.specs.declared.fate.Fate.{Fate}
use Rattle.wire_model.specs.declared.fate.Fate.TheVariants as fates
use Rattle.wire_model.specs.Filling.{fate_of, fill_sum, filled_in, wrong_in}
use Rattle.wire_fill.specs.declared.sums.Fates.{Fates}

abbrev pub fate_by : Bool → Bool → Fate
fate_by is_right is_due = if is_right then fates.Right else (if is_due then fates.Filled else fates.Wrong)

-- one header's sum was filled where it was due, and this became of it
pub record IsFilledBy (all : Bool) (ip : Header) (layer : Layer) (at : ℕ) (old new : List ℕ) (what : Fate)
    : Type 0 where
  pub filled : new ≡ fill_sum all ip layer at old
  pub fate : what ≡ fate_of all old ip layer at

-- so many were filled, and so many stay wrong
pub record IsFated (of : List Fate) (counts : Fates) : Type 0 where
  pub filled : counts.filled ≡ filled_in of
  pub wrong : counts.wrong ≡ wrong_in of
