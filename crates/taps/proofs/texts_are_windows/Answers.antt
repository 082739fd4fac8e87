use Rattle.taps.proofs.Windows.{texts_records}
use Rattle.taps.proofs.texts_are_windows.Goals as goal

pub returns : goal.returns
returns c = record { law = texts_records }
