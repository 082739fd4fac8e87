use Rattle.std.proofs.Common.{◌≡◌, map, subst}
use Rattle.std.specs.Prelude.{IfOk, option_map}
use Rattle.taps.specs.Clones.{shown_packet}
use Rattle.taps.specs.Texts.{texts_of}
use Rattle.taps.proofs.Windows.{records_if}
use Rattle.taps.proofs.task.read_clones.Goals as goal

pub returns-clause-windows : goal.returns-clause-windows
returns-clause-windows g c =
    let clones = c.args.clones.now.items in
    let shown = shown_packet (option_map (λ p. p.now) c.args.filter) in
    let read = c.read_texts-texts.result in
    records_if c.args.snap c.args.tap (map shown clones) read
    (subst (λ z. IfOk read (λ texts. texts ≡ texts_of c.args.snap c.args.tap (map shown z))) c.deref.ensures.value c.read_texts-texts.ensures.texts)
