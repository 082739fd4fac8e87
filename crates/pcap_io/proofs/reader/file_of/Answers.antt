use Rattle.std.proofs.Common.{sym, ap, ◌∙◌, Option}
use Rattle.std.specs.Prelude.{unwrap_or, Bool, false}
use Rattle.net_bytes.specs.declared.order.Order.{Order}
use Rattle.net_bytes.specs.declared.order.Order.TheVariants.{Little}
use Rattle.pcap_io.proofs.Judging.{file_fields, number_behind}
use Rattle.pcap_io.proofs.reader.file_of.Goals as goal

pub returns-in-None : goal.returns-in-None
returns-in-None c =
    let head = c.args.head.now in
    let named = c.unwrap_or-order in
    let order = named.result.0 in
    record {
      file = (
        sym c.refuse_file.ensures.refused ∙ c.in-None.is,
        file_fields head named.result c.get32.result c.get32-in-None.result (named.ensures
            ∙ ap (λ (o : Option (Order × Bool)). unwrap_or o (Little, false)) c.spelling.ensures.value)
            (c.get32.ensures.number ∙ number_behind order 4 8 head) (c.get32-in-None.ensures.number
            ∙ number_behind order 4 12 head),
      );
    }
