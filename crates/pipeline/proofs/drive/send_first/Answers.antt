use Rattle.std.proofs.Common.{◌^◌, List, ap, sym, length}
use Rattle.rtrb.specs.Ring.{sent}
use Rattle.pipeline.specs.declared.parcel.Parcel.{Parcel}
use Rattle.pipeline.specs.Parcels.{rounds_of}
use Rattle.pipeline.proofs.Rows.{packets_none}
use Rattle.pipeline.proofs.drive.send_first.Goals as goal

pub send-requires : goal.send-requires
send-requires g c =
    let r = c.requires in
    record {
      allowed = record {
        number = sym (ap (λ (xs : List Parcel). length (rounds_of xs)) r.none);
        packets = packets_none (2 ^ 32) (sent c.args.out.now) r.none;
        is = r.read;
        blocks = r.within;
      };
    }
