use Rattle.std.proofs.Common.{arith, ap}
use Rattle.reading.specs.Reading.{front_size}
use Rattle.reading.proofs.Recording.{kept_given}
use Rattle.reading.proofs.record.finish_record.Goals as goal

pub returns-clause-given : goal.returns-clause-given
returns-clause-given g c = λ at used blocks keeps fits.
    let r = c.read_packet in
    kept_given r.result _ _ at c.args.reader.now.place r.new.reader.place used blocks r.new.front c.args.head.now c.args.packets.now r.new.packets keeps
    (omega (arith, fits, c.requires.front, ap front_size keeps.enters.link)) r.ensures.reads.place r.ensures.given
