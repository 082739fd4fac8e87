use Rattle.std.proofs.Common.{◌-◌, List, map, subst, arith, vec_len, vec_capacity}
use Rattle.std.proofs.lemmas.List.{length-map}
use Rattle.pcap_io.specs.Capture.{Packet}
use Rattle.frame_bursts.specs.Kept.{HasRaw}
use Rattle.frame_bursts.specs.Links.{framed}
use Rattle.frame_bursts.proofs.Keeping.{front_twice, received_front}
use Rattle.frame_bursts.proofs.kept.BurstEngine.begin.Goals as goal

pub returns-then-self-gt0-clause-begun : goal.returns-then-self-gt0-clause-begun
returns-then-self-gt0-clause-begun c = λ t.
    let g = c.args.self.now in
    let ps : List Packet = map (framed g.link) c.args.frames.now in
    let has = c.requires.holds.has c.if-self-gt0.true in
    let n = length-map c.args.frames.now (framed g.link) in
    record {
      received = received_front g.limits g.received g.engine ps has.received
          (omega (arith, c.requires.few, n)) (omega (arith, c.requires.room, has.linked, n));
      places = has.places;
      linked = has.linked;
      raw = subst (λ (z : List Packet). HasRaw g.link z g.raw.items (vec_len g.raw) (vec_capacity g.raw) (g.limit - g.received)) (front_twice g.received ps) has.raw;
    }
