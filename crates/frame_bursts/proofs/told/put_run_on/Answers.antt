use Rattle.std.proofs.Common.{◌≤◌, ◌∷◌, sym, subst, arith}
use Rattle.pcap_io.specs.Capture.{Packet}
use Rattle.frame_runs.proofs.Payloads.{headers_low}
use Rattle.frame_bursts.specs.Burst.{SaysOn}
use Rattle.frame_bursts.specs.declared.link.Link.{Link}
use Rattle.frame_bursts.proofs.Without.{front_there, says_raw}
use Rattle.frame_bursts.proofs.told.put_run_on.Goals as goal

pub take_ethernet_off-requires : goal.take_ethernet_off-requires
take_ethernet_off-requires g c = record {
  headers = λ two.
      let several : 1 ≤ c.args.run.now.more = omega (arith, two, c.put_run.ensures.more) in
      let p : Packet = g.F.Frame.packet c.args.first.now in (
        omega (
          arith,
          c.put_run.ensures.size several,
          front_there c.args.run.now p c.requires.run.0 c.requires.run.1 several,
        ),
        omega (
          arith,
          c.put_run.ensures.size several,
          headers_low c.args.run.now p c.requires.run.0 c.requires.run.1 several,
        ),
      );
}

pub returns-in-RawIp-clause-says : goal.returns-in-RawIp-clause-says
returns-in-RawIp-clause-says g c = λ rest k.
    let p : Packet = g.F.Frame.packet c.args.first.now in
    subst (λ (z : Link). SaysOn z c.take_ethernet_off.new.told (p ∷ rest)) (sym c.in-RawIp.is)
    (says_raw c.put_run.new.told c.take_ethernet_off.new.told c.take_ethernet_off.ensures.without p rest
    (c.put_run.ensures.says rest k) (omega (arith, c.put_run.ensures.more, k.more)))
