use Rattle.std.proofs.Common.{ap, sym, subst, arith, length}
use Rattle.std.proofs.KnownBytes.{Keeps-refl}
use Rattle.skb.specs.SkbState.{SkbState, weighed_in, IsAlone}
use Rattle.reading.specs.Reading.{record_of}
use Rattle.segmenting.proofs.Heads.{alone_within, behind_is, not_lawful}
use Rattle.segmenting.proofs.cut.cut_record.Goals as goal

pub write_judged-requires-clause-alone : goal.write_judged-requires-clause-alone
write_judged-requires-clause-alone g c = alone_within c.args.packet.skb c.take_head.new.skb _ c.in-Some.ensures.within c.requires.alone

pub returns-in-Some-clause-writes : goal.returns-in-Some-clause-writes
returns-in-Some-clause-writes g c =
    let front = c.args.front.now in
    let k = c.args.packet in
    c.write_judged.ensures.writes (record_of front k)
    (behind_is front k c.take_head.new.skb c.in-Some.head c.in-Some.ensures.head c.in-Some.ensures.size c.in-Some.ensures.behind)

pub bring_packet-requires-clause-alone : goal.bring_packet-requires-clause-alone
bring_packet-requires-clause-alone g c = subst IsAlone (sym c.in-None.ensures.none.1) c.requires.alone

pub returns-in-None-clause-writes : goal.returns-in-None-clause-writes
returns-in-None-clause-writes g c = (not_lawful (record_of c.args.front.now c.args.packet) c.in-None.ensures.none.0, Keeps-refl _)

pub returns-in-Some-clause-adds : goal.returns-in-Some-clause-adds
returns-in-Some-clause-adds g c =
    let e = c.write_judged.ensures.adds in
    let within = c.in-Some.ensures.within in
    record {
      home = omega (arith, e.home, ap (λ (s : SkbState). length s.rest) within);
      named = λ h. omega (arith, e.named h, ap (weighed_in h) within);
      made = e.made;
    }

pub returns-in-None-clause-adds : goal.returns-in-None-clause-adds
returns-in-None-clause-adds g c =
    let e = c.bring_packet.ensures.adds in
    let same = c.in-None.ensures.none.1 in
    record {
      home = omega (arith, e.home, ap (λ (s : SkbState). length s.rest) same);
      named = λ h. omega (arith, e.named h, ap (weighed_in h) same);
      made = e.made;
    }
