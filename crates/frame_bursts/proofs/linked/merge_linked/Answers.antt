use Rattle.std.proofs.Common.{List, map, take, sym, ap, ◌∙◌, subst}
use Rattle.std.specs.List.{AllByRecursion}
use Rattle.pcap_io.specs.Capture.{Packet}
use Rattle.frame_bursts.specs.Burst.{AreFrames, ComesBack, frames_of}
use Rattle.frame_bursts.specs.Links.{framed, raw_packet}
use Rattle.frame_bursts.specs.declared.link.Link.{Link}
use Rattle.frame_bursts.proofs.Rising.{all_short}
use Rattle.frame_bursts.proofs.linked.merge_linked.Goals as goal

pub merge_frames-requires-clause-held : goal.merge_frames-requires-clause-held
merge_frames-requires-clause-held c =
    all_short c.args.frames.now (subst (λ (z : Link). AreFrames z c.args.frames.now) c.in-Ethernet.is c.requires.captured)

pub returns-in-Ethernet-clause-back : goal.returns-in-Ethernet-clause-back
returns-in-Ethernet-clause-back c =
    subst (λ (z : Link). AllByRecursion
    (λ r. ComesBack (frames_of (map (framed z) c.args.frames.now) c.merge_frames.new.next r))
    (take c.merge_frames.result c.merge_frames.new.runs)) (sym c.in-Ethernet.is) c.merge_frames.ensures.back

pub returns-in-RawIp-clause-back : goal.returns-in-RawIp-clause-back
returns-in-RawIp-clause-back c =
    let m = c.merge_frames-in-RawIp in
    subst (λ (z : Link). AllByRecursion
    (λ r. ComesBack (frames_of (map (framed z) c.args.frames.now) m.new.next r)) (take m.result m.new.runs))
    (sym c.in-RawIp.is)
    (subst (λ (ps : List Packet). AllByRecursion (λ r. ComesBack (frames_of ps m.new.next r)) (take m.result m.new.runs))
    (ap (map raw_packet) c.deref.ensures.value ∙ c.push_frames.ensures.all) m.ensures.back)
