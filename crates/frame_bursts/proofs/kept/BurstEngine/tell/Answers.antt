use Rattle.std.proofs.Common.{◌≡◌, ℕ, List, length, map, take, sym, ap, ◌∙◌, subst, arith}
use Rattle.std.specs.List.{AllByRecursion}
use Rattle.offload_model.specs.Captured.{AreCaptured}
use Rattle.offload_model.specs.Rounds.{runs_within}
use Rattle.pcap_io.specs.Capture.{Packet}
use Rattle.frame_runs.specs.Engine.{AreRuns, runs_of}
use Rattle.frame_bursts.specs.Burst.{AreFrames, ComesBack, Merges, frames_of}
use Rattle.frame_bursts.specs.Links.{framed, raw_packet}
use Rattle.frame_bursts.specs.declared.link.Link.{Link}
use Rattle.frame_bursts.specs.declared.link.Link.TheVariants.{RawIp}
use Rattle.frame_bursts.proofs.Keeping.{are_runs, runs_are, raw_all, raw_held, raw_count_is}
use Rattle.frame_bursts.proofs.Rising.{all_short}
use Rattle.frame_bursts.proofs.kept.BurstEngine.tell.Goals as goal

pub put_merged-requires-clause-are : goal.put_merged-requires-clause-are
put_merged-requires-clause-are c =
    let g = c.args.self.now in
    subst (λ (z : Link). AreRuns (map (framed z) c.args.frames.now) (length c.args.frames.now) g.engine) c.in-Ethernet.is
    (are_runs c.args.frames.now g c.requires.holds c.requires.some)

pub put_merged-requires-clause-held : goal.put_merged-requires-clause-held
put_merged-requires-clause-held c =
    all_short c.args.frames.now
    (subst (λ (z : Link). AreFrames z c.args.frames.now) c.in-Ethernet.is c.requires.holds.captured)

pub returns-in-Ethernet-clause-merges : goal.returns-in-Ethernet-clause-merges
returns-in-Ethernet-clause-merges c =
    let g = c.args.self.now in
    let runs = runs_are c.args.frames.now g c.requires.holds c.requires.some in
    subst (λ (z : Link). Merges z g.limits (map (framed z) c.args.frames.now) c.put_merged.new.next
    (take c.put_merged.result c.put_merged.new.runs)) (sym c.in-Ethernet.is)
    (c.put_merged.ensures.merges g.limits (subst (λ (z : Link). runs_of (map (framed z) c.args.frames.now) g.engine
    ≡ runs_within g.limits (map (framed z) c.args.frames.now)) c.in-Ethernet.is runs))

pub returns-in-Ethernet-clause-back : goal.returns-in-Ethernet-clause-back
returns-in-Ethernet-clause-back c =
    let g = c.args.self.now in
    let runs = runs_are c.args.frames.now g c.requires.holds c.requires.some in
    subst (λ (z : Link). AllByRecursion
    (λ r. ComesBack (frames_of (map (framed z) c.args.frames.now) c.put_merged.new.next r))
    (take c.put_merged.result c.put_merged.new.runs)) (sym c.in-Ethernet.is)
    (c.put_merged.ensures.back g.limits (subst (λ (z : Link). runs_of (map (framed z) c.args.frames.now) g.engine
    ≡ runs_within g.limits (map (framed z) c.args.frames.now)) c.in-Ethernet.is runs))

pub put_merged-requires-in-RawIp-clause-are : goal.put_merged-requires-in-RawIp-clause-are
put_merged-requires-in-RawIp-clause-are c =
    let g = c.args.self.now in
    let all = ap (map raw_packet) c.deref.ensures.value ∙ raw_all c.args.frames.now g c.requires.holds c.requires.some c.in-RawIp.is in
    let count : length c.args.frames.now ≡ length c.deref.result.now = omega (
      arith,
      ap length c.deref.ensures.value,
      raw_count_is c.args.frames.now g c.requires.holds c.requires.some c.in-RawIp.is,
    ) in
    subst (λ (ps : List Packet). AreRuns ps (length c.deref.result.now) g.engine) (sym all)
    (subst (λ (n : ℕ). AreRuns (map (framed g.link) c.args.frames.now) n g.engine) count
    (are_runs c.args.frames.now g c.requires.holds c.requires.some))

pub put_merged-requires-in-RawIp-clause-held : goal.put_merged-requires-in-RawIp-clause-held
put_merged-requires-in-RawIp-clause-held c =
    let g = c.args.self.now in
    subst (AllByRecursion _) (sym c.deref.ensures.value)
    (raw_held c.args.frames.now g c.requires.holds c.requires.some c.in-RawIp.is)

pub put_merged-requires-in-RawIp-clause-captured : goal.put_merged-requires-in-RawIp-clause-captured
put_merged-requires-in-RawIp-clause-captured c =
    let g = c.args.self.now in
    let all = ap (map raw_packet) c.deref.ensures.value ∙ raw_all c.args.frames.now g c.requires.holds c.requires.some c.in-RawIp.is in
    subst AreCaptured (sym all) c.requires.holds.captured

pub returns-in-RawIp-clause-merges : goal.returns-in-RawIp-clause-merges
returns-in-RawIp-clause-merges c =
    let g = c.args.self.now in
    let m = c.put_merged-in-RawIp in
    let all = ap (map raw_packet) c.deref.ensures.value ∙ raw_all c.args.frames.now g c.requires.holds c.requires.some c.in-RawIp.is in
    subst (λ (z : Link). Merges z g.limits (map (framed g.link) c.args.frames.now) m.new.next
    (take m.result m.new.runs)) (sym c.in-RawIp.is)
    (subst (λ (ps : List Packet). Merges RawIp g.limits ps m.new.next (take m.result m.new.runs)) all
    (m.ensures.merges g.limits (subst (λ (ps : List Packet). runs_of ps g.engine ≡ runs_within g.limits ps) (sym all)
    (runs_are c.args.frames.now g c.requires.holds c.requires.some))))

pub returns-in-RawIp-clause-back : goal.returns-in-RawIp-clause-back
returns-in-RawIp-clause-back c =
    let g = c.args.self.now in
    let m = c.put_merged-in-RawIp in
    let all = ap (map raw_packet) c.deref.ensures.value ∙ raw_all c.args.frames.now g c.requires.holds c.requires.some c.in-RawIp.is in
    subst (λ (ps : List Packet). AllByRecursion (λ r. ComesBack (frames_of ps m.new.next r)) (take m.result m.new.runs)) all
    (m.ensures.back g.limits (subst (λ (ps : List Packet). runs_of ps g.engine ≡ runs_within g.limits ps) (sym all)
    (runs_are c.args.frames.now g c.requires.holds c.requires.some)))
