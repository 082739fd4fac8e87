use Rattle.std.proofs.Common.{◌≡◌, ℕ, ◌+◌, ◌-◌, List, length, map, take, sym, ap, ◌∙◌, subst, arith, vec_len, vec_capacity}
use Rattle.std.proofs.lemmas.List.{length-map, take_all}
use Rattle.pcap_io.specs.Capture.{Packet}
use Rattle.frame_runs.specs.Engine.{HasPlaces, HasReceived}
use Rattle.frame_bursts.specs.Burst.{AreFrames}
use Rattle.frame_bursts.specs.Kept.{HasRaw}
use Rattle.frame_bursts.specs.Links.{framed, raw_packet}
use Rattle.frame_bursts.specs.declared.link.Link.{Link}
use Rattle.frame_bursts.specs.declared.link.Link.TheVariants.{RawIp}
use Rattle.frame_bursts.proofs.Rising.{all_short}
use Rattle.frame_bursts.proofs.kept.BurstEngine.receive_more.Goals as goal

pub receive_behind-requires-clause-received : goal.receive_behind-requires-clause-received
receive_behind-requires-clause-received c =
    let g = c.args.self.now in
    subst (λ (z : Link). HasReceived g.limits (map (framed z) c.args.frames.now) g.received g.engine) c.in-Ethernet.is
    c.requires.awaits.received

pub receive_behind-requires-clause-held : goal.receive_behind-requires-clause-held
receive_behind-requires-clause-held c =
    all_short c.args.frames.now (subst (λ (z : Link). AreFrames z c.args.frames.now) c.in-Ethernet.is c.requires.captured)

pub receive_behind-requires-clause-few : goal.receive_behind-requires-clause-few
receive_behind-requires-clause-few c = omega (arith, c.requires.few, c.requires.small)

pub receive_behind-requires-in-RawIp-clause-few : goal.receive_behind-requires-in-RawIp-clause-few
receive_behind-requires-in-RawIp-clause-few c =
    omega (
      arith,
      c.requires.few,
      c.requires.small,
      ap length c.deref.ensures.value,
      ap length c.push_frames.ensures.all,
      length-map c.push_frames.new.frames.items raw_packet,
      length-map c.args.frames.now (framed RawIp),
    )

pub returns-in-Ethernet-clause-received : goal.returns-in-Ethernet-clause-received
returns-in-Ethernet-clause-received c =
    let g = c.args.self.now in
    let fs = c.args.frames.now in
    let n = length fs in
    record {
      received = subst (λ (z : Link). HasReceived g.limits (map (framed z) fs) n c.receive_behind.new.engine)
          (sym c.in-Ethernet.is) c.receive_behind.ensures.received;
      places = c.receive_behind.ensures.places (g.limit - n)
          (subst (HasPlaces g.engine) (let e : g.limit - g.received ≡ n - g.received + (g.limit - n)
          = omega (arith, c.requires.few, c.requires.inside) in e) c.requires.awaits.places);
      linked = omega (arith, c.requires.awaits.linked, c.receive_behind.ensures.linked);
      raw = subst (λ (z : Link). HasRaw z (take n (map (framed g.link) fs)) g.raw.items (vec_len g.raw)
          (vec_capacity g.raw) (g.limit - n)) (sym c.in-Ethernet.is) tt;
    }

pub returns-in-RawIp-clause-received : goal.returns-in-RawIp-clause-received
returns-in-RawIp-clause-received c =
    let g = c.args.self.now in
    let fs = c.args.frames.now in
    let n = length fs in
    let raw = c.push_frames.new.frames in
    let b = c.receive_behind-in-RawIp in
    let at_link : map (framed RawIp) fs ≡ map (framed g.link) fs = ap (λ (z : Link). map (framed z) fs) (sym c.in-RawIp.is) in
    let all : map raw_packet c.deref.result.now ≡ map (framed g.link) fs
    = ap (map raw_packet) c.deref.ensures.value ∙ c.push_frames.ensures.all ∙ at_link in
    let count : length c.deref.result.now ≡ n
    = omega (arith, ap length all, length-map c.deref.result.now raw_packet, length-map fs (framed g.link)) in
    let before = subst (λ (z : Link). HasRaw z (take g.received (map (framed g.link) fs)) g.raw.items (vec_len g.raw)
    (vec_capacity g.raw) (g.limit - g.received)) c.in-RawIp.is c.requires.awaits.raw in
    let more : g.limit - g.received ≡ n - g.received + (g.limit - n) = omega (arith, c.requires.few, c.requires.inside) in
    record {
      received = subst (λ (ps : List Packet). HasReceived g.limits ps n b.new.engine) all
          (subst (λ (k : ℕ). HasReceived g.limits (map raw_packet c.deref.result.now) k b.new.engine) count
          b.ensures.received);
      places = b.ensures.places (g.limit - n)
          (subst (HasPlaces g.engine) (more ∙ ap (λ (k : ℕ). k - g.received + (g.limit - n)) (sym count))
          c.requires.awaits.places);
      linked = omega (arith, c.requires.awaits.linked, b.ensures.linked);
      raw = subst (λ (z : Link). HasRaw z (take n (map (framed g.link) fs)) raw.items (vec_len raw) (vec_capacity raw)
          (g.limit - n)) (sym c.in-RawIp.is) (
            c.push_frames.ensures.all ∙ at_link ∙ sym (take_all n (map (framed g.link) fs)
                (omega (arith, length-map fs (framed g.link)))),
            (c.push_frames.ensures.held, c.push_frames.ensures.room (g.limit - n) (omega (arith, before.1.1, more))),
          );
    }
