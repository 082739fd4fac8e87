use Rattle.std.proofs.Common.{◌≡◌, ℕ, ◌++◌, ◌≤◌, ◌∷◌, [], List, length, refl, sym, ap, ◌∙◌, subst, arith, Ok, Err}
use Rattle.std.specs.Prelude.{OnErr, OnOk}
use Rattle.std.specs.Io.KnownBytes.{Appends}
use Rattle.skb.specs.SkbState.{buffer_bytes}
use Rattle.off_io.specs.Content.{AppendsPrefix}
use Rattle.off_io.specs.Told.{Told}
use Rattle.pcap_io.specs.declared.heads.FileHead.{FileHead}
use Rattle.offload_model.specs.Need.{need_of}
use Rattle.gro.specs.declared.slot.Slot.{Slot as Held}
use Rattle.gro.specs.Packets.{PacketsState}
use Rattle.gro.specs.Slots.{packet_of}
use Rattle.segmenting.specs.declared.segment.Moved.TheVariants.{One}
use Rattle.segmenting.specs.declared.segment.SegFault.TheVariants.{WriteFault}
use Rattle.wire_model.specs.Passing.{wire_bytes}
use Rattle.wire_records.specs.RunState.{RunState}
use Rattle.wire_records.specs.Moving.{Moves}
use Rattle.wire_records.proofs.Steps.{counts_one, moved_given, not_moved_given, unmoved_given}
use Rattle.reading.proofs.Standing.{stands_here}
use Rattle.reading.proofs.Laying.{laid_alone}
use Rattle.wire_records.proofs.run.WireRun.next.Goals.{in-Ok-wrote, in-Err-wrote}
use Rattle.wire_records.proofs.run.WireRun.next.Goals as goal

pub read_record-read-requires-clause-stands : goal.read_record-read-requires-clause-stands
read_record-read-requires-clause-stands g c = (c.args.reader.now.place, (refl, c.requires.ready))

pub returns-in-Err-clause-given : goal.returns-in-Err-clause-given
returns-in-Err-clause-given g c =
    let r = c.read_record-read in
    let blocks = ap (λ (s : RunState). s.blocks) c.self.view_is in
    let h = g.K.Sink.held c.args.sink.now in
    subst (λ (k : ℕ). Told (g.S.Source.left c.args.reader.now.source.now) (g.S.Source.left r.new.reader.source.now)
    (Moves k c.args.wiring c.args.reader.now.place r.new.reader.place h h c.stopped.result)) blocks
    (unmoved_given _ _ h c.self.inside.pool.made c.args.wiring c.args.reader.now.place r.new.reader.place r.new.front c.in-Err.stop c.stopped.result c.requires.link c.stopped.ensures.moved
    (c.in-Err.ensures.given c.args.reader.now.place (g.S.Source.left c.args.reader.now.source.now) (stands_here c.args.reader.now.place _ c.requires.ready)))

pub returns-clause-next : goal.returns-clause-next
returns-clause-next g c = λ one. c.in-Ok.ensures.next c.args.reader.now.place (refl, c.requires.ready)

-- the list was empty, and has the record's packet alone
only : (old new : PacketsState) (p : Held) → old.items ≡ [] → new.items ≡ p ∷ [] → new.items ≡ old.items ++ p ∷ []
only old new p none is = is ∙ ap (λ (ps : List Held). ps ++ p ∷ []) (sym none)

pub wire_packet-wrote-requires-clause-alone : goal.wire_packet-wrote-requires-clause-alone
wire_packet-wrote-requires-clause-alone g c =
    let one = c.only_packet-packet in
    laid_alone 0 one.result (c.in-Ok.ensures.laid one.result (only c.self.inside.packets c.read_record-read.new.packets one.result c.self.invariant.5 one.ensures.only))

pub returns-clause-given : goal.returns-clause-given
returns-clause-given g c =
    let r = c.read_record-read in
    let w = c.wire_packet-wrote in
    let o = c.args.wiring in
    let old = c.args.reader.now.place in
    let new = r.new.reader.place in
    let p = c.only_packet-packet.result in
    let is = only c.self.inside.packets r.new.packets p c.self.invariant.5 c.only_packet-packet.ensures.only in
    let made = c.self.inside.pool.made in
    let blocks = ap (λ (s : RunState). s.blocks) c.self.view_is in
    let h = g.K.Sink.held c.args.sink.now in
    let k = g.K.Sink.held w.new.sink in
    let fits : need_of (length (buffer_bytes p.skb)) ≤ made = omega (arith, c.in-Ok.ensures.need p is, c.in-Ok.ensures.count p is, c.in-Ok.ensures.fits) in
    let file = (c.in-Ok.ensures.next c.args.reader.now.place (refl, c.requires.ready)).file in
    elim c.match-wrote.branch [
      | in-Ok-wrote b ↦
          subst (λ z. Told (g.S.Source.left c.args.reader.now.source.now) (g.S.Source.left r.new.reader.source.now) (Moves c.args.self.now.blocks o old new h k z)) (sym b.result-is)
          (subst (λ (n : ℕ). Told (g.S.Source.left c.args.reader.now.source.now) (g.S.Source.left r.new.reader.source.now) (Moves n o old new h k (Ok One))) blocks
          (moved_given _ _ h k made 0 o old new r.new.front p r.ensures.front fits file (c.in-Ok.ensures.given c.args.reader.now.place (g.S.Source.left c.args.reader.now.source.now) (stands_here c.args.reader.now.place _ c.requires.ready) p is)
          (subst (λ (f : FileHead). Appends h k (wire_bytes o f.order (packet_of p))) c.file-file.ensures.file
          (subst (λ x. OnOk x (Appends h k (wire_bytes o c.file-file.result.order (packet_of p)))) b.in-Ok-wrote.is w.ensures.writes.ok))))
      | in-Err-wrote b ↦
          subst (λ z. Told (g.S.Source.left c.args.reader.now.source.now) (g.S.Source.left r.new.reader.source.now) (Moves c.args.self.now.blocks o old new h k z)) (sym b.result-is)
          (subst (λ (n : ℕ). Told (g.S.Source.left c.args.reader.now.source.now) (g.S.Source.left r.new.reader.source.now) (Moves n o old new h k (Err WriteFault))) blocks
          (not_moved_given _ _ h k made 0 o old new r.new.front p r.ensures.front fits file (c.in-Ok.ensures.given c.args.reader.now.place (g.S.Source.left c.args.reader.now.source.now) (stands_here c.args.reader.now.place _ c.requires.ready) p is)
          (subst (λ (f : FileHead). AppendsPrefix h k (wire_bytes o f.order (packet_of p))) c.file-file.ensures.file
          (subst (λ x. OnErr x (AppendsPrefix h k (wire_bytes o c.file-file.result.order (packet_of p)))) b.in-Err-wrote.is w.ensures.writes.err))))
    ]

pub returns-clause-counted : goal.returns-clause-counted
returns-clause-counted g c = λ one.
    let r = c.read_record-read in
    let p = c.only_packet-packet.result in
    let is = only c.self.inside.packets r.new.packets p c.self.invariant.5 c.only_packet-packet.ensures.only in
    counts_one _ _ c.self.inside.pool.made 0 c.args.wiring c.args.counts.now c.wire_packet-wrote.new.counts c.args.reader.now.place r.new.reader.place r.new.front p r.ensures.front
    c.wire_packet-wrote.ensures.counts (c.in-Ok.ensures.given c.args.reader.now.place (g.S.Source.left c.args.reader.now.source.now) (stands_here c.args.reader.now.place _ c.requires.ready) p is)
