use Rattle.std.proofs.Common.{◌≡◌, ◌≢◌, ℕ, ◌+◌, ◌-◌, ◌^◌, ◌++◌, ◌≤◌, ◌⊎◌, ◌∷◌, [], List, length, length-append, min, refl, sym, ap, ◌∙◌, subst, le_refl, le_trans, arith, Ok, Err, Result}
use Rattle.skb.specs.SkbState.{buffer_bytes}
use Rattle.std.specs.List.{sum_by}
use Rattle.raw_block.specs.Views.{SoleState}
use Rattle.block_pool.specs.PoolState.{PoolState, weighed, home as home_of}
use Rattle.frags.specs.OutcomesState.{IsBare}
use Rattle.off_io.specs.Told.{Told}
use Rattle.pcap_io.specs.Limits.{off_head_size}
use Rattle.pcap_io.specs.declared.heads.FileHead.{FileHead}
use Rattle.offload_model.specs.Need.{need_of}
use Rattle.gro.specs.declared.slot.Slot.{Slot as Held}
use Rattle.gro.specs.Packets.{PacketsState}
use Rattle.reading.specs.declared.record.Stop.{Stop}
use Rattle.reading.specs.declared.record.Stop.TheVariants as stops
use Rattle.reading.specs.Home.{Adds}
use Rattle.segmenting.specs.declared.cut.Refused.{Refused}
use Rattle.segmenting.specs.declared.cut.Refused.TheVariants as refusals
use Rattle.segmenting.specs.declared.segment.SegFault.{SegFault}
use Rattle.segmenting.specs.declared.segment.SegFault.TheVariants as faults
use Rattle.segmenting.specs.declared.segment.Moved.{Moved}
use Rattle.segmenting.specs.declared.segment.Moved.TheVariants.{One}
use Rattle.segmenting.specs.Cutting.{WritesRecord}
use Rattle.reading.specs.Reading.{record_of}
use Rattle.segmenting.specs.SegmentState.{SegmentState}
use Rattle.segmenting.specs.Segmenting.{IsFaultOf, IsMovedOf, Moves, TakesBy}
use Rattle.segmenting.proofs.Moving.{moved_given, need_is, next_is, not_moved_given, original_counts, takes_not_moved, takes_one, takes_unmoved, unmoved_given}
use Rattle.reading.proofs.Standing.{stands_here}
use Rattle.reading.proofs.Laying.{laid_alone, weighed_none}
use Rattle.segmenting.proofs.segment.SegmentRun.next.Given as given
use Rattle.segmenting.proofs.segment.SegmentRun.next.Goals.{After-stopped, Joined-wrote, in-Ok-wrote, in-Err-wrote}
use Rattle.segmenting.proofs.segment.SegmentRun.next.Goals as goal

abbrev state_of : PoolState → SegmentState
state_of pool = record { home = home_of pool; stock = pool.blocks; blocks = pool.made; taken = pool.taken }

-- a run between two records
record KeepsHome (old : SegmentState) (new : PoolState) : Type 0 where
  home : home_of new ≡ new.made
  same : new.made ≡ old.blocks
  least : old.taken ≤ new.taken
  most : new.taken ≤ old.taken + old.blocks

unread : (old : SegmentState) (pool new : PoolState) → state_of pool ≡ old → old.home ≡ old.blocks → home_of new + 0 ≡ home_of pool + 0 → new.made ≡ pool.made → pool.taken ≤ new.taken
    → new.taken + 0 ≤ pool.taken + pool.made → KeepsHome old new
unread old pool new is all home made least most =
    let homes = ap (λ (s : SegmentState). s.home) is in
    let blocks = ap (λ (s : SegmentState). s.blocks) is in
    let taken = ap (λ (s : SegmentState). s.taken) is in
    record { home = omega (arith, homes, blocks, all, home, made); same = made ∙ blocks; least = omega (arith, taken, least); most = omega (arith, taken, blocks, most) }

-- the blocks of a packet came home, and its two spares
record Refills (old : SegmentState) (new spares : PoolState) : Type 0 where
  keeps : KeepsHome old new
  left : home_of spares ≡ 0
  named : (h : ℕ → ℕ) → weighed h new.blocks ≡ weighed h old.stock

refills : (old : SegmentState) (n r : ℕ) (weights : (ℕ → ℕ) → ℕ) (pool read cut new spare_old spare_read spare_new : PoolState) → state_of pool ≡ old → old.home ≡ old.blocks
    → home_of read + r + 0 ≡ home_of pool + 0 → n + 2 ≡ r → read.made ≡ pool.made → read.taken ≡ min (pool.taken + r) (2 ^ 64 - 1) → pool.taken ≤ read.taken
    → ((h : ℕ → ℕ) → weighed h read.blocks + weights h + weighed h spare_read.blocks + 0 ≡ weighed h pool.blocks + weighed h spare_old.blocks + 0)
    → ((h : SoleState → ℕ) → sum_by h new.blocks + sum_by h spare_new.blocks ≡ sum_by h cut.blocks + sum_by h spare_read.blocks)
    → home_of spare_old ≡ 0 → home_of spare_read ≡ home_of spare_old + 2 → Adds n weights read cut
    → home_of new + home_of spare_new ≡ home_of cut + home_of spare_read → (home_of spare_new ≡ 0) ⊎ (home_of new ≡ cut.made) → (new.made ≡ cut.made) × (new.taken ≡ cut.taken)
    → Refills old new spare_new
refills old n r weights pool read cut new spare_old spare_read spare_new is all home count made took least weigh blocks_same none two adds sum ends same =
    let homes = ap (λ (s : SegmentState). s.home) is in
    let blocks = ap (λ (s : SegmentState). s.blocks) is in
    let taken = ap (λ (s : SegmentState). s.taken) is in
    let left : home_of spare_new ≡ 0 = omega (arith, homes, blocks, all, home, count, made, none, two, adds.home, adds.made.0, sum, ends) in
    record {
      keeps = record {
        home = omega (arith, left, homes, blocks, all, home, count, made, none, two, adds.home, adds.made.0, sum, same.0);
        same = same.0 ∙ adds.made.0 ∙ made ∙ blocks;
        least = omega (arith, taken, least, adds.made.1, same.1);
        most = omega (arith, homes, blocks, taken, all, home, took, adds.made.1, same.1);
      };
      left = left;
      named = λ h. omega (
        arith,
        weigh h,
        adds.named h,
        blocks_same (λ (s : SoleState). h s.block),
        weighed_none h spare_old.blocks none,
        weighed_none h spare_new.blocks left,
        ap (λ (s : SegmentState). weighed h s.stock) is,
      );
    }

-- what a stop comes to, and what it doesn't
abbrev Comes : Stop → Result Moved SegFault → Type 0
Comes stop result = (result ≢ Ok One) × (result ≢ Err faults.WriteFault) × (result ≡ Err faults.ReadFault → stop ≡ stops.ReadFault)

comes : (stop : Stop) (result : Result Moved SegFault) → IsMovedOf stop result → Comes stop result
comes stops.End result is = (λ e. cc, λ e. cc, λ e. cc)
comes (stops.Malformed fault) result is = (λ e. cc, λ e. cc, λ e. cc)
comes (stops.PoolEmpty need) result is = (λ e. cc, λ e. cc, λ e. cc)
comes stops.ReadFault result is = (λ e. cc, λ e. cc, λ e. refl)
comes stops.NoMemory result is = (λ e. cc, λ e. cc, λ e. cc)
comes stops.Lacking result is = absurd is

-- a record that was read is written, or refused for another fault than the reader's
wrote_one : (answer : Result Moved SegFault) (fault : SegFault) → answer ≡ Ok One → answer ≢ Err fault
wrote_one answer fault is e = cc

never_read : (refused : Refused) (offset number : ℕ) (fault : SegFault) (answer : Result Moved SegFault) → IsFaultOf refused offset number fault → answer ≡ Err fault → answer ≢ Err faults.ReadFault
never_read refusals.BadOffload offset number fault answer why is e = cc
never_read refusals.WriteFault offset number fault answer why is e = cc

write_refused : (refused : Refused) (offset number : ℕ) (fault : SegFault) (answer : Result Moved SegFault) → IsFaultOf refused offset number fault → answer ≡ Err fault → answer ≡ Err faults.WriteFault
    → refused ≡ refusals.WriteFault
write_refused refusals.BadOffload offset number fault answer why is e = cc
write_refused refusals.WriteFault offset number fault answer why is e = refl

pub stopped-requires : goal.stopped-requires
stopped-requires g c = record {
  begun = λ lacks.
      let kept = c.in-Err.ensures.kept (ap Err lacks) in
      omega (
        arith,
        kept.3,
        kept.4,
        c.in-Err.ensures.back.0,
        c.requires.home,
        ap (λ (s : SegmentState). s.home) c.self.view_is,
        ap (λ (s : SegmentState). s.blocks) c.self.view_is,
      );
}

unread_home : (g : given.Over) (c : After-stopped g) → KeepsHome c.args.self.now c.read_record-read.new.pool
unread_home g c =
    let e = c.in-Err.ensures in
    unread c.args.self.now c.self.inside.pool c.read_record-read.new.pool c.self.view_is c.requires.home e.back.0 e.made.0 e.least e.most

pub read_record-read-requires-clause-stands : goal.read_record-read-requires-clause-stands
read_record-read-requires-clause-stands g c = (c.args.reader.now.place, (refl, c.requires.ready))

pub returns-in-Err : goal.returns-in-Err
returns-in-Err g c =
    let r = c.read_record-read in
    let e = c.in-Err.ensures in
    let blocks = ap (λ (s : SegmentState). s.blocks) c.self.view_is in
    let h = g.K.Sink.held c.args.sink.now in
    let keeps = unread_home g c in
    let to = comes c.in-Err.stop c.stopped.result c.stopped.ensures.moved in
    record {
      same_source = e.same_source;
      given = subst (λ (k : ℕ). Told (g.S.Source.left c.args.reader.now.source.now) (g.S.Source.left r.new.reader.source.now) (Moves k c.args.reader.now.place r.new.reader.place h h c.stopped.result)) blocks
          (unmoved_given _ _ h c.self.inside.pool.made c.args.reader.now.place r.new.reader.place r.new.front c.in-Err.stop c.stopped.result c.requires.link c.stopped.ensures.moved (e.given c.args.reader.now.place (g.S.Source.left c.args.reader.now.source.now) (stands_here c.args.reader.now.place _ c.requires.ready)));
      next = λ one. absurd (to.0 one);
      home = keeps.home;
      named = λ k. omega (arith, (e.named_back k).0, ap (λ (s : SegmentState). weighed k s.stock) c.self.view_is);
      same = keeps.same;
      taken = takes_unmoved _ _ c.self.inside.pool.made c.args.self.now.taken r.new.pool.taken c.args.reader.now.place r.new.reader.place r.new.front c.in-Err.stop c.stopped.result
          c.stopped.ensures.moved keeps.least (e.given c.args.reader.now.place (g.S.Source.left c.args.reader.now.source.now) (stands_here c.args.reader.now.place _ c.requires.ready));
      least = keeps.least;
      most = keeps.most;
      later = e.later;
      later_sink = le_refl _;
      read = λ fails. e.failed (ap Err (to.2 fails));
      write = λ fails. absurd (to.1 fails);
    }

pub invariant_of-self : goal.invariant_of-self
invariant_of-self g c =
    let e = c.in-Err.ensures in
    let i = c.self.invariant in (
      subst (λ (n : ℕ). n ≤ 65536) (sym e.made.0) i.0,
      e.empty,
      subst (λ (n : ℕ). 131 ≤ n) (sym e.capacity) i.2,
      e.back.1 ∙ i.3,
      subst (λ (n : ℕ). 2 ≤ n) (sym e.made.1) i.4,
      ap (λ (ps : PacketsState). ps.items) e.none ∙ i.5,
      subst (λ (ps : PacketsState). 1 ≤ ps.room) (sym e.none) i.6,
      i.7,
    )

pub returns-clause-next : goal.returns-clause-next
returns-clause-next g c = λ one. c.in-Ok.ensures.next c.args.reader.now.place (refl, c.requires.ready)

-- the list was empty, and has the record's packet alone
only : (old new : PacketsState) (p : Held) → old.items ≡ [] → new.items ≡ p ∷ [] → new.items ≡ old.items ++ p ∷ []
only old new p none is = is ∙ ap (λ (ps : List Held). ps ++ p ∷ []) (sym none)

pub only_packet-packet-requires : goal.only_packet-packet-requires
only_packet-packet-requires g c =
    let one = c.in-Ok.ensures.one in
    record { one = omega (arith, ap length one.1, length-append c.self.inside.packets.items (one.0 ∷ []), ap length c.self.invariant.5) }

pub cut_record-wrote-requires-clause-read : goal.cut_record-wrote-requires-clause-read
cut_record-wrote-requires-clause-read g c =
    let one = c.only_packet-packet in
    c.in-Ok.ensures.read one.result (only c.self.inside.packets c.read_record-read.new.packets one.result c.self.invariant.5 one.ensures.only)

pub cut_record-wrote-requires-clause-original : goal.cut_record-wrote-requires-clause-original
cut_record-wrote-requires-clause-original g c =
    let one = c.only_packet-packet in
    original_counts c.args.reader.now.place.link one.result.original c.requires.link
    (c.in-Ok.ensures.original one.result (only c.self.inside.packets c.read_record-read.new.packets one.result c.self.invariant.5 one.ensures.only))

pub cut_record-wrote-requires-clause-alone : goal.cut_record-wrote-requires-clause-alone
cut_record-wrote-requires-clause-alone g c =
    let one = c.only_packet-packet in
    laid_alone 0 one.result (c.in-Ok.ensures.laid one.result (only c.self.inside.packets c.read_record-read.new.packets one.result c.self.invariant.5 one.ensures.only))

pub cut_record-wrote-requires-clause-room : goal.cut_record-wrote-requires-clause-room
cut_record-wrote-requires-clause-room g c =
    let one = c.only_packet-packet in
    let count = c.in-Ok.ensures.count one.result (only c.self.inside.packets c.read_record-read.new.packets one.result c.self.invariant.5 one.ensures.only) in
    let blocks = ap (λ (s : SegmentState). s.blocks) c.self.view_is in
    let homes = ap (λ (s : SegmentState). s.home) c.self.view_is in
    omega (arith, count, c.in-Ok.ensures.home, c.in-Ok.ensures.made, c.requires.home, blocks, homes)

refilled : (g : given.Over) (c : Joined-wrote g) → Refills c.args.self.now c.refill.new.self c.refill.new.from
refilled g c =
    let r = c.read_record-read in
    let e = c.in-Ok.ensures in
    let p = c.only_packet-packet.result in
    let is = only c.self.inside.packets r.new.packets p c.self.invariant.5 c.only_packet-packet.ensures.only in
    refills c.args.self.now _ _ _ c.self.inside.pool r.new.pool c.cut_record-wrote.new.pool c.refill.new.self c.self.inside.spares r.new.spares c.refill.new.from c.self.view_is c.requires.home e.home
    (e.count p is) e.made.0 e.taken e.least (e.named p is) c.refill.ensures.blocks c.self.invariant.3 e.spares c.cut_record-wrote.ensures.adds c.refill.ensures.sum c.refill.ensures.all c.refill.ensures.same

pub invariant_of-self-2 : goal.invariant_of-self-2
invariant_of-self-2 g c =
    let e = c.in-Ok.ensures in
    let i = c.self.invariant in
    let refill = c.refill.ensures in (
      subst (λ (n : ℕ). n ≤ 65536) (sym (refill.same.0 ∙ c.cut_record-wrote.ensures.adds.made.0 ∙ e.made.0)) i.0,
      e.empty,
      subst (λ (n : ℕ). 131 ≤ n) (sym e.capacity) i.2,
      (refilled g c).left,
      subst (λ (n : ℕ). 2 ≤ n) (sym (refill.from.0 ∙ e.made.1)) i.4,
      c.only_packet-packet.ensures.none,
      le_trans i.6 (le_trans e.room c.only_packet-packet.ensures.room),
      subst IsBare (sym c.cut_record-wrote.ensures.out) i.7,
    )

pub returns-clause-home : goal.returns-clause-home
returns-clause-home g c = (refilled g c).keeps.home

pub returns-clause-same : goal.returns-clause-same
returns-clause-same g c = (refilled g c).keeps.same

pub returns-clause-least : goal.returns-clause-least
returns-clause-least g c = (refilled g c).keeps.least

pub returns-clause-most : goal.returns-clause-most
returns-clause-most g c = (refilled g c).keeps.most

pub returns-clause-read : goal.returns-clause-read
returns-clause-read g c = λ fails.
    elim c.match-wrote.branch [
      | in-Ok-wrote b ↦ absurd (wrote_one c.match-wrote.result faults.ReadFault b.result-is fails)
      | in-Err-wrote b ↦ absurd (never_read b.in-Err-wrote.refused _ _ b.fault_of.result c.match-wrote.result b.fault_of.ensures.fault b.result-is fails)
    ]

pub returns-clause-write : goal.returns-clause-write
returns-clause-write g c = λ fails.
    elim c.match-wrote.branch [
      | in-Ok-wrote b ↦ absurd (wrote_one c.match-wrote.result faults.WriteFault b.result-is fails)
      | in-Err-wrote b ↦
          b.in-Err-wrote.ensures.failed (ap Err (write_refused b.in-Err-wrote.refused _ _ b.fault_of.result c.match-wrote.result b.fault_of.ensures.fault b.result-is fails))
    ]

pub returns-clause-given : goal.returns-clause-given
returns-clause-given g c =
    let r = c.read_record-read in
    let w = c.cut_record-wrote in
    let old = c.args.reader.now.place in
    let new = r.new.reader.place in
    let front = r.new.front in
    let p = c.only_packet-packet.result in
    let is = only c.self.inside.packets r.new.packets p c.self.invariant.5 c.only_packet-packet.ensures.only in
    let made = c.self.inside.pool.made in
    let blocks = ap (λ (s : SegmentState). s.blocks) c.self.view_is in
    let homes = ap (λ (s : SegmentState). s.home) c.self.view_is in
    let h = g.K.Sink.held c.args.sink.now in
    let k = g.K.Sink.held w.new.sink in
    let long : length front ≡ off_head_size = r.ensures.front in
    let fits : need_of (length (buffer_bytes p.skb)) ≤ made = omega (
      arith,
      c.in-Ok.ensures.need p is,
      c.in-Ok.ensures.count p is,
      c.in-Ok.ensures.home,
      c.requires.home,
      blocks,
      homes,
    ) in
    let next = next_is made old new front p long fits (c.in-Ok.ensures.next c.args.reader.now.place (refl, c.requires.ready)).file (c.in-Ok.ensures.behind c.args.reader.now.place (refl, c.requires.ready) p is) in
    let wrote = subst (λ (f : FileHead). WritesRecord f.order (record_of front p) h k w.result) c.file-file.ensures.file w.ensures.writes in
    elim c.match-wrote.branch [
      | in-Ok-wrote b ↦
          subst (λ z. Told (g.S.Source.left c.args.reader.now.source.now) (g.S.Source.left r.new.reader.source.now) (Moves c.args.self.now.blocks old new h k z)) (sym b.result-is)
          (subst (λ (n : ℕ). Told (g.S.Source.left c.args.reader.now.source.now) (g.S.Source.left r.new.reader.source.now) (Moves n old new h k (Ok One))) blocks
          (moved_given _ _ h k made 0 old new front p next (c.in-Ok.ensures.given c.args.reader.now.place (g.S.Source.left c.args.reader.now.source.now) (stands_here c.args.reader.now.place _ c.requires.ready) p is) (subst (WritesRecord old.file.order (record_of front p) h k) b.in-Ok-wrote.is wrote)))
      | in-Err-wrote b ↦
          subst (λ z. Told (g.S.Source.left c.args.reader.now.source.now) (g.S.Source.left r.new.reader.source.now) (Moves c.args.self.now.blocks old new h k z)) (sym b.result-is)
          (subst (λ (n : ℕ). Told (g.S.Source.left c.args.reader.now.source.now) (g.S.Source.left r.new.reader.source.now) (Moves n old new h k (Err b.fault_of.result))) blocks
          (not_moved_given _ _ h k made 0 c.in-Ok.offset p.number old new front p b.in-Err-wrote.refused b.fault_of.result next (c.in-Ok.ensures.offset c.args.reader.now.place (refl, c.requires.ready)) refl b.fault_of.ensures.fault
          (c.in-Ok.ensures.given c.args.reader.now.place (g.S.Source.left c.args.reader.now.source.now) (stands_here c.args.reader.now.place _ c.requires.ready) p is)
          (subst (WritesRecord old.file.order (record_of front p) h k) b.in-Err-wrote.is wrote)))
    ]

pub returns-clause-taken : goal.returns-clause-taken
returns-clause-taken g c =
    let r = c.read_record-read in
    let w = c.cut_record-wrote in
    let old = c.args.reader.now.place in
    let new = r.new.reader.place in
    let front = r.new.front in
    let p = c.only_packet-packet.result in
    let is = only c.self.inside.packets r.new.packets p c.self.invariant.5 c.only_packet-packet.ensures.only in
    let long : length front ≡ off_head_size = r.ensures.front in
    let before = ap (λ (s : SegmentState). s.taken) c.self.view_is in
    let enough : min (c.args.self.now.taken + need_of (length (record_of front p).frame - off_head_size)) (2 ^ 64 - 1) ≤ c.refill.new.self.taken =
    omega (arith, need_is front p long, before, c.in-Ok.ensures.need p is, c.in-Ok.ensures.count p is, c.in-Ok.ensures.taken, w.ensures.adds.made.1, c.refill.ensures.same.1) in
    let a = g.S.Source.left c.args.reader.now.source.now in
    let b = g.S.Source.left r.new.reader.source.now in
    elim c.match-wrote.branch [
      | in-Ok-wrote b1 ↦ subst (λ z. Told a b (TakesBy z c.args.self.now.taken c.refill.new.self.taken old new)) (sym b1.result-is)
          (takes_one a b c.self.inside.pool.made 0 c.args.self.now.taken c.refill.new.self.taken old new front p enough (c.in-Ok.ensures.given c.args.reader.now.place (g.S.Source.left c.args.reader.now.source.now) (stands_here c.args.reader.now.place _ c.requires.ready) p is))
      | in-Err-wrote b1 ↦ subst (λ z. Told a b (TakesBy z c.args.self.now.taken c.refill.new.self.taken old new)) (sym b1.result-is)
          (takes_not_moved a b c.self.inside.pool.made 0 c.args.self.now.taken c.refill.new.self.taken c.in-Ok.offset p.number old new front p b1.in-Err-wrote.refused b1.fault_of.result
          b1.fault_of.ensures.fault enough (c.in-Ok.ensures.given c.args.reader.now.place (g.S.Source.left c.args.reader.now.source.now) (stands_here c.args.reader.now.place _ c.requires.ready) p is))
    ]

pub returns-clause-named : goal.returns-clause-named
returns-clause-named g c = (refilled g c).named
