use Rattle.std.proofs.Common.{◌≡◌, ◌+◌, ◌-◌, ◌^◌, ◌<◌, ℕ, ◌∷◌, ap, refl, sym, ◌∙◌, subst, length, length-append, arith}
use Rattle.block_pool.specs.PoolState.{weighed}
use Rattle.skb.specs.SkbState.{buffer_bytes}
use Rattle.pcap_io.specs.Places.{ReadsOn}
use Rattle.offload_model.specs.Need.{data_blocks}
use Rattle.reading.specs.declared.record.Stop.TheVariants.{NoMemory}
use Rattle.reading.proofs.Recording.{packet_given, frame_stop_given, memory_given, never_lacking, never_memory, no_stop, not_lacking, other_stop}
use Rattle.reading.proofs.Spending.{Takes, all_home, all_taken, puts_given, puts_none, reads_stop, spends_given, spends_none}
use Rattle.reading.proofs.record.read_packet.Given as given
use Rattle.reading.proofs.record.read_packet.Goals.{After-read_frame}
use Rattle.reading.proofs.record.read_packet.Goals as goal

-- all blocks of the record
taken : (g : given.Over) (c : After-read_frame g) → Takes (c.blocks_of-data.result - 1 + 1) (λ h. weighed h (c.read_frame.new.first ∷ c.read_frame.new.hold.items)) c.args.pool.now c.take_blocks.new.pool
taken g c =
    let one = c.take_block-block.ensures in
    let more = c.take_blocks.ensures in
    all_taken (c.blocks_of-data.result - 1) c.args.pool.now c.take_block-block.new.pool c.take_blocks.new.pool c.take_block-block.result c.read_frame.new.first c.take_blocks.new.hold.items
    c.read_frame.new.hold.items record { home = one.home; named = one.named; made = one.made; taken = one.taken } record { home = more.home; named = more.named; made = more.made; taken = more.taken }
    c.read_frame.ensures.first c.read_frame.ensures.blocks

need_is : (len n : ℕ) → n ≡ data_blocks len → data_blocks len + 2 ≡ n - 1 + 1 + 2
need_is len n is = omega (arith, is)

pub returns-in-Err : goal.returns-in-Err
returns-in-Err g c =
    let r = c.read_frame.new in
    let e = c.in-Err.ensures in
    let stop = c.stop_of.ensures.stop in
    let few = subst (λ (n : ℕ). n < 2 ^ 64) c.taken.ensures.value c.taken.type_inv in
    let back = c.put_back.ensures in
    record {
      same_source = e.same_source;
      given = frame_stop_given _ _ c.args.reader.now.place c.args.head.now r.front c.args.len (r.first ∷ r.hold.items) c.in-Err.fault c.stop_of.result stop (omega (arith, c.requires.body.whole, e.front))
          e.given;
      reads = reads_stop c.in-Err.fault c.stop_of.result c.args.reader.now.place r.reader.place _ _ _ _ stop e.reads;
      front = e.front;
      begun = never_lacking _ c.in-Err.fault c.stop_of.result refl stop;
      whole = λ short. absurd (never_memory _ c.in-Err.fault c.stop_of.result refl stop short);
      blocks = tt;
      puts = puts_none c.args.mark c.args.len c.args.head.now c.args.packets.now c.stop_of.result;
      spends = spends_none c.stop_of.result _ (c.blocks_of-data.result - 1 + 1) _ c.args.pool.now c.take_blocks.new.pool c.put_back.new.pool c.args.spares.now c.args.packets.now
          (need_is c.args.len c.blocks_of-data.result c.blocks_of-data.ensures.blocks) few (taken g (goal.at.returns-in-Err g c).After-read_frame)
          (all_home _ c.take_blocks.new.pool c.put_back.new.pool r.first r.hold.items (e.blocks.size ∙ c.take_blocks.ensures.count) back.home back.named back.made);
      empty = back.empty;
      capacity = back.capacity ∙ e.capacity ∙ c.take_blocks.ensures.capacity;
    }

pub returns-in-Err-with_room : goal.returns-in-Err-with_room
returns-in-Err-with_room g c =
    let r = c.read_frame.new in
    let e = c.in-Ok.ensures in
    let few = subst (λ (n : ℕ). n < 2 ^ 64) c.taken.ensures.value c.taken.type_inv in
    let back = c.put_back-in-Err-with_room.ensures in
    record {
      same_source = e.same_source;
      given = memory_given _ _ c.args.reader.now.place c.args.head.now r.front c.args.len (r.first ∷ r.hold.items) e.given;
      reads = record { place = tt; later = e.reads.later; failed = λ fails. absurd (other_stop _ refl fails) };
      front = e.front;
      begun = not_lacking _ refl;
      whole = λ _. omega (arith, e.reads.place.body, c.requires.body.whole, c.requires.body.body, e.front);
      blocks = tt;
      puts = puts_none c.args.mark c.args.len c.args.head.now c.args.packets.now NoMemory;
      spends = spends_none NoMemory _ (c.blocks_of-data.result - 1 + 1) _ c.args.pool.now c.take_blocks.new.pool c.put_back-in-Err-with_room.new.pool c.args.spares.now c.args.packets.now
          (need_is c.args.len c.blocks_of-data.result c.blocks_of-data.ensures.blocks) few (taken g (goal.at.returns-in-Err-with_room g c).After-read_frame)
          (all_home _ c.take_blocks.new.pool c.put_back-in-Err-with_room.new.pool r.first r.hold.items (e.blocks.size ∙ c.take_blocks.ensures.count) back.home back.named back.made);
      empty = back.empty;
      capacity = back.capacity ∙ e.capacity ∙ c.take_blocks.ensures.capacity;
    }

pub returns-in-Ok-with_room : goal.returns-in-Ok-with_room
returns-in-Ok-with_room g c =
    let m = c.make_packet.ensures.made in
    let r = c.read_frame.new in
    let e = c.in-Ok.ensures in
    let moved = c.take_to.ensures in
    let few = subst (λ (n : ℕ). n < 2 ^ 64) c.taken.ensures.value c.taken.type_inv in
    record {
      same_source = e.same_source;
      given = λ p is.
          let f = (m.is p is).fields in
          let bytes = (m.is p is).bytes in
          packet_given _ _ c.args.reader.now.place c.args.head.now r.front c.args.len (r.first ∷ r.hold.items) p bytes
          (f.0, f.1, f.2, f.3, omega (arith, length-append r.front (buffer_bytes p.skb), ap length bytes ∙ e.bytes.long, c.requires.body.whole, e.front)) e.given;
      reads = record { place = subst (ReadsOn c.args.reader.now.place r.reader.place) (sym c.requires.body.whole) e.reads.place; later = e.reads.later; failed = λ fails. absurd (no_stop _ _ fails) };
      front = e.front;
      begun = not_lacking _ refl;
      whole = λ short. absurd (no_stop _ _ short);
      blocks = ap (λ (n : ℕ). n + 2) c.blocks_of-data.ensures.blocks;
      puts = puts_given _ c.args.mark c.args.len c.args.head.now (r.first ∷ r.hold.items) c.args.packets.now c.make_packet.new.packets e.bytes.long e.bytes.in_bytes m;
      spends = spends_given _ _ (c.blocks_of-data.result - 1 + 1) c.args.mark c.args.len c.args.head.now (r.first ∷ r.hold.items) c.args.pool.now c.take_blocks.new.pool c.take_to.new.self
          c.args.spares.now c.take_to.new.other c.args.packets.now c.make_packet.new.packets (need_is c.args.len c.blocks_of-data.result c.blocks_of-data.ensures.blocks) few
          (taken g (goal.at.returns-in-Ok-with_room g c).After-read_frame) moved.blocks moved.home moved.other moved.made moved.taken.0 m.is;
      empty = c.make_packet.ensures.none;
      capacity = c.make_packet.ensures.capacity ∙ e.capacity ∙ c.take_blocks.ensures.capacity;
    }
