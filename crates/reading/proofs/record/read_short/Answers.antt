use Rattle.std.proofs.Common.{◌≡◌, ◌^◌, ◌<◌, ◌≤◌, ℕ, Ok, [], ◌∷◌, ap, refl, sym, ◌∙◌, subst, length, length-append, arith}
use Rattle.block_pool.specs.PoolState.{weighed}
use Rattle.offload_model.specs.Need.{need_of}
use Rattle.reading.specs.Bodies.{Puts}
use Rattle.reading.specs.Laid.{most_short}
use Rattle.reading.specs.declared.record.Stop.{Stop}
use Rattle.skb.specs.SkbState.{buffer_bytes}
use Rattle.pcap_io.specs.Places.{ReadsOn}
use Rattle.reading.proofs.Recording.{packet_given, frame_stop_given, never_lacking, never_memory, no_stop, not_lacking}
use Rattle.reading.proofs.Spending.{one_home, one_taken, puts_given, puts_none, reads_stop, spends_given, spends_none}
use Rattle.reading.proofs.record.read_short.Goals as goal

short_need : (len : ℕ) → len ≤ most_short → need_of len ≡ 3
short_need len short = omega (arith, short)

pub returns-in-Err : goal.returns-in-Err
returns-in-Err g c =
    let r = c.read_head.new in
    let t = c.take_block-block.ensures in
    let e = c.in-Err.ensures in
    let stop = c.stop_of.ensures.stop in
    let few = subst (λ (n : ℕ). n < 2 ^ 64) c.taken.ensures.value c.taken.type_inv in
    let takes = one_taken c.args.pool.now c.take_block-block.new.pool c.take_block-block.result r.block record { home = t.home; named = t.named; made = t.made; taken = t.taken } e.block in
    record {
      same_source = e.same_source;
      given = frame_stop_given _ _ c.args.reader.now.place c.args.head.now r.front c.args.len (r.block ∷ []) c.in-Err.fault c.stop_of.result stop (omega (arith, c.requires.body.whole, e.front)) e.given;
      reads = reads_stop c.in-Err.fault c.stop_of.result c.args.reader.now.place r.reader.place _ _ _ _ stop e.reads;
      front = e.front;
      begun = never_lacking _ c.in-Err.fault c.stop_of.result refl stop;
      whole = λ short. absurd (never_memory _ c.in-Err.fault c.stop_of.result refl stop short);
      blocks = tt;
      puts = puts_none c.args.mark c.args.len c.args.head.now c.args.packets.now c.stop_of.result;
      spends = spends_none c.stop_of.result _ 1 (λ h. weighed h (r.block ∷ [])) c.args.pool.now c.take_block-block.new.pool c.put.new.self c.args.spares.now c.args.packets.now
          (short_need c.args.len c.requires.short) few takes (one_home c.take_block-block.new.pool c.put.new.self r.block c.put.ensures.home);
    }

pub returns : goal.returns
returns g c =
    let m = c.make_short.ensures.made in
    let r = c.read_head.new in
    let t = c.take_block-block.ensures in
    let e = c.in-Ok.ensures in
    let moved = c.take_to.ensures in
    let need = short_need c.args.len c.requires.short in
    let few = subst (λ (n : ℕ). n < 2 ^ 64) c.taken.ensures.value c.taken.type_inv in
    let takes = one_taken c.args.pool.now c.take_block-block.new.pool c.take_block-block.result r.block record { home = t.home; named = t.named; made = t.made; taken = t.taken } e.block in
    record {
      same_source = e.same_source;
      given = λ p is.
          let f = (m.is p is).fields in
          let bytes = (m.is p is).bytes in
          packet_given _ _ c.args.reader.now.place c.args.head.now r.front c.args.len (r.block ∷ []) p bytes
          (f.0, f.1, f.2, f.3, omega (arith, length-append r.front (buffer_bytes p.skb), ap length bytes ∙ e.bytes.long, c.requires.body.whole, e.front)) e.given;
      reads = record { place = subst (ReadsOn c.args.reader.now.place r.reader.place) (sym c.requires.body.whole) e.reads.place; later = e.reads.later; failed = λ fails. absurd (no_stop _ _ fails) };
      front = e.front;
      begun = not_lacking _ refl;
      whole = λ short. absurd (no_stop _ _ short);
      blocks = sym need;
      puts = subst (λ (n : ℕ). Puts {E = Stop} n c.args.len c.args.head.now c.args.packets.now c.make_short.new.packets (Ok 3)) (e.block.mark ∙ t.mark)
          (puts_given 3 r.block.mark c.args.len c.args.head.now (r.block ∷ []) c.args.packets.now c.make_short.new.packets e.bytes.long e.bytes.in_bytes m);
      spends = spends_given 3 _ 1 r.block.mark c.args.len c.args.head.now (r.block ∷ []) c.args.pool.now c.take_block-block.new.pool c.take_to.new.self c.args.spares.now c.take_to.new.other
          c.args.packets.now c.make_short.new.packets need few takes moved.blocks moved.home moved.other moved.made moved.taken.0 m.is;
    }
