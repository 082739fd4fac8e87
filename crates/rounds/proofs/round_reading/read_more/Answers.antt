use Rattle.std.specs.Prelude.{⊤}
use Rattle.std.proofs.Common.{◌≡◌, ◌-◌, ◌+◌, ◌<◌, ◌≤◌, ◌++◌, ◌∷◌, [], List, ℕ, Ok, Err, ap, sym, subst, ◌∙◌, arith, refl, length, length-append}
use Rattle.block_pool.specs.PoolState.{home}
use Rattle.off_io.specs.Told.{Told}
use Rattle.gro.specs.Packets.{PacketsState}
use Rattle.rounds.specs.Filling.{reached, Fills}
use Rattle.rounds.specs.Reading.{EndsAt}
use Rattle.rounds.specs.declared.round_stages.RoundEnd.{RoundEnd}
use Rattle.off_io.proofs.Telling.{Told-same}
use Rattle.reading.proofs.Standing.{tells_then}
use Rattle.reading.specs.Reading.{front_size, GivesRecord}
use Rattle.rounds.specs.RoundOf.{brought_by}
use Rattle.rounds.proofs.Pausing.{came_back, came_then, end_stands, fills_full, fills_stop, halt_ended, halt_lacking, lacking_full, no_stop, round_last, round_same, stands_link, stands_next}
use Rattle.rounds.proofs.Rounding.{no_front}
use Rattle.std.proofs.Math.Nat.{le-add_right, le_trans}
use Rattle.rounds.proofs.Counting.{came_one, fits_type, most_more, one_more, room_more, size_more, taken_more, takes_last}
use Rattle.rounds.proofs.round_reading.read_more.Goals as goal

pub reading-init : goal.reading-init
reading-init g c = record {
  stands = λ start from s. s;
  tells = Told-same (g.S.Source.left c.args.reader.now.source.now) (λ _ _. ⊤) (λ bytes. tt);
  size = omega (arith, c.requires.fewer);
  unkept = λ many. absurd (omega (arith, many, c.requires.fewer));
  reserved = omega arith;
  places = refl;
  round = c.requires.round;
  came = record { sum = omega arith; named = λ h. refl; asked = omega arith };
  within = c.requires.within;
  made = refl;
  more = omega arith;
  taken = omega (arith, c.taken.ensures.value, c.taken.type_inv);
  least = omega arith;
  most = omega arith;
  hold = c.requires.hold;
  same = refl;
}

pub read_record-requires-clause-stands : goal.read_record-requires-clause-stands
read_record-requires-clause-stands g c =
    let begun = c.requires.stands in
    let s = c.reading.invariant.stands begun.0 begun.1.0 begun.1.1 in
    (s.at, s.stands.is)

pub read_record-requires-clause-front : goal.read_record-requires-clause-front
read_record-requires-clause-front g c =
    let begun = c.requires.stands in
    let link = stands_link begun.0 begun.1.0 _ _ _ begun.1.1 in
    let on = stands_link begun.0 begun.1.0 _ _ _ (c.reading.invariant.stands begun.0 begun.1.0 begun.1.1) in
    sym (ap front_size (on ∙ sym link ∙ c.requires.link))

pub returns-in-Err-clause-fills : goal.returns-in-Err-clause-fills
returns-in-Err-clause-fills g c = λ start from begun.
    let l = c.reading in
    let i = l.invariant in
    let r = c.in-Err.ensures in
    let now = reached g.S.Source.left g.S.Source.faults l.reader in
    let next = reached g.S.Source.left g.S.Source.faults c.read_record.new.reader in
    let s = i.stands start from begun in
    let none = no_front c.read_record.new.front r.front in
    let bare = subst (λ (f : List ℕ). Told s.before next.left (GivesRecord l.used l.pool.made s.at next.place f (Err c.in-Err.stop))) none (r.given s.at s.before s.stands) in
    let told = subst (λ (k : ℕ). Told s.before next.left (GivesRecord l.used k s.at next.place [] (Err c.in-Err.stop))) i.made bare in
    let link = sym (stands_link start from _ _ _ begun) ∙ c.requires.link in
    subst (λ (ps : PacketsState). Fills c.args.pool.now.made c.args.budget start from next c.read_record.new.kept ps.items c.halt_of.result) (sym r.none)
    (fills_stop c.args.pool.now.made c.args.budget start from now next l.head c.read_record.new.kept l.packets.items l.used c.in-Err.stop c.halt_of.result c.halt_of.ensures.halt link i.within
    i.round.need s told (λ lacks. r.stands (ap Err lacks) s.at s.before s.stands) r.later (λ fails. r.failed (ap Err fails)))

pub returns-in-Err-clause-tells : goal.returns-in-Err-clause-tells
returns-in-Err-clause-tells g c = tells_then _ _ _ _ c.reading.invariant.tells c.in-Err.ensures.tells

pub returns-in-Err-clause-grows : goal.returns-in-Err-clause-grows
returns-in-Err-clause-grows g c =
    let l = c.reading in
    let i = l.invariant in
    let r = c.in-Err.ensures in
    let stop = c.in-Err.stop in
    let halt = c.halt_of.result in
    let is = c.halt_of.ensures.halt in
    let place = c.read_record.new.reader.place in
    let count = ap (λ (ps : PacketsState). length ps.items) r.none in
    record {
      size = subst (λ (n : ℕ). n ≤ c.args.budget) (sym count) i.size;
      fewer = λ not_full. subst (λ (n : ℕ). n < c.args.budget) (c.len.ensures.len ∙ sym count) c.reading-test.true;
      takes = takes_last l.pool.taken c.args.pool.now.taken c.read_record.new.pool.taken c.args.used l.used i.made i.within i.more i.taken i.least i.most r.least r.most;
      stands = halt_ended (λ (end : RoundEnd). EndsAt end place) stop halt is (λ end ends. end_stands stop end place ends (λ short. r.whole (ap Err short)));
      lacks = λ lacks.
          let kept = r.kept (ap Err (halt_lacking stop halt is lacks)) in
          (kept.0, kept.1, omega (arith, kept.2), omega (arith, kept.3, i.made), omega (arith, kept.4, i.taken));
    }

pub returns-in-Err-clause-round : goal.returns-in-Err-clause-round
returns-in-Err-clause-round g c =
    let r = c.in-Err.ensures in
    round_same _ _ _ _ _ (ap (λ (ps : PacketsState). ps.items) r.none) r.back.1 c.reading.invariant.round

pub returns-in-Err-clause-came : goal.returns-in-Err-clause-came
returns-in-Err-clause-came g c =
    let l = c.reading in
    let r = c.in-Err.ensures in
    came_then _ _ _ _ _ _ _ _ _ l.invariant.came
    (came_back (brought_by g.H.Supply.weights g.H.Supply.refusals l.more)
    (brought_by g.H.Supply.weights g.H.Supply.refusals c.read_record.new.more) l.used l.pool c.read_record.new.pool l.spares c.read_record.new.spares l.packets.items
    c.read_record.new.packets.items (ap (λ (ps : PacketsState). ps.items) r.none) r.back.0 r.named_back r.asked)

pub returns-in-Err-clause-refused : goal.returns-in-Err-clause-refused
returns-in-Err-clause-refused g c = λ lacks.
    omega (arith, c.in-Err.ensures.refused (ap Err (halt_lacking c.in-Err.stop c.halt_of.result c.halt_of.ensures.halt lacks)), c.reading.invariant.came.asked)

pub returns-in-Err-clause-hold : goal.returns-in-Err-clause-hold
returns-in-Err-clause-hold g c =
    let r = c.in-Err.ensures in
    record { empty = r.empty; room = subst (λ (n : ℕ). 131 ≤ n) (sym r.capacity) c.reading.invariant.hold.room }

pub returns-in-Err-clause-same_source : goal.returns-in-Err-clause-same_source
returns-in-Err-clause-same_source g c = c.in-Err.ensures.same_source ∙ c.reading.invariant.same

pub returns-in-Err-clause-made : goal.returns-in-Err-clause-made
returns-in-Err-clause-made g c = c.in-Err.ensures.made.0 ∙ c.reading.invariant.made

pub returns-in-Err-clause-room : goal.returns-in-Err-clause-room
returns-in-Err-clause-room g c = (
  subst (λ (ps : PacketsState). length c.args.packets.now.items + c.args.packets.now.room ≤ length ps.items + ps.room) (sym c.in-Err.ensures.none) c.reading.invariant.reserved,
  c.in-Err.ensures.made.1 ∙ c.reading.invariant.places,
)

pub returns-clause-fills : goal.returns-clause-fills
returns-clause-fills g c = λ start from begun.
    let l = c.reading in
    let i = l.invariant in
    let full : length l.packets.items ≡ c.args.budget = omega (arith, i.size, c.reading-test.false, c.len.ensures) in
    fills_full c.args.pool.now.made c.args.budget start from (reached g.S.Source.left g.S.Source.faults l.reader) l.head l.packets.items (i.unkept (omega (arith, full))) full (i.stands start from begun)

pub returns-clause-grows : goal.returns-clause-grows
returns-clause-grows g c =
    let i = c.reading.invariant in
    record {
      size = i.size;
      fewer = λ not_full. absurd (not_full refl);
      takes = record { within = i.within; taken = omega (arith, i.taken); least = (i.more, i.least); most = omega (arith, i.most, i.within) };
      stands = tt;
      lacks = λ lacks. absurd (lacking_full (sym lacks));
    }

pub reading-preserved : goal.reading-preserved
reading-preserved g c =
    let l = c.reading in
    let i = l.invariant in
    let r = c.in-Ok.ensures in
    let p = r.one.0 in
    let ps = l.packets.items in
    let qs = c.read_record.new.packets.items in
    let e : qs ≡ ps ++ p ∷ [] = r.one.1 in
    let k = r.count p e in
    let none = no_front c.read_record.new.front r.front in
    let unkept = r.unkept (λ is. no_stop _ _ is) in
    let count = c.in-Ok.count in
    let more = one_more ps qs p e in
    let now = reached g.S.Source.left g.S.Source.faults l.reader in
    let next = reached g.S.Source.left g.S.Source.faults c.read_record.new.reader in
    let first = c.requires.stands in
    let link = stands_link first.0 first.1.0 _ _ _ (i.stands first.0 first.1.0 first.1.1) ∙ sym (stands_link first.0 first.1.0 _ _ _ first.1.1) ∙ c.requires.link in
    record {
      stands = λ start from begun.
          let s = i.stands start from begun in
          let told = subst (λ (f : List ℕ). Told s.before next.left (GivesRecord l.used l.pool.made s.at next.place f (Ok p))) none (r.given s.at s.before s.stands p e) in
          stands_next start from now next l.head c.read_record.new.kept ps qs p l.used l.pool.made e unkept s told (r.next s.at s.stands.is) (r.number s.at s.stands.is p e) r.later;
      tells = tells_then _ _ _ _ i.tells r.tells;
      size = size_more more c.len.ensures.len c.reading-test.true;
      unkept = λ many. unkept;
      reserved = room_more (length ps) l.packets.room c.read_record.new.packets.room more i.reserved r.room;
      places = r.made.1 ∙ i.places;
      round = round_last ps qs p (home l.spares) (home c.read_record.new.spares) l.used (l.used + count) (l.used - c.home.result) e i.round (ap (λ (n : ℕ). l.used - n) c.home.ensures.home) r.spares
          (ap (λ (n : ℕ). l.used + n) (sym k)) (r.laid p e) (r.read p e) (r.captured p e link) (r.need p e);
      came = came_then _ _ _ _ _ _ _ _ _ i.came
          (came_one (brought_by g.H.Supply.weights g.H.Supply.refusals l.more)
          (brought_by g.H.Supply.weights g.H.Supply.refusals c.read_record.new.more) l.used count l.pool c.read_record.new.pool l.spares c.read_record.new.spares ps qs p e
          r.home (r.named p e) r.asked);
      within = subst (λ (n : ℕ). l.used + count ≤ n) i.made r.fits;
      made = r.made.0 ∙ i.made;
      more = le_trans i.more (le-add_right l.used count);
      taken = taken_more c.args.pool.now.taken c.args.used l.used count i.more i.taken r.taken;
      least = le_trans i.least r.least;
      most = most_more l.pool.taken c.args.pool.now.taken c.args.used l.used count i.most r.taken;
      hold = record { empty = r.empty; room = subst (λ (n : ℕ). 131 ≤ n) (sym r.capacity) i.hold.room };
      same = r.same_source ∙ i.same;
    }

pub reading-smaller : goal.reading-smaller
reading-smaller g c =
    let one = c.in-Ok.ensures.one in
    let more = length-append c.reading.packets.items (one.0 ∷ []) in
    omega (arith, ap length one.1, more, c.reading-test.true, c.len.ensures)

pub overflow_add-used : goal.overflow_add-used
overflow_add-used g c = record { fits = fits_type c.in-Ok.ensures.fits c.reading.invariant.made c.requires.made }
