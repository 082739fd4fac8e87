use Rattle.std.proofs.Common.{◌≡◌, ◌+◌, ◌-◌, ◌^◌, ◌≤◌, ◌∙◌, ℕ, Option, arith, min, refl, sym, ap, subst, le_trans, le-add_left, Ok, Err}
use Rattle.block_pool.specs.PoolState.{home}
use Rattle.block_supply.proofs.Listing.{home_by_ones}
use Rattle.reading.proofs.Recording.{head_stop_given, head_given, end_given, empty_given, lacking_given, record_given, none_from, kept_head, never_lacking, never_memory, not_lacking, not_memory, no_stop, rose_after, stop_in}
use Rattle.pcap_io.specs.declared.heads.Link.{Link}
use Rattle.pcap_io.specs.declared.heads.RecHead.{RecHead}
use Rattle.pcap_io.specs.declared.place.Place.{Place}
use Rattle.pcap_io.specs.Headers.{is_bad_original}
use Rattle.reading.specs.Reading.{front_size, IsAt, KeepsHead}
use Rattle.reading.proofs.Standing.{at_link, tells_then}
use Rattle.reading.proofs.record.read_record.Goals as goal

pub returns-in-Err-clause-given : goal.returns-in-Err-clause-given
returns-in-Err-clause-given g c = λ at before stands.
    head_stop_given before _ at c.find_head.new.reader.place c.args.used c.args.pool.now.made c.args.front.now c.in-Err.fault c.stop_of.result c.requires.few.1 c.stop_of.ensures.stop
    (c.in-Err.ensures.given at before stands)

pub returns-in-Err-clause-kept : goal.returns-in-Err-clause-kept
returns-in-Err-clause-kept g c = λ lacks. absurd (never_lacking _ c.in-Err.fault c.stop_of.result refl c.stop_of.ensures.stop lacks)

pub returns-in-Err-clause-stands : goal.returns-in-Err-clause-stands
returns-in-Err-clause-stands g c = λ lacks. absurd (never_lacking _ c.in-Err.fault c.stop_of.result refl c.stop_of.ensures.stop lacks)

pub returns-in-Err-clause-refused : goal.returns-in-Err-clause-refused
returns-in-Err-clause-refused g c = λ lacks. absurd (never_lacking _ c.in-Err.fault c.stop_of.result refl c.stop_of.ensures.stop lacks)

pub returns-in_default-clause-given : goal.returns-in_default-clause-given
returns-in_default-clause-given g c = λ at before stands.
    end_given before _ at c.find_head.new.reader.place c.args.used c.args.pool.now.made c.args.front.now c.in-Ok.found (none_from c.in-Ok.found c.in_default.not-Some)
    (c.in-Ok.ensures.given at before stands)

pub returns-in_default-clause-kept : goal.returns-in_default-clause-kept
returns-in_default-clause-kept g c = λ lacks. absurd (not_lacking _ refl lacks)

pub returns-in_default-clause-stands : goal.returns-in_default-clause-stands
returns-in_default-clause-stands g c = λ lacks. absurd (not_lacking _ refl lacks)

pub returns-then-need-made-clause-kept : goal.returns-then-need-made-clause-kept
returns-then-need-made-clause-kept g c = λ lacks. absurd (not_lacking _ refl lacks)

pub returns-then-need-made-clause-stands : goal.returns-then-need-made-clause-stands
returns-then-need-made-clause-stands g c = λ lacks. absurd (not_lacking _ refl lacks)

-- the record's own link is the reader's
front_at : (kept : Option RecHead) (at place : Place) (n : ℕ) → IsAt kept at place → n ≡ front_size place.link → n ≡ front_size at.link
front_at kept at place n is front = front ∙ ap front_size (at_link kept at place is)

pub returns-then-need-made-clause-given : goal.returns-then-need-made-clause-given
returns-then-need-made-clause-given g c = λ at before stands.
    let front = front_at c.args.kept.now at c.args.reader.now.place _ stands.is c.requires.front in
    empty_given before _ at c.find_head.new.reader.place c.args.used c.args.pool.now.made _ c.args.front.now c.in-Ok.found c.in-Some.head c.in-Some.is (c.in-Ok.ensures.keeps at stands.is)
    (omega (arith, c.blocks_of-count.ensures.blocks, front)) (omega (arith, c.if-need-made.true, c.made.ensures.made)) (c.in-Ok.ensures.given at before stands)

pub returns-then-not-has_blocks-clause-given : goal.returns-then-not-has_blocks-clause-given
returns-then-not-has_blocks-clause-given g c = λ at before stands.
    lacking_given before _ at c.find_head.new.reader.place c.args.used c.args.pool.now.made c.args.front.now c.in-Some.head
    (head_given before _ at c.in-Ok.found c.in-Some.head c.in-Some.is (c.in-Ok.ensures.given at before stands))

pub returns-then-not-has_blocks-clause-stands : goal.returns-then-not-has_blocks-clause-stands
returns-then-not-has_blocks-clause-stands g c = λ _ at before stands. record {
  is = kept_head at c.find_head.new.reader.place c.in-Ok.found c.in-Some.head c.in-Some.is (c.in-Ok.ensures.keeps at stands.is);
  told = head_given before _ at c.in-Ok.found c.in-Some.head c.in-Some.is (c.in-Ok.ensures.given at before stands);
}

pub returns-then-not-has_blocks-clause-kept : goal.returns-then-not-has_blocks-clause-kept
returns-then-not-has_blocks-clause-kept g c = λ _. (
  c.in-Some.head,
  refl,
  omega (arith, c.blocks_of-count.ensures.blocks, c.if-not-has_blocks.ensures.enough),
  omega (arith, c.blocks_of-count.ensures.blocks, c.if-need-made.false, c.made.ensures.made),
  c.has_blocks.ensures.same.1,
)

pub returns-then-not-has_blocks-clause-refused : goal.returns-then-not-has_blocks-clause-refused
returns-then-not-has_blocks-clause-refused g c = λ _.
    c.has_blocks.ensures.refused (le_trans (le-add_left _ _) (subst (λ (n : ℕ). c.args.used + (c.blocks_of-count.result + 2) ≤ n) c.made.ensures.made c.if-need-made.false)) c.if-not-has_blocks.true

pub returns-then-not-has_blocks-clause-back : goal.returns-then-not-has_blocks-clause-back
returns-then-not-has_blocks-clause-back g c = (home_by_ones _ _ c.args.pool.now.blocks c.has_blocks.new.pool.blocks (c.has_blocks.ensures.named (λ _. 1)), refl)

pub returns-then-not-has_blocks-clause-named_back : goal.returns-then-not-has_blocks-clause-named_back
returns-then-not-has_blocks-clause-named_back g c = λ h. (c.has_blocks.ensures.named h, refl)

pub returns-then-not-has_blocks-clause-failed : goal.returns-then-not-has_blocks-clause-failed
returns-then-not-has_blocks-clause-failed g c = λ fails. absurd (not_lacking _ refl (sym fails))

pub finish_record-requires-clause-kept : goal.finish_record-requires-clause-kept
finish_record-requires-clause-kept g c =
    let at = c.requires.stands in
    (at.0, kept_head at.0 c.find_head.new.reader.place c.in-Ok.found c.in-Some.head c.in-Some.is (c.in-Ok.ensures.keeps at.0 at.1))

pub finish_record-requires-clause-home : goal.finish_record-requires-clause-home
finish_record-requires-clause-home g c = (omega (arith, c.blocks_of-count.ensures.blocks, c.if-not-has_blocks.ensures.enough), c.has_blocks.ensures.within)

pub finish_record-requires-clause-front : goal.finish_record-requires-clause-front
finish_record-requires-clause-front g c =
    let at = c.requires.stands in
    let keeps = kept_head at.0 c.find_head.new.reader.place c.in-Ok.found c.in-Some.head c.in-Some.is (c.in-Ok.ensures.keeps at.0 at.1) in
    front_at c.args.kept.now at.0 c.args.reader.now.place _ at.1 c.requires.front ∙ ap front_size (sym keeps.enters.link)

-- what came with the blocks of a supply weighs in a later sum too
moved_on : (all pool spares was came old : ℕ) → all ≡ pool + spares → pool + was ≡ old + came → all + was ≡ old + spares + came
moved_on all pool spares was came old e more = omega (arith, e, more)

most_within : (new mid old need used made : ℕ) → new ≤ mid + need → mid ≡ old → used + need ≤ made → new + used ≤ old + made
most_within new mid old need used made most same fits = omega (arith, most, same, fits)

pub returns-in-Ok-finish_record : goal.returns-in-Ok-finish_record
returns-in-Ok-finish_record g c =
    let r = c.in-Ok.ensures in
    let old = c.args.reader.now.place in
    let made = c.args.pool.now.made in
    let f = c.finish_record.new in
    let e = c.in-Ok-finish_record.ensures in
    let more = c.has_blocks.ensures in
    let brought = g.H.Supply.weights c.args.more.now (λ _. 1) in
    let keeps : (at : Place) → IsAt c.args.kept.now at old → KeepsHead at c.find_head.new.reader.place c.in-Some.head
    = λ at is. kept_head at c.find_head.new.reader.place c.in-Ok.found c.in-Some.head c.in-Some.is (r.keeps at is) in
    let begins = c.requires.stands in
    let link : c.find_head.new.reader.place.link ≡ old.link = (keeps begins.0 begins.1).enters.link ∙ sym (at_link c.args.kept.now begins.0 old begins.1) in
    let fits = subst (λ (n : ℕ). c.args.used + (c.blocks_of-count.result + 2) ≤ n) c.made.ensures.made c.if-need-made.false in
    let needed = subst (λ (n : ℕ). c.args.used + (n + 2) ≤ made) c.blocks_of-count.ensures.blocks fits in
    let count = e.count.0 ∙ ap (λ (n : ℕ). n + 2) (sym c.blocks_of-count.ensures.blocks) in
    record {
      same_source = e.same_source ∙ r.same_source;
      tells = tells_then _ _ _ _ r.tells (e.given begins.0 c.args.used made (keeps begins.0 begins.1) needed e.one.0 e.one.1);
      given = λ at before stands. λ p is.
          record_given before _ _ at f.reader.place c.args.used made f.front c.in-Ok.found c.in-Some.head (Ok p) c.in-Some.is (r.given at before stands)
          (e.given at c.args.used made (keeps at stands.is) needed p is);
      next = λ at begin. e.next at (keeps at begin);
      front = e.front;
      one = e.one;
      none = tt;
      stands = λ lacks. absurd (not_lacking _ refl lacks);
      kept = λ lacks. absurd (not_lacking _ refl lacks);
      unkept = λ _. r.none;
      whole = λ short. absurd (no_stop _ _ short);
      refused = λ lacks. absurd (not_lacking _ refl lacks);
      asked = more.asked;
      room = e.room;
      number = λ at begin. λ p is. e.number p is ∙ (keeps at begin).enters.numbered;
      original = λ p is. ap (λ (l : Link). is_bad_original l p.original) (sym link) ∙ e.original p is;
      offset = λ at begin. (keeps at begin).enters.lies;
      behind = λ at begin. λ p is. let behind = e.behind p is in behind.0 ∙ (keeps at begin).enters.offset ∙ ap (λ (n : ℕ). at.offset + 16 + n) (sym behind.1);
      laid = e.laid;
      read = e.read;
      captured = λ p is plain. e.captured p is (link ∙ plain);
      need = e.need;
      count = λ p is. e.count.1 p is ∙ count;
      home = ap (λ (n : ℕ). home f.pool + n + brought) (sym count) ∙ ap (λ (n : ℕ). n + brought) e.home ∙ home_by_ones _ _ c.args.pool.now.blocks c.has_blocks.new.pool.blocks (more.named (λ _. 1));
      spares = e.spares;
      named = λ p is h. moved_on _ _ _ _ _ _ (e.named p is h) (more.named h);
      fits = fits;
      taken = e.taken ∙ ap (λ (n : ℕ). min (n + c.in-Ok-finish_record.field-0) (2 ^ 64 - 1)) more.same.1 ∙ ap (λ (n : ℕ). min (c.args.pool.now.taken + n) (2 ^ 64 - 1)) count;
      back = tt;
      named_back = tt;
      most = tt;
      least = subst (λ (n : ℕ). n ≤ f.pool.taken) more.same.1 e.least;
      made = (e.made.0 ∙ more.same.0, e.made.1);
      empty = e.empty;
      capacity = e.capacity;
      later = le_trans r.later e.later;
      failed = λ fails. absurd (no_stop _ _ fails);
    }

pub returns-in-Err-finish_record : goal.returns-in-Err-finish_record
returns-in-Err-finish_record g c =
    let r = c.in-Ok.ensures in
    let old = c.args.reader.now.place in
    let made = c.args.pool.now.made in
    let f = c.finish_record.new in
    let e = c.in-Err-finish_record.ensures in
    let more = c.has_blocks.ensures in
    let keeps : (at : Place) → IsAt c.args.kept.now at old → KeepsHead at c.find_head.new.reader.place c.in-Some.head
    = λ at is. kept_head at c.find_head.new.reader.place c.in-Ok.found c.in-Some.head c.in-Some.is (r.keeps at is) in
    let fits = subst (λ (n : ℕ). c.args.used + (c.blocks_of-count.result + 2) ≤ n) c.made.ensures.made c.if-need-made.false in
    let begins = c.requires.stands in
    let needed = subst (λ (n : ℕ). c.args.used + (n + 2) ≤ made) c.blocks_of-count.ensures.blocks fits in
    record {
      same_source = e.same_source ∙ r.same_source;
      tells = tells_then _ _ _ _ r.tells (e.given begins.0 c.args.used made (keeps begins.0 begins.1) needed);
      given = λ at before stands.
          record_given before _ _ at f.reader.place c.args.used made f.front c.in-Ok.found c.in-Some.head (Err c.in-Err-finish_record.stop) c.in-Some.is (r.given at before stands)
          (e.given at c.args.used made (keeps at stands.is) needed);
      next = λ at begin. tt;
      front = e.front;
      one = tt;
      none = e.none;
      stands = λ lacks. absurd (e.begun (ap Err (ap stop_in lacks)));
      kept = λ lacks. absurd (e.begun (ap Err (ap stop_in lacks)));
      unkept = λ _. r.none;
      whole = λ short. e.whole (ap Err (ap stop_in short));
      refused = λ lacks. absurd (e.begun (ap Err (ap stop_in lacks)));
      asked = more.asked;
      room = e.room;
      number = λ at begin. tt;
      original = tt;
      offset = λ at begin. tt;
      behind = λ at begin. tt;
      laid = tt;
      read = tt;
      captured = tt;
      need = tt;
      count = tt;
      home = tt;
      spares = tt;
      named = tt;
      fits = tt;
      taken = tt;
      back = (ap (λ (n : ℕ). n + g.H.Supply.weights c.args.more.now (λ _. 1)) e.back.0 ∙ home_by_ones _ _ c.args.pool.now.blocks c.has_blocks.new.pool.blocks (more.named (λ _. 1)), e.back.1);
      named_back = λ h. (ap (λ (n : ℕ). n + g.H.Supply.weights c.args.more.now h) (e.named_back h).0 ∙ more.named h, (e.named_back h).1);
      most = most_within _ _ _ _ _ _ e.most more.same.1 needed;
      least = subst (λ (n : ℕ). n ≤ f.pool.taken) more.same.1 e.least;
      made = (e.made.0 ∙ more.same.0, e.made.1);
      empty = e.empty;
      capacity = e.capacity;
      later = le_trans r.later e.later;
      failed = λ fails. rose_after _ _ _ r.later (e.failed (ap Err (ap stop_in fails)));
    }

pub returns-in-Err-clause-whole : goal.returns-in-Err-clause-whole
returns-in-Err-clause-whole g c = λ short. absurd (never_memory _ c.in-Err.fault c.stop_of.result refl c.stop_of.ensures.stop short)

pub returns-in_default-clause-whole : goal.returns-in_default-clause-whole
returns-in_default-clause-whole g c = λ short. absurd (not_memory _ refl short)

pub returns-then-need-made-clause-whole : goal.returns-then-need-made-clause-whole
returns-then-need-made-clause-whole g c = λ short. absurd (not_memory _ refl short)

pub returns-then-not-has_blocks-clause-whole : goal.returns-then-not-has_blocks-clause-whole
returns-then-not-has_blocks-clause-whole g c = λ short. absurd (not_memory _ refl short)
