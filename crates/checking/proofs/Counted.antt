-- What checking says of the rounds that were read, one after another.
use Rattle.std.proofs.Common.{◌≡◌, ◌∙◌, ◌+◌, ◌-◌, ◌^◌, ◌≤◌, ℕ, min, List, [], ◌∷◌, ◌++◌, Bool, true, false, Option, None, Some, inl, inr, refl, sym, ap, subst, map, arith}
use Rattle.std.proofs.lemmas.Bool.{false≢true}
use Rattle.off_io.specs.Faults.{Rose}
use Rattle.off_io.specs.Told.{Told}
use Rattle.off_io.proofs.Telling.{Told-weaker}
use Rattle.pcap_io.specs.declared.place.Place.{Place}
use Rattle.pcap_io.specs.Reading.{Loses}
use Rattle.offload_model.specs.Need.{round_need}
use Rattle.offload_model.specs.Passing.{Ending, NoMemory}
use Rattle.offload_model.specs.Written.{Options}
use Rattle.gro.specs.Slots.{packet_of}
use Rattle.check_totals.specs.Counts.{Counts, added, round_totals, totals_of, HasLanes}
use Rattle.check_totals.specs.Checking.{counting}
use Rattle.check_totals.specs.Tallies.{Tallies}
use Rattle.rounds.specs.declared.round_stages.RoundEnd.{RoundEnd}
use Rattle.rounds.specs.declared.round_stages.RoundEnd.TheVariants as rounds
use Rattle.rounds.specs.declared.round_stages.RoundRead.{RoundRead}
use Rattle.rounds.specs.Merging.{options_of, TakesBehind, TakesTo}
use Rattle.rounds.specs.RoundsState.{RoundsState}
use Rattle.rounds.proofs.Merging.{fewer_by, is_short}
use Rattle.rounds.proofs.Needs.{end_told, ending_at}
use Rattle.rounds.specs.Reading.{GivesRound}
use Rattle.rounds.specs.Handled.{Ends, Handled, drawn_at}
use Rattle.rounds.specs.Reads.{Spot, ReadRound, Reads, is_full}
use Rattle.rounds.proofs.Rows.{reads_lose}
use Rattle.checking.specs.Whole.{Checked}
use Rattle.checking.specs.Handling.{ending_of, CountsAhead, AreOf, CountsLast, CountsRound, EndsCounting}
use Rattle.checking.specs.declared.counting.CheckEnd.{CheckEnd}
use Rattle.checking.specs.declared.counting.CheckEnd.TheVariants as ends
use Rattle.checking.proofs.RoundsCounted.{ahead_none, goes_then, ends_then, taken_then, full_given, end_given, malformed_given, fault_given, empty_given}
use Rattle.checking.proofs.RoundsCounted.{more_lanes, end_within, start_lanes}

abbrev is_fault : CheckEnd → Bool
is_fault ends.ReadFault = true
is_fault _ = false

module _ (blocks : ℕ) (options : Options) where
  -- there was no memory, whatever is gone
  short_given : (k : ℕ) (from : Place) (a b : Option (List ℕ)) (c c1 : Counts) → Told a b Loses → Told a b (EndsCounting k blocks options from c c1 ends.NoMemory)
  short_given k from a b c c1 lost = Told-weaker a b Loses (EndsCounting k blocks options from c c1 ends.NoMemory) (λ bytes left loses. (NoMemory, refl, (loses.0, loses.1))) lost

  -- what is said of an end
  record Says (k : ℕ) (from to : Spot) (c c1 : Counts) (end : CheckEnd) : Type 0 where
    given : Told from.left to.left (EndsCounting k blocks options from.place c c1 end)
    taken : Told from.left to.left (TakesBehind k from.place from.taken to.taken (ending_of end))
    read : end ≡ ends.ReadFault → Rose from.faults to.faults

  short_says : (k : ℕ) (from to : Spot) (c c1 : Counts) (end : CheckEnd) → end ≡ ends.NoMemory → Told from.left to.left Loses → Says k from to c c1 end
  short_says k from to c c1 end is lost = record {
    given = subst (λ (e : CheckEnd). Told from.left to.left (EndsCounting k blocks options from.place c c1 e)) (sym is) (short_given k from.place from.left to.left c c1 lost);
    taken = subst (λ (e : CheckEnd). Told from.left to.left (TakesBehind k from.place from.taken to.taken (ending_of e))) (sym is)
        (Told-weaker from.left to.left Loses (TakesBehind k from.place from.taken to.taken NoMemory) (λ bytes left _. tt) lost);
    read = λ fault. absurd (false≢true (ap is_fault (sym is ∙ fault)));
  }

  module _ (k : ℕ) (from to : Spot) (c c1 : Counts) (read : RoundRead) (lanes : HasLanes options c) (r : ReadRound blocks options.budget from to read) where
    abbrev counts : Counts
    counts = round_totals options (map packet_of read.round.packets)

    fits : round_need (map packet_of read.round.packets) ≤ blocks
    fits = omega (arith, r.need, r.within)

    took : min (from.taken + round_need (map packet_of read.round.packets)) (2 ^ 64 - 1) ≤ to.taken
    took = omega (arith, r.took, r.need)

    given_as : (e : RoundEnd) → read.end ≡ e → Told from.left to.left (GivesRound blocks from.place to.place read.round.packets e)
    given_as e is = subst (λ (x : RoundEnd). Told from.left to.left (GivesRound blocks from.place to.place read.round.packets x)) is r.given

    -- as many blocks were taken as the last packets need
    last_taken : (e : RoundEnd) (want end : CheckEnd) → ending_of want ≡ ending_at k e → CountsLast c c1 counts want end → Told from.left to.left (GivesRound blocks from.place to.place read.round.packets e)
        → Told from.left to.left (TakesBehind k from.place from.taken to.taken (ending_of end))
    last_taken e want end same (inl w) told =
        subst (λ (x : Ending). Told from.left to.left (TakesBehind k from.place from.taken to.taken x)) (sym (ap ending_of w.0 ∙ same))
        (end_told blocks k from.taken to.taken from.place to.place read.round.packets took e from.left to.left told)
    last_taken e want end same (inr f) told =
        Told-weaker from.left to.left (GivesRound blocks from.place to.place read.round.packets e) (TakesBehind k from.place from.taken to.taken (ending_of end))
        (λ bytes left _. subst (λ (x : CheckEnd). TakesBehind k from.place from.taken to.taken (ending_of x) bytes left) (sym f) tt) told

    not_last : (want end : CheckEnd) (test : CheckEnd → Bool) (X : Type 0) → test want ≡ false → test ends.NoMemory ≡ false → CountsLast c c1 counts want end → test end ≡ true → X
    not_last want end test X isnt none (inl w) does = absurd (false≢true (sym isnt ∙ sym (ap test w.0) ∙ does))
    not_last want end test X isnt none (inr f) does = absurd (false≢true (sym none ∙ sym (ap test f) ∙ does))

    -- the last round, which wasn't full
    says_at : (e : RoundEnd) (end : CheckEnd) → read.end ≡ e → is_full e ≡ false → CountsRound c c1 counts k e (Some end) → Says k from to c c1 end
    says_at rounds.Full end is isnt d = absurd (false≢true (sym isnt))
    says_at rounds.End end is isnt d = record {
      given = end_given blocks options from.place to.place read.round.packets r.some fits k from.left to.left c c1 read.end end is (fewer_by read.end _ _ (ap is_short is) r.fewer) d r.given;
      taken = last_taken rounds.End ends.Done end refl d (given_as rounds.End is);
      read = λ fault. not_last ends.Done end is_fault (Rose from.faults to.faults) refl refl d (ap is_fault fault);
    }
    says_at (rounds.Malformed fault) end is isnt d = record {
      given = malformed_given blocks options from.place to.place read.round.packets r.some fits k from.left to.left c c1 read.end fault end is (fewer_by read.end _ _ (ap is_short is) r.fewer) d
          r.given;
      taken = last_taken (rounds.Malformed fault) (ends.Malformed fault) end refl d (given_as (rounds.Malformed fault) is);
      read = λ failed. not_last (ends.Malformed fault) end is_fault (Rose from.faults to.faults) refl refl d (ap is_fault failed);
    }
    says_at rounds.ReadFault end is isnt d = record {
      given = fault_given blocks options from.place to.place read.round.packets r.some fits k from.left to.left c c1 read.end end is (fewer_by read.end _ _ (ap is_short is) r.fewer) d r.given;
      taken = last_taken rounds.ReadFault ends.ReadFault end refl d (given_as rounds.ReadFault is);
      read = λ fault. r.failed is;
    }
    says_at (rounds.PoolEmpty need) end is isnt d = record {
      given = subst (λ (e : CheckEnd). Told from.left to.left (EndsCounting k blocks options from.place c c1 e)) (sym d.0)
          (empty_given blocks options from.place to.place read.round.packets r.some fits k from.left to.left c c1 read.end need is (fewer_by read.end _ _ (ap is_short is) r.fewer) lanes d.1 r.given);
      taken = subst (λ (x : CheckEnd). Told from.left to.left (TakesBehind k from.place from.taken to.taken (ending_of x))) (sym d.0)
          (end_told blocks k from.taken to.taken from.place to.place read.round.packets took (rounds.PoolEmpty need) from.left to.left (given_as (rounds.PoolEmpty need) is));
      read = λ fault. absurd (false≢true (ap is_fault (sym d.0 ∙ fault)));
    }
    says_at rounds.NoMemory end is isnt d = short_says k from to c c1 end d (given_as rounds.NoMemory is)
    says_at rounds.GivenUp end is isnt d = short_says k from to c c1 end d (given_as rounds.GivenUp is)

    -- one that is full, behind which more may follow
    goes_sum : (e : RoundEnd) → CountsRound c c1 counts k e None → (e ≡ rounds.Full) × (c1 ≡ added c counts)
    goes_sum rounds.Full d = (refl, d)
    goes_sum rounds.End d = absurd d
    goes_sum (rounds.Malformed fault) d = absurd d
    goes_sum rounds.ReadFault d = absurd d
    goes_sum (rounds.PoolEmpty need) d = absurd d
    goes_sum rounds.NoMemory d = absurd d
    goes_sum rounds.GivenUp d = absurd d

    goes_given : read.end ≡ rounds.Full → c1 ≡ added c counts → Told from.left to.left (CountsAhead blocks options 1 from.place to.place c c1 from.taken to.taken)
    goes_given is sum =
        full_given blocks options from.place to.place read.round.packets r.some fits k from.left to.left c c1 read.end from.taken to.taken is (r.full is).full took sum r.given

    -- or one that wasn't counted for want of memory
    full_short : (e : RoundEnd) (end : CheckEnd) → is_full e ≡ true → CountsRound c c1 counts k e (Some end) → end ≡ ends.NoMemory
    full_short rounds.Full end is d = d
    full_short rounds.End end is d = absurd (false≢true is)
    full_short (rounds.Malformed fault) end is d = absurd (false≢true is)
    full_short rounds.ReadFault end is d = absurd (false≢true is)
    full_short (rounds.PoolEmpty need) end is d = absurd (false≢true is)
    full_short rounds.NoMemory end is d = absurd (false≢true is)
    full_short rounds.GivenUp end is d = absurd (false≢true is)

  -- ---- all of them

  abbrev Did : Counts → Counts → RoundRead → ℕ → Option CheckEnd → Type 0
  Did old new read k end = CountsRound old new (round_totals options (map packet_of read.round.packets)) k read.end end

  record Counted (start : Spot) (c0 : Counts) (to : Spot) (new : Counts) (end : CheckEnd) : Type 0 where
    given : Told start.left to.left (Tallies (counting blocks options start.place) c0 new (ending_of end))
    taken : Told start.left to.left (TakesTo blocks options.budget start.place start.taken to.taken (ending_of end))
    read : end ≡ ends.ReadFault → Rose start.faults to.faults

  abbrev Gone : Spot → Counts → ℕ → Spot → Counts → Type 0
  Gone start c0 k at now = Told start.left at.left (CountsAhead blocks options k start.place at.place c0 now start.taken at.taken)

  says_then : (start : Spot) (c0 : Counts) (k : ℕ) (at to : Spot) (old new : Counts) (end : CheckEnd) → Gone start c0 k at old → start.faults ≤ at.faults → Says k at to old new end
      → Counted start c0 to new end
  says_then start c0 k at to old new end gone later says = record {
    given = ends_then blocks options k start.place at.place to.place start.left at.left to.left c0 old new start.taken at.taken to.taken end gone says.given;
    taken = taken_then blocks options k start.place at.place to.place start.left at.left to.left c0 old new start.taken at.taken to.taken end gone says.given says.taken;
    read = λ fault. omega (arith, later, says.read fault);
  }

  full_or : (b : Bool) (X : Type 0) → (b ≡ true → X) → (b ≡ false → X) → X
  full_or true X f g = f refl
  full_or false X f g = g refl

  ran_counted : (start : Spot) (c0 : Counts) (k : ℕ) (at to : Spot) (old new : Counts) (got more : List RoundRead) (end : CheckEnd) → Gone start c0 k at old → start.faults ≤ at.faults
      → HasLanes options old → Reads blocks options.budget at (got ++ more) to → Ends Did ends.NoMemory k old new got end → Counted start c0 to new end
  ran_counted start c0 k at to old new [] more end gone later lanes reads went =
      says_then start c0 k at to old new end gone later (short_says k at to old new end went.0 (reads_lose blocks options.budget at to more reads))
  ran_counted start c0 k at to old new (read ∷ rs) more end gone later lanes reads (inl went) =
      let r = reads.1 in
      let goes = goes_sum k at reads.0 old went.0 read lanes r read.end went.1 in
      let one = goes_given k at reads.0 old went.0 read lanes r goes.0 goes.1 in
      ran_counted start c0 (k + 1) reads.0 to went.0 new rs more end
      (goes_then blocks options k start.place at.place reads.0.place start.left at.left reads.0.left c0 old went.0 start.taken at.taken reads.0.taken gone one)
      (omega (arith, later, r.later)) (more_lanes options read.round.packets old went.0 lanes goes.1) reads.3 went.2
  ran_counted start c0 k at to old new (read ∷ rs) more end gone later lanes reads (inr last) =
      says_then start c0 k at to old new end gone later
      (full_or (is_full read.end) (Says k at to old new end)
      (λ e. short_says k at to old new end (full_short k at reads.0 old new read lanes reads.1 read.end end e last.0) (reads_lose blocks options.budget at to (read ∷ (rs ++ more)) reads))
      (λ e.
      let same : to ≡ reads.0 = subst (λ (l : List RoundRead). Reads blocks options.budget reads.0 l to) (reads.2 e) reads.3 in
      subst (λ (s : Spot). Says k at s old new end) (sym same) (says_at k at reads.0 old new read lanes reads.1 read.end end refl e last.0)))

-- checking of a whole capture
pub all_checked : (old new : RoundsState) (from to : Spot) (before after : Counts) (end : CheckEnd) → from.taken ≡ old.taken → to.taken ≡ new.taken → before ≡ totals_of (options_of old) []
    → Handled (λ a b read k e. CountsRound a b (round_totals (options_of old) (map packet_of read.round.packets)) k read.end e) ends.NoMemory
    (λ n t. (old.keep ≡ true) × HasLanes (options_of old) t × AreOf n t) 0 old new from to before after end
    → Checked old new from.place (drawn_at from) (drawn_at to) before after end
all_checked old new from to before after end first last start h =
    let options = options_of old in
    let counted = ran_counted old.blocks options from before 0 from to before after h.ran.got h.ran.more end
    (ahead_none old.blocks options from.place from.left before from.taken) (omega arith) (start_lanes options before start) h.ran.reads h.ran.ends in
    let n = h.counted in
    record {
      given = counted.given;
      lanes = n.2.1;
      within = end_within n.0 after n.1 n.2.2;
      home = h.rests.home;
      named = h.named;
      same = h.rests.same;
      taken = subst (λ (t : ℕ). Told from.left to.left (TakesTo old.blocks old.budget from.place old.taken t (ending_of end))) last
          (subst (λ (t : ℕ). Told from.left to.left (TakesTo old.blocks old.budget from.place t to.taken (ending_of end))) first counted.taken);
      least = h.rests.least;
      pauses = h.rests.pauses;
      later = h.rests.later;
      read = counted.read;
    }
