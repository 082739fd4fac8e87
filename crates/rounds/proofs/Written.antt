-- What is written of rounds that were read one after another, and how merging ends.
use Rattle.std.proofs.Common.{◌≡◌, ◌+◌, ◌-◌, ◌^◌, ◌≤◌, ◌⊎◌, inl, inr, ℕ, List, [], ◌∷◌, ◌++◌, Bool, true, false, Option, None, Some, refl, sym, ap, ◌∙◌, subst, length, min, map, arith}
use Rattle.std.proofs.Common.{append_assoc}
use Rattle.std.specs.Io.KnownBytes.{Appends}
use Rattle.std.proofs.KnownBytes.{Appends-nil, Appends-kept}
use Rattle.std.proofs.lemmas.Bool.{false≢true}
use Rattle.off_io.specs.Content.{AppendsPrefix, SaysFlushed}
use Rattle.off_io.specs.Faults.{Rose}
use Rattle.off_io.specs.Told.{Told}
use Rattle.off_io.proofs.Appending.{prefix_more}
use Rattle.off_io.proofs.Telling.{Told-then, Told-weaker}
use Rattle.pcap_io.specs.declared.heads.FileHead.{FileHead}
use Rattle.pcap_io.specs.Reading.{Loses}
use Rattle.offload_model.specs.Need.{round_need}
use Rattle.offload_model.specs.Passing.{Passed, NoMemory, merging, WritesPrefix, PrefixUnless, flushes}
use Rattle.offload_model.specs.Steps.{round_output}
use Rattle.offload_model.specs.Written.{Options}
use Rattle.offload_model.proofs.Steps.{prefixes_pass_on}
use Rattle.gro.specs.declared.slot.Slot.{Slot as Held}
use Rattle.gro.specs.Slots.{packet_of}
use Rattle.rounds.specs.declared.round_stages.RoundEnd.{RoundEnd}
use Rattle.rounds.specs.declared.round_stages.RoundEnd.TheVariants as rounds
use Rattle.rounds.specs.declared.round_stages.RoundRead.{RoundRead}
use Rattle.rounds.specs.declared.round_writer.MergeEnd.{MergeEnd}
use Rattle.rounds.specs.declared.round_writer.MergeEnd.TheVariants as ends
use Rattle.rounds.specs.declared.round_writer.Step.{Step}
use Rattle.rounds.specs.declared.round_writer.Step.TheVariants as steps
use Rattle.rounds.specs.Handled.{Ends, Handled, drawn_at}
use Rattle.rounds.specs.Merged.{Start, Behind, MergingEnded, WroteRound, PutRound, Sunk, Merged}
use Rattle.rounds.specs.Merging.{ending_of, options_of, is_worked, Fails, WritesLast, Puts, GivesUp, Ahead, EndsBehind, TakesBehind, TakesTo, EndsCaptured}
use Rattle.rounds.specs.Reading.{GivesRound}
use Rattle.rounds.specs.Reads.{Spot, ReadRound, Reads, is_full}
use Rattle.rounds.specs.RoundsState.{RoundsState}
use Rattle.rounds.proofs.Merging.{ahead_none, goes_then, ends_then, captured_then, taken_then, fronts_then, cut_by, cut_captured, fails_front, fails_end, ended_front, end_given, end_captured}
use Rattle.rounds.proofs.Merging.{malformed_given, malformed_captured, fault_given, fault_captured, empty_given, empty_captured, full_given, cut_taken, last_taken, empty_taken, is_short, fewer_by}
use Rattle.rounds.proofs.Needs.{end_told, ending_at}
use Rattle.rounds.proofs.Rows.{reads_lose}

-- ---- how a round ends

-- merging goes on behind a full round alone
puts_goes : (h h1 : Option (List ℕ)) (out : List ℕ) (end : RoundEnd) → Puts h h1 out end steps.Goes → end ≡ rounds.Full
puts_goes h h1 out rounds.Full puts = refl
puts_goes h h1 out rounds.End puts = absurd puts
puts_goes h h1 out (rounds.Malformed fault) puts = absurd puts
puts_goes h h1 out rounds.ReadFault puts = absurd puts
puts_goes h h1 out (rounds.PoolEmpty need) puts = absurd puts
puts_goes h h1 out rounds.NoMemory puts = absurd puts
puts_goes h h1 out rounds.GivenUp puts = absurd puts

abbrev is_goes : Step → Bool
is_goes steps.Goes = true
is_goes (steps.Ends end) = false

-- a test that is known
by_test : (b : Bool) (X : Type 0) → (b ≡ true → X) → (b ≡ false → X) → X
by_test true X f g = f refl
by_test false X f g = g refl

goes_full : (options : Options) (file : FileHead) (h h1 : Option (List ℕ)) (read : RoundRead) (k : ℕ) → WroteRound options file h h1 read k steps.Goes → read.end ≡ rounds.Full
goes_full options file h h1 read k w =
    by_test (is_worked read.end) (read.end ≡ rounds.Full) (λ e. puts_goes h h1 (round_output options file.order (map packet_of read.round.packets)) read.end (w.puts e))
    (λ e. absurd (false≢true (sym (ap is_goes (w.gives e).1))))

abbrev end_in : Step → MergeEnd
end_in steps.Goes = ends.NoMemory
end_in (steps.Ends end) = end

abbrev is_read : MergeEnd → Bool
is_read ends.ReadFault = true
is_read _ = false

abbrev is_fault : MergeEnd → Bool
is_fault ends.WriteFault = true
is_fault _ = false

-- an end that is one of these two passes no test that they don't pass
not_one : (test : MergeEnd → Bool) (end x y : MergeEnd) (X : Type 0) → test x ≡ false → test y ≡ false → (end ≡ x) ⊎ (end ≡ y) → test end ≡ true → X
not_one test end x y X nx ny (inl e) is = absurd (false≢true (sym nx ∙ ap test (sym e) ∙ is))
not_one test end x y X nx ny (inr e) is = absurd (false≢true (sym ny ∙ ap test (sym e) ∙ is))

-- nor does the end behind a last round, which was to be this one
not_last : (test : MergeEnd → Bool) (h h1 : Option (List ℕ)) (out : List ℕ) (end result : MergeEnd) (X : Type 0) → test end ≡ false → test ends.WriteFault ≡ false → test ends.NoMemory ≡ false
    → WritesLast h h1 out end result → test result ≡ true → X
not_last test h h1 out end result X isnt w n (inl l) is = absurd (false≢true (sym isnt ∙ ap test (sym l.0) ∙ is))
not_last test h h1 out end result X isnt w n (inr f) is = not_one test result ends.WriteFault ends.NoMemory X w n (cut_by h h1 out result f) is

rose_from : (a b c : ℕ) → a ≤ b → Rose b c → Rose a c
rose_from a b c le rose = omega (arith, le, rose)

-- where nothing was written that is a prefix of what comes of all the bytes
kept_front : (X : Type 0) (passing : List ℕ → Passed) (a b h h1 : Option (List ℕ)) (P : List ℕ → List ℕ → Type 0) → AppendsPrefix h h1 [] → Told a b P → PrefixUnless X passing a b h h1
kept_front X passing a b h h1 P none told = inr (Told-weaker a b P (WritesPrefix passing h h1) (λ bytes left _. prefix_more h h1 [] (passing bytes).output none) told)

module _ (blocks : ℕ) (state : RoundsState) (file : FileHead) where
  -- what is said of the round behind which merging ended, itself behind k others
  record Says (k : ℕ) (from to : Spot) (h h1 : Option (List ℕ)) (end : MergeEnd) : Type 0 where
    given : Told from.left to.left (EndsBehind k blocks (options_of state) from.place h h1 end)
    captured : Told from.left to.left (EndsCaptured k from.place end)
    taken : Told from.left to.left (TakesBehind k from.place from.taken to.taken (ending_of end))
    read : end ≡ ends.ReadFault → Rose from.faults to.faults
    prefix : PrefixUnless (Rose from.faults to.faults) (merging blocks (options_of state) from.place) from.left to.left h h1

  -- where it ended by a failed write or for want of memory
  cut_says : (k : ℕ) (from to : Spot) (h h1 : Option (List ℕ)) (end : MergeEnd) → (end ≡ ends.WriteFault) ⊎ (end ≡ ends.NoMemory)
      → Told from.left to.left (EndsBehind k blocks (options_of state) from.place h h1 end)
      → PrefixUnless (Rose from.faults to.faults) (merging blocks (options_of state) from.place) from.left to.left h h1 → Says k from to h h1 end
  cut_says k from to h h1 end cut told front = record {
    given = told;
    captured = Told-weaker from.left to.left (EndsBehind k blocks (options_of state) from.place h h1 end) (EndsCaptured k from.place end)
        (λ bytes left _. cut_captured k from.place end bytes left cut) told;
    taken = Told-weaker from.left to.left (EndsBehind k blocks (options_of state) from.place h h1 end) (TakesBehind k from.place from.taken to.taken (ending_of end))
        (λ bytes left _. cut_taken k from.taken to.taken from.place end bytes left cut) told;
    read = λ fault. not_one is_read end ends.WriteFault ends.NoMemory _ refl refl cut (ap is_read fault);
    prefix = front;
  }

  -- where there was no memory: these rounds are given up
  lost_says : (k : ℕ) (from to : Spot) (h : Option (List ℕ)) (xs : List RoundRead) → Reads blocks state.budget from xs to → Says k from to h h ends.NoMemory
  lost_says k from to h xs reads =
      let lost = reads_lose blocks state.budget from to xs reads in
      cut_says k from to h h ends.NoMemory (inr refl)
      (Told-weaker from.left to.left Loses (EndsBehind k blocks (options_of state) from.place h h ends.NoMemory) (λ bytes left loses. (NoMemory, refl, (loses.0, loses.1, (0, Appends-nil h)))) lost)
      (kept_front _ (merging blocks (options_of state) from.place) from.left to.left h h Loses (0, Appends-nil h) lost)

  -- ---- one round

  module _ (k : ℕ) (from to : Spot) (h h1 : Option (List ℕ)) (read : RoundRead) (is_file : from.place.file ≡ file) (r : ReadRound blocks state.budget from to read) where
    abbrev round : List Held
    round = read.round.packets

    abbrev out : List ℕ
    out = round_output (options_of state) file.order (map packet_of round)

    abbrev passing : List ℕ → Passed
    passing = merging blocks (options_of state) from.place

    fits : round_need (map packet_of round) ≤ blocks
    fits = omega (arith, r.need, r.within)

    took : min (from.taken + round_need (map packet_of round)) (2 ^ 64 - 1) ≤ to.taken
    took = omega (arith, r.took, r.need)

    took_by : (e : RoundEnd) → Told from.left to.left (GivesRound blocks from.place to.place round e) → Told from.left to.left (TakesBehind k from.place from.taken to.taken (ending_at k e))
    took_by e told = end_told blocks k from.taken to.taken from.place to.place round took e from.left to.left told

    given_as : (e : RoundEnd) → read.end ≡ e → Told from.left to.left (GivesRound blocks from.place to.place round e)
    given_as e is = subst (λ (x : RoundEnd). Told from.left to.left (GivesRound blocks from.place to.place round x)) is r.given

    put_as : (e : RoundEnd) (step : Step) → read.end ≡ e → is_worked e ≡ true → WroteRound (options_of state) file h h1 read k step → Puts h h1 out e step
    put_as e step is works w = subst (λ (x : RoundEnd). Puts h h1 out x step) is (w.puts (ap is_worked is ∙ works))

    gave_up : (e : RoundEnd) (end : MergeEnd) → read.end ≡ e → is_worked e ≡ false → WroteRound (options_of state) file h h1 read k (steps.Ends end) → GivesUp h h1 k e end
    gave_up e end is isnt w =
        let g = w.gives (ap is_worked is ∙ isnt) in
        subst (λ (x : RoundEnd). GivesUp h h1 k x end) is (subst (GivesUp h h1 k read.end) (sym (ap end_in g.1)) g.2)

    -- a full round, whatever is written
    goes : (x y : Option (List ℕ)) → read.end ≡ rounds.Full → Appends x y out → Told from.left to.left (Ahead blocks (options_of state) 1 from.place to.place x y from.taken to.taken)
    goes x y full wrote =
        full_given blocks state file from.place to.place round is_file r.some fits k from.left to.left x y from.taken to.taken (r.full full).full (r.full full).file took wrote r.captured
        (given_as rounds.Full full)

    -- one that wasn't written whole, whatever was read behind it
    full_says : (end : MergeEnd) (last : Spot) → read.end ≡ rounds.Full → Fails h h1 out end → Told to.left last.left Loses → Says k from last h h1 end
    full_says end last full fails lost =
        let first = goes (Some []) (Some out) full refl in
        let ahead = Ahead blocks (options_of state) 1 from.place to.place (Some []) (Some out) from.taken to.taken in
        cut_says k from last h h1 end (cut_by h h1 out end fails)
        (Told-then from.left to.left last.left ahead Loses (EndsBehind k blocks (options_of state) from.place h h1 end)
        (λ bytes mid left x y.
        let split = x.split ∙ ap (λ (l : List ℕ). x.gone ++ l) y.1 ∙ sym (append_assoc x.gone y.0 left) in
        let after = (merging blocks (options_of state) to.place y.0).output in
        fails_end blocks state file from.place to.place round is_file r.some fits k from.left to.left h h1 end fails (x.gone ++ y.0) bytes left split
        (λ f. subst (AppendsPrefix h h1) (sym (ap (λ (q : Passed). q.output) (x.goes y.0))) (prefix_more h h1 x.done after (subst (AppendsPrefix h h1) x.wrote f)))) first lost)
        (inr (Told-then from.left to.left last.left ahead Loses (WritesPrefix passing h h1)
        (λ bytes mid left x y.
        subst (λ (l : List ℕ). WritesPrefix passing h h1 l left) (sym x.split)
        ((prefixes_pass_on passing (merging blocks (options_of state) to.place) 1 x.gone x.done).within h h1 mid left x.goes
        (subst (AppendsPrefix h h1) x.wrote (fails_front blocks state file from.place to.place round is_file r.some fits k from.left to.left h h1 end fails)))) first lost))

    -- the last round, behind which nothing was read
    alone : (end : MergeEnd) (last : Spot) (ys : List RoundRead) → ys ≡ [] → Reads blocks state.budget to ys last → Says k from to h h1 end → Says k from last h h1 end
    alone end last ys none reads says =
        subst (λ (z : Spot). Says k from z h h1 end) (sym (subst (λ (l : List RoundRead). Reads blocks state.budget to l last) none reads)) says

    -- by its end
    end_says : (e : RoundEnd) (end : MergeEnd) (last : Spot) (ys : List RoundRead) → read.end ≡ e → (is_full e ≡ false → ys ≡ []) → Reads blocks state.budget to ys last
        → WroteRound (options_of state) file h h1 read k (steps.Ends end) → Says k from last h h1 end
    end_says rounds.Full end last ys is closes reads w =
        full_says end last is (put_as rounds.Full (steps.Ends end) is refl w) (reads_lose blocks state.budget to last ys reads)
    end_says rounds.End end last ys is closes reads w =
        let put = put_as rounds.End (steps.Ends end) is refl w in
        let told = given_as rounds.End is in
        let fewer = fewer_by read.end (length round) state.budget (ap is_short is) r.fewer in
        alone end last ys (closes refl) reads record {
          given = end_given blocks state file from.place to.place round is_file r.some fits k from.left to.left h h1 end fewer put told;
          captured = end_captured k blocks from.place to.place round from.left to.left h h1 out r.captured end put told;
          taken = last_taken k from.taken to.taken from.place h h1 out ends.Done end from.left to.left put (took_by rounds.End told);
          read = λ fault. not_last is_read h h1 out ends.Done end _ refl refl refl put (ap is_read fault);
          prefix = inr (Told-weaker from.left to.left (GivesRound blocks from.place to.place round rounds.End) (WritesPrefix passing h h1)
              (λ bytes left gives.
              ended_front blocks state file from.place to.place round is_file r.some fits k from.left to.left h h1 ends.Done end bytes left None fewer gives.1 gives.0 put) told);
        }
    end_says (rounds.Malformed fault) end last ys is closes reads w =
        let put = put_as (rounds.Malformed fault) (steps.Ends end) is refl w in
        let told = given_as (rounds.Malformed fault) is in
        let fewer = fewer_by read.end (length round) state.budget (ap is_short is) r.fewer in
        alone end last ys (closes refl) reads record {
          given = malformed_given blocks state file from.place to.place round is_file r.some fits k from.left to.left h h1 fault end fewer put told;
          captured = malformed_captured k blocks from.place to.place round from.left to.left h h1 out r.captured fault end put told;
          taken = last_taken k from.taken to.taken from.place h h1 out (ends.Malformed fault) end from.left to.left put (took_by (rounds.Malformed fault) told);
          read = λ failed. not_last is_read h h1 out (ends.Malformed fault) end _ refl refl refl put (ap is_read failed);
          prefix = inr (Told-weaker from.left to.left (GivesRound blocks from.place to.place round (rounds.Malformed fault)) (WritesPrefix passing h h1)
              (λ bytes left gives.
              ended_front blocks state file from.place to.place round is_file r.some fits k from.left to.left h h1 (ends.Malformed fault) end bytes left (Some fault) fewer gives.1 gives.0 put) told);
        }
    end_says rounds.ReadFault end last ys is closes reads w =
        let put = put_as rounds.ReadFault (steps.Ends end) is refl w in
        let told = given_as rounds.ReadFault is in
        alone end last ys (closes refl) reads record {
          given = fault_given blocks state file from.place to.place round is_file r.some fits k from.left to.left h h1 end
              (fewer_by read.end (length round) state.budget (ap is_short is) r.fewer) put told;
          captured = fault_captured k blocks from.place to.place round from.left to.left h h1 out r.captured end put told;
          taken = last_taken k from.taken to.taken from.place h h1 out ends.ReadFault end from.left to.left put (took_by rounds.ReadFault told);
          read = λ fault. r.failed is;
          prefix = inl (r.failed is);
        }
    end_says (rounds.PoolEmpty need) end last ys is closes reads w =
        let gave = gave_up (rounds.PoolEmpty need) end is refl w in
        let told = given_as (rounds.PoolEmpty need) is in
        alone end last ys (closes refl) reads record {
          given = empty_given blocks state file from.place to.place round is_file r.some fits k from.left to.left h h1 need end
              (fewer_by read.end (length round) state.budget (ap is_short is) r.fewer) gave.0 gave.1 told;
          captured = empty_captured k blocks from.place to.place round from.left to.left h h1 out r.captured need end gave.0 told;
          taken = empty_taken k from.taken to.taken need from.place end from.left to.left gave.0 (took_by (rounds.PoolEmpty need) told);
          read = λ fault. not_one is_read end (ends.PoolEmpty k need) ends.WriteFault _ refl refl gave.0 (ap is_read fault);
          prefix = kept_front _ passing from.left to.left h h1 _ (0, Appends-kept h h h1 [] (Appends-nil h) gave.1) told;
        }
    end_says rounds.NoMemory end last ys is closes reads w =
        let gave = gave_up rounds.NoMemory end is refl w in
        subst (λ (x : MergeEnd). Says k from last h h1 x) (sym gave.0)
        (subst (λ (x : Option (List ℕ)). Says k from last h x ends.NoMemory) (sym gave.1)
        (lost_says k from last h (read ∷ ys) (to, r, (λ e. closes refl), reads)))
    end_says rounds.GivenUp end last ys is closes reads w =
        let gave = gave_up rounds.GivenUp end is refl w in
        subst (λ (x : MergeEnd). Says k from last h h1 x) (sym gave.0)
        (subst (λ (x : Option (List ℕ)). Says k from last h x ends.NoMemory) (sym gave.1)
        (lost_says k from last h (read ∷ ys) (to, r, (λ e. closes refl), reads)))

  -- ---- round by round

  -- behind what is gone
  ended_so : (start : Start) (k : ℕ) (first at to : Spot) (h h1 : Option (List ℕ)) (end : MergeEnd) → Behind blocks (options_of state) file start k at h → first.faults ≤ at.faults
      → Says k at to h h1 end → MergingEnded blocks (options_of state) start first to h1 end
  ended_so start k first at to h h1 end gone later says = record {
    given = ends_then blocks (options_of state) k start.place at.place to.place start.left at.left to.left start.held h h1 start.taken at.taken to.taken end gone.told says.given;
    captured = captured_then blocks (options_of state) k start.place at.place to.place start.left at.left to.left start.held h h1 start.taken at.taken to.taken end gone.told says.given says.captured;
    taken = taken_then blocks (options_of state) k start.place at.place to.place start.left at.left to.left start.held h h1 start.taken at.taken to.taken end gone.told says.given says.taken;
    read = λ fault. rose_from first.faults at.faults to.faults later (says.read fault);
    prefix = fronts_then blocks (options_of state) k start.place at.place to.place start.left at.left to.left start.held h h1 start.taken at.taken to.taken
        (Rose at.faults to.faults) (Rose first.faults to.faults) (λ rose. rose_from first.faults at.faults to.faults later rose) gone.told says.prefix;
  }

  goes_behind : (start : Start) (k : ℕ) (at to : Spot) (h h1 : Option (List ℕ)) (read : RoundRead) → Behind blocks (options_of state) file start k at h → ReadRound blocks state.budget at to read
      → WroteRound (options_of state) file h h1 read k steps.Goes → Behind blocks (options_of state) file start (k + 1) to h1
  goes_behind start k at to h h1 read gone r w =
      let full = goes_full (options_of state) file h h1 read k w in
      record {
        told = goes_then blocks (options_of state) k start.place at.place to.place start.left at.left to.left start.held h h1 start.taken at.taken to.taken gone.told
            (goes k at to h h1 read gone.same r h h1 full (put_as k at to h h1 read gone.same r rounds.Full steps.Goes full refl w));
        same = (r.full full).file ∙ gone.same;
      }

  -- ---- all of them

  module _ {K : Type 0} (at_sink : K → Sunk) where
    abbrev Did : K → K → RoundRead → ℕ → Option MergeEnd → Type 0
    Did old new read k end = PutRound (options_of state) file (at_sink old) (at_sink new) read k end

    -- behind k rounds, of which the first was read here
    ran_ended : (start : Start) (k : ℕ) (first at to : Spot) (old new : K) (got more : List RoundRead) (end : MergeEnd) → Behind blocks (options_of state) file start k at (at_sink old).held
        → first.faults ≤ at.faults → Reads blocks state.budget at (got ++ more) to → Ends Did ends.NoMemory k old new got end → MergingEnded blocks (options_of state) start first to (at_sink new).held end
    ran_ended start k first at to old new [] more end gone later reads went =
        subst (λ (e : MergeEnd). MergingEnded blocks (options_of state) start first to (at_sink new).held e) (sym went.0)
        (subst (λ (a : K). MergingEnded blocks (options_of state) start first to (at_sink a).held ends.NoMemory) (sym went.1) (ended_so start k first at to (at_sink old).held (at_sink old).held ends.NoMemory gone later (lost_says k at to (at_sink old).held more reads)))
    ran_ended start k first at to old new (read ∷ rs) more end gone later reads (inl went) =
        ran_ended start (k + 1) first reads.0 to went.0 new rs more end (goes_behind start k at reads.0 (at_sink old).held (at_sink went.0).held read gone reads.1 went.1.wrote)
        (omega (arith, later, reads.1.later)) reads.3 went.2
    ran_ended start k first at to old new (read ∷ rs) more end gone later reads (inr last) =
        ended_so start k first at to (at_sink old).held (at_sink new).held end gone later
        (end_says k at reads.0 (at_sink old).held (at_sink new).held read gone.same reads.1 read.end end to more refl (λ e. ap (λ (l : List RoundRead). l ++ more) (sym last.1) ∙ reads.2 e)
        (subst (λ (l : List RoundRead). Reads blocks state.budget reads.0 (l ++ more) to) last.1 reads.3) last.0.wrote)

    -- what the sink says at the end
    record Sank (old new : K) (end : MergeEnd) : Type 0 where
      later : (at_sink old).faults ≤ (at_sink new).faults
      flushed : flushes (ending_of end) ≡ true → SaysFlushed (at_sink new).held (at_sink new).flushed true
      rose : end ≡ ends.WriteFault → Rose (at_sink old).faults (at_sink new).faults

    stopped_sank : (old new : K) (end : MergeEnd) → end ≡ ends.NoMemory → new ≡ old → Sank old new end
    stopped_sank old new end is same = record {
      later = omega (arith, ap (λ (a : K). (at_sink a).faults) same);
      flushed = λ e. absurd (false≢true (ap (λ (x : MergeEnd). flushes (ending_of x)) (sym is) ∙ e));
      rose = λ e. absurd (false≢true (ap is_fault (sym is ∙ e)));
    }

    ran_sank : (k : ℕ) (old new : K) (got : List RoundRead) (end : MergeEnd) → Ends Did ends.NoMemory k old new got end → Sank old new end
    ran_sank k old new [] end went = stopped_sank old new end went.0 went.1
    ran_sank k old new (read ∷ rs) end (inl went) =
        let next = ran_sank (k + 1) went.0 new rs end went.2 in
        record {
          later = omega (arith, went.1.later, next.later);
          flushed = next.flushed;
          rose = λ fault. rose_from (at_sink old).faults (at_sink went.0).faults (at_sink new).faults went.1.later (next.rose fault);
        }
    ran_sank k old new (read ∷ rs) end (inr last) = record { later = last.0.later; flushed = last.0.flushed; rose = last.0.rose }

-- merging of a whole capture
pub all_merged : {K : Type 0} (at_sink : K → Sunk) (file : FileHead) (ready : ℕ → K → Type 0) (old new : RoundsState) (from to : Spot) (before after : K) (end : MergeEnd) → from.taken ≡ old.taken → to.taken ≡ new.taken
    → from.place.file ≡ file → Handled (λ a b read k e. PutRound (options_of old) file (at_sink a) (at_sink b) read k e) ends.NoMemory ready 0 old new from to before after end
    → Merged old new from.place (drawn_at from) (drawn_at to) (at_sink before) (at_sink after) end
all_merged at_sink file ready old new from to before after end first last is_file h =
    let start : Start = record { place = from.place; left = from.left; held = (at_sink before).held; taken = from.taken } in
    let gone : Behind old.blocks (options_of old) file start 0 from (at_sink before).held =
    record { told = ahead_none old.blocks (options_of old) from.place from.left (at_sink before).held from.taken; same = is_file } in
    let ended = ran_ended old.blocks old file at_sink start 0 from from to before after h.ran.got h.ran.more end gone (omega arith) h.ran.reads h.ran.ends in
    let sank = ran_sank old.blocks old file at_sink 0 before after h.ran.got end h.ran.ends in
    record {
      given = ended.given;
      prefix = ended.prefix;
      flushed = sank.flushed;
      home = h.rests.home;
      named = h.named;
      same = h.rests.same;
      taken = subst (λ (t : ℕ). Told from.left to.left (TakesTo old.blocks old.budget from.place old.taken t (ending_of end))) last
          (subst (λ (t : ℕ). Told from.left to.left (TakesTo old.blocks old.budget from.place t to.taken (ending_of end))) first ended.taken);
      least = h.rests.least;
      pauses = h.rests.pauses;
      captured = ended.captured;
      later = h.rests.later;
      later_sink = sank.later;
      read = ended.read;
      write = sank.rose;
    }
