-- What both sides say together, once both have ended, and what one says where there aren't two.
use Rattle.std.proofs.Common.{◌≡◌, ◌∙◌, ◌+◌, ◌<◌, ◌≤◌, ◌^◌, ℕ, List, [], ◌∷◌, ◌++◌, length, length-append}
use Rattle.std.proofs.Common.{Option, None, Some, MatchOption, IfSome, Result, Ok, Err, Bool, false, inl, inr, refl, sym, ap, subst, arith}
use Rattle.std.proofs.lemmas.Bool.{false≢true}
use Rattle.block_pool.specs.PoolState.{weighed}
use Rattle.offload_model.specs.Written.{Options}
use Rattle.rounds.specs.declared.round_stages.RoundEnd.TheVariants as rounds
use Rattle.rounds.specs.declared.round_stages.RoundRead.{RoundRead}
use Rattle.rounds.specs.Handled.{Ends, FewPauses, GaveSpares, Ran, Rests, IsReadyAtEnd, Handled}
use Rattle.rounds.specs.Merging.{options_of}
use Rattle.rounds.specs.Reads.{Spot, ReadRound, Reads, is_full}
use Rattle.rounds.specs.Benches.{AreOne, HasRoom, IsSameBench}
use Rattle.rounds.specs.RoundsState.{BenchState, RoundsState, IntakeState}
use Rattle.rounds.specs.Weights.{weights_of}
use Rattle.pipeline.specs.declared.parcel.Parcel.{Parcel}
use Rattle.pipeline.specs.Handled.{RanOn, HandledOn, MayGoOn, IsFirstOut, Idle, MayBeHandled, ComesBack, weights_out}
use Rattle.pipeline.specs.Parcels.{rounds_of, weights_sent}
use Rattle.pipeline.specs.Reads.{ReadOn, IsAlone}
use Rattle.rounds.proofs.Going.{counted_as, few_none, few_then, gave_none, gave_then, ready_as}
use Rattle.rounds.proofs.Rows.{reads_least}
use Rattle.block_supply.proofs.Listing.{ones}
use Rattle.pipeline.proofs.Counting.{least_same, most_same, room_back}
use Rattle.pipeline.proofs.Kept.{bench_then}
use Rattle.pipeline.proofs.Rows.{none_known, rounds_append}

-- the same reading, by names of the same numbers
pub reads_as : (i i' budget budget' : ℕ) (from from' to to' : Spot) (xs xs' : List RoundRead) → i' ≡ i → budget' ≡ budget → from' ≡ from → to' ≡ to → xs' ≡ xs → Reads i' budget' from' xs' to'
    → Reads i budget from xs to
reads_as i i' budget budget' from from' to to' xs xs' ei eb ef et ex reads =
    subst (λ (n : ℕ). Reads n budget from xs to) ei
    (subst (λ (n : ℕ). Reads i' n from xs to) eb
    (subst (λ (s : Spot). Reads i' budget' s xs to) ef
    (subst (λ (s : Spot). Reads i' budget' from' xs s) et
    (subst (λ (l : List RoundRead). Reads i' budget' from' l to') ex reads))))

-- ---- the rounds are one again

-- the round that comes first
abbrev front_of : RoundRead → List RoundRead → RoundRead
front_of none [] = none
front_of none (read ∷ rs) = read

-- they may be lent again: one read on from `i` and is at `mid`, what lay between them came home, and the other one has the bench
pub one_again : (i mid new : IntakeState) (b here last : BenchState) (kept : ℕ) → AreOne i b → IsSameBench b here → (mid.blocks ≡ i.blocks) × (mid.budget ≡ i.budget) × (mid.empties ≡ i.empties)
    → IsSameBench here last → HasRoom kept last → new ≡ record mid { stock = new.stock; empties = new.empties } → length mid.stock + kept ≤ length new.stock → AreOne new last
one_again i mid new b here last kept one p same k room f least =
    let bench = bench_then b here last p k in
    let blocks : last.blocks ≡ new.blocks = ap (λ (x : BenchState). x.blocks) bench ∙ one.blocks ∙ sym same.0 ∙ sym (ap (λ (x : IntakeState). x.blocks) f) in
    let budget : new.budget ≡ i.budget = ap (λ (x : IntakeState). x.budget) f ∙ same.1 in
    record {
      blocks = blocks;
      budget = ap (λ (x : BenchState). x.budget) bench ∙ one.budget ∙ sym budget;
      few = (least_same 1 i.budget new.budget budget one.few.0, most_same i.budget 4096 new.budget budget one.few.1);
      room = room_back last.blocks new.blocks last.room kept (length new.stock) (length mid.stock) blocks room least;
    }

-- both sides were lent, one read with this intake, and so it is once both have ended
pub record Lent (state new : RoundsState) (intake : IntakeState) (back : ℕ) : Type 0 where
  pub blocks : intake.blocks ≡ state.blocks
  pub budget : intake.budget ≡ state.budget
  pub before : intake.taken ≡ state.taken
  pub same : (new.blocks ≡ state.blocks) × (options_of new ≡ options_of state) × (new.keep ≡ state.keep)
  pub after : new.taken ≡ back
  pub pauses : FewPauses state.empties state.pauses new.empties new.pauses
  pub gives : GaveSpares state.spares new.spares

-- The first round was read and full, and alone in the ring as the sides began. What was received of all that was sent, and what wasn't,
-- is known once they have joined.
pub record Sent (state : RoundsState) (intake : IntakeState) (read : RoundRead) (at to : Spot) (back : ℕ) (one sent got known : List Parcel) : Type 0 where
  pub out : length state.stock + read.round.blocks ≡ state.blocks
  pub weighs : weights_of read.round (λ _. 1) ≡ read.round.blocks
  pub full : read.end ≡ rounds.Full
  pub few : state.taken < 2 ^ 64
  pub alone : IsAlone read one
  pub on : ReadOn intake.blocks intake.budget (record at { taken = intake.taken }) (record to { taken = back }) one sent
  pub fifo : got ++ known ≡ sent
  pub later : at.faults ≤ to.faults

module _ {T E : Type 0} (did : T → T → RoundRead → ℕ → Option E → Type 0) (stopped : E) (ready : ℕ → T → Type 0) (state new : RoundsState) (intake : IntakeState) (back : ℕ)
    (read : RoundRead) (at to : Spot) (one sent got known : List Parcel) (re : Lent state new intake back) (s : Sent state intake read at to back one sent got known)
    (was is : T) (counted : IsReadyAtEnd ready is) where
  abbrev first : Spot
  first = record at { taken = state.taken }

  abbrev last : Spot
  last = record to { taken = new.taken }

  read_behind : Reads state.blocks state.budget first s.on.more last
  read_behind =
      reads_as state.blocks intake.blocks state.budget intake.budget first (record at { taken = intake.taken }) last (record to { taken = back }) s.on.more s.on.more
      re.blocks re.budget (ap (λ (n : ℕ). record at { taken = n }) re.before) (ap (λ (n : ℕ). record to { taken = n }) (sym re.after)) refl s.on.reads

  abbrev IsBrought : Type 0
  IsBrought = (h : ℕ → ℕ) → weighed h new.stock ≡ weighed h state.stock + weights_of read.round h

  all_rest : IsBrought → Rests state new first last
  all_rest brought = record {
    home = omega (arith, brought (λ _. 1), ones new.stock, ones state.stock, s.out, s.weighs, re.same.0);
    same = re.same;
    least = omega (arith, s.few, reads_least state.blocks state.budget first last s.on.more read_behind);
    pauses = re.pauses;
    gives = re.gives;
    later = s.later;
  }

  closed : is_full read.end ≡ false → s.on.more ≡ []
  closed e = absurd (false≢true (sym e ∙ ap is_full s.full))

  first_is : rounds_of one ≡ read ∷ []
  first_is = ap rounds_of s.alone.1 ∙ ap (λ (r : RoundRead). r ∷ []) s.alone.2

  all_is : rounds_of got ++ rounds_of known ≡ read ∷ s.on.more
  all_is = sym (rounds_append got known) ∙ ap rounds_of s.fifo ∙ s.on.sent ∙ ap (λ (rs : List RoundRead). rs ++ s.on.more) first_is

  -- the blocks of the first round came home with the others, but for those of a round that comes back
  abbrev IsBroughtBut : Result E RoundRead → Type 0
  IsBroughtBut result = (h : ℕ → ℕ) → weighed h new.stock + weights_out result h ≡ weighed h state.stock + weights_of read.round h

  -- the side that works says how it ended, whatever was read behind that
  both_went : (end : E) → IsBrought → Ends did stopped 0 was is (rounds_of got) end → HandledOn did stopped ready state new read first last was is end
  both_went end brought ends = record {
    ran = record { got = rounds_of got; more = rounds_of known; rest = s.on.more; all = all_is; closes = closed; reads = read_behind; ends = ends };
    rests = all_rest brought;
    named = brought;
    counted = counted;
  }

  -- no side worked, and rounds were lost
  none_went : IsBrought → is ≡ was → HandledOn did stopped ready state new read first last was is stopped
  none_went brought same = record {
    ran = record { got = []; more = read ∷ s.on.more; rest = s.on.more; all = refl; closes = closed; reads = read_behind; ends = (refl, same) };
    rests = all_rest brought;
    named = brought;
    counted = counted;
  }

  -- nothing else was read
  idle : length sent ≡ 1 → rounds_of sent ≡ read ∷ [] → ((h : ℕ → ℕ) → weighed h new.stock ≡ weighed h state.stock) → is ≡ was → Idle state new first last was is
  idle count alone named same =
      let none : s.on.more ≡ [] = none_known s.on.more (omega (arith, ap length (sym alone ∙ s.on.sent), length-append (rounds_of one) s.on.more, ap length first_is)) in
      let stands : last ≡ first = subst (λ (l : List RoundRead). Reads state.blocks state.budget first l last) none read_behind in
      record {
        named = named;
        same = re.same;
        taken = ap (λ (x : Spot). x.taken) stands;
        pauses = re.pauses;
        gives = re.gives;
        stands = stands;
        nothing = same;
      }

  abbrev Came : Result E RoundRead → Type 0
  Came result = MayBeHandled did stopped ready state new read first last was is result

  -- no side worked
  unworked : (result : Result E RoundRead) (left : List Parcel) → IsBroughtBut result → (got ≡ []) × (is ≡ was)
      → ComesBack stopped known left result → Came result
  unworked (Ok end) left brought none back = subst (λ (e : E). Came (Ok e)) (sym back.0) (none_went (λ h. omega (arith, brought h)) none.1)
  unworked (Err x) left brought none back =
      let sent_is : sent ≡ back.0 ∷ [] = sym s.fifo ∙ ap (λ (l : List Parcel). l ++ known) none.0 ∙ back.2 in
      let front : back.0.read ∷ [] ≡ read ∷ s.on.more = sym (ap rounds_of sent_is) ∙ s.on.sent ∙ ap (λ (rs : List RoundRead). rs ++ s.on.more) first_is in
      let same : back.0.read ≡ read = ap (front_of back.0.read) front in
      let is_read : x ≡ read = sym back.1 ∙ same in (
        is_read,
        idle (ap length sent_is) (ap rounds_of sent_is ∙ ap (λ (r : RoundRead). r ∷ []) same)
            (λ h. omega (arith, brought h, ap (λ (r : RoundRead). weights_of r.round h) is_read)) none.1,
      )

  -- whether a side worked or not
  pub all_went : (end : Option E) (result : Result E RoundRead) (left : List Parcel) → IsBroughtBut result
      → MatchOption end ((got ≡ []) × (is ≡ was)) (λ e. Ends did stopped 0 was is (rounds_of got) e)
      → IfSome end (λ e. (result ≡ Ok e) × (left ≡ known)) → (end ≡ None → ComesBack stopped known left result) → Came result
  all_went (Some end) result left brought ends some none =
      subst Came (sym some.0) (both_went end (λ h. omega (arith, brought h, ap (λ r. weights_out r h) some.0)) ends)
  all_went None result left brought ends some none = unworked result left brought ends (none refl)

-- what the side that works says, by the options of both
pub ends_as : {T E : Type 0} (did : Options → T → T → RoundRead → ℕ → Option E → Type 0) (stopped : E) (o o' : Options) (got : List Parcel) (was is : T) (end : Option E)
    → o' ≡ o
    → MatchOption end ((got ≡ []) × (is ≡ was)) (λ e. Ends (did o') stopped 0 was is (rounds_of got) e)
    → MatchOption end ((got ≡ []) × (is ≡ was)) (λ e. Ends (did o) stopped 0 was is (rounds_of got) e)
ends_as did stopped o o' got was is end same ends =
    subst (λ (z : Options). MatchOption end ((got ≡ []) × (is ≡ was)) (λ e. Ends (did z) stopped 0 was is (rounds_of got) e)) same ends

-- what the rounds weigh that are in the ring still, and the one that was taken out
pub left_weights : {E : Type 0} (h : ℕ → ℕ) (stopped : E) (end : Option E) (result : Result E RoundRead) (known left : List Parcel) → IfSome end (λ e. (result ≡ Ok e) × (left ≡ known))
    → (end ≡ None → ComesBack stopped known left result) → weights_sent h left + weights_out result h ≡ weights_sent h known
left_weights h stopped (Some end) result known left some none = omega (arith, ap (weights_sent h) some.1, ap (λ r. weights_out r h) some.0)
left_weights h stopped None (Ok end) known left some none = omega (arith, (none refl).1 h)
left_weights h stopped None (Err x) known left some none =
    let back = none refl in
    omega (arith, ap (weights_sent h) back.2, ap (weights_sent h) back.3, ap (λ (r : RoundRead). weights_of r.round h) back.1)

-- ---- where nothing else was read one side goes on alone

pub idle_as : {T : Type 0} (old new : RoundsState) (at : Spot) (was : T) → new ≡ old → Idle old new (record at { taken = old.taken }) (record at { taken = new.taken }) was was
idle_as old new at was same = record {
  named = λ h. ap (λ (s : RoundsState). weighed h s.stock) same;
  same = (ap (λ (s : RoundsState). s.blocks) same, ap options_of same, ap (λ (s : RoundsState). s.keep) same);
  taken = ap (λ (s : RoundsState). s.taken) same;
  pauses = few_none old.empties old.pauses new.empties new.pauses (omega (arith, ap (λ (s : RoundsState). s.empties) same)) (ap (λ (s : RoundsState). s.pauses) same);
  gives = gave_none old.spares new.spares (ap (λ (s : RoundsState). s.spares) same);
  stands = ap (λ (s : RoundsState). record at { taken = s.taken }) same;
  nothing = refl;
}

-- ---- the same, of rounds with the same options

module _ {T E : Type 0} (did : Options → T → T → RoundRead → ℕ → Option E → Type 0) (stopped : E) (ready : Options → Bool → ℕ → T → Type 0) where
  pub handled_as : (o o' : Options) (was is : T) (read read' : RoundRead) (k k' : ℕ) (end : Option E) → o' ≡ o → read' ≡ read → k' ≡ k → did o' was is read' k' end → did o was is read k end
  handled_as o o' was is read read' k k' end eo er ek d =
      subst (λ (x : Options). did x was is read k end) eo
      (subst (λ (x : ℕ). did o' was is read x end) ek (subst (λ (x : RoundRead). did o' was is x k' end) er d))

  ran_as : (o o' : Options) (b b' n n' : ℕ) (read back : RoundRead) (at at' to : Spot) (was was' is : T) (end : E) → o' ≡ o → b' ≡ b → n' ≡ n → back ≡ read → at' ≡ at → was' ≡ was
      → RanOn (did o') stopped b' n' back at' to was' is end → RanOn (did o) stopped b n read at to was is end
  ran_as o o' b b' n n' read back at at' to was was' is end eo eb en er ea ew ran =
      subst (λ (x : T). RanOn (did o) stopped b n read at to x is end) ew
      (subst (λ (x : Spot). RanOn (did o) stopped b n read x to was' is end) ea
      (subst (λ (x : RoundRead). RanOn (did o) stopped b n x at' to was' is end) er
      (subst (λ (x : ℕ). RanOn (did o) stopped b x back at' to was' is end) en
      (subst (λ (x : ℕ). RanOn (did o) stopped x n' back at' to was' is end) eb
      (subst (λ (x : Options). RanOn (did x) stopped b' n' back at' to was' is end) eo ran)))))

  -- the first round is out still
  pub idle_out : (old new : RoundsState) (read back : RoundRead) (from to : Spot) (was is : T) → back ≡ read → Idle old new from to was is
      → IsFirstOut (ready (options_of old) old.keep) old read from.place was → IsFirstOut (ready (options_of new) new.keep) new back to.place is
  idle_out old new read back from to was is same idle out =
      let here : IsFirstOut (ready (options_of new) new.keep) new read to.place is = record {
        out = omega (arith, idle.named (λ _. 1), ones new.stock, ones old.stock, idle.same.0, out.out);
        is = out.is;
        goes = λ full. subst (λ (s : Spot). MayGoOn read s.place) (sym idle.stands) (out.goes full);
        start = ready_as did stopped ready (options_of new) (options_of old) new.keep old.keep 0 is (sym idle.same.1) (sym idle.same.2) (subst (ready (options_of old) old.keep 0) (sym idle.nothing) out.start);
      } in
      subst (λ (r : RoundRead). IsFirstOut (ready (options_of new) new.keep) new r to.place is) (sym same) here

  -- one side alone, where nothing else was read
  pub idle_went : (old mid new : RoundsState) (read back : RoundRead) (from at to : Spot) (was between is : T) (end : E) → back ≡ read → Idle old mid from at was between
      → HandledOn (did (options_of mid)) stopped (ready (options_of mid) mid.keep) mid new back at to between is end
      → HandledOn (did (options_of old)) stopped (ready (options_of old) old.keep) old new read from to was is end
  idle_went old mid new read back from at to was between is end same idle h = record {
    ran = ran_as (options_of old) (options_of mid) old.blocks mid.blocks old.budget mid.budget read back from at to was between is end idle.same.1 idle.same.0
        (ap (λ (o : Options). o.budget) idle.same.1) same idle.stands idle.nothing h.ran;
    rests = record {
      home = h.rests.home;
      same = (h.rests.same.0 ∙ idle.same.0, h.rests.same.1 ∙ idle.same.1, h.rests.same.2 ∙ idle.same.2);
      least = omega (arith, h.rests.least, idle.taken);
      pauses = few_then old.empties old.pauses mid.empties mid.pauses new.empties new.pauses idle.pauses h.rests.pauses;
      gives = gave_then old.spares mid.spares new.spares idle.gives h.rests.gives;
      later = omega (arith, ap (λ (s : Spot). s.faults) idle.stands, h.rests.later);
    };
    named = λ x. omega (arith, h.named x, idle.named x, ap (λ (r : RoundRead). weights_of r.round x) same);
    counted = counted_as did stopped ready (options_of old) (options_of mid) old.keep mid.keep (2 ^ 32 + 4096) is idle.same.1 idle.same.2 h.counted;
  }

  -- with the first round, from where it was read
  pub all_handled : (old mid new : RoundsState) (read : RoundRead) (from at to : Spot) (was is : T) (end : E) → ReadRound old.blocks old.budget from at read
      → (mid.blocks ≡ old.blocks) × (options_of mid ≡ options_of old) × (mid.keep ≡ old.keep) → (mid.empties ≡ old.empties) × (mid.pauses ≡ old.pauses) × (mid.spares ≡ old.spares) → old.taken ≤ mid.taken
      → ((h : ℕ → ℕ) → weighed h mid.stock + weights_of read.round h ≡ weighed h old.stock)
      → HandledOn (did (options_of mid)) stopped (ready (options_of mid) mid.keep) mid new read at to was is end
      → Handled (did (options_of old)) stopped (ready (options_of old) old.keep) 0 old new from to was is end
  all_handled old mid new read from at to was is end r same counts least named h =
      let ran = ran_as (options_of old) (options_of mid) old.blocks mid.blocks old.budget mid.budget read read at at to was was is end same.1 same.0
      (ap (λ (o : Options). o.budget) same.1) refl refl refl h.ran in
      let reads : Reads old.blocks old.budget from (read ∷ ran.rest) to = (at, r, ran.closes, ran.reads) in
      record {
        ran = record { got = ran.got; more = ran.more; reads = subst (λ (l : List RoundRead). Reads old.blocks old.budget from l to) (sym ran.all) reads; ends = ran.ends };
        rests = record {
          home = h.rests.home;
          same = (h.rests.same.0 ∙ same.0, h.rests.same.1 ∙ same.1, h.rests.same.2 ∙ same.2);
          least = omega (arith, h.rests.least, least);
          pauses = few_then old.empties old.pauses mid.empties mid.pauses new.empties new.pauses
              (few_none old.empties old.pauses mid.empties mid.pauses (omega (arith, counts.0)) counts.1) h.rests.pauses;
          gives = gave_then old.spares mid.spares new.spares (gave_none old.spares mid.spares counts.2) h.rests.gives;
          later = omega (arith, r.later, h.rests.later);
        };
        named = λ x. omega (arith, h.named x, named x);
        counted = counted_as did stopped ready (options_of old) (options_of mid) old.keep mid.keep (2 ^ 32 + 4096) is same.1 same.2 h.counted;
      }

  -- ---- in one thread

  module _ (old mid : RoundsState) (read : RoundRead) (at : Spot) (was between : T) (out : length old.stock + read.round.blocks ≡ old.blocks) (few : length read.round.packets ≤ 4096)
      (put : (mid ≡ record old { stock = mid.stock }) × (length mid.stock ≡ length old.stock + read.round.blocks))
      (named : (h : ℕ → ℕ) → weighed h mid.stock ≡ weighed h old.stock + weights_of read.round h) (counted : ready (options_of old) old.keep (0 + length read.round.packets) between) where
    put_home : length mid.stock ≡ mid.blocks
    put_home = put.1 ∙ out ∙ sym (ap (λ (s : RoundsState). s.blocks) put.0)

    put_few : FewPauses old.empties old.pauses mid.empties mid.pauses
    put_few = few_none old.empties old.pauses mid.empties mid.pauses (omega (arith, ap (λ (s : RoundsState). s.empties) put.0)) (ap (λ (s : RoundsState). s.pauses) put.0)

    put_gave : GaveSpares old.spares mid.spares
    put_gave = gave_none old.spares mid.spares (ap (λ (s : RoundsState). s.spares) put.0)

    -- the first round ended it
    pub put_ends : (end : E) → did (options_of old) was between read 0 (Some end)
        → HandledOn (did (options_of old)) stopped (ready (options_of old) old.keep) old mid read (record at { taken = old.taken }) (record at { taken = mid.taken }) was between end
    put_ends end d = record {
      ran = record {
        got = read ∷ [];
        more = [];
        rest = [];
        all = refl;
        closes = λ _. refl;
        reads = ap (λ (s : RoundsState). record at { taken = s.taken }) put.0;
        ends = inr (d, refl);
      };
      rests = record {
        home = put_home;
        same = (ap (λ (s : RoundsState). s.blocks) put.0, ap options_of put.0, ap (λ (s : RoundsState). s.keep) put.0);
        least = omega (arith, ap (λ (s : RoundsState). s.taken) put.0);
        pauses = put_few;
        gives = put_gave;
        later = omega arith;
      };
      named = named;
      counted = (0 + length read.round.packets, omega (arith, few), counted);
    }

    -- others followed it
    pub put_goes : (new : RoundsState) (to : Spot) (is : T) (end : E) → did (options_of old) was between read 0 None → read.end ≡ rounds.Full
        → Handled (did (options_of mid)) stopped (ready (options_of mid) mid.keep) 1 mid new (record at { taken = mid.taken }) to between is end
        → HandledOn (did (options_of old)) stopped (ready (options_of old) old.keep) old new read (record at { taken = old.taken }) to was is end
    put_goes new to is end d full h =
        let ran : Ran (did (options_of old)) stopped old.blocks old.budget 1 (record at { taken = old.taken }) to between is end =
        subst (λ (s : RoundsState). Ran (did (options_of s)) stopped s.blocks s.budget 1 (record at { taken = s.taken }) to between is end) put.0 h.ran in
        record {
          ran = record {
            got = read ∷ ran.got;
            more = ran.more;
            rest = ran.got ++ ran.more;
            all = refl;
            closes = λ e. absurd (false≢true (sym e ∙ ap is_full full));
            reads = ran.reads;
            ends = inl (between, d, ran.ends);
          };
          rests = record {
            home = h.rests.home;
            same = (h.rests.same.0 ∙ ap (λ (s : RoundsState). s.blocks) put.0, h.rests.same.1 ∙ ap options_of put.0, h.rests.same.2 ∙ ap (λ (s : RoundsState). s.keep) put.0);
            least = omega (arith, h.rests.least, ap (λ (s : RoundsState). s.taken) put.0);
            pauses = few_then old.empties old.pauses mid.empties mid.pauses new.empties new.pauses put_few h.rests.pauses;
            gives = gave_then old.spares mid.spares new.spares put_gave h.rests.gives;
            later = h.rests.later;
          };
          named = λ x. omega (arith, h.named x, named x);
          counted = counted_as did stopped ready (options_of old) (options_of mid) old.keep mid.keep (2 ^ 32 + 4096) is (ap options_of put.0) (ap (λ (s : RoundsState). s.keep) put.0) h.counted;
        }
