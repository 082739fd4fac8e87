-- A round that is read, from wherever it began.
use Rattle.std.proofs.Common.{◌≡◌, ◌≢◌, ◌+◌, ◌-◌, ◌≤◌, ℕ, List, [], ◌∷◌, ◌++◌, Bool, true, false, Option, None, Some, Ok, Err, length, length-append, map, refl, sym, ap, ◌∙◌, arith, subst, append_assoc, take, take-append-drop}
use Rattle.std.proofs.lemmas.Bool.{false≢true}
use Rattle.std.specs.List.{AllByRecursion}
use Rattle.off_io.specs.Faults.{Rose}
use Rattle.off_io.specs.Told.{Told}
use Rattle.off_io.proofs.Telling.{Told-same, Told-then}
use Rattle.pcap_io.specs.declared.heads.Link.TheVariants.{Ethernet}
use Rattle.pcap_io.specs.declared.heads.RecHead.{RecHead}
use Rattle.pcap_io.specs.declared.place.Place.{Place}
use Rattle.pcap_io.specs.Places.{IsReady}
use Rattle.pcap_io.specs.Capture.{Packet}
use Rattle.pcap_io.specs.Reading.{Loses, TakesHead}
use Rattle.block_pool.specs.PoolState.{PoolState, home, weighed}
use Rattle.skb.specs.SkbState.{buffer_bytes}
use Rattle.offload_model.specs.Captured.{IsCaptured}
use Rattle.offload_model.specs.Need.{need_of, round_need}
use Rattle.gro.specs.declared.slot.Slot.{Slot as Held}
use Rattle.gro.specs.Slots.{packet_of, count_of, counts_of, weighed_slots}
use Rattle.reading.specs.declared.record.Stop.{Stop}
use Rattle.reading.specs.declared.record.Stop.TheVariants as stops
use Rattle.reading.specs.Laid.{AreRead, IsLaid, IsRead, LaidFrom}
use Rattle.reading.proofs.Laying.{laid_at}
use Rattle.reading.proofs.Standing.{at_link, stands_here}
use Rattle.reading.specs.Reading.{GivesRecord, GoesOn, Opens, Passes, StandsAt}
use Rattle.rounds.specs.Filling.{Fills, Reached, Stands}
use Rattle.rounds.specs.Reading.{EndsAt, GivesRound, IfEnded, IsEndOf, IsHaltOf, PassesRound}
use Rattle.rounds.specs.RoundOf.{at_hand, Brought, Came, IsBegun, IsRoundOf}
use Rattle.rounds.specs.RoundsState.{ReadingState}
use Rattle.rounds.specs.declared.round_stages.Halt.{Halt}
use Rattle.rounds.specs.declared.round_stages.Halt.TheVariants.{Ended, Lacking}
use Rattle.rounds.specs.declared.round_stages.RoundEnd.{RoundEnd}
use Rattle.rounds.specs.declared.round_stages.RoundEnd.TheVariants as ends
use Rattle.rounds.proofs.Coming.{counts_last}
use Rattle.rounds.proofs.Counting.{rose_later}
use Rattle.rounds.proofs.Rounding.{captured_last, need_last, passes_none, precede_more, read_last, round_stop}
use Rattle.rounds.proofs.Taking.{numbered_last}

-- ---- why no more records are read

-- what every end for this stop has
pub halt_ended : (P : RoundEnd → Type 0) (stop : Stop) (halt : Halt) → IsHaltOf stop halt → ((end : RoundEnd) → IsEndOf stop end → P end) → IfEnded halt P
halt_ended P stops.End halt is h = rw is (h ends.End refl)
halt_ended P (stops.Malformed fault) halt is h = rw is (h (ends.Malformed fault) refl)
halt_ended P (stops.PoolEmpty need) halt is h = rw is (h (ends.PoolEmpty need) refl)
halt_ended P stops.ReadFault halt is h = rw is (h ends.ReadFault refl)
halt_ended P stops.NoMemory halt is h = rw is (h ends.NoMemory refl)
halt_ended P stops.Lacking halt is h = rw is tt

abbrev end_in : Halt → RoundEnd
end_in (Ended end) = end
end_in Lacking = ends.NoMemory

abbrev is_lacking : Halt → Bool
is_lacking (Ended end) = false
is_lacking Lacking = true

abbrev is_full : RoundEnd → Bool
is_full ends.Full = true
is_full _ = false

pub no_memory_full : ends.NoMemory ≡ ends.Full → ⊥
no_memory_full e = false≢true (ap is_full e)

abbrev is_fault : RoundEnd → Bool
is_fault ends.ReadFault = true
is_fault _ = false

pub no_memory_fault : ends.NoMemory ≡ ends.ReadFault → ⊥
no_memory_fault e = false≢true (ap is_fault e)

pub given_up_full : ends.GivenUp ≡ ends.Full → ⊥
given_up_full e = false≢true (ap is_full e)

pub given_up_fault : ends.GivenUp ≡ ends.ReadFault → ⊥
given_up_fault e = false≢true (ap is_fault e)

pub lacking_full : Lacking ≡ Ended ends.Full → ⊥
lacking_full e = false≢true (sym (ap is_lacking e))

pub ended_same : (a b : RoundEnd) → Ended a ≡ Ended b → a ≡ b
ended_same a b e = ap end_in e

ended_lacking : (end : RoundEnd) (halt : Halt) → halt ≡ Ended end → halt ≡ Lacking → ⊥
ended_lacking end halt is lacks = false≢true (ap is_lacking (sym is ∙ lacks))

-- blocks are lacking for this stop alone
pub halt_lacking : (stop : Stop) (halt : Halt) → IsHaltOf stop halt → halt ≡ Lacking → stop ≡ stops.Lacking
halt_lacking stops.End halt is lacks = absurd (ended_lacking ends.End halt is lacks)
halt_lacking (stops.Malformed fault) halt is lacks = absurd (ended_lacking (ends.Malformed fault) halt is lacks)
halt_lacking (stops.PoolEmpty need) halt is lacks = absurd (ended_lacking (ends.PoolEmpty need) halt is lacks)
halt_lacking stops.ReadFault halt is lacks = absurd (ended_lacking ends.ReadFault halt is lacks)
halt_lacking stops.NoMemory halt is lacks = absurd (ended_lacking ends.NoMemory halt is lacks)
halt_lacking stops.Lacking halt is lacks = refl

not_full : (end : RoundEnd) (halt : Halt) → is_full end ≡ false → halt ≡ Ended end → halt ≡ Ended ends.Full → ⊥
not_full end halt isnt is full = false≢true (sym isnt ∙ ap is_full (ended_same end ends.Full (sym is ∙ full)))

not_fault : (end : RoundEnd) (halt : Halt) → is_fault end ≡ false → halt ≡ Ended end → halt ≡ Ended ends.ReadFault → ⊥
not_fault end halt isnt is fault = false≢true (sym isnt ∙ ap is_fault (ended_same end ends.ReadFault (sym is ∙ fault)))

-- no stop is the end of a full round
pub halt_full : (stop : Stop) (halt : Halt) → IsHaltOf stop halt → halt ≡ Ended ends.Full → ⊥
halt_full stops.End halt is full = not_full ends.End halt refl is full
halt_full (stops.Malformed fault) halt is full = not_full (ends.Malformed fault) halt refl is full
halt_full (stops.PoolEmpty need) halt is full = not_full (ends.PoolEmpty need) halt refl is full
halt_full stops.ReadFault halt is full = not_full ends.ReadFault halt refl is full
halt_full stops.NoMemory halt is full = not_full ends.NoMemory halt refl is full
halt_full stops.Lacking halt is full = ended_lacking ends.Full halt full is

-- a read fault is one
pub halt_fault : (stop : Stop) (halt : Halt) → IsHaltOf stop halt → halt ≡ Ended ends.ReadFault → stop ≡ stops.ReadFault
halt_fault stops.End halt is fault = absurd (not_fault ends.End halt refl is fault)
halt_fault (stops.Malformed cause) halt is fault = absurd (not_fault (ends.Malformed cause) halt refl is fault)
halt_fault (stops.PoolEmpty need) halt is fault = absurd (not_fault (ends.PoolEmpty need) halt refl is fault)
halt_fault stops.ReadFault halt is fault = refl
halt_fault stops.NoMemory halt is fault = absurd (not_fault ends.NoMemory halt refl is fault)
halt_fault stops.Lacking halt is fault = absurd (ended_lacking ends.ReadFault halt fault is)

pub full_fault : Ended ends.Full ≡ Ended ends.ReadFault → ⊥
full_fault e = not_fault ends.Full (Ended ends.Full) refl refl e

-- where the reader stands then
pub end_stands : (stop : Stop) (end : RoundEnd) (place : Place) → IsEndOf stop end → (stop ≡ stops.NoMemory → place.body ≡ 0) → EndsAt end place
end_stands stops.End end place is whole = rw is tt
end_stands (stops.Malformed fault) end place is whole = rw is tt
end_stands (stops.PoolEmpty need) end place is whole = rw is tt
end_stands stops.ReadFault end place is whole = rw is tt
end_stands stops.NoMemory end place is whole = rw is (whole refl)
end_stands stops.Lacking end place is whole = absurd is

-- ---- a round that stays

pub round_same : (ps qs : List Held) (spares spares' used : ℕ) → qs ≡ ps → spares' ≡ spares → IsRoundOf ps spares used → IsRoundOf qs spares' used
round_same ps qs spares spares' used e at r = subst (λ (n : ℕ). IsRoundOf qs n used) (sym at) (subst (λ (xs : List Held). IsRoundOf xs spares used) (sym e) r)

-- what came home while nothing was read
pub came_back : (from to : Brought) (used : ℕ) (pool pool' spares spares' : PoolState) (ps qs : List Held) → qs ≡ ps → home pool' + from.weights (λ _. 1) ≡ home pool + to.weights (λ _. 1)
    → ((h : ℕ → ℕ) → (weighed h pool'.blocks + from.weights h ≡ weighed h pool.blocks + to.weights h) × (weighed h spares'.blocks ≡ weighed h spares.blocks))
    → from.refusals ≤ to.refusals
    → Came from to (home pool + used) (home pool' + used) (at_hand pool ps spares) (at_hand pool' qs spares')
came_back from to used pool pool' spares spares' ps qs e count named asked = record {
  sum = omega (arith, count);
  named = λ h. omega (arith, (named h).0, (named h).1, ap (weighed_slots h) e);
  asked = asked;
}

pub came_then : (a b c : Brought) (old mid new : ℕ) (w x y : (ℕ → ℕ) → ℕ) → Came a b old mid w x → Came b c mid new x y → Came a c old new w y
came_then a b c old mid new w x y p q = record {
  sum = omega (arith, p.sum, q.sum);
  named = λ h. omega (arith, p.named h, q.named h);
  asked = omega (arith, p.asked, q.asked);
}

-- ---- a round with one packet more

pub round_last : (ps qs : List Held) (p : Held) (spares spares' used used' mark : ℕ) → qs ≡ ps ++ p ∷ [] → IsRoundOf ps spares used → mark ≡ used - spares → spares' ≡ spares + 2
    → used' ≡ used + (count_of p + 2) → IsLaid mark p → IsRead p → IsCaptured (packet_of p) → count_of p + 2 ≡ need_of (length (buffer_bytes p.skb)) → IsRoundOf qs spares' used'
round_last ps qs p spares spares' used used' mark e r at more count laid read captured need = record {
  laid = subst (LaidFrom 0) (sym e) (laid_at ps p used spares mark r.count at r.laid laid);
  count = omega (arith, ap counts_of e, counts_last ps p, r.count, count, more);
  pairs = omega (arith, ap (λ (xs : List Held). length xs) e, length-append ps (p ∷ []), r.pairs, more);
  read = subst AreRead (sym e) (read_last ps p r.read read);
  captured = subst (λ (xs : List Held). AllByRecursion IsCaptured (map packet_of xs)) (sym e) (captured_last ps p r.captured captured);
  need = omega (arith, ap (λ (xs : List Held). round_need (map packet_of xs)) e, need_last ps p, r.need, count, need);
}

-- ---- a round that stands somewhere

-- it was begun where the reader is
pub stands_begun : (budget : ℕ) (here : Reached) (round : ReadingState) → IsReady here.place → IsBegun budget round → Stands here here.place here round.head round.round.packets
stands_begun budget here round ready begun =
    subst (λ (k : Option RecHead). Stands here here.place here k round.round.packets) (sym begun.unkept) (subst (λ (xs : List Held). Stands here here.place here None xs) (sym begun.none) (record {
      at = here.place;
      before = here.left;
      stands = stands_here here.place here.left ready;
      told = Told-same here.left (Passes here.place here.place []) (passes_none here.place);
      goes = record { full = refl; file = refl; link = refl; number = omega arith; ready = ready };
      numbers = tt;
      later = omega arith;
    }))

-- its links are the same throughout
pub stands_link : (start : Reached) (from : Place) (now : Reached) (head : Option RecHead) (ps : List Held) → Stands start from now head ps → now.place.link ≡ from.link
stands_link start from now head ps s = at_link head s.at now.place s.stands.is ∙ s.goes.link

-- with a header that was taken some bytes are gone
pub loses_head : (at : Place) (packets : List Packet) (old : Place) (bytes opened left : List ℕ) (head : RecHead) → Passes old at packets bytes opened → TakesHead at opened left head → Loses bytes left
loses_head at packets old bytes opened left head passes takes =
    let split : opened ≡ take 16 opened ++ left = sym (take-append-drop 16 opened) ∙ ap (λ (l : List ℕ). take 16 opened ++ l) (sym takes.rest) in
    (passes.0 ++ take 16 opened, passes.1 ∙ ap (λ (l : List ℕ). passes.0 ++ l) split ∙ sym (append_assoc passes.0 (take 16 opened) left))

-- the bytes that are gone are some
pub stands_lost : (start : Reached) (from : Place) (now : Reached) (head : Option RecHead) (ps : List Held) → Stands start from now head ps → Told start.left now.left Loses
stands_lost start from now None ps s =
    Told-then start.left s.before now.left (Passes start.place s.at (map packet_of ps)) (Opens None s.at) Loses
    (λ bytes opened left passes same. (passes.0, subst (λ (l : List ℕ). bytes ≡ passes.0 ++ l) same passes.1)) s.told s.stands.told
stands_lost start from now (Some head) ps s =
    Told-then start.left s.before now.left (Passes start.place s.at (map packet_of ps)) (Opens (Some head) s.at) Loses
    (λ bytes opened left passes takes. loses_head s.at (map packet_of ps) start.place bytes opened left head passes takes) s.told s.stands.told

-- one record more was read
pub stands_next : (start : Reached) (from : Place) (now next : Reached) (head head' : Option RecHead) (ps qs : List Held) (p : Held) (used blocks : ℕ) → qs ≡ ps ++ p ∷ [] → head' ≡ None
    → (s : Stands start from now head ps) → Told s.before next.left (GivesRecord used blocks s.at next.place [] (Ok p)) → GoesOn s.at next.place → p.number ≡ s.at.number → now.faults ≤ next.faults
    → Stands start from next head' qs
stands_next start from now next head head' ps qs p used blocks e none s told goes is later =
    subst (λ (k : Option RecHead). Stands start from next k qs) (sym none) (subst (λ (xs : List Held). Stands start from next None xs) (sym e) (record {
      at = next.place;
      before = next.left;
      stands = stands_here next.place next.left goes.ready;
      told = Told-then start.left s.before next.left (Passes start.place s.at (map packet_of ps)) (GivesRecord used blocks s.at next.place [] (Ok p))
          (Passes start.place next.place (map packet_of (ps ++ p ∷ []))) (λ bytes rest left over one. precede_more start.place s.at next.place used blocks ps p bytes rest left over one) s.told told;
      goes = record {
        full = refl;
        file = goes.file ∙ s.goes.file;
        link = goes.link ∙ s.goes.link;
        number = omega (arith, goes.number, s.goes.number, length-append ps (p ∷ []));
        ready = goes.ready;
      };
      numbers = numbered_last from.number ps p s.numbers (is ∙ s.goes.number);
      later = omega (arith, s.later, later);
    }))

-- none was, for this stop
pub fills_stop : (blocks budget : ℕ) (start : Reached) (from : Place) (now next : Reached) (head head' : Option RecHead) (ps : List Held) (used : ℕ) (stop : Stop) (halt : Halt)
    → IsHaltOf stop halt → from.link ≡ Ethernet → used ≤ blocks → used ≡ round_need (map packet_of ps)
    → (s : Stands start from now head ps) → Told s.before next.left (GivesRecord used blocks s.at next.place [] (Err stop))
    → (stop ≡ stops.Lacking → StandsAt head' s.at next.place s.before next.left) → now.faults ≤ next.faults → (stop ≡ stops.ReadFault → Rose now.faults next.faults)
    → Fills blocks budget start from next head' ps halt
fills_stop blocks budget start from now next head head' ps used stop halt is ethernet few need s told still later failed = record {
  given = halt_ended (λ (end : RoundEnd). Told start.left next.left (GivesRound blocks start.place next.place ps end)) stop halt is
      (λ end ends. Told-then start.left s.before next.left (Passes start.place s.at (map packet_of ps)) (GivesRecord used blocks s.at next.place [] (Err stop))
      (GivesRound blocks start.place next.place ps end)
      (λ bytes rest left over last. round_stop start.place s.at next.place used blocks ps stop end bytes rest left (s.goes.link ∙ ethernet) few need ends over last) s.told told);
  full = λ full. absurd (halt_full stop halt is full);
  waits = λ lacks. record {
    at = s.at;
    before = s.before;
    stands = still (halt_lacking stop halt is lacks);
    told = s.told;
    goes = s.goes;
    numbers = s.numbers;
    later = omega (arith, s.later, later);
  };
  numbers = s.numbers;
  later = omega (arith, s.later, later);
  failed = λ fault. rose_later _ _ _ s.later (failed (halt_fault stop halt is fault));
}

-- it has as many packets as it may have
pub fills_full : (blocks budget : ℕ) (start : Reached) (from : Place) (now : Reached) (head : Option RecHead) (ps : List Held) → head ≡ None → length ps ≡ budget → Stands start from now head ps
    → Fills blocks budget start from now head ps (Ended ends.Full)
fills_full blocks budget start from now head ps none full stands =
    let s : Stands start from now None ps = subst (λ (k : Option RecHead). Stands start from now k ps) none stands in
    let here = sym s.stands.is.0 in
    record {
      given = Told-then start.left s.before now.left (Passes start.place s.at (map packet_of ps)) (Opens None s.at) (Passes start.place now.place (map packet_of ps))
          (λ bytes opened left passes same. subst (λ (l : List ℕ). Passes start.place now.place (map packet_of ps) bytes l) same
          (subst (λ (p : Place). Passes start.place p (map packet_of ps) bytes opened) here passes)) s.told s.stands.told;
      full = λ is. subst (λ (p : Place). PassesRound from p ps budget) here (subst (PassesRound from s.at ps) full s.goes);
      waits = λ lacks. absurd (lacking_full (sym lacks));
      numbers = s.numbers;
      later = s.later;
      failed = λ fault. absurd (full_fault fault);
    }

-- it has this end, and these are its packets
pub fills_ended : {blocks blocks' budget budget' : ℕ} (start : Reached) (from : Place) (now : Reached) {head : Option RecHead} (ps qs : List Held) (halt : Halt) (end : RoundEnd) → blocks ≡ blocks' → budget ≡ budget'
    → halt ≡ Ended end → qs ≡ ps → Fills blocks budget start from now head ps halt → Fills blocks' budget' start from now head qs (Ended end)
fills_ended {blocks = blocks} {blocks' = blocks'} {budget = budget} {budget' = budget'} start from now {head = head} ps qs halt end same few is e fills =
    subst (λ (k : ℕ). Fills k budget' start from now head qs (Ended end)) same (subst (λ (k : ℕ). Fills blocks k start from now head qs (Ended end)) few
    (subst (λ (h : Halt). Fills blocks budget start from now head qs h) is (subst (λ (xs : List Held). Fills blocks budget start from now head xs halt) (sym e) fills)))

-- it lacks blocks where it has no end
pub lacking_from : (halt : Halt) → ((end : RoundEnd) → halt ≡ Ended end → ⊥) → halt ≡ Lacking
lacking_from (Ended end) h = absurd (h end refl)
lacking_from Lacking h = refl

-- a record that was read is no stop
pub no_stop : {X : Type 0} (x : X) (stop : Stop) → Ok x ≢ Err stop
no_stop x stop is = cc
