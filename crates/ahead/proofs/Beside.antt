-- A round that was read beside the work of another, and its rest.
use Rattle.std.specs.Prelude.{⊤}
use Rattle.std.proofs.Common.{◌≡◌, ◌≢◌, ◌+◌, ◌<◌, ◌≤◌, ℕ, List, [], Option, None, Some, Ok, length, map, refl, sym, ap, ◌∙◌, arith, subst}
use Rattle.std.proofs.lemmas.Option.{same_Some}
use Rattle.std.specs.List.{AllByRecursion}
use Rattle.block_pool.specs.PoolState.{weighed}
use Rattle.off_io.specs.Faults.{Rose}
use Rattle.off_io.specs.Told.{Told}
use Rattle.off_io.proofs.Telling.{Told-same, Told-then}
use Rattle.pcap_io.specs.declared.heads.RecHead.{RecHead}
use Rattle.pcap_io.specs.declared.place.Place.{Place}
use Rattle.pcap_io.specs.Reading.{GivesHead}
use Rattle.offload_model.specs.Captured.{IsCaptured}
use Rattle.offload_model.specs.Need.{need_of, round_need}
use Rattle.gro.specs.declared.slot.Slot.{Slot as Held}
use Rattle.gro.specs.Slots.{packet_of, weighed_slots}
use Rattle.reading.specs.Reading.{KeepsHead, Opens, Passes}
use Rattle.reading.proofs.Laying.{weighed_none}
use Rattle.rounds.specs.Filling.{Fills, Reached, Stands}
use Rattle.rounds.specs.Fresh.{NumberedFrom}
use Rattle.rounds.specs.Reading.{GivesRound, PassesRound}
use Rattle.rounds.specs.RoundOf.{Brought, Came, Grows, IsBegun}
use Rattle.rounds.specs.RoundsState.{IntakeState, ReadingState, RoundState}
use Rattle.rounds.specs.Weights.{weights_of}
use Rattle.rounds.specs.declared.round_stages.Halt.{Halt}
use Rattle.rounds.specs.declared.round_stages.Halt.TheVariants.{Ended, Lacking}
use Rattle.rounds.specs.declared.round_stages.RoundEnd.{RoundEnd}
use Rattle.rounds.specs.declared.round_stages.RoundEnd.TheVariants as ends
use Rattle.rounds.specs.declared.round_stages.RoundRead.{RoundRead}
use Rattle.rounds.proofs.Pausing.{ended_same, loses_head, no_memory_fault, no_memory_full}
use Rattle.ahead.specs.Ahead.{round_of, FillsAhead, FillsRound, GivesBehind, IfPaused, IsAheadOf, Lacks, NumbersOn, NumberedTo, Waits}
use Rattle.ahead.specs.declared.paused.ReadAhead.{ReadAhead}
use Rattle.ahead.specs.declared.paused.ReadAhead.TheVariants as aheads

-- none was read, for want of memory
pub unread_ahead : (blocks budget : ℕ) (from : Reached) (read : RoundRead) → read.round.packets ≡ [] → read.round.blocks ≡ 0 → read.end ≡ ends.NoMemory
    → FillsAhead blocks budget from from (aheads.Read read)
unread_ahead blocks budget from read none empty end = record {
  given = subst (λ (e : RoundEnd). Told from.left from.left (GivesRound blocks from.place from.place read.round.packets e)) (sym end)
      (Told-same from.left (GivesRound blocks from.place from.place read.round.packets ends.NoMemory) (λ bytes. ([], refl)));
  reads = record {
    size = omega (arith, ap (λ (xs : List Held). length xs) none);
    fewer = λ not_full memory. absurd (memory end);
    full = λ full. absurd (no_memory_full (sym end ∙ full));
    captured = subst (λ (xs : List Held). AllByRecursion IsCaptured (map packet_of xs)) (sym none) tt;
    numbers = subst (NumberedFrom from.place.number) (sym none) tt;
    need = subst (λ (xs : List Held). read.round.blocks ≡ round_need (map packet_of xs)) (sym none) empty;
  };
  waits = tt;
  later = omega arith;
  failed = λ fault. absurd (no_memory_fault (sym end ∙ fault));
}

-- the round is the one that was read so far
pub ahead_round : (reading : ReadingState) (halt : Halt) (ahead : ReadAhead) → IsAheadOf reading halt ahead → round_of ahead ≡ reading.round
ahead_round reading (Ended end) (aheads.Read read) is = is.0
ahead_round reading (Ended end) (aheads.Paused paused) is = absurd is
ahead_round reading Lacking (aheads.Read read) is = absurd is
ahead_round reading Lacking (aheads.Paused paused) is = is.0

-- it waits behind the header that it keeps
waits_ahead : (budget : ℕ) (here to : Reached) (reading : ReadingState) (ahead : ReadAhead) → IsAheadOf reading Lacking ahead → Stands here here.place to reading.head reading.round.packets
    → length reading.round.packets < budget → IfPaused ahead (Waits budget here.place to.place here.left to.left)
waits_ahead budget here to reading (aheads.Read read) is stands fewer = tt
waits_ahead budget here to reading (aheads.Paused p) is stands fewer =
    let s : Stands here here.place to (Some p.head) p.round.packets = subst (λ (k : Option RecHead). Stands here here.place to k p.round.packets) is.1
    (subst (λ (r : RoundState). Stands here here.place to reading.head r.packets) (sym is.0) stands) in
    record {
      at = s.at;
      goes = s.goes;
      keeps = s.stands.is;
      fewer = subst (λ (r : RoundState). length r.packets < budget) (sym is.0) fewer;
      numbers = (here.place.number, s.numbers, sym s.goes.number);
      given = Told-then here.left s.before to.left (Passes here.place s.at (map packet_of p.round.packets)) (Opens (Some p.head) s.at)
          (λ bytes left. (opened : List ℕ) × (Passes here.place s.at (map packet_of p.round.packets) bytes opened × GivesHead s.at (Ok (Some p.head)) opened left))
          (λ bytes opened left over takes. (opened, (over, takes))) s.told s.stands.told;
    }

pub fills_ahead : (blocks budget : ℕ) (here to : Reached) (reading : ReadingState) (halt : Halt) (ahead : ReadAhead) → IsAheadOf reading halt ahead
    → Fills blocks budget here here.place to reading.head reading.round.packets halt → length reading.round.packets ≤ budget → (halt ≢ Ended ends.Full → length reading.round.packets < budget)
    → AllByRecursion IsCaptured (map packet_of reading.round.packets) → reading.round.blocks ≡ round_need (map packet_of reading.round.packets) → FillsAhead blocks budget here to ahead
fills_ahead blocks budget here to reading (Ended end) (aheads.Paused p) is f size fewer captured need = absurd is
fills_ahead blocks budget here to reading Lacking (aheads.Read read) is f size fewer captured need = absurd is
fills_ahead blocks budget here to reading (Ended end) (aheads.Read read) is f size fewer captured need = record {
  given = subst (λ (r : RoundState). Told here.left to.left (GivesRound blocks here.place to.place r.packets read.end)) (sym is.0)
      (subst (λ (e : RoundEnd). Told here.left to.left (GivesRound blocks here.place to.place reading.round.packets e)) (sym is.1) f.given);
  reads = record {
    size = subst (λ (r : RoundState). length r.packets ≤ budget) (sym is.0) size;
    fewer = λ not_full memory. subst (λ (r : RoundState). length r.packets < budget) (sym is.0) (fewer (λ full. not_full (is.1 ∙ ended_same end ends.Full full)));
    full = λ full. subst (λ (r : RoundState). PassesRound here.place to.place r.packets budget) (sym is.0) (f.full (ap Ended (sym is.1 ∙ full)));
    captured = subst (λ (r : RoundState). AllByRecursion IsCaptured (map packet_of r.packets)) (sym is.0) captured;
    numbers = subst (λ (r : RoundState). NumberedFrom here.place.number r.packets) (sym is.0) f.numbers;
    need = subst (λ (r : RoundState). r.blocks ≡ round_need (map packet_of r.packets)) (sym is.0) need;
  };
  waits = tt;
  later = f.later;
  failed = λ fault. f.failed (ap Ended (sym is.1 ∙ fault));
}
fills_ahead blocks budget here to reading Lacking (aheads.Paused p) is f size fewer captured need = record {
  given = tt;
  reads = record {
    size = subst (λ (r : RoundState). length r.packets ≤ budget) (sym is.0) size;
    fewer = tt;
    full = tt;
    captured = subst (λ (r : RoundState). AllByRecursion IsCaptured (map packet_of r.packets)) (sym is.0) captured;
    numbers = subst (λ (r : RoundState). NumberedFrom here.place.number r.packets) (sym is.0) f.numbers;
    need = subst (λ (r : RoundState). r.blocks ≡ round_need (map packet_of r.packets)) (sym is.0) need;
  };
  waits = waits_ahead budget here to reading (aheads.Paused p) is (f.waits refl) (fewer (λ full. absurd cc));
  later = f.later;
  failed = tt;
}

-- what it lacks
pub lacks_ahead : {made budget from to home before : ℕ} {packets : List Held} {place : Place} (reading : ReadingState) (halt : Halt) (ahead : ReadAhead) → IsAheadOf reading halt ahead → before ≡ 0
    → Grows made budget from to home before packets reading.round.blocks reading.head place halt → IfPaused ahead (Lacks home made from to)
lacks_ahead reading halt (aheads.Read read) is none grows = tt
lacks_ahead reading (Ended end) (aheads.Paused p) is none grows = absurd is
lacks_ahead {made = made} {home = home} reading Lacking (aheads.Paused p) is none grows =
    let l = grows.lacks refl in
    let same = same_Some l.0 p.head (sym l.1 ∙ is.1) in
    let blocks = ap (λ (r : RoundState). r.blocks) is.0 in
    let short = subst (λ (head : RecHead). home < need_of head.captured) same l.2 in
    let fits = subst (λ (head : RecHead). reading.round.blocks + need_of head.captured ≤ made) same l.3 in
    record {
      short = short;
      fits = omega (arith, fits, blocks);
      took = omega (arith, l.4, is.2, none);
      below = omega (arith, is.2, blocks, short);
    }

-- only then was no list found
pub refused_ahead : {P : Type 0} (reading : ReadingState) (halt : Halt) (ahead : ReadAhead) → IsAheadOf reading halt ahead → (halt ≡ Lacking → P) → IfPaused ahead (λ _. P)
refused_ahead reading halt (aheads.Read read) is refused = tt
refused_ahead reading (Ended end) (aheads.Paused p) is refused = absurd is
refused_ahead reading Lacking (aheads.Paused p) is refused = refused refl

-- what came home meanwhile, of a round that had no blocks before
pub came_ahead : (from to : Brought) (budget old new : ℕ) (w x : (ℕ → ℕ) → ℕ) (begun : ReadingState) (round ahead : RoundState) → IsBegun budget begun → ahead ≡ round
    → Came from to (old + begun.round.blocks) (new + round.blocks) (λ h. w h + weights_of begun.round h) (λ h. x h + weights_of round h)
    → Came from to old (new + ahead.blocks) w (λ h. x h + weights_of ahead h)
came_ahead from to budget old new w x begun round ahead none is came = subst (λ (r : RoundState). Came from to old (new + r.blocks) w (λ h. x h + weights_of r h)) (sym is) (record {
  sum = omega (arith, came.sum, none.empty);
  named = λ h. let bare : weights_of begun.round h ≡ 0 = omega (arith, weighed_none h begun.round.spares none.bare, none_weigh h) in omega (arith, came.named h, bare);
  asked = came.asked;
})
  where
    none_weigh : (h : ℕ → ℕ) → weights_of begun.round h ≡ weights_of (record { packets = []; spares = begun.round.spares; blocks = begun.round.blocks }) h
    none_weigh h = ap (λ (xs : List Held). weights_of (record { packets = xs; spares = begun.round.spares; blocks = begun.round.blocks }) h) none.none

-- nothing did, where none was read
pub came_none : (at : Brought) (intake : IntakeState) (round : RoundState) → round.packets ≡ [] → round.spares ≡ [] → round.blocks ≡ 0
    → Came at at (length intake.stock) (length intake.stock + round.blocks) (λ h. weighed h intake.stock) (λ h. weighed h intake.stock + weights_of round h)
came_none at intake round none bare empty = record {
  sum = omega (arith, empty);
  named = λ h. omega (arith, ap (weighed_slots h) none, ap (weighed h) bare);
  asked = omega arith;
}

-- ---- the rest of a round, behind the header that is kept

-- wherever its packets are counted from
stands_counted : (at from place : Place) (left : Option (List ℕ)) (faults : ℕ) (head : RecHead) (first : List Held) → KeepsHead at place head → PassesRound from at first (length first)
    → NumberedFrom from.number first
    → Stands (record { place = from; left = None; faults = faults }) from (record { place = place; left = left; faults = faults }) (Some head) first
stands_counted at from place left faults head first keeps goes numbers = record {
  at = at;
  before = None;
  stands = record { is = keeps; told = tt };
  told = tt;
  goes = goes;
  numbers = numbers;
  later = omega arith;
}

-- a place from which that many packets were counted
counted_from : (at : Place) (k : ℕ) (place : Place) (head : RecHead) (first : List Held) → KeepsHead at place head → k + length first ≡ at.number → PassesRound (record at { number = k }) at first (length first)
counted_from at k place head first keeps number = record { full = refl; file = refl; link = refl; number = sym number; ready = keeps.ready }

-- a header that is kept has one number
same_number : (at at' place : Place) (head : RecHead) → KeepsHead at place head → KeepsHead at' place head → at.number ≡ at'.number
same_number at at' place head a b = omega (arith, a.enters.number, b.enters.number)

pub number_as : (at at' place : Place) (head : RecHead) (first : List Held) → KeepsHead at place head → KeepsHead at' place head → NumberedTo at.number first → NumberedTo at'.number first
number_as at at' place head first a b numbers = (numbers.0, numbers.1, numbers.2 ∙ same_number at at' place head a b)

pub behind_given : (a b : Option (List ℕ)) (blocks budget faults : ℕ) (place : Place) (to : Reached) (head : RecHead) (kept : Option RecHead) (first round : List Held) (end : RoundEnd) (at : Place)
    → KeepsHead at place head → NumberedTo at.number first → b ≡ to.left → Told a b (λ _ _. ⊤)
    → ((start : Reached) → (from : Place) → Stands start from (record { place = place; left = a; faults = faults }) (Some head) first → Fills blocks budget start from to kept round (Ended end))
    → Told a b (GivesBehind blocks at to.place head first round end)
behind_given None b blocks budget faults place to head kept first round end at keeps numbers is tells fills = tt
behind_given (Some bytes) None blocks budget faults place to head kept first round end at keeps numbers is tells fills = absurd tells
behind_given (Some bytes) (Some left) blocks budget faults place to head kept first round end at keeps numbers is tells fills = λ from before opened passes takes.
    let start : Reached = record { place = from; left = Some before; faults = faults } in
    let k = numbers.0 in
    let f = fills start (record at { number = k }) (record {
      at = at;
      before = Some opened;
      stands = record { is = keeps; told = takes };
      told = passes;
      goes = counted_from at k place head first keeps numbers.2;
      numbers = numbers.1;
      later = omega arith;
    }) in
    subst (λ (l : Option (List ℕ)). Told (Some before) l (GivesRound blocks from to.place round end)) (sym is) f.given

pub behind_full : {blocks budget faults : ℕ} {left : Option (List ℕ)} (place : Place) (to : Reached) (head : RecHead) {kept : Option RecHead} (first round : List Held) (end : RoundEnd) (at at' : Place)
    → KeepsHead at place head → KeepsHead at' place head → NumberedTo at'.number first
    → ((start : Reached) → (from : Place) → Stands start from (record { place = place; left = left; faults = faults }) (Some head) first → Fills blocks budget start from to kept round (Ended end))
    → end ≡ ends.Full → FillsRound at to.place first round budget
behind_full {faults = faults} {left = left} place to head first round end at at' keeps keeps' numbers fills full = λ from passes.
    let same : numbers.0 ≡ from.number = omega (arith, same_number at at' place head keeps keeps', numbers.2, passes.number) in
    (fills (record { place = from; left = None; faults = faults }) from (stands_counted at from place left faults head first keeps passes (subst (λ (k : ℕ). NumberedFrom k first) same numbers.1))).full
    (ap Ended full)

pub behind_numbers : {blocks budget faults : ℕ} {left : Option (List ℕ)} (place : Place) (to : Reached) (head : RecHead) {kept : Option RecHead} (first round : List Held) (end : RoundEnd) (at : Place)
    → KeepsHead at place head
    → ((start : Reached) → (from : Place) → Stands start from (record { place = place; left = left; faults = faults }) (Some head) first → Fills blocks budget start from to kept round (Ended end))
    → NumbersOn at.number first round
behind_numbers {faults = faults} {left = left} place to head first round end at keeps fills = λ k run number.
    let from = record at { number = k } in
    (fills (record { place = from; left = None; faults = faults }) from (stands_counted at from place left faults head first keeps (counted_from at k place head first keeps number) run)).numbers

pub behind_faults : {blocks budget : ℕ} {left : Option (List ℕ)} (faults : ℕ) (place : Place) (to : Reached) (head : RecHead) {kept : Option RecHead} (first round : List Held) (end : RoundEnd) (at : Place)
    → KeepsHead at place head → NumberedTo at.number first
    → ((start : Reached) → (from : Place) → Stands start from (record { place = place; left = left; faults = faults }) (Some head) first → Fills blocks budget start from to kept round (Ended end))
    → (faults ≤ to.faults) × (end ≡ ends.ReadFault → Rose faults to.faults)
behind_faults {left = left} faults place to head first round end at keeps numbers fills =
    let from = record at { number = numbers.0 } in
    let f = fills (record { place = from; left = None; faults = faults }) from
    (stands_counted at from place left faults head first keeps (counted_from at numbers.0 place head first keeps numbers.2) numbers.1) in
    (f.later, λ fault. f.failed (ap Ended fault))

-- none is read: the header is gone
pub behind_unread : (a : Option (List ℕ)) (at new : Place) (blocks : ℕ) (head : RecHead) (first : List Held) → Told a a (GivesBehind blocks at new head first first ends.NoMemory)
behind_unread a at new blocks head first =
    Told-same a (GivesBehind blocks at new head first first ends.NoMemory) (λ bytes. λ from before opened passes takes. loses_head at (map packet_of first) from before opened bytes head passes takes)

-- a round that is paused is one that keeps this header, and has these packets
pub stands_as : (start : Reached) (from : Place) (here : Reached) (head : RecHead) (kept : Option RecHead) (first qs : List Held) → kept ≡ Some head → qs ≡ first → Stands start from here (Some head) first
    → Stands start from here kept qs
stands_as start from here head kept first qs is same s =
    subst (λ (k : Option RecHead). Stands start from here k qs) (sym is) (subst (λ (xs : List Held). Stands start from here (Some head) xs) (sym same) s)

-- it stands so, wherever it began
pub stands_kept : (place : Place) (left : Option (List ℕ)) (faults : ℕ) (head : RecHead) (first : List Held) (at : Place) → KeepsHead at place head → NumberedTo at.number first
    → (start : Reached) × ((from : Place) × Stands start from (record { place = place; left = left; faults = faults }) (Some head) first)
stands_kept place left faults head first at keeps numbers =
    let from = record at { number = numbers.0 } in
    (record { place = from; left = None; faults = faults }, (from, stands_counted at from place left faults head first keeps (counted_from at numbers.0 place head first keeps numbers.2) numbers.1))
