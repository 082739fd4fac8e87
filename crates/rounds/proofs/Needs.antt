-- As many blocks were taken as the packets need that were read, by each ending.
use Rattle.std.proofs.Common.{◌≡◌, ◌+◌, ◌-◌, ◌^◌, ◌*◌, ◌≤◌, ℕ, min, List, [], ◌++◌, Bool, true, false, Option, Some, None, refl, sym, ap, ◌∙◌, subst, length, map, take, arith, append_assoc, append-nil}
use Rattle.std.specs.Prelude.{⊤}
use Rattle.std.proofs.lemmas.Bool.{false≢true}
use Rattle.std.proofs.lemmas.List.{take_at}
use Rattle.off_io.specs.Told.{Told}
use Rattle.off_io.proofs.Telling.{Told-weaker}
use Rattle.pcap_io.specs.declared.place.Place.{Place}
use Rattle.pcap_io.specs.declared.faults.CapFault.{CapFault}
use Rattle.pcap_io.specs.Capture.{Packet, Found, ended}
use Rattle.pcap_io.specs.Places.{found_at}
use Rattle.offload_model.specs.Need.{exceeded_at, found_before, round_need}
use Rattle.offload_model.specs.Passing.{Stop, Ending, Stopped, Nowhere, AtFault, AtRound, ReadFault, WriteFault, NoMemory, stop_of}
use Rattle.offload_model.proofs.Needs.{needs_add}
use Rattle.gro.specs.declared.slot.Slot.{Slot as Held}
use Rattle.gro.specs.Slots.{packet_of}
use Rattle.reading.specs.Reading.{in_front}
use Rattle.rounds.specs.Merging.{TakesAll, TakesBehind, TakesTo}
use Rattle.rounds.specs.Reading.{GivesRound}
use Rattle.rounds.specs.declared.round_stages.RoundEnd.{RoundEnd}
use Rattle.rounds.specs.declared.round_stages.RoundEnd.TheVariants as rounds

-- the number of the round that exceeds the blocks, and whether there is one
abbrev round_in : Stop → ℕ
round_in (AtRound round need) = round
round_in _ = 0

abbrev is_round : Stop → Bool
is_round (AtRound round need) = true
is_round _ = false

not_round : (fault : Option CapFault) (round need : ℕ) (X : Type 0) → stop_of fault None ≡ AtRound round need → X
not_round None round need X e = absurd (false≢true (ap is_round e))
not_round (Some fault) round need X e = absurd (false≢true (ap is_round e))

-- the packets before the round that exceeds the blocks are those of the rounds before
pub rounds_before : (budget k round need : ℕ) (packets : List Packet) (exceeded : Option (ℕ × ℕ)) (found rest : Found) → stop_of (found_before budget exceeded found).fault exceeded ≡ AtRound round need
    → round ≡ k
    → found ≡ in_front packets rest → length packets ≡ k * budget → (found_before budget exceeded found).packets ≡ packets
rounds_before budget k round need packets None found rest stops is e size = not_round found.fault round need _ stops
rounds_before budget k round need packets (Some at) found rest stops is e size =
    let at_k : at.0 ≡ k = ap round_in stops ∙ is in
    let n : length packets ≡ at.0 * budget = size ∙ ap (λ (m : ℕ). m * budget) (sym at_k) in
    ap (λ (f : Found). take (at.0 * budget) f.packets) e ∙ take_at packets rest.packets (at.0 * budget) n

-- ---- rounds in a row, and the end

-- where the bytes stop it
abbrev pub StopsAt : ℕ → ℕ → Place → List ℕ → Ending → Type 0
StopsAt blocks budget place bytes (Stopped stop) =
    stop_of (found_before budget (exceeded_at blocks budget place bytes) (found_at place bytes)).fault (exceeded_at blocks budget place bytes) ≡ stop
StopsAt blocks budget place bytes _ = ⊤

module _ (blocks budget k : ℕ) (p0 p1 : Place) (t0 t1 t2 : ℕ) (packets : List Packet) (gone : List ℕ)
    (found : (tail : List ℕ) → found_at p0 (gone ++ tail) ≡ in_front packets (found_at p1 tail)) (took : min (t0 + round_need packets) (2 ^ 64 - 1) ≤ t1)
    (size : length packets ≡ k * budget) where
  -- the blocks of these and of those behind them
  with_rest : (tail : List ℕ) → TakesAll t1 t2 p1 tail [] → TakesAll t0 t2 p0 (gone ++ tail) []
  with_rest tail rest =
      let n = ap (λ (f : Found). round_need f.packets) (found tail) ∙ needs_add packets (found_at p1 tail).packets in
      omega (arith, took, rest, n)

  pub takes_on : (ending : Ending) (bytes rest left : List ℕ) → bytes ≡ gone ++ rest → StopsAt blocks budget p0 bytes ending → TakesBehind k p1 t1 t2 ending rest left
      → TakesTo blocks budget p0 t0 t2 ending bytes left
  takes_on (Stopped Nowhere) bytes rest left split stops y = subst (λ (l : List ℕ). TakesAll t0 t2 p0 l []) (sym split) (with_rest rest y)
  takes_on (Stopped (AtFault fault)) bytes rest left split stops y = subst (λ (l : List ℕ). TakesAll t0 t2 p0 l []) (sym split) (with_rest rest y)
  takes_on (Stopped (AtRound round need)) bytes rest left split stops y =
      let before = rounds_before budget k round need packets (exceeded_at blocks budget p0 bytes) (found_at p0 bytes) (found_at p1 rest) stops y.0 (ap (found_at p0) split ∙ found rest) size in
      subst (λ (ps : List Packet). min (t0 + round_need ps) (2 ^ 64 - 1) ≤ t2) (sym before) (omega (arith, took, y.1))
  takes_on ReadFault bytes rest left split stops y =
      (gone ++ y.0, split ∙ ap (λ (l : List ℕ). gone ++ l) y.1 ∙ sym (append_assoc gone y.0 left), with_rest y.0 y.2)
  takes_on WriteFault bytes rest left split stops y = tt
  takes_on NoMemory bytes rest left split stops y = tt

-- ---- the last round

-- how it ends where a round ended so, behind k others
abbrev pub ending_at : ℕ → RoundEnd → Ending
ending_at k rounds.End = Stopped Nowhere
ending_at k (rounds.Malformed fault) = Stopped (AtFault fault)
ending_at k (rounds.PoolEmpty need) = Stopped (AtRound k need)
ending_at k rounds.ReadFault = ReadFault
ending_at k _ = NoMemory

module _ (blocks k t t1 : ℕ) (from to : Place) (round : List Held) (took : min (t + round_need (map packet_of round)) (2 ^ 64 - 1) ≤ t1) where
  of_found : (bytes : List ℕ) (fault : Option CapFault) → found_at from bytes ≡ in_front (map packet_of round) (ended fault) → TakesAll t t1 from bytes []
  of_found bytes fault found =
      let n = ap (λ (f : Found). round_need f.packets) found ∙ ap round_need (append-nil (map packet_of round)) in
      omega (arith, took, n)

  end_takes : (end : RoundEnd) (bytes left : List ℕ) → GivesRound blocks from to round end bytes left → TakesBehind k from t t1 (ending_at k end) bytes left
  end_takes rounds.Full bytes left gives = tt
  end_takes rounds.End bytes left gives = of_found bytes None gives.0
  end_takes (rounds.Malformed fault) bytes left gives = of_found bytes (Some fault) gives.0
  end_takes (rounds.PoolEmpty need) bytes left gives = (refl, omega (arith, took))
  end_takes rounds.ReadFault bytes left gives =
      (gives.0, gives.1, subst (λ (ps : List Packet). min (t + round_need ps) (2 ^ 64 - 1) ≤ t1) (sym gives.2) took)
  end_takes rounds.NoMemory bytes left gives = tt
  end_takes rounds.GivenUp bytes left gives = tt

  pub end_told : (end : RoundEnd) (a b : Option (List ℕ)) → Told a b (GivesRound blocks from to round end) → Told a b (TakesBehind k from t t1 (ending_at k end))
  end_told end a b told = Told-weaker a b (GivesRound blocks from to round end) (TakesBehind k from t t1 (ending_at k end)) (λ bytes left gives. end_takes end bytes left gives) told
