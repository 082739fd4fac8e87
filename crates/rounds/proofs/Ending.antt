-- A round that was read, by each way that it ends.
use Rattle.std.proofs.Common.{◌≡◌, ◌≢◌, ◌∙◌, ◌+◌, ◌-◌, ◌^◌, ◌<◌, ◌≤◌, ℕ, min, List, [], Option, length, map, refl, sym, ap, subst, arith}
use Rattle.std.specs.List.{AllByRecursion}
use Rattle.off_io.specs.Told.{Told}
use Rattle.off_io.proofs.Telling.{Told-same, Told-weaker}
use Rattle.pcap_io.specs.declared.heads.RecHead.{RecHead}
use Rattle.pcap_io.specs.Reading.{Loses}
use Rattle.offload_model.specs.Captured.{IsCaptured}
use Rattle.offload_model.specs.Need.{round_need}
use Rattle.gro.specs.declared.slot.Slot.{Slot as Held}
use Rattle.gro.specs.Slots.{packet_of}
use Rattle.rounds.specs.Filling.{Fills, Reached, Stands}
use Rattle.rounds.specs.Fresh.{NumberedFrom}
use Rattle.rounds.specs.Reading.{GivesRound}
use Rattle.rounds.specs.Reads.{ReadRound, Spot}
use Rattle.rounds.specs.RoundsState.{RoundState}
use Rattle.rounds.specs.declared.round_stages.Halt.{Halt}
use Rattle.rounds.specs.declared.round_stages.Halt.TheVariants.{Ended}
use Rattle.rounds.specs.declared.round_stages.RoundEnd.{RoundEnd}
use Rattle.rounds.specs.declared.round_stages.RoundEnd.TheVariants as ends
use Rattle.rounds.specs.declared.round_stages.RoundRead.{RoundRead}
use Rattle.rounds.proofs.Pausing.{ended_same, fills_ended, given_up_fault, given_up_full, no_memory_fault, no_memory_full, stands_lost}

abbrev reach : Spot → Reached
reach s = record { place = s.place; left = s.left; faults = s.faults }

-- none was, for want of memory
pub read_none : (blocks budget : ℕ) (at : Spot) (taken : ℕ) (read : RoundRead) → read.round.packets ≡ [] → read.round.blocks ≡ 0 → read.end ≡ ends.NoMemory → 1 ≤ budget → at.taken ≤ taken
    → ReadRound blocks budget at (record at { taken = taken }) read
read_none blocks budget at taken read none empty end some least = record {
  given = subst (λ (e : RoundEnd). Told at.left at.left (GivesRound blocks at.place at.place read.round.packets e)) (sym end)
      (Told-same at.left (GivesRound blocks at.place at.place read.round.packets ends.NoMemory) (λ bytes. ([], refl)));
  size = omega (arith, ap (λ (xs : List Held). length xs) none);
  fewer = λ not_full memory. absurd (memory end);
  full = λ full. absurd (no_memory_full (sym end ∙ full));
  captured = subst (λ (xs : List Held). AllByRecursion IsCaptured (map packet_of xs)) (sym none) tt;
  numbers = subst (NumberedFrom at.place.number) (sym none) tt;
  need = subst (λ (xs : List Held). read.round.blocks ≡ round_need (map packet_of xs)) (sym none) empty;
  within = omega (arith, empty);
  some = some;
  took = omega (arith, empty, least);
  later = omega arith;
  failed = λ fault. absurd (no_memory_fault (sym end ∙ fault));
}

-- no more were, for this end
pub read_ended : {made blocks size budget : ℕ} (from to : Spot) {head : Option RecHead} (round : RoundState) (read : RoundRead) (halt : Halt) → made ≡ blocks → size ≡ budget → halt ≡ Ended read.end
    → read.round ≡ round → Fills made size (reach from) from.place (reach to) head round.packets halt → length round.packets ≤ size → (halt ≢ Ended ends.Full → length round.packets < size)
    → AllByRecursion IsCaptured (map packet_of round.packets) → round.blocks ≡ round_need (map packet_of round.packets) → round.blocks ≤ made → 1 ≤ size
    → min (from.taken + round.blocks) (2 ^ 64 - 1) ≤ to.taken → ReadRound blocks budget from to read
read_ended from to round read halt same few is e fills size fewer captured need within some took =
    let packets = ap (λ (r : RoundState). r.packets) e in
    let count = ap (λ (xs : List Held). length xs) packets in
    let blocks = ap (λ (r : RoundState). r.blocks) e in
    let f = fills_ended (reach from) from.place (reach to) round.packets read.round.packets halt read.end same few is packets fills in
    record {
      given = f.given;
      size = omega (arith, size, few, count);
      fewer = λ not_full memory. omega (arith, fewer (λ full. not_full (ended_same read.end ends.Full (sym is ∙ full))), few, count);
      full = λ full. f.full (ap Ended full);
      captured = subst (λ (r : RoundState). AllByRecursion IsCaptured (map packet_of r.packets)) (sym e) captured;
      numbers = f.numbers;
      need = subst (λ (r : RoundState). r.blocks ≡ round_need (map packet_of r.packets)) (sym e) need;
      within = omega (arith, within, same, blocks);
      some = omega (arith, some, few);
      took = omega (arith, took, blocks);
      later = f.later;
      failed = λ fault. f.failed (ap Ended fault);
    }

-- no more were, since it was given up behind a header
pub read_given_up : (blocks budget : ℕ) (from to : Spot) (head : Option RecHead) (round : RoundState) (read : RoundRead) → read.end ≡ ends.GivenUp → read.round ≡ round
    → Stands (reach from) from.place (reach to) head round.packets → length round.packets < budget
    → AllByRecursion IsCaptured (map packet_of round.packets) → round.blocks ≡ round_need (map packet_of round.packets) → round.blocks ≤ blocks → 1 ≤ budget
    → min (from.taken + round.blocks) (2 ^ 64 - 1) ≤ to.taken → ReadRound blocks budget from to read
read_given_up blocks budget from to head round read is e waits fewer captured need within some took =
    let count = ap (λ (r : RoundState). length r.packets) e in
    let same = ap (λ (r : RoundState). r.blocks) e in
    record {
      given = subst (λ (end : RoundEnd). Told from.left to.left (GivesRound blocks from.place to.place read.round.packets end)) (sym is)
          (Told-weaker from.left to.left Loses (GivesRound blocks from.place to.place read.round.packets ends.GivenUp) (λ bytes left loses. loses)
          (stands_lost (reach from) from.place (reach to) head round.packets waits));
      size = omega (arith, fewer, count);
      fewer = λ not_full memory. omega (arith, fewer, count);
      full = λ full. absurd (given_up_full (sym is ∙ full));
      captured = subst (λ (r : RoundState). AllByRecursion IsCaptured (map packet_of r.packets)) (sym e) captured;
      numbers = subst (λ (r : RoundState). NumberedFrom from.place.number r.packets) (sym e) waits.numbers;
      need = subst (λ (r : RoundState). r.blocks ≡ round_need (map packet_of r.packets)) (sym e) need;
      within = omega (arith, within, same);
      some = some;
      took = omega (arith, took, same);
      later = waits.later;
      failed = λ fault. absurd (given_up_fault (sym is ∙ fault));
    }
