-- Rounds that were read one after another.
use Rattle.std.proofs.Common.{◌≡◌, ◌-◌, ◌^◌, ◌≤◌, ℕ, List, [], ◌∷◌, ◌++◌, true, refl, sym, ap, ◌∙◌, subst, min, arith, append_assoc, append-nil}
use Rattle.std.specs.List.{AllByRecursion}
use Rattle.std.proofs.lemmas.Bool.{false≢true}
use Rattle.off_io.specs.Told.{Told}
use Rattle.off_io.proofs.Telling.{Told-then, Told-same, Told-weaker}
use Rattle.pcap_io.specs.declared.place.Place.{Place}
use Rattle.pcap_io.specs.Reading.{Loses}
use Rattle.gro.specs.declared.slot.Slot.{Slot as Held}
use Rattle.rounds.specs.declared.round_stages.RoundEnd.{RoundEnd}
use Rattle.rounds.specs.declared.round_stages.RoundEnd.TheVariants as ends
use Rattle.rounds.specs.declared.round_stages.RoundRead.{RoundRead}
use Rattle.rounds.specs.Reading.{GivesRound}
use Rattle.rounds.specs.Reads.{Spot, ReadRound, Reads, is_full}

-- all so far were full
abbrev pub AllGo : List RoundRead → Type 0
AllGo rs = AllByRecursion (λ read. is_full read.end ≡ true) rs

pub all_go_last : (rs : List RoundRead) (read : RoundRead) → AllGo rs → is_full read.end ≡ true → AllGo (rs ++ read ∷ [])
all_go_last [] read go e = (e, tt)
all_go_last (x ∷ rs) read go e = (go.0, all_go_last rs read go.1 e)

module _ (blocks budget : ℕ) where
  -- one round more
  pub reads_last : (from mid to : Spot) (rs : List RoundRead) (read : RoundRead) → Reads blocks budget from rs mid → AllGo rs → ReadRound blocks budget mid to read
      → Reads blocks budget from (rs ++ read ∷ []) to
  reads_last from mid to [] read reads go next = (to, subst (λ (m : Spot). ReadRound blocks budget m to read) reads next, (λ _. refl), refl)
  reads_last from mid to (x ∷ rs) read reads go next =
      (reads.0, reads.1, (λ e. absurd (false≢true (sym e ∙ go.0))), reads_last reads.0 mid to rs read reads.3 go.1 next)

  -- blocks are only taken
  pub reads_least : (from to : Spot) (rs : List RoundRead) → Reads blocks budget from rs to → min from.taken (2 ^ 64 - 1) ≤ to.taken
  reads_least from to [] reads = omega (arith, ap (λ (s : Spot). s.taken) reads)
  reads_least from to (x ∷ rs) reads = omega (arith, reads.1.took, reads_least reads.0 to rs reads.3)

  -- bytes are only lost
  round_loses : (from to : Place) (round : List Held) (end : RoundEnd) (bytes left : List ℕ) → GivesRound blocks from to round end bytes left → Loses bytes left
  round_loses from to round ends.Full bytes left gives = (gives.0, gives.1)
  round_loses from to round ends.End bytes left gives = (bytes, rw gives.2 (sym (append-nil bytes)))
  round_loses from to round (ends.Malformed fault) bytes left gives = (gives.2.0, gives.2.1)
  round_loses from to round (ends.PoolEmpty need) bytes left gives = gives.1.1.3
  round_loses from to round ends.ReadFault bytes left gives = (gives.0, gives.1)
  round_loses from to round ends.NoMemory bytes left gives = gives
  round_loses from to round ends.GivenUp bytes left gives = gives

  none_lost : (bytes : List ℕ) → Loses bytes bytes
  none_lost bytes = ([], refl)

  lost_then : (bytes mid left : List ℕ) → Loses bytes mid → Loses mid left → Loses bytes left
  lost_then bytes mid left a b = (a.0 ++ b.0, a.1 ∙ ap (λ (l : List ℕ). a.0 ++ l) b.1 ∙ sym (append_assoc a.0 b.0 left))

  pub reads_lose : (from to : Spot) (rs : List RoundRead) → Reads blocks budget from rs to → Told from.left to.left Loses
  reads_lose from to [] reads = subst (λ (s : Spot). Told from.left s.left Loses) (sym reads) (Told-same from.left Loses none_lost)
  reads_lose from to (x ∷ rs) reads =
      Told-then from.left reads.0.left to.left Loses Loses Loses (λ bytes mid left a b. lost_then bytes mid left a b)
      (Told-weaker from.left reads.0.left (GivesRound blocks from.place reads.0.place x.round.packets x.end) Loses
      (λ bytes left gives. round_loses from.place reads.0.place x.round.packets x.end bytes left gives) reads.1.given)
      (reads_lose reads.0 to rs reads.3)

pub full_end : (end : RoundEnd) → is_full end ≡ true → end ≡ ends.Full
full_end ends.Full e = refl
full_end ends.End e = absurd (false≢true e)
full_end (ends.Malformed fault) e = absurd (false≢true e)
full_end ends.ReadFault e = absurd (false≢true e)
full_end (ends.PoolEmpty need) e = absurd (false≢true e)
full_end ends.NoMemory e = absurd (false≢true e)
full_end ends.GivenUp e = absurd (false≢true e)
