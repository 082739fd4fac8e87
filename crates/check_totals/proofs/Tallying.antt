-- How counting goes on, and what its lines say of an ending.
use Rattle.std.proofs.Common.{◌≡◌, ◌≤◌, ◌<◌, ◌+◌, ℕ, List, [], ◌∷◌, ◌++◌, length, map, refl, sym, ap, ◌∙◌, subst, arith, Option, None, append-nil, append_assoc}
use Rattle.std.specs.Io.KnownBytes.{Appends}
use Rattle.off_io.specs.Content.{AppendsPrefix}
use Rattle.pcap_io.specs.declared.place.Place.{Place}
use Rattle.pcap_io.specs.declared.faults.CapFault.{CapFault}
use Rattle.pcap_io.specs.Capture.{Packet, Found, ended}
use Rattle.pcap_io.specs.Places.{found_at}
use Rattle.pcap_io.specs.Lengths.{lengths_at}
use Rattle.pcap_io.specs.Laws.{frame_length}
use Rattle.offload_model.specs.Need.{need_of, needed, round_need, exceeded_at, found_before}
use Rattle.offload_model.specs.Passing.{Stop, AtRound, Ending, Stopped, ReadFault, WriteFault, NoMemory, stop_of, IsNoRound}
use Rattle.offload_model.specs.Steps.{stop_behind, ending_behind, in_front}
use Rattle.offload_model.specs.Written.{Options}
use Rattle.offload_model.proofs.Behind.{stop_none, stop_more, no_round_on, left_on, shift, stop_on, made_full, made_last, made_less}
use Rattle.check_totals.specs.Counts.{Counts, round_totals, totals_of, added}
use Rattle.check_totals.specs.Lines.{check_lines}
use Rattle.check_totals.specs.Checking.{Tally, counting, checking}
use Rattle.check_totals.specs.Tallies.{tally_behind, CountsOn, AddsGone, Tallies, TotalsAddUp, CountingGoesByRound, TotalsAreTold}
use Rattle.check_totals.proofs.Summing.{added_assoc, none_totals, totals_full, totals_last}

abbrev tally_of : Counts → Stop → Tally
tally_of totals stop = record { totals = totals; stop = stop }

same_tally : (a b : Counts) (s t : Stop) → a ≡ b → s ≡ t → tally_of a s ≡ tally_of b t
same_tally a b s t p q = ap (λ (x : Counts). tally_of x s) p ∙ ap (tally_of b) q

-- ---- behind others

count_on : (from to last : List ℕ → Tally) (k j : ℕ) (gone gone' : List ℕ) (done done' : Counts) → CountsOn from to k gone done → CountsOn to last j gone' done'
    → CountsOn from last (k + j) (gone ++ gone') (added done done')
count_on from to last k j gone gone' done done' p q tail =
    ap from (append_assoc gone gone' tail) ∙ p (gone' ++ tail) ∙ ap (tally_behind k done) (q tail)
    ∙ same_tally _ _ _ _ (sym (added_assoc done done' (last tail).totals)) (stop_more k j (last tail).stop)

module _ (from to : List ℕ → Tally) (k : ℕ) (gone : List ℕ) (done old mid new : Counts) (on : CountsOn from to k gone done) (sum : mid ≡ added old done) where
  -- what is counted behind the others
  adds_on : (bytes : List ℕ) → AddsGone to mid new bytes → AddsGone from old new (gone ++ bytes)
  adds_on bytes p =
      p ∙ ap (λ (c : Counts). added c (to bytes).totals) sum ∙ added_assoc old done (to bytes).totals
      ∙ ap (added old) (sym (ap (λ (t : Tally). t.totals) (on bytes)))

  tally_on : (ending : Ending) (bytes left : List ℕ) → Tallies to mid new ending bytes left → Tallies from old new (ending_behind k ending) (gone ++ bytes) left
  tally_on (Stopped stop) bytes left p = (
    ap (λ (t : Tally). t.stop) (on bytes) ∙ ap (stop_behind k) p.0,
    left_on k stop gone bytes left p.1,
    adds_on bytes p.2,
    (gone ++ p.3.0, ap (λ (l : List ℕ). gone ++ l) p.3.1 ∙ sym (append_assoc gone p.3.0 left), adds_on p.3.0 p.3.2),
  )
  tally_on ReadFault bytes left p = (
    gone ++ p.0,
    ap (λ (l : List ℕ). gone ++ l) p.1 ∙ sym (append_assoc gone p.0 left),
    subst IsNoRound (sym (ap (λ (t : Tally). t.stop) (on p.0))) (no_round_on k (to p.0).stop p.2),
    adds_on p.0 p.3,
  )
  tally_on WriteFault bytes left p = (gone ++ p.0, ap (λ (l : List ℕ). gone ++ l) p.1 ∙ sym (append_assoc gone p.0 left))
  tally_on NoMemory bytes left p = (gone ++ p.0, ap (λ (l : List ℕ). gone ++ l) p.1 ∙ sym (append_assoc gone p.0 left))

pub totals_add_up : TotalsAddUp
totals_add_up from to k gone done = record {
  none = λ tail. same_tally _ _ _ _ refl (sym (stop_none (from tail).stop));
  more = λ last j gone' done' p q. count_on from to last k j gone gone' done done' p q;
  tallies = λ old mid new ending bytes left on sum p. tally_on from to k gone done old mid new on sum ending bytes left p;
}

-- ---- rounds

abbrev counted : Options → Option (ℕ × ℕ) → Found → Tally
counted options e f = tally_of (totals_of options f.packets) (stop_of f.fault e)

counted_on : (options : Options) (ps : List Packet) (e : Option (ℕ × ℕ)) (f : Found) → 0 < options.budget → length ps ≡ options.budget
    → counted options (shift 1 e) (in_front ps f) ≡ tally_behind 1 (round_totals options ps) (counted options e f)
counted_on options ps e f room full = same_tally _ _ _ _ (totals_full options ps f.packets room full) (stop_on f.fault e)

counts_full : (blocks : ℕ) (options : Options) (place : Place) (ps : List Packet) (bytes : List ℕ) (mid : Place) (left : List ℕ) → 0 < options.budget
    → length ps ≡ options.budget → round_need ps ≤ blocks
    → found_at place bytes ≡ in_front ps (found_at mid left) → lengths_at place bytes ≡ map frame_length ps ++ lengths_at mid left
    → counting blocks options place bytes ≡ tally_behind 1 (round_totals options ps) (counting blocks options mid left)
counts_full blocks options place ps bytes mid left room full fits found lens =
    let budget = options.budget in
    let e = exceeded_at blocks budget mid left in
    made_full (counted options) blocks budget place ps bytes room mid left full fits found lens
    ∙ counted_on options ps e (found_before budget e (found_at mid left)) room full

counts_last : (blocks : ℕ) (options : Options) (place : Place) (ps : List Packet) (bytes : List ℕ) (fault : Option CapFault) (more : List ℕ) → 0 < options.budget
    → length ps + length more ≤ options.budget → round_need ps + needed more ≤ blocks
    → found_at place bytes ≡ in_front ps (ended fault) → lengths_at place bytes ≡ map frame_length ps ++ more
    → counting blocks options place bytes ≡ tally_of (round_totals options ps) (stop_of fault None)
counts_last blocks options place ps bytes fault more room le fits found lens =
    made_last (counted options) blocks options.budget place ps bytes room fault more le fits found lens
    ∙ ap (λ (qs : List Packet). tally_of (totals_of options qs) (stop_of fault None)) (append-nil ps)
    ∙ ap (λ (c : Counts). tally_of c (stop_of fault None)) (totals_last options ps room (omega (arith, le)))

counts_less : (blocks : ℕ) (options : Options) (place : Place) (ps : List Packet) (bytes : List ℕ) (len : ℕ) (more : List ℕ) → 0 < options.budget
    → length ps < options.budget → round_need ps ≤ blocks → blocks < round_need ps + need_of len
    → lengths_at place bytes ≡ map frame_length ps ++ len ∷ more
    → counting blocks options place bytes ≡ tally_of (totals_of options []) (AtRound 0 (round_need ps + need_of len))
counts_less blocks options place ps bytes len more room lt fits ex lens =
    made_less (counted options) blocks options.budget place ps bytes room len more lt fits ex lens

pub counting_goes_by_round : CountingGoesByRound
counting_goes_by_round blocks options place ps bytes room = record {
  full = λ mid left full fits found lens. counts_full blocks options place ps bytes mid left room full fits found lens;
  last = λ fault more le fits found lens. counts_last blocks options place ps bytes fault more room le fits found lens;
  exceeds = λ len more lt fits ex lens. counts_less blocks options place ps bytes len more room lt fits ex lens;
}

-- ---- lines

module _ (blocks : ℕ) (options : Options) (place : Place) (totals : Counts) where
  -- the totals that were added to those of no packet are those of all that was read
  told : (bytes : List ℕ) → AddsGone (counting blocks options place) (totals_of options []) totals bytes → totals ≡ (counting blocks options place bytes).totals
  told bytes p = p ∙ none_totals options (found_before options.budget (exceeded_at blocks options.budget place bytes) (found_at place bytes)).packets

  lines_told : (bytes : List ℕ) → AddsGone (counting blocks options place) (totals_of options []) totals bytes
      → check_lines totals ≡ (checking blocks options place bytes).output
  lines_told bytes p = ap check_lines (told bytes p)

pub totals_are_told : TotalsAreTold
totals_are_told blocks options place totals old new bytes left = record {
  stopped = λ stop p wrote. (p.0, p.1, subst (Appends old new) (lines_told blocks options place totals bytes p.2) wrote);
  read_fault = λ p wrote. (p.0, p.1, p.2, subst (Appends old new) (lines_told blocks options place totals p.0 p.3) wrote);
  failed = λ stop p wrote. (p.3.0, p.3.1, subst (AppendsPrefix old new) (lines_told blocks options place totals p.3.0 p.3.2) wrote);
  both_failed = λ p wrote. (p.0, p.1, subst (AppendsPrefix old new) (lines_told blocks options place totals p.0 p.3) wrote);
  no_memory = λ p wrote. (p.0, p.1, (0, wrote));
}
