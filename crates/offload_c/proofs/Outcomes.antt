-- What a command's end and its output come to.
use Rattle.std.proofs.Common.{◌≡◌, ℕ, List, [], sym, ap, subst, Some, Result, Err, Ok, false}
use Rattle.std.specs.Prelude.{Vec}
use Rattle.std.specs.declared.alloc.Global.{Global}
use Rattle.pcap_io.specs.declared.faults.InFault.{InFault}
use Rattle.pcap_io.specs.declared.faults.InFault.TheVariants as faults
use Rattle.offload_model.specs.Passing.{Ending, Passed, Passes, merging_whole, segmenting_whole}
use Rattle.lanes.specs.Work.{options_by}
use Rattle.lanes.specs.declared.plan.LanePlan.{LanePlan}
use Rattle.rounds.specs.declared.round_writer.MergeEnd.{MergeEnd}
use Rattle.rounds.specs.declared.round_writer.MergeEnd.TheVariants as merges
use Rattle.segmenting.specs.declared.segment.SegFault.{SegFault}
use Rattle.segmenting.specs.declared.segment.SegFault.TheVariants as segments
use Rattle.rounds.specs.Merging.{ending_of, options_of}
use Rattle.rounds.specs.RoundsState.{RoundsState}
use Rattle.segmenting.specs.SegmentState.{SegmentState}
use Rattle.offload_c.specs.Answers.{Gives}
use Rattle.offload_c.specs.Ends.{IsMergeFault, IsOutcomeOf, IsEndingFor, EndsAs, IsSegOutcome}
use Rattle.offload_c.specs.declared.memory.Outcome.{Outcome}
use Rattle.offload_c.proofs.Headers.{fault_ending}

pub merge_fault : (fault : InFault) (end : MergeEnd) → IsMergeFault fault end → fault_ending fault ≡ ending_of end
merge_fault (faults.Cap fault) end is = sym (ap ending_of is)
merge_fault faults.ReadFault end is = sym (ap ending_of is)

module _ (passing : List ℕ → Passed) (bytes : Vec ℕ Global) (outcome : Outcome) (given left : List ℕ) where
  pub merge_gives : (end : MergeEnd) → IsOutcomeOf end bytes outcome → Passes passing (Some []) (Some bytes.items) (ending_of end) given left → Gives (passing given) outcome
  merge_gives merges.Done is p = rw is (p.0, p.2)
  merge_gives (merges.Malformed fault) is p = rw is ((fault, p.0), p.2)
  merge_gives (merges.PoolEmpty round need) is p = rw is ((round, need, p.0), p.2)
  merge_gives merges.ReadFault is p = rw is tt
  merge_gives merges.WriteFault is p = rw is tt
  merge_gives merges.NoMemory is p = rw is tt

  segment_gives : (end : Result (Unit {0}) SegFault) → IsSegOutcome end bytes outcome → (ending : Ending) → IsEndingFor end ending → Passes passing (Some []) (Some bytes.items) ending given left
      → Gives (passing given) outcome
  segment_gives (Ok _) is ending e p = let q = subst (λ (x : Ending). Passes passing (Some []) (Some bytes.items) x given left) e p in rw is (q.0, q.2)
  segment_gives (Err (segments.Malformed fault)) is ending e p = let q = subst (λ (x : Ending). Passes passing (Some []) (Some bytes.items) x given left) e p in rw is ((fault, q.0), q.2)
  segment_gives (Err (segments.PoolEmpty need)) is ending e p = let q = subst (λ (x : Ending). Passes passing (Some []) (Some bytes.items) x given left) e.1 p in rw is ((e.0, need, q.0), q.2)
  segment_gives (Err segments.ReadFault) is ending e p = rw is tt
  segment_gives (Err segments.WriteFault) is ending e p = rw is tt
  segment_gives (Err segments.NoMemory) is ending e p = rw is tt

  pub segment_given : (end : Result (Unit {0}) SegFault) → IsSegOutcome end bytes outcome → EndsAs passing (Some []) (Some bytes.items) end given left → Gives (passing given) outcome
  segment_given end is y = segment_gives end is y.0 y.1 y.2

-- ---- over the blocks that were made

pub merged_gives : (blocks budget : ℕ) (plan : LanePlan) (rounds : RoundsState) (start : List ℕ) (bytes : Vec ℕ Global) (outcome : Outcome) (given left : List ℕ) (end : MergeEnd)
    → rounds ≡ record { stock = rounds.stock; blocks = blocks; taken = 0; empties = 0; pauses = 0; spares = record { lent = 0; given = 0; refused = 0 }; budget = budget; plan = plan; keep = false } → start ≡ [] → IsOutcomeOf end bytes outcome
    → Passes (merging_whole rounds.blocks (options_of rounds)) (Some start) (Some bytes.items) (ending_of end) given left → Gives (merging_whole blocks (options_by plan budget) given) outcome
merged_gives blocks budget plan rounds start bytes outcome given left end made none is p =
    let made_p = subst (λ (s : RoundsState). Passes (merging_whole s.blocks (options_of s)) (Some start) (Some bytes.items) (ending_of end) given left) made p in
    merge_gives (merging_whole blocks (options_by plan budget)) bytes outcome given left end is
    (subst (λ (xs : List ℕ). Passes (merging_whole blocks (options_by plan budget)) (Some xs) (Some bytes.items) (ending_of end) given left) none made_p)

pub segmented_gives : (blocks : ℕ) (run : SegmentState) (start : List ℕ) (bytes : Vec ℕ Global) (outcome : Outcome) (given left : List ℕ) (end : Result (Unit {0}) SegFault)
    → run ≡ record { home = blocks; stock = run.stock; blocks = blocks; taken = 0 } → start ≡ [] → IsSegOutcome end bytes outcome
    → EndsAs (segmenting_whole run.blocks) (Some start) (Some bytes.items) end given left → Gives (segmenting_whole blocks given) outcome
segmented_gives blocks run start bytes outcome given left end made none is p =
    let made_p = subst (λ (s : SegmentState). EndsAs (segmenting_whole s.blocks) (Some start) (Some bytes.items) end given left) made p in
    segment_given (segmenting_whole blocks) bytes outcome given left end is
    (subst (λ (xs : List ℕ). EndsAs (segmenting_whole blocks) (Some xs) (Some bytes.items) end given left) none made_p)
