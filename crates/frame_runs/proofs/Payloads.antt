-- The payloads of a run's packets, as they lie.
use Rattle.std.proofs.Common.{ℕ, ◌<◌, ◌≤◌, List, ◌∷◌, length, get_or, subst, sym}
use Rattle.std.specs.List.{AllByRecursion}
use Rattle.pcap_io.specs.Capture.{Packet}
use Rattle.frame_runs.specs.declared.run.Run.{Run}
use Rattle.frame_runs.specs.declared.engine.Engine.{Engine}
use Rattle.frame_runs.specs.Engine.{Knows, IsChain, AreRuns}
use Rattle.frame_runs.specs.MergedRun.{headers_size}
use Rattle.frame_runs.proofs.RunItems as items
pub use Rattle.frame_runs.proofs.Chains.{chain_step, chain_done, all_step}
pub use Rattle.frame_runs.proofs.Merging.{all_at, slot_at}
pub use Rattle.frame_runs.proofs.Running.{in_head, few_more}

-- ---- a run of several packets

pub headers_low : (run : Run) (p : Packet) (rest : List Packet) → Knows run p rest → 1 ≤ run.more → headers_size run ≤ 200
headers_low run p rest k several =
    let l = items.has_layout run p rest k several in
    subst (λ (z : ℕ). z ≤ 200) (sym (items.place run p rest k l.0 l.1)) (items.is_low run p rest k l.0 l.1)

-- each packet has headers of this length
pub all_within : (run : Run) (p : Packet) (rest : List Packet) → Knows run p rest → 1 ≤ run.more → AllByRecursion (λ (q : Packet). headers_size run ≤ length q.frame) (p ∷ rest)
all_within run p rest k several =
    let l = items.has_layout run p rest k several in
    items.all_within run p rest k l.0 l.1

-- ---- the runs of an engine

pub chain_at : (ps : List Packet) (n : ℕ) (e : Engine) (i : ℕ) (d : Run) → AreRuns ps n e → i < length e.runs.items → IsChain ps e.next.items (get_or e.runs.items i d)
chain_at ps n e i d are inside = all_at (IsChain ps e.next.items) e.runs.items i d are.each inside
