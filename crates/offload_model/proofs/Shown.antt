-- What taps are shown of captured packets is captured.
use Rattle.std.proofs.Common.{ℕ, ◌<◌, List, map, take, Option, Some, None, inl, inr, sym, subst, arith, length-take}
use Rattle.std.proofs.lemmas.Bool.{cases_lt}
use Rattle.std.proofs.lemmas.List.{get_or-take, get_or_past}
use Rattle.std.specs.Prelude.{unwrap_or}
use Rattle.std.specs.List.{AllByRecursion}
use Rattle.tap_filter.specs.declared.instr.Instr.{Instr}
use Rattle.tap_filter.specs.Meaning.{value_of}
use Rattle.pcap_io.specs.Capture.{Packet}
use Rattle.offload_model.specs.Captured.{IsCaptured}
use Rattle.offload_model.specs.Laws.{InBytes}
use Rattle.offload_model.specs.Written.{shown_of}
use Rattle.offload_model.proofs.Lists.{all_mapped}

small_take : (n : ℕ) (xs : List ℕ) → InBytes xs → InBytes (take n xs)
small_take n xs s k = elim (cases_lt k n) [
  | inl l ↦ subst (λ b. b < 256) (sym (get_or-take n xs k 0 l)) (s k)
  | inr l ↦ subst (λ b. b < 256) (sym (get_or_past (take n xs) k 0 (omega (arith, length-take n xs)))) (omega arith)
]

shown_captured : (filter : Option (List Instr)) (p : Packet) → IsCaptured p → IsCaptured (shown_of filter p)
shown_captured None p c = record { number = c.number; sec = c.sec; frac = c.frac; original = c.original; short = c.short; in_bytes = c.in_bytes }
shown_captured (Some code) p c =
    let n = unwrap_or (value_of code p.frame) 0 in
    record { number = c.number; sec = c.sec; frac = c.frac; original = c.original; short = omega (arith, length-take n p.frame, c.short); in_bytes = small_take n p.frame c.in_bytes }

pub all_shown : (filter : Option (List Instr)) (ps : List Packet) → AllByRecursion IsCaptured ps → AllByRecursion IsCaptured (map (shown_of filter) ps)
all_shown filter ps c = all_mapped IsCaptured IsCaptured (shown_of filter) ps (λ p k. shown_captured filter p k) c
