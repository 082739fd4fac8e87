use Rattle.std.proofs.Common.{◌≡◌, ◌+◌, ◌-◌, ◌^◌, ◌≤◌, length, min}
use Rattle.block_pool.specs.PoolState.{weighed}
use Rattle.rounds.specs.RoundOf.{brought_by, Came}
use Rattle.rounds.proofs.intake.Intake.bring_rest.Given as goal

abbrev pub invariant-loop : goal.invariant-loop
invariant-loop g l = record {
  came : Came (brought_by g.H.Supply.weights g.H.Supply.refusals l.fn.more) (brought_by g.H.Supply.weights g.H.Supply.refusals l.more) (length l.fn.self.stock) (length l.self.stock) (λ h. weighed h l.fn.self.stock)
      (λ h. weighed h l.self.stock);
  blocks : l.self.blocks ≡ l.fn.self.blocks;
  taken : l.self.taken ≡ l.fn.self.taken;
  budget : l.self.budget ≡ l.fn.self.budget;
  empties : l.self.empties ≡ l.fn.self.empties;
  pauses : l.self.pauses ≡ min (l.fn.self.pauses + 1) (2 ^ 64 - 1);
  later : l.fn.self.pauses ≤ l.self.pauses;
}
