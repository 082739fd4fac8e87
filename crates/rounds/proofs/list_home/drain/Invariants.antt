use Rattle.std.proofs.Common.{◌≡◌, ℕ, ◌+◌, ◌≤◌, [], length}
use Rattle.block_pool.specs.PassState.{IsHome, IsOwn}
use Rattle.block_pool.specs.PoolState.{weighed}
use Rattle.block_supply.specs.Lists.{weights_listed}
use Rattle.rounds.proofs.list_home.drain.Given as goal

abbrev pub invariant-loop-waiting : goal.invariant-loop-waiting
invariant-loop-waiting g l = record {
  own : IsOwn l.lists l.pass;
  parts : l.pass.parts ≡ 65536;
  made : l.pass.made ≡ [];
  put : l.pass.put ≡ l.initial.pass.put;
  same : l.intake ≡ record l.initial.intake { stock = l.intake.stock };
  named : (h : ℕ → ℕ) → weighed h l.intake.stock + weights_listed h l.initial.pass.taken ≡ weighed h l.initial.intake.stock + weights_listed h l.pass.taken;
  rises : length l.initial.intake.stock ≤ length l.intake.stock;
  count : l.waiting + l.pass.takes ≡ l.lists.made + l.pass.puts;
  here : IsHome l.pass l.waiting;
}

abbrev pub decreases-loop-waiting : goal.decreases-loop-waiting
decreases-loop-waiting g l = l.waiting
