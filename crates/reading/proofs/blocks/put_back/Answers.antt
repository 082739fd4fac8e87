use Rattle.std.proofs.Common.{ap, ◌∙◌}
use Rattle.block_pool.specs.PoolState.{PoolState}
use Rattle.reading.proofs.Spending.{put_next}
use Rattle.reading.proofs.blocks.put_back.Goals as goal

pub loop-sole-preserved : goal.loop-sole-preserved
loop-sole-preserved c =
    let l = c.loop-sole in
    let i = l.invariant in
    let put = c.put-in-Some.ensures.home in
    let step = put_next l.pool c.put-in-Some.new.self c.in-Some.sole l.hold.items c.pop_front.new.self.items put c.in-Some.ensures.items in
    record {
      home = step.home ∙ i.home;
      named = λ h. step.named h ∙ i.named h;
      made = ap (λ (p : PoolState). p.made) put ∙ i.made;
      taken = ap (λ (p : PoolState). p.taken) put ∙ i.taken;
      capacity = c.in-Some.ensures.capacity ∙ i.capacity;
    }
