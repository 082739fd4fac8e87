use Rattle.std.proofs.Common.{◌∙◌, ℕ, [], ◌∷◌, ap, arith, length, length-append}
use Rattle.std.specs.List.{sum_by}
use Rattle.std.proofs.lemmas.List.Sums.{sum_by-append}
use Rattle.block_pool.specs.PoolState.{PoolState, home, weighed}
use Rattle.frags.specs.declared.pieces.Piece.{Piece}
use Rattle.raw_block.specs.Views.{SoleState}
use Rattle.reading.proofs.blocks.bring_blocks.Goals as goal

pub loop-block-preserved : goal.loop-block-preserved
loop-block-preserved c =
    let i = c.loop-block.invariant in
    let some = c.in-Some.ensures.some in
    let put = c.put-in-Some.ensures.home in
    let blocks = c.loop-block.pool.blocks in
    let block = c.in-Some.block in
    let weight : (ℕ → ℕ) → Piece → ℕ = λ h p. h p.part.life.block in
    record {
      whole = c.in-Some.ensures.whole;
      home = omega (arith, i.home, ap length some.1, ap home put, length-append blocks (block ∷ []));
      blocks = λ h. omega (
        arith,
        i.blocks h,
        ap (sum_by (weight h)) some.1,
        sum_by-append (weight h) (some.0 ∷ []) c.pop_block.new.self,
        ap (λ (p : PoolState). weighed h p.blocks) put,
        sum_by-append (λ (s : SoleState). h s.block) blocks (block ∷ []),
        ap (λ (s : SoleState). h s.block) some.2,
      );
      made = ap (λ (p : PoolState). p.made) put ∙ i.made;
      taken = ap (λ (p : PoolState). p.taken) put ∙ i.taken;
    }
