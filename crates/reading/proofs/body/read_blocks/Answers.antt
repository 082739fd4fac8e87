use Rattle.std.proofs.Common.{◌≡◌, ◌<◌, ◌+◌, ◌-◌, ◌*◌, ◌++◌, ℕ, length, arith, refl, ap, ◌∙◌, sym, subst, set, slice_range, length-append}
use Rattle.off_io.specs.Told.{Told}
use Rattle.reading.specs.Data.{data_of}
use Rattle.reading.proofs.Filling.{Filled, filled_none, filled_more, filled_stop, data_zero, data_step, into_set, short_same, on_none, on_then, bytes_none, bytes_behind}
use Rattle.reading.proofs.body.read_blocks.Goals as goal

pub loop-i-init : goal.loop-i-init
loop-i-init g c =
    let none : c.args.size - c.args.size ≡ 0 = omega arith in
    let zero' = data_zero 0 (c.args.size - c.args.size) c.args.hold.now.items none in
    record {
      told = filled_none _ (c.args.size - c.args.size) c.args.hold.now.items none;
      long = ap length zero' ∙ sym none;
      in_bytes = bytes_none _ zero';
      place = on_none c.args.reader.now.place _ none;
      left = omega arith;
      blocks = record { marks = λ k h. h; named = λ h. refl; size = refl };
      capacity = refl;
      same = refl;
      later = omega arith;
    }

pub returns-in-Err-clause-given : goal.returns-in-Err-clause-given
returns-in-Err-clause-given g c =
    let l = c.loop-i in
    let i = l.invariant in
    filled_stop _ _ _ c.args.reader.now.place l.reader.place c.in-Err.fault (c.args.size - l.left) c.args.size l.hold.items _
    (slice_range c.read_block.new.block.bytes 0 c.min-count.result) i.long
    (omega (arith, c.in-Err.ensures.size, c.min-count.ensures, l.auto)) (short_same c.args.reader.now.place l.reader.place (c.args.size - l.left) i.place) i.told
    c.in-Err.ensures.given

pub returns-in-Err-clause-blocks : goal.returns-in-Err-clause-blocks
returns-in-Err-clause-blocks g c =
    let l = c.loop-i in
    let at = c.index_mut in
    into_set l.i c.args.hold.now.items l.hold.items c.read_block.new.block at.result.now (omega (arith, l.invariant.blocks.size, c.loop-i-test.true)) at.ensures.value c.in-Err.ensures.block
    l.invariant.blocks

pub loop-i-preserved : goal.loop-i-preserved
loop-i-preserved g c =
    let l = c.loop-i in
    let i = l.invariant in
    let s = c.read_block.new.block in
    let n : ℕ = c.args.size - l.left in
    let count : ℕ = c.min-count.result in
    let n' : ℕ = c.args.size - (l.left - count) in
    let at : l.i < length l.hold.items = omega (arith, i.blocks.size, c.loop-i-test.true) in
    let some : n ≡ 2048 * l.i = omega (arith, i.left, i.blocks.size, at, c.requires.blocks) in
    let whole : n' ≡ n + count = omega (arith, i.left, c.min-count.ensures) in
    let step = data_step l.i n count l.hold.items s at some (omega (arith, c.min-count.ensures)) in
    let step' : data_of 0 n' (set l.hold.items l.i s) ≡ data_of 0 n l.hold.items ++ slice_range s.bytes 0 count = ap (λ (k : ℕ). data_of 0 k (set l.hold.items l.i s)) whole ∙ step in
    record {
      told = filled_more _ _ _ l.reader.place n n' l.hold.items (set l.hold.items l.i s) (slice_range s.bytes 0 count) step' i.told c.in-Ok.ensures.given;
      long = omega (arith, ap length step', length-append (data_of 0 n l.hold.items) (slice_range s.bytes 0 count), i.long, c.in-Ok.ensures.size, whole);
      in_bytes = bytes_behind _ _ _ step' i.in_bytes c.in-Ok.ensures.in_bytes;
      place = on_then c.args.reader.now.place l.reader.place c.read_block.new.reader.place n (count - 0) n' (omega (arith, whole)) i.place c.in-Ok.ensures.reads.place;
      left = omega (arith, i.left, c.min-count.ensures);
      blocks = into_set l.i c.args.hold.now.items l.hold.items s c.index_mut.result.now at c.index_mut.ensures.value c.in-Ok.ensures.block i.blocks;
      capacity = i.capacity;
      same = c.in-Ok.ensures.same_source ∙ i.same;
      later = omega (arith, i.later, c.in-Ok.ensures.reads.later);
    }

-- all of it, where no block is left
pub returns-clause-given : goal.returns-clause-given
returns-clause-given g c =
    let l = c.loop-i in
    let all : c.args.size - l.left ≡ c.args.size = omega (arith, l.invariant.left, l.invariant.blocks.size, c.loop-i-test.false, c.requires.blocks) in
    subst (λ (k : ℕ). Told (g.S.Source.left c.args.reader.now.source.now) (g.S.Source.left l.reader.source.now) (Filled k l.hold.items)) all l.invariant.told
