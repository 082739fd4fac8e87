use Rattle.std.proofs.Common.{◌≡◌, ◌+◌, ◌-◌, ◌∙◌, ◌++◌, ℕ, List, length, slice_range, ap, arith}
use Rattle.frags.specs.PieceList.{bytes_of}
use Rattle.skb.specs.SkbState.{SkbState, head_bytes, buffer_bytes}
use Rattle.skb.proofs.Copies.{copied_out}
use Rattle.skb.proofs.skb.Skb.copy_out.Goals as goal

pub returns : goal.returns
returns c =
    let h = c.head-head.result.now in
    let at : ℕ = c.args.at in
    let n : ℕ = length c.args.into.now in
    let s : ℕ = c.min-start.result in
    let k : ℕ = c.min-of_head.result in
    let r : List ℕ = bytes_of c.self.inside.rest in
    let i = c.split_at_mut-front.ensures.back_len in
    let l : length c.split_at_mut-front.result.1.now ≡ n - k = omega arith in
    let g : c.copy_out.new.into ≡ slice_range r (at - s) ((at - s) + (n - k)) = c.copy_out.ensures.bytes
    ∙ ap (λ (j : ℕ). slice_range r (at - s) ((at - s) + j)) l in
    let u : h ++ r ≡ buffer_bytes c.args.self.now = ap (λ (z : List ℕ). z ++ r) c.head-head.ensures.bytes
    ∙ ap (λ (z : SkbState). head_bytes c.args.self.now ++ bytes_of z.rest) c.self.view_is in
    let e = copied_out h r at n s k c.copy_from_slice.new.self c.copy_out.new.into c.min-start.ensures
    c.min-of_head.ensures c.copy_from_slice.ensures.after g in
    record { bytes = e ∙ ap (λ (z : List ℕ). slice_range z at (at + n)) u }
