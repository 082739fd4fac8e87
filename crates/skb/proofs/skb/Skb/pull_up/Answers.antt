use Rattle.std.proofs.Common.{◌≡◌, ◌+◌, ◌-◌, ◌∙◌, ◌++◌, ℕ, List, length, drop, slice_range, ap, sym, arith}
use Rattle.frags.specs.Holders.{block}
use Rattle.frags.specs.PieceList.{size_of, bytes_of}
use Rattle.frags.specs.declared.holder.Holder.{Holder}
use Rattle.skb.specs.SkbState.{SkbState, head_bytes, buffer_bytes, buffer_size}
use Rattle.skb.proofs.Buffers.{length-head}
use Rattle.skb.proofs.Copies.{brought}
use Rattle.skb.proofs.Cutting.{size_of-cut}
use Rattle.skb.proofs.skb.Skb.pull_up.Goals as goal

pub copy_into-requires : goal.copy_into-requires
copy_into-requires c = record {
  within = (omega arith, omega arith);
}

pub invariant_of-self : goal.invariant_of-self
invariant_of-self c =
    let s = c.self.inside in
    let i = c.self.invariant in
    let u = ap buffer_size c.self.view_is in
    let k : ℕ = c.args.n - (s.to - s.from) in
    let w = c.in-Ok.ensures.spans in
    let e = ap size_of w.1 in
    let g = size_of-cut k s.rest w.0 in (
      omega arith,
      omega arith,
      ap (λ (z : Holder). length (block z)) c.replace_with-released.ensures.0
          ∙ c.copy_into.ensures.size,
      omega arith,
    )

pub returns-clause-bytes : goal.returns-clause-bytes
returns-clause-bytes c =
    let s = c.self.inside in
    let f : SkbState = record { head = s.head; from = s.from; to = s.to; rest = s.rest } in
    let i = c.self.invariant in
    let n : ℕ = c.args.n in
    let h : List ℕ = head_bytes f in
    let r : List ℕ = bytes_of s.rest in
    let xs : List ℕ = slice_range (buffer_bytes c.args.self.now) 0 (0 + n) in
    let l : length h ≡ s.to - s.from = length-head f i.2 i.1 in
    let u : n - (s.to - s.from) ≡ n - length h = omega arith in
    let v : buffer_bytes f ≡ buffer_bytes c.args.self.now = ap buffer_bytes c.self.view_is in
    let x : slice_range (block c.replace_with-released.new.dest) 64 (64 + n)
    ≡ xs = ap (λ (z : Holder). slice_range (block z) 64 (64 + n)) c.replace_with-released.ensures.0
    ∙ c.copy_into.ensures.copied.1 in
    let y : bytes_of c.cut_front.new.self ≡ drop (n - length h) r = c.in-Ok.ensures.bytes ∙ ap (λ (j : ℕ). drop j r) u in
    let b = brought h r xs n (omega arith) (ap (λ (z : List ℕ). slice_range z 0 (0 + n)) (sym v)) in
    ap (λ (z : List ℕ). z ++ bytes_of c.cut_front.new.self) x ∙ ap (λ (z : List ℕ). xs ++ z) y ∙ b ∙ v
