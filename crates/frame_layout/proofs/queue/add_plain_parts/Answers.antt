use Rattle.std.proofs.Common.{◌≡◌, ℕ, List, [], ◌++◌, sym, ap, ◌∙◌, append_assoc, append-nil}
use Rattle.frame_layout.proofs.queue.add_plain_parts.Goals as goal

three : (k a b c x y z : List ℕ) → x ≡ k ++ a → y ≡ x ++ b → z ≡ y ++ c
    → z ≡ k ++ (a ++ (b ++ (c ++ [])))
three k a b c x y z p q r =
    r ∙ ap (λ (l : List ℕ). l ++ c) (q ∙ ap (λ (l : List ℕ). l ++ b) p) ∙ append_assoc (k ++ a) b c
    ∙ append_assoc k a (b ++ c) ∙ ap (λ (l : List ℕ). k ++ (a ++ (b ++ l))) (sym (append-nil c))

pub returns : goal.returns
returns c = record {
  items = three c.args.key.now.items _ _ _ c.add_part.new.key.items c.add_part-2.new.key.items
      c.add_part-3.new.key.items
      c.add_part.ensures.items c.add_part-2.ensures.items c.add_part-3.ensures.items;
}
