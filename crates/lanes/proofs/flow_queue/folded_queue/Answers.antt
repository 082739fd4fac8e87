use Rattle.std.proofs.Common.{◌≡◌, List, ℕ, None, refl, sym, ap, ◌∙◌, arith, ◌%◌}
use Rattle.std.specs.List.{flat_map}
use Rattle.std.specs.Option.{option_map}
use Rattle.frame_layout.specs.Key.{flow_part, key_of, queue_of, IsHeadOf}
use Rattle.frame_layout.specs.Shape.{shape_of}
use Rattle.frame_layout.proofs.Lemmas.{own_long, its_key}
use Rattle.lanes.proofs.flow_queue.folded_queue.Goals as goal

own_head : (f : List ℕ) → IsHeadOf f f
own_head f = record { begins = λ k l. refl; more = omega arith; enough = omega arith }

no_key : (f : List ℕ) → None ≡ shape_of f → None ≡ key_of f
unfolding key_of
no_key f e = ap (option_map (λ layout. flat_map (λ h. flow_part f h.layer h.at) layout.headers)) e

pub plain_fold-requires : goal.plain_fold-requires
plain_fold-requires c =
    let head = c.args.head.now in
    record {
      long = own_long head head (λ k. omega (arith, c.type_inv.head k)) (own_head head) c.in-Some.layout
          (sym c.in-Some.ensures.shape) (c.is_plain.ensures.plain c.if-is_plain.true);
    }

pub returns-in-Some-clause-queue : goal.returns-in-Some-clause-queue
returns-in-Some-clause-queue c =
    let head = c.args.head.now in
    λ f o. ap (λ (h : ℕ). h % c.args.queues) c.plain_fold.ensures.hash
    ∙ ap (λ k. queue_of k c.args.queues)
    (its_key head f (λ k. omega (arith, c.type_inv.head k)) o c.in-Some.layout (sym (c.in-Some.ensures.whole f o))
    (c.is_plain.ensures.plain c.if-is_plain.true))

pub returns-in-None-clause-queue : goal.returns-in-None-clause-queue
returns-in-None-clause-queue c =
    λ f o. ap (λ k. queue_of k c.args.queues) (no_key f (c.in-None.ensures.whole f o))
