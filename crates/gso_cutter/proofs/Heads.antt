-- The account of a record whose head may become a part.
use Rattle.std.proofs.Common.{◌≡◌, subst}
use Rattle.std.specs.declared.result.Result.{Result}
use Rattle.std.specs.declared.alloc.AllocError.{AllocError}
use Rattle.raw_block.specs.Views.{SoleState}
use Rattle.gso_cutter.specs.Cutting.{NextAccount}
use Rattle.gso_cutter.specs.declared.cutter.Cut.{Cut}
use Rattle.gso_cutter.specs.declared.cutter.Work.{Work}

-- the same of equal states and answers
pub account_moved : (a x b y : Work) (spare : SoleState) (r q : Result Cut (SoleState × AllocError)) → a ≡ x → b ≡ y → r ≡ q → NextAccount a spare b r → NextAccount x spare y q
account_moved a x b y spare r q e f g h =
    subst (λ (z : Work). NextAccount z spare y q) e (subst (λ (z : Work). NextAccount a spare z q) f (subst (NextAccount a spare b) g h))
