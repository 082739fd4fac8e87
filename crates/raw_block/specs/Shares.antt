-- What the shares of a block own, by their weights. A life of a block has a name. Under it stand entries (what is held,
-- what was given back), which add up: all that is held is at most the full weight, and all that was given back is below
-- it. The entries of one life agree on what the life is about: its lifetime, its mark and its content. While the life
-- lasts its word w is what is held, and the life's invariant has what is left of both sums, that is full_weight - w and
-- w - 1, and 2 ^ 63 - w of the 2 ^ 63 parts of the lifetime's token. A share of weight k has the entry (k, 0) and k
-- parts of the token; what a release left has (0, k). The invariant has the block's name too: whoever begins the life
-- gives it up, and whoever ends it has it again.
use Rattle.std.specs.Prelude.{◌≡◌, ℕ, ◌+◌, ◌-◌, ◌^◌, ◌<◌, ◌≤◌, List, [], ◌∷◌, ◌++◌}
use mathlib.Core.Path.{refl, sym, ◌∙◌}
use mathlib.Core.Bool.{Bool, true, false}
use mathlib.Core.HLevel.{×_prop}
use native.Mathlib.Omega.{arith}
use native.Mathlib.Nat.{ℕ_set}
use native.Mathlib.Bridge.{le_prop}
use base.Fraction.{full_share}
use base.FractionLaws.{Counts}
use base.Stored.{Gv, Coded, coded_ℕ}
use base.SetCodes.{SetCoded-set, coded, pair}
use base.Algebra.{SetCoded, Algebra}
use base.Graph.{Graph}
use base.Growing.{Order, prefixes, latest, at_least}
use base.Algebras.{drawn}
use base.Fml.{Lft, GName, Share, Fml, ftrue, ffalse, fsep, fex, fall, fwand, flft, fdead, flent, finv, fown}
use prog.Memory.{up, align}
use denote.RattleType.{RattleType}
use denote.Memory.{part_at, shared_of, lone}
use denote.RawPtr.{Ptr, block_ptr, null_ptr}
use denote.Sharing.{said}
use Rattle.core.specs.Sync.RawAtomic.{word}
use Rattle.block_weight.specs.WeightRule.{full_weight, IsBalanced, IsWeight}
use Rattle.raw_block.specs.Heap.{heap_owns}
use Rattle.raw_block.specs.Views.{Life}
use Rattle.raw_block.specs.contracts.block.Block.{the_row}

-- ---- the entries of a life

-- (lifetime, mark), the code of the content
abbrev pub About : Type 0
About = (ℕ × ℕ) × Gv

-- (held, given back), what the life is about
abbrev pub Entry : Type 0
Entry = (ℕ × ℕ) × About

abbrev pub Adds : Entry → Entry → Entry → Type 0
Adds x y z = ((x.0.0 + y.0.0 ≡ z.0.0) × (x.0.1 + y.0.1 ≡ z.0.1)) × (((x.1 ≡ z.1) × (y.1 ≡ z.1))
    × ((z.0.0 ≤ full_weight) × (z.0.1 + 1 ≤ full_weight)))

abbrev pub coded_Gv : Coded Gv
coded_Gv = record { code = λ g. g; inj = λ x y e. e }

abbrev pub about_coded : SetCoded About
about_coded = pair (pair (coded coded_ℕ) (coded coded_ℕ)) (coded coded_Gv)

abbrev pub entry_coded : SetCoded Entry
entry_coded = pair (pair (coded coded_ℕ) (coded coded_ℕ)) about_coded

abbrev pub adds : Graph Entry
adds = record {
  set = SetCoded-set entry_coded;
  sum = Adds;
  prop = λ x y z. ×_prop (×_prop (ℕ_set (x.0.0 + y.0.0) z.0.0) (ℕ_set (x.0.1 + y.0.1) z.0.1))
      (×_prop (×_prop (SetCoded-set about_coded x.1 z.1) (SetCoded-set about_coded y.1 z.1)) (×_prop le_prop le_prop));
  one = λ x y z u h k i. (((sym h.0.0 ∙ k.0.0) i, (sym h.0.1 ∙ k.0.1) i), (sym h.1.0.0 ∙ k.1.0.0) i);
  comm = λ x y z h. let e = h.0.0 in let f = h.0.1 in ((omega arith, omega arith), ((h.1.0.1, h.1.0.0), h.1.1));
  assoc = λ x y z xy u h k. let e = h.0.0 in let f = h.0.1 in let g = k.0.0 in let l = k.0.1 in let r = k.1.1.0
      in let s = k.1.1.1 in
      ∣ (
        ((y.0.0 + z.0.0, y.0.1 + z.0.1), u.1),
        (
          (refl, refl),
          (
            (h.1.0.1 ∙ k.1.0.0, k.1.0.1),
            (omega arith, omega arith),
          ),
        ),
        ((omega arith, omega arith), ((h.1.0.0 ∙ k.1.0.0, refl), (r, s))),
      ) ∣₁;
}

abbrev pub entries : Algebra
entries = drawn adds entry_coded

abbrev pub fact : Type 0 → Fml
fact φ = fex φ (λ _. ftrue)

abbrev pub entry : GName → ℕ → ℕ → About → Fml
entry γ held given_back f = fown entries γ ((held, given_back), f)

-- a name is about no lifetime, mark or content
abbrev pub about_nothing : About
about_nothing = ((0, 0), coded_ℕ.code 0)

-- a block's name: all that can stand under it, with a second one it would be more than the sums allow
abbrev pub name_owns : ℕ → Fml
name_owns k = entry k full_weight (full_weight - 1) about_nothing

-- k of the 2 ^ 63 parts of the token of the lifetime a
abbrev pub kept : ℕ → ℕ → Fml
kept a k = fex Share (λ e. fex (Counts 63 e k) (λ _. flft (a ∷ []) e))

-- ---- the log of a life's word

abbrev pub Log : Order (List ℕ)
Log = prefixes coded_ℕ

-- the log ends in w
abbrev pub reached : GName → ℕ → Fml
reached δ w = fex (List ℕ) (λ h. latest Log full_share δ (h ++ (w ∷ [])))

-- the log came to n once: a fact, which may be had twice
abbrev pub was : GName → ℕ → Fml
was δ n = fex (List ℕ) (λ h. at_least Log δ (h ++ (n ∷ [])))

-- ---- a life

abbrev pub offset : RattleType → ℕ
offset R = up (align (lone R.mir)) 8

-- what a life is about: its content x, its mark and its lifetime a
abbrev pub about : (R : RattleType) → R.Denot → ℕ → ℕ → About
about R x mark a = ((a, mark), R.coded.code x)

module _ (R : RattleType) (b o : ℕ) where
  -- the block as a `Box` owns it
  abbrev pub block : ℕ → R.Denot → Fml
  block w x = heap_owns (the_row R) (block_ptr b o) (record { word = w; content = x })

  abbrev pub content_at : R.Denot → Fml
  content_at x = part_at R full_share x b (o + offset R)

  abbrev pub seen : R.Denot → Lft → Fml
  seen x = shared_of R x b (o + offset R)

  -- the word and the content make the block again
  abbrev pub whole_with : R.Denot → Fml
  whole_with x = fall ℕ (λ w. fwand (fsep (word b (o + 0) w) (content_at x)) (block w x))

  module _ (γ : Life) (x : R.Denot) (mark a : ℕ) where
    -- what lies beside the word w
    abbrev pub beside_word : ℕ → Fml
    beside_word w = fsep (reached γ.names.1 w) (fsep (fact (IsBalanced w (full_weight - w)))
        (fsep (entry γ.names.0 (full_weight - w) (w - 1) (about R x mark a))
        (fsep (kept a (2 ^ 63 - w)) (fsep (flent (a ∷ []) (content_at x)) (fsep (whole_with x) (name_owns γ.block))))))

    abbrev pub state : ℕ → Fml
    state w = fsep (word b (o + 0) w) (beside_word w)

    abbrev pub alive : Bool → Fml
    alive true = fex ℕ state
    alive false = fdead (a ∷ [])

    -- the life's invariant: it goes on with some word, or it has ended
    abbrev pub Inv : Fml
    Inv = fex Bool alive

    abbrev pub held : ℕ → Fml
    held w = fsep (entry γ.names.0 w 0 (about R x mark a)) (kept a w)

    abbrev pub owned : ℕ → Fml
    owned w = fsep (finv Inv) (fsep (held w) (seen x (a ∷ [])))

  abbrev pub share_at : Life → R.Denot → ℕ → ℕ → Fml
  share_at γ x mark w = fsep (fact (IsWeight w)) (fex ℕ (λ a. owned γ x mark a w))

-- a share of weight w, of the life γ with the content x and this mark
abbrev pub share_owns : (R : RattleType) → Ptr → Life → R.Denot → ℕ → ℕ → Fml
share_owns R (block_ptr b o) γ x mark w = share_at R b o γ x mark w
share_owns R null_ptr γ x mark w = ffalse

-- what a `&` to a share shows
abbrev pub share_shares : (R : RattleType) → Ptr → R.Denot → Lft → Fml
share_shares R (block_ptr b o) x = seen R b o x
share_shares R null_ptr x = said ffalse

-- that r was given back in the life γ with this mark, by one release or by several
abbrev pub given_back_owns : Life → ℕ → ℕ → Fml
given_back_owns γ mark r = fsep (fact ((0 < r) × (r + 1 ≤ full_weight)))
    (fex (ℕ × Gv) (λ f. entry γ.names.0 0 r ((f.0, mark), f.1)))

-- ---- what a step leaves its caller: where it found the caller's own weight w the life has ended, and else `back`

module _ (R : RattleType) (b o : ℕ) (γ : Life) (x : R.Denot) (mark a w : ℕ) where
  abbrev pub freed : Fml
  freed = fsep (word b (o + 0) 0) (fsep (fdead (a ∷ []))
      (fsep (flent (a ∷ []) (content_at R b o x)) (fsep (whole_with R b o x) (name_owns γ.block))))

  abbrev pub told : Fml → ℕ → Bool → Fml
  told back n true = fsep (fact (n ≡ w)) freed
  told back n false = fsep (fact ((w < n) × (n ≤ full_weight))) back

  abbrev pub tells : Fml → ℕ → Fml
  tells back n = fex Bool (told back n)

module _ (R : RattleType) (b o : ℕ) (γ : Life) (x : R.Denot) (mark w n : ℕ) where
  abbrev pub released_at : Fml
  released_at = fsep (fact (IsWeight w))
      (fex ℕ (λ a. tells R b o γ x mark a w (entry γ.names.0 0 w (about R x mark a)) n))

  abbrev pub claimed_at : Fml
  claimed_at = fsep (fact (IsWeight w)) (fex ℕ (λ a. fsep (finv (Inv R b o γ x mark a))
      (fsep (seen R b o x (a ∷ [])) (tells R b o γ x mark a w (fsep (held R b o γ x mark a w) (was γ.names.1 n)) n))))

abbrev pub released_owns : (R : RattleType) → Ptr → Life → R.Denot → ℕ → ℕ → ℕ → Fml
released_owns R (block_ptr b o) γ x mark w n = released_at R b o γ x mark w n
released_owns R null_ptr γ x mark w n = ffalse

abbrev pub claimed_owns : (R : RattleType) → Ptr → Life → R.Denot → ℕ → ℕ → ℕ → Fml
claimed_owns R (block_ptr b o) γ x mark w n = claimed_at R b o γ x mark w n
claimed_owns R null_ptr γ x mark w n = ffalse

-- that the word of the life was n
abbrev pub seen_owns : Life → ℕ → Fml
seen_owns γ n = was γ.names.1 n
