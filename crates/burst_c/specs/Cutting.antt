-- What cutting a frame answers.
use Rattle.std.specs.Prelude.{◌≡◌, ◌⊎◌, ℕ}
use Rattle.frame_cuts.specs.declared.cut.CutRefused.{CutRefused}
use Rattle.frame_cuts.specs.declared.cut.CutRefused.TheVariants.{Usage, Unlawful, NoRoom}

-- a number for each refusal, and 0 where there was none
abbrev pub cut_code_of : CutRefused → ℕ
cut_code_of Usage = 2
cut_code_of Unlawful = 6
cut_code_of NoRoom = 9

abbrev pub CutAnswers : (CutRefused → Type 0) → ℕ → Type 0
CutAnswers refuses code = (code ≡ 0) ⊎ ((reason : CutRefused) × ((code ≡ cut_code_of reason) × refuses reason))
