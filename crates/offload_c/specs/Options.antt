-- Which options a capture is merged by.
use Rattle.std.specs.Prelude.{◌≡◌, ℕ, ◌≤◌, ◌⊎◌, IsSome, Option, None, List, [], ◌∷◌, length}
use Rattle.tap_filter.specs.declared.instr.Instr.{Instr}
use Rattle.tap_filter.specs.Refusal.{program_in}
use Rattle.frame_layout.specs.Choice.{IsTable, even_table_of}
use Rattle.frame_layout.specs.declared.choice.Choice.{Choice}
use Rattle.frame_layout.specs.declared.choice.Choice.TheVariants.{Fold, Toeplitz}
use Rattle.offload_model.specs.Written.{Options}
use Rattle.lanes.specs.declared.plan.LanePlan.{LanePlan}
use Rattle.lanes.specs.Work.{options_by}
use Rattle.offload_c.specs.declared.options.MergeOptions.{MergeOptions}
use Rattle.offload_c.specs.declared.options.Refused.{Refused}
use Rattle.offload_c.specs.declared.options.Refused.TheVariants.{Usage, NoMemory}

-- ---- numbers

-- the bytes of the struct, as the header of this version has it
abbrev pub options_size : ℕ
options_size = 80

pub record AreInRange (o : MergeOptions) : Type 0 where
  pub size : o.size ≡ options_size
  pub budget : (1 ≤ o.budget) × (o.budget ≤ 4096)
  pub blocks : (1 ≤ o.blocks) × (o.blocks ≤ 65536)
  pub queues : (1 ≤ o.queues) × (o.queues ≤ 64)
  pub taps : o.taps ≤ 8
  pub snap : (1 ≤ o.snap) × (o.snap ≤ 2048)
  pub segs : (1 ≤ o.segs) × (o.segs ≤ 4096)

-- ---- how flows go to queues

-- 1 to 128 queues, or none
abbrev pub IsTableOrNone : ℕ → List ℕ → Type 0
IsTableOrNone queues table = (table ≡ []) ⊎ IsTable queues table

-- a key has 40 bytes, and a table stands beside a key alone
abbrev pub IsHash : ℕ → List ℕ → List ℕ → Type 0
IsHash queues [] table = table ≡ []
IsHash queues (k ∷ key) table = (length (k ∷ key) ≡ 40) × IsTableOrNone queues table

-- without a table the queues stand in turn
abbrev pub table_by : ℕ → List ℕ → List ℕ
table_by queues [] = even_table_of queues
table_by queues (q ∷ table) = q ∷ table

-- without a key the fold spreads the flows
abbrev pub choice_by : ℕ → List ℕ → List ℕ → Choice
choice_by queues [] table = Fold
choice_by queues (k ∷ key) table = Toeplitz (k ∷ key) (record { items = table_by queues table })

-- ---- what taps are shown

abbrev pub IsFilter : List ℕ → Type 0
IsFilter [] = Unit {0}
IsFilter (c ∷ text) = IsSome (program_in (c ∷ text))

-- without a text there is no filter
abbrev pub filter_by : List ℕ → Option (List Instr)
filter_by [] = None
filter_by (c ∷ text) = program_in (c ∷ text)

-- why a text isn't taken: it is no filter, or memory ran out
abbrev pub WhyNoFilter : List ℕ → Refused → Type 0
WhyNoFilter text Usage = IsFilter text → ⊥
WhyNoFilter text NoMemory = Unit {0}

-- ---- all of them

-- all but the filter, which is tested without memory
pub record AreAllButFilter (o : MergeOptions) : Type 0 where
  pub numbers : AreInRange o
  pub hash : IsHash o.queues o.rss_key.now o.rss_table.now

pub record AreLawful (o : MergeOptions) : Type 0 where
  pub others : AreAllButFilter o
  pub filter : IsFilter o.filter.now

abbrev pub plan_of : MergeOptions → LanePlan
plan_of o = record {
  queues = o.queues;
  taps = o.taps;
  snap = o.snap;
  choice = choice_by o.queues o.rss_key.now o.rss_table.now;
  segs = o.segs;
  filter = filter_by o.filter.now;
}

abbrev pub model_of : MergeOptions → Options
model_of o = options_by (plan_of o) o.budget

-- why options aren't taken: they aren't lawful, or memory ran out while the filter was read
abbrev pub WhyRefused : MergeOptions → Refused → Type 0
WhyRefused o Usage = AreLawful o → ⊥
WhyRefused o NoMemory = AreAllButFilter o
