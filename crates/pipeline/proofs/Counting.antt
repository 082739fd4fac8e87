-- Blocks that are counted on both sides, and once both have ended, over plain numbers.
use Rattle.std.proofs.Common.{◌≡◌, ◌+◌, ◌-◌, ◌^◌, ◌≤◌, ℕ, min, sym, subst, arith}
use Rattle.block_pool.specs.PoolState.{PoolState, home}
use Rattle.rounds.specs.Benches.{HasRoom, MayBring}
use Rattle.rounds.specs.Handled.{FewPauses}
use Rattle.rounds.specs.RoundsState.{BenchState}

-- One side read on from `here` and has `home`; it sent `sent`, of which `first` was out as it began, and its arrivals brought blocks of
-- lists, none of which was there before. The other one has `list` left and gave `given` of what it got. Of what it didn't get `left` stay, and
-- `out` come back.
pub all_counted : {sent waiting taken taken' rest' none rested' taken'' was round read : ℕ} (home here first list given got left out rest : ℕ)
    → home + sent + (taken - rest) ≡ here + first + (taken' - rest') → list + given ≡ got + none → rest' ≤ taken' → taken ≡ 0 → none ≡ 0 → got + waiting ≡ sent → left + out ≡ waiting
    → rested' ≡ rest' → taken'' ≡ taken' → here ≡ was → first ≡ round + 0 → round ≡ read → home + list + rested' + given + left + out ≡ was + read + taken''
all_counted home here first list given got left out rest a b c d e f g h i j k l = omega arith

-- by their number, where each weighs 1
pub all_counts : {blocks new homes lists rests gave was : ℕ} (home list rest given left out stock read taken : ℕ) → homes + lists + rests + gave + left + out ≡ stock + read + taken
    → homes ≡ home → lists ≡ list → rests ≡ rest → gave ≡ given → stock ≡ was → was + read ≡ blocks → new ≡ blocks → home + list + rest + given ≤ new + taken
all_counts home list rest given left out stock read taken a b c d e f g h = omega arith

-- a sum more has them home, but for what stays
pub whole_home : {sum : ℕ} (mid taken left out stock read : ℕ) → mid + taken ≡ sum → sum + left + out ≡ stock + read + taken → mid + left + out ≡ stock + read
whole_home mid taken left out stock read a b = omega arith

pub room_left : {mids stock was blocks new : ℕ} (mid left out read : ℕ) → mids + left + out ≡ stock + read → mids ≡ mid → stock ≡ was → was + read ≡ blocks → new ≡ blocks → mid + left ≤ new
room_left mid left out read a b c d e = omega arith

-- pauses by the takes that were counted in the reading side's pass, where none was counted before
pub few_home : {asked' paused paused' first first' new new' old taken : ℕ} (asked : ℕ) → FewPauses asked paused asked' paused' → new ≡ paused' → paused ≡ first → new' ≡ min (old + taken) (2 ^ 64 - 1)
    → old ≡ first' → taken ≡ asked' → FewPauses first' first new' new
few_home asked a b c d e f = (omega (arith, a.0), omega (arith, a.0, a.1))

pub least_then : (a b c : ℕ) → a ≤ b → b ≤ c → a ≤ c
least_then a b c p q = omega arith

pub least_equal : (a b : ℕ) → b ≡ a → a ≤ b
least_equal a b e = omega arith

-- the places of the side that works, and a budget, by other names of the same numbers
pub least_same : (a b c : ℕ) → c ≡ b → a ≤ b → a ≤ c
least_same a b c e h = subst (λ (x : ℕ). a ≤ x) (sym e) h

pub most_same : (a b c : ℕ) → c ≡ a → a ≤ b → c ≤ b
most_same a b c e h = subst (λ (x : ℕ). x ≤ b) (sym e) h

pub room_later : (n home room room' : ℕ) → n ≤ room + home → room ≤ room' → n ≤ room' + home
room_later n home room room' a b = omega arith

pub room_back : (b i room kept home old : ℕ) → b ≡ i → b + b ≤ room + (kept + kept) → old + kept ≤ home → i + i ≤ room + (home + home)
room_back b i room kept home old e r l = omega arith

-- ---- the side that reads

-- a round more was read and sent: what is home, what was sent and what the arrivals was brought, against the same at first
pub read_more : {sent' bd br bl : ℕ} (home sent brought here first now mid rest n bb : ℕ) → home + sent + brought ≡ here + first + now → bd ≡ now → mid + bd ≡ home + bb → rest + n + bb ≡ mid + br
    → bl ≡ br → sent' ≡ sent + (n + 0) → rest + sent' + brought ≡ here + first + bl
read_more home sent brought here first now mid rest n bb a b c d e f = omega arith

-- or none
pub read_stopped : {bd : ℕ} (home sent brought here first now mid bb : ℕ) → home + sent + brought ≡ here + first + now → bd ≡ now → mid + bd ≡ home + bb → mid + sent + brought ≡ here + first + bb
read_stopped home sent brought here first now mid bb a b c = omega arith

-- how many packets were read, against the place up to which they were
pub packets_more : {p' n' : ℕ} (p len n budget : ℕ) → p ≤ n → p' ≡ p + (len + 0) → n' ≡ n + budget → len ≡ budget → p' ≤ n'
packets_more p len n budget a b c d = omega arith

pub number_more : {n' : ℕ} (k n budget : ℕ) → k ≤ n + 1 → n' ≡ n + budget → 1 ≤ budget → k + 1 ≤ n' + 1
number_more k n budget a b c = omega arith

-- ---- the side that works

-- a round came that fits the blocks, and has places
pub may_bring : {n : ℕ} (read blocks : ℕ) (bench : BenchState) (list : PoolState) → n ≡ read → read ≤ blocks → bench.blocks ≡ blocks → home list + read ≤ list.made → HasRoom 0 bench
    → MayBring n bench list
may_bring read blocks bench list a b c d e = record { out = omega arith; few = omega arith; room = omega arith }

-- a round came and was handled
pub came_more : {n read now : ℕ} (list given got none list' given' here last : ℕ) → list + given ≡ got + none → list' + given' ≡ list + given → here + last ≡ list' + n + given' → n ≡ read → now ≡ got + (read + 0)
    → here + last ≡ now + none
came_more list given got none list' given' here last a b c d e = omega arith

-- where none was left of those before, no more than its blocks are
pub left_last : {given given' n read last : ℕ} (list here : ℕ) → here + given' ≡ list + n + given → given ≤ given' → n ≡ read → last ≡ read → list ≤ 0 → here ≤ last
left_last list here a b c d e = omega arith

-- the places for it
pub room_kept : {blocks blocks' : ℕ} (room list here room' : ℕ) → blocks + blocks ≤ room + (0 + 0) → room + (list + list) ≤ room' + (here + here) → blocks' ≡ blocks → blocks' + blocks' ≤ room' + (here + here)
room_kept room list here room' a b c = omega arith

pub room_more : {blocks blocks' room' room'' blocks'' : ℕ} (room list here : ℕ) → blocks + blocks ≤ room + (0 + 0) → room + (list + list) ≤ room' + (here + here) → blocks' ≡ blocks
    → room' ≤ room'' → blocks'' ≡ blocks' → blocks'' + blocks'' ≤ room'' + (here + here)
room_more room list here a b c d e = omega arith
