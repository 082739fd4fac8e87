-- What is said of all runs of an engine.
use Rattle.std.proofs.Common.{zero, suc, ◌≡◌, ℕ, ◌+◌, ◌-◌, ◌<◌, ◌≤◌, List, [], ◌∷◌}
use Rattle.std.proofs.Common.{◌++◌, length, map, take, drop}
use Rattle.std.proofs.Common.{set, get_or, inl, inr, refl, sym, ap, ◌∙◌, subst, arith}
use Rattle.std.specs.List.{AllByRecursion}
use Rattle.std.proofs.lemmas.Bool.{cases_lt}
use Rattle.std.proofs.lemmas.List.{append-nil, get_or_default, get_or-set_other, get_or-set_same, length-map}
use Rattle.std.proofs.lemmas.List.{length-take-le, take-append-drop, get_or_append_left}
use Rattle.pcap_io.specs.Capture.{Packet}
use Rattle.offload_model.specs.Captured.{AreCaptured}
use Rattle.offload_model.specs.CaptureLaws.{RunsComeBack}
use Rattle.offload_model.specs.declared.limits.Limits.{Limits}
use Rattle.offload_model.specs.Merged.{merged_of}
use Rattle.offload_model.specs.Rounds.{runs_within}
use Rattle.offload_model.proofs.Flows.{IsItem, all_items}
use Rattle.offload_model.proofs.Items.{within_are}
use Rattle.frame_runs.specs.declared.run.Run.{Run}
use Rattle.frame_runs.specs.declared.engine.Engine.{Engine}
use Rattle.frame_runs.specs.Chains.{behind, chain_of, indices, run_of, packet_at, index_sums}
use Rattle.frame_runs.specs.Engine.{Knows, IsChain, AreRuns, runs_of}
use Rattle.frame_bursts.specs.declared.link.Link.{Link}
use Rattle.frame_runs.specs.MergedRun.{payloads_behind}
use Rattle.frame_runs.proofs.Chains.{sum_ones}
use Rattle.frame_runs.proofs.Payloads.{chain_at, slot_at}
use Rattle.frame_bursts.specs.declared.told.BurstRun.{BurstRun}
use Rattle.frame_bursts.specs.Burst.{SaysOn, Told, Merges, ComesBack, indices_of, frames_of}

-- ---- there are no more runs than packets

runs_few : (next : List ℕ) (rs : List Run) → length rs ≤ index_sums (λ k. 1) (map (indices next) rs)
runs_few next [] = omega arith
runs_few next (r ∷ rs) = omega (arith, runs_few next rs)

pub few_runs : (ps : List Packet) (n : ℕ) (e : Engine) → AreRuns ps n e → length e.runs.items ≤ n
few_runs ps n e are = omega (arith, runs_few e.next.items e.runs.items, are.shared (λ k. 1), sum_ones n)

-- ---- chains in lists that are the same below n

abbrev Agree : ℕ → List ℕ → List ℕ → Type 0
Agree n xs ys = (k : ℕ) → k < n → get_or xs k 0 ≡ get_or ys k 0

chains_agree : (n : ℕ) (xs ys : List ℕ) → Agree n xs ys → (count k : ℕ)
    → AllByRecursion (λ j. j < n) (chain_of xs count k) → chain_of xs count k ≡ chain_of ys count k
chains_agree n xs ys a zero k h = refl
chains_agree n xs ys a (suc count) k h =
    ap (λ (z : List ℕ). k ∷ z)
    (chains_agree n xs ys a count (get_or xs k 0) h.1 ∙ ap (λ (z : ℕ). chain_of ys count z) (a k h.0))

same_indices : (n : ℕ) (xs ys : List ℕ) → Agree n xs ys → (run : Run) (r : BurstRun)
    → AllByRecursion (λ j. j < n) (indices xs run) → r.first ≡ run.first → r.n ≡ run.more + 1
    → indices_of ys r ≡ indices xs run
same_indices n xs ys a run r h f m =
    let more : r.n - 1 ≡ run.more = omega (arith, m) in
    ap (λ (z : ℕ). z ∷ chain_of ys (r.n - 1) (get_or ys z 0)) f
    ∙ ap (λ (z : ℕ). run.first ∷ chain_of ys z (get_or ys run.first 0)) more
    ∙ ap (λ (z : List ℕ). run.first ∷ z)
    (ap (λ (z : ℕ). chain_of ys run.more z) (sym (a run.first h.0))
    ∙ sym (chains_agree n xs ys a run.more (get_or xs run.first 0) h.1))

-- ---- lists, entry by entry

pairwise : {A B C : Type 0} (F : A → C) (G : B → C) (xs : List A) (ys : List B) → length ys ≤ length xs
    → ((i : ℕ) (a : A) (b : B) → i < length ys → F (get_or xs i a) ≡ G (get_or ys i b))
    → map F (take (length ys) xs) ≡ map G ys
pairwise F G xs [] h f = refl
pairwise F G [] (y ∷ ys) h f = absurd (omega (arith, h))
pairwise {A} {B} {C} F G (x ∷ xs) (y ∷ ys) h f =
    ap (λ (z : C). z ∷ map F (take (length ys) xs)) (f 0 x y (omega arith))
    ∙ ap (λ (z : List C). G y ∷ z)
    (pairwise F G xs ys (omega (arith, h)) (λ i a b l. f (suc i) a b (omega (arith, l))))

each_taken : {A B : Type 0} (P : A → Type 0) (xs : List A) (ys : List B) → length ys ≤ length xs
    → ((i : ℕ) (a : A) (b : B) → i < length ys → P (get_or xs i a)) → AllByRecursion P (take (length ys) xs)
each_taken P xs [] h f = tt
each_taken P [] (y ∷ ys) h f = absurd (omega (arith, h))
each_taken P (x ∷ xs) (y ∷ ys) h f = (
  f 0 x y (omega arith),
  each_taken P xs ys (omega (arith, h)) (λ i a b l. f (suc i) a b (omega (arith, l))),
)

-- ---- all that is said

module _ (link : Link) (limits : Limits) (ps : List Packet) (e : Engine) (next : List ℕ) (outs : List BurstRun)
    (are : AreRuns ps (length ps) e) (runs : runs_of ps e ≡ runs_within limits ps)
    (agree : (k : ℕ) → k < length ps → get_or e.next.items k 0 ≡ get_or next k 0)
    (room : length e.runs.items ≤ length outs)
    (told : (i : ℕ) (d : Run) (o : BurstRun) → i < length e.runs.items
    → Told link ps e.next.items (get_or e.runs.items i d) (get_or outs i o))
  where
    same_at : (i : ℕ) (o : BurstRun) (d : Run) → i < length e.runs.items
        → indices_of next (get_or outs i o) ≡ indices e.next.items (get_or e.runs.items i d)
    same_at i o d h =
        let t = told i d o h in
        same_indices (length ps) e.next.items next agree (get_or e.runs.items i d) (get_or outs i o)
        (chain_at ps (length ps) e i d are h).inside t.first t.more

    frames_at : (i : ℕ) (o : BurstRun) (d : Run) → i < length e.runs.items
        → frames_of ps next (get_or outs i o) ≡ run_of ps e.next.items (get_or e.runs.items i d)
    frames_at i o d h = ap (map (packet_at ps)) (same_at i o d h)

    says_at : (i : ℕ) (o : BurstRun) (d : Run) → i < length e.runs.items
        → SaysOn link (get_or outs i o) (frames_of ps next (get_or outs i o))
    says_at i o d h = subst (SaysOn link (get_or outs i o)) (sym (frames_at i o d h)) (told i d o h).says

    pub merged : (n : ℕ) → n ≡ length e.runs.items → Merges link limits ps next (take n outs)
    merged n same = subst (λ (z : ℕ). Merges link limits ps next (take z outs)) (sym same) (record {
      runs = pairwise (frames_of ps next) (run_of ps e.next.items) outs e.runs.items room frames_at ∙ runs;
      each = each_taken (λ r. SaysOn link r (frames_of ps next r)) outs e.runs.items room says_at;
      once = λ f. ap (index_sums f) (pairwise (indices_of next) (indices e.next.items) outs e.runs.items room same_at)
          ∙ are.shared f;
    })

-- a list's first n entries, copied over those of another
pub copied : (n : ℕ) (xs ys new rest : List ℕ) → ys ≡ xs → new ≡ take n ys → n ≤ length xs → (k : ℕ) → k < n
    → get_or xs k 0 ≡ get_or (new ++ rest) k 0
copied n xs ys new rest same is long k h =
    let e : new ≡ take n xs = is ∙ ap (take n) same in
    let l : length new ≡ n = ap length e ∙ length-take-le n xs long in
    ap (λ (z : List ℕ). get_or z k 0) (sym (take-append-drop n xs))
    ∙ get_or_append_left (take n xs) (drop n xs) 0 k (omega (arith, h, length-take-le n xs long))
    ∙ ap (λ (z : List ℕ). get_or z k 0) (sym e)
    ∙ sym (get_or_append_left new rest 0 k (omega (arith, h, l)))

-- ---- what a run comes to

pub alone_frame : (p : Packet) (rest : List Packet) (headers : List ℕ) → length rest ≡ 0
    → take 0 headers ++ payloads_behind 0 (p ∷ rest) ≡ (merged_of (p ∷ rest)).packet.frame
alone_frame p [] headers e = append-nil p.frame
alone_frame p (x ∷ xs) headers e = absurd (omega (arith, e))

-- the first frame of a run, and what is known of it
module _ {A : Type 0} (link : Link) (packet : A → Packet) (fs : List A) (e : Engine) (i : ℕ) (run : Run)
    (are : AreRuns (map packet fs) (length fs) e)
    (h : i < length e.runs.items) (run_is : run ≡ get_or e.runs.items i run) where
  abbrev ps : List Packet
  ps = map packet fs

  abbrev others : List Packet
  others = map (packet_at ps) (behind e.next.items run)

  chain : IsChain ps e.next.items run
  chain = subst (IsChain ps e.next.items) (sym run_is) (chain_at ps (length fs) e i run are h)

  pub first_below : run.first < length fs
  first_below = omega (arith, chain.inside.0, length-map fs packet)

  module _ (first : A) (is : first ≡ get_or fs run.first first) where
    same : packet_at ps run.first ≡ packet first
    same = slot_at packet fs run.first first first_below is

    pub knows_at : Knows run (packet first) others
    knows_at = subst (λ (z : Packet). Knows run z others) same chain.knows

    -- so what is said of it is said of the run
    pub told_at : (r : BurstRun) → r.first ≡ run.first → r.n ≡ run.more + 1
        → ((rest : List Packet) → Knows run (packet first) rest → SaysOn link r (packet first ∷ rest))
        → (d : Run) → Told link ps e.next.items (get_or e.runs.items i d) r
    told_at r f m says d =
        subst (λ (z : Run). Told link ps e.next.items z r) (run_is ∙ get_or_default e.runs.items i run d h) (record {
          first = f;
          more = m;
          says = subst (λ (z : Packet). SaysOn link r (z ∷ others)) (sym same) (says others knows_at);
        })

-- ---- a loop over runs

pub told_more : (link : Link) (ps : List Packet) (next : List ℕ) (items : List Run) (outs : List BurstRun) (i : ℕ) (x : BurstRun)
    → i < length outs
    → ((k : ℕ) (d : Run) (o : BurstRun) → k < i → Told link ps next (get_or items k d) (get_or outs k o))
    → ((d : Run) → Told link ps next (get_or items i d) x)
    → (k : ℕ) (d : Run) (o : BurstRun) → k < i + 1 → Told link ps next (get_or items k d) (get_or (set outs i x) k o)
told_more link ps next items outs i x inside before own k d o h = elim (cases_lt k i) [
  | inl l ↦
      subst (λ (z : BurstRun). Told link ps next (get_or items k d) z)
      (sym (get_or-set_other outs i k x o (omega (arith, l)))) (before k d o l)
  | inr r ↦
      let e : i ≡ k = omega (arith, h, r) in
      subst (λ (z : ℕ). Told link ps next (get_or items z d) (get_or (set outs i x) z o)) e
      (subst (λ (z : BurstRun). Told link ps next (get_or items i d) z) (sym (get_or-set_same outs i x o inside)) (own d))
]

-- ---- what comes back

all_back : RunsComeBack → (runs : List (List Packet)) → AllByRecursion IsItem runs → AllByRecursion ComesBack runs
all_back law [] a = tt
all_back law (run ∷ runs) a = (law 0 run a.0.captured a.0.allowed, all_back law runs a.1)

all_mapped : {A B : Type 0} (P : B → Type 0) (F : A → B) (xs : List A) → AllByRecursion P (map F xs)
    → AllByRecursion (λ x. P (F x)) xs
all_mapped P F [] a = tt
all_mapped P F (x ∷ xs) a = (a.0, all_mapped P F xs a.1)

pub all_come_back : (link : Link) (limits : Limits) (ps : List Packet) (next : List ℕ) (told : List BurstRun) → RunsComeBack
    → Merges link limits ps next told → AreCaptured ps → AllByRecursion (λ r. ComesBack (frames_of ps next r)) told
all_come_back link limits ps next told law m c =
    all_mapped ComesBack (frames_of ps next) told
    (subst (AllByRecursion ComesBack) (sym m.runs)
    (all_back law (runs_within limits ps) (all_items ps (runs_within limits ps) c.each (within_are limits ps c.rising))))
