-- What an engine has received of a list that grows.
use Rattle.std.proofs.Common.{◌≡◌, ℕ, ◌+◌, ◌-◌, ◌<◌, ◌≤◌, List, [], ◌∷◌, ◌++◌, length, map, take, drop, vec_len, vec_capacity, ◌∙◌}
use Rattle.std.proofs.Common.{sym, ap, subst, arith, append_assoc}
use Rattle.std.proofs.lemmas.List.{append-nil, length-append, length-take-le, take-append-drop, take-append-le, take-take}
use Rattle.std.proofs.lemmas.List.{length-map, take_all}
use Rattle.std.specs.List.{AllByRecursion}
use Rattle.maximal_runs.specs.Items.{first_number, AreItems}
use Rattle.pcap_io.specs.Capture.{Packet}
use Rattle.offload_model.specs.declared.limits.Limits.{Limits}
use Rattle.offload_model.specs.Mergeable.{IsMergeableWithin}
use Rattle.offload_model.specs.Rounds.{is_of, number_of, runs_within}
use Rattle.frame_runs.specs.declared.engine.Engine.{Engine}
use Rattle.frame_runs.specs.Engine.{AreRuns, HasReceived, runs_of}
use Rattle.frame_runs.specs.declared.lent.Lent.{Lent}
use Rattle.frame_runs.proofs.Growing.{are_more, runs_stay}
use Rattle.frame_runs.proofs.Merging.{all_received}
use Rattle.frame_bursts.specs.Kept.{HasRaw, Holds}
use Rattle.frame_bursts.specs.Links.{framed, raw_packet, IsHeld}
use Rattle.frame_bursts.specs.declared.kept.BurstEngine.{BurstEngine}
use Rattle.frame_bursts.specs.declared.link.Link.{Link}
use Rattle.frame_bursts.specs.declared.link.Link.TheVariants.{RawIp}

module _ (limits : Limits) (i : ℕ) (e : Engine) where
  one_more : (ps : List Packet) (x : Packet) → HasReceived limits ps i e → i ≤ length ps → length ps < length e.next.items
      → HasReceived limits (ps ++ (x ∷ [])) i e
  one_more ps x r below room =
      let same : runs_of (ps ++ (x ∷ [])) e ≡ runs_of ps e = runs_stay ps x i e r.are in
      let front : take i (ps ++ (x ∷ [])) ≡ take i ps = take-append-le i ps (x ∷ []) below in
      record {
        are = are_more ps x i e r.are room;
        runs = subst (AreItems (IsMergeableWithin limits) is_of number_of (take i (ps ++ (x ∷ [])))) (sym same)
            (subst (λ (z : List Packet). AreItems (IsMergeableWithin limits) is_of number_of z (runs_of ps e)) (sym front) r.runs);
        early = λ n all.
            subst (AllByRecursion (λ run. first_number number_of run < n)) (sym same)
            (r.early n (subst (AllByRecursion (λ (p : Packet). p.number < n)) front all));
      }

  many_more : (xs ps : List Packet) → HasReceived limits ps i e → i ≤ length ps
      → length ps + length xs ≤ length e.next.items → HasReceived limits (ps ++ xs) i e
  many_more [] ps r below room = subst (λ (z : List Packet). HasReceived limits z i e) (sym (append-nil ps)) r
  many_more (x ∷ xs) ps r below room =
      let long : length (ps ++ (x ∷ [])) ≡ length ps + 1 = length-append ps (x ∷ []) in
      subst (λ (z : List Packet). HasReceived limits z i e) (append_assoc ps (x ∷ []) xs)
      (many_more xs (ps ++ (x ∷ [])) (one_more ps x r below (omega (arith, room)))
      (omega (arith, long, below)) (omega (arith, long, room)))

  -- of a list at the front of which they stand
  pub received_front : (ps : List Packet) → HasReceived limits (take i ps) i e → i ≤ length ps
      → length ps ≤ length e.next.items → HasReceived limits ps i e
  received_front ps r below room =
      let all : take i ps ++ drop i ps ≡ ps = take-append-drop i ps in
      let front : length (take i ps) ≡ i = length-take-le i ps below in
      let both : length (take i ps ++ drop i ps) ≡ length (take i ps) + length (drop i ps)
      = length-append (take i ps) (drop i ps) in
      subst (λ (z : List Packet). HasReceived limits z i e) all
      (many_more (drop i ps) (take i ps) r (omega (arith, front)) (omega (arith, room, both, ap length all)))

pub front_twice : (n : ℕ) (ps : List Packet) → take n (take n ps) ≡ take n ps
front_twice n ps = take-take n n ps (omega arith)

-- ---- what an engine holds

module _ (fs : List Lent) (g : BurstEngine) (holds : Holds (map (framed g.link) fs) g) (some : 1 ≤ g.received) where
  abbrev framed_all : List Packet
  framed_all = map (framed g.link) fs

  same_count : g.received ≡ length framed_all
  same_count = sym holds.count

  pub are_runs : AreRuns framed_all (length fs) g.engine
  are_runs =
      subst (λ (z : ℕ). AreRuns framed_all z g.engine) (same_count ∙ length-map fs (framed g.link))
      (holds.has some).received.are

  pub runs_are : runs_of framed_all g.engine ≡ runs_within g.limits framed_all
  runs_are =
      all_received g.limits framed_all g.received g.engine (holds.has some).received
      (omega (arith, same_count)) holds.captured.rising

  module _ (raw : g.link ≡ RawIp) where
    has_raw : HasRaw RawIp (take g.received framed_all) g.raw.items (vec_len g.raw) (vec_capacity g.raw)
        (g.limit - g.received)
    has_raw =
        subst (λ (z : Link). HasRaw z (take g.received framed_all) g.raw.items (vec_len g.raw) (vec_capacity g.raw)
        (g.limit - g.received)) raw (holds.has some).raw

    pub raw_all : map raw_packet g.raw.items ≡ framed_all
    raw_all = has_raw.0 ∙ take_all g.received framed_all (omega (arith, same_count))

    pub raw_held : AllByRecursion IsHeld g.raw.items
    raw_held = has_raw.1.0

    pub raw_count_is : length g.raw.items ≡ length fs
    raw_count_is =
        omega (arith, ap length raw_all, length-map g.raw.items raw_packet, length-map fs (framed g.link))
