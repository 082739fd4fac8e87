-- Over a whole capture every flow comes back.
use Rattle.std.proofs.Common.{◌≡◌, ℕ, ◌<◌, ◌⊎◌, inl, inr, Bool, true, false, cond, Option, List, [], ◌∷◌, ◌++◌, length, map, take, refl, sym, ap, ◌∙◌, subst, arith}
use Rattle.std.specs.List.{flat_map, filter, AllByRecursion, range_with_len}
use Rattle.std.proofs.lemmas.List.{map-append, append-nil}
use Rattle.std.proofs.lemmas.List.Concat.{flat_map-append}
use Rattle.std.proofs.lemmas.List.Elements.{filter-append}
use Rattle.std.proofs.lemmas.Bool.{eq-eqb, ne_eqb}
use Rattle.maximal_runs.specs.Items.{begins_in, AreItems}
use Rattle.maximal_runs.proofs.Pass.{all_front, all_back}
use Rattle.frame_layout.specs.Key.{key_eq, key_of}
use Rattle.pcap_io.specs.Capture.{Packet}
use Rattle.offload_model.specs.Mergeable.{IsMergeable, up_to, IsMergeableWithin}
use Rattle.offload_model.specs.declared.limits.Limits.{Limits}
use Rattle.offload_model.specs.Segments.{packet_in, with_frame, segments_of}
use Rattle.offload_model.specs.Rounds.{Spread, is_of, is_queued, number_of, items_of, rounds_of}
use Rattle.offload_model.proofs.Shown.{all_shown}
use Rattle.offload_model.specs.Written.{Options, record_of, shown_of, window_of, windows_by, windows_of, round_records}
use Rattle.offload_model.specs.Captured.{IsCaptured, AreCaptured, content}
use Rattle.offload_model.specs.CaptureLaws.{FlowsComeBack}
use Rattle.offload_model.proofs.Lists.{filter-flat_map, flat_map_none, all_filtered, all_of, all_joined, all_range, one_of_range, rounds_are, all_rounds, all_taken, near_taken, near_behind}
use Rattle.offload_model.proofs.Items.{key_eq_self, key_eq_same, items_are}
use Rattle.offload_model.proofs.RunRecords.{runs_come_back, record_key, segments_are}

-- what holds of the runs of each flow holds of all runs, since each run is of some flow
of_all : (Q : List Packet → Type 0) (items : List (List Packet))
    → AllByRecursion (λ run. 0 < length run) items
    → ((key : Option (List ℕ)) → AllByRecursion Q (filter (begins_in (is_of key)) items)) → AllByRecursion Q items
of_all Q [] full q = tt
of_all Q ([] ∷ items) full q = absurd (omega (arith, full.0))
of_all Q ((p ∷ run) ∷ items) full q = (
  (subst (λ v. AllByRecursion Q (cond v ((p ∷ run) ∷ filter (begins_in (is_of (key_of p.frame))) items) (filter (begins_in (is_of (key_of p.frame))) items))) (key_eq_self (key_of p.frame))
      (q (key_of p.frame))).0,
  of_all Q items full.1 (λ key. rest (is_of key p) (filter (begins_in (is_of key)) items) (q key)),
)
  where
    rest : (v : Bool) (zs : List (List Packet)) → AllByRecursion Q (cond v ((p ∷ run) ∷ zs) zs) → AllByRecursion Q zs
    rest true zs a = a.1
    rest false zs a = a

each_run : (P : Packet → Type 0) (runs : List (List Packet)) → AllByRecursion P (flat_map (λ run. run) runs) → AllByRecursion (λ run. AllByRecursion P run) runs
each_run P [] a = tt
each_run P (run ∷ runs) a = (all_front P run (flat_map (λ u. u) runs) a, each_run P runs (all_back P run (flat_map (λ u. u) runs) a))

-- a run that a queue's items may have
pub record IsItem (run : List Packet) : Type 0 where
  pub full : 0 < length run
  pub allowed : (length run ≡ 1) ⊎ IsMergeable run
  pub captured : AllByRecursion IsCaptured run

zip : (P Q R : List Packet → Type 0) (runs : List (List Packet)) → AllByRecursion P runs → AllByRecursion Q runs → AllByRecursion R runs
    → ((run : List Packet) → P run → Q run → R run → IsItem run) → AllByRecursion IsItem runs
zip P Q R [] a b c f = tt
zip P Q R (run ∷ runs) a b c f = (f run a.0 b.0 c.0, zip P Q R runs a.1 b.1 c.1 f)

pub all_items : {limits : Limits} (xs : List Packet) (items : List (List Packet)) → AllByRecursion IsCaptured xs → AreItems (IsMergeableWithin limits) is_of number_of xs items → AllByRecursion IsItem items
all_items {limits} xs items captured i =
    zip (λ run. 0 < length run) (λ run. (length run ≡ 1) ⊎ IsMergeableWithin limits run) (λ run. AllByRecursion IsCaptured run) items
    i.full
    (of_all (λ run. (length run ≡ 1) ⊎ IsMergeableWithin limits run) items i.full (λ key. (i.flows key).each))
    (of_all (λ run. AllByRecursion IsCaptured run) items i.full (λ key.
    each_run IsCaptured (filter (begins_in (is_of key)) items)
    (subst (λ z. AllByRecursion IsCaptured z) (sym (i.flows key).joined) (all_filtered IsCaptured (is_of key) xs captured))))
    (λ run a b c. record { full = a; allowed = elim b [ inl one ↦ inl one | inr m ↦ inr m.0 ]; captured = c })

module _ (key : Option (List ℕ)) where
  abbrev pub has : Packet → Bool
  has r = is_of key (packet_in r)

  -- what comes back of this flow from some records
  abbrev pub back : List Packet → List (ℕ × List ℕ)
  back rs = map content (flat_map segments_of (filter has rs))

  pub back-append : (rs ss : List Packet) → back (rs ++ ss) ≡ back rs ++ back ss
  back-append rs ss =
      ap (λ z. map content (flat_map segments_of z)) (filter-append has rs ss)
      ∙ ap (map content) (flat_map-append segments_of (filter has rs) (filter has ss))
      ∙ map-append content (flat_map segments_of (filter has rs)) (flat_map segments_of (filter has ss))

  back-flat_map : {A : Type 0} (f : A → List Packet) (g : A → List Packet) (xs : List A) → AllByRecursion (λ x. back (f x) ≡ map content (g x)) xs
      → back (flat_map f xs) ≡ map content (flat_map g xs)
  back-flat_map f g [] a = refl
  back-flat_map f g (x ∷ xs) a =
      back-append (f x) (flat_map f xs)
      ∙ ap (λ z. z ++ back (flat_map f xs)) a.0
      ∙ ap (λ z. map content (g x) ++ z) (back-flat_map f g xs a.1)
      ∙ sym (map-append content (g x) (flat_map g xs))

  -- records without segments give nothing back
  back_none : (rs : List Packet) → AllByRecursion (λ r. segments_of r ≡ []) rs → back rs ≡ []
  back_none rs a = ap (map content) (flat_map_none segments_of (filter has rs) (all_filtered (λ r. segments_of r ≡ []) has rs a))

  -- the records of runs give back the runs of the flow
  back_items : (q : ℕ) (items : List (List Packet)) → AllByRecursion IsItem items
      → back (map (record_of q) items) ≡ map content (flat_map (λ run. run) (filter (begins_in (is_of key)) items))
  back_items q [] a = refl
  back_items q ([] ∷ items) a = absurd (omega (arith, a.0.full))
  back_items q ((p ∷ run) ∷ items) a =
      let r : Packet = record_of q (p ∷ run) in
      let same : has r ≡ is_of key p = ap (key_eq key) (record_key q p run a.0.captured a.0.allowed) in
      let rest : back (map (record_of q) items) ≡ map content (flat_map (λ u. u) (filter (begins_in (is_of key)) items)) = back_items q items a.1 in
      elim (is_of key p) as (λ v. has r ≡ v
      → map content (flat_map segments_of (filter has (r ∷ map (record_of q) items)))
      ≡ map content (flat_map (λ u. u) (cond v ((p ∷ run) ∷ filter (begins_in (is_of key)) items) (filter (begins_in (is_of key)) items)))) [
        | true ↦ λ e.
            ap (λ v. map content (flat_map segments_of (cond v (r ∷ filter has (map (record_of q) items)) (filter has (map (record_of q) items))))) e
            ∙ map-append content (segments_of r) (flat_map segments_of (filter has (map (record_of q) items)))
            ∙ ap (λ z. z ++ back (map (record_of q) items)) (runs_come_back q (p ∷ run) a.0.captured a.0.allowed)
            ∙ ap (λ z. map content (p ∷ run) ++ z) rest
            ∙ sym (map-append content (p ∷ run) (flat_map (λ u. u) (filter (begins_in (is_of key)) items)))
        | false ↦ λ e.
            ap (λ v. map content (flat_map segments_of (cond v (r ∷ filter has (map (record_of q) items)) (filter has (map (record_of q) items))))) e ∙ rest
      ] same

  back_queue : (segs : ℕ) (spread : Spread) (q : ℕ) (ps : List Packet) → AreCaptured ps → back (map (record_of q) (items_of segs spread q ps))
      ≡ map content (filter (is_of key) (filter (is_queued spread q) ps))
  back_queue segs spread q ps c =
      let i : AreItems (IsMergeableWithin (up_to segs)) is_of number_of (filter (is_queued spread q) ps) (items_of segs spread q ps) = items_are segs spread q ps c.rising in
      back_items q (items_of segs spread q ps) (all_items (filter (is_queued spread q) ps) (items_of segs spread q ps) (all_filtered IsCaptured (is_queued spread q) ps c.each) i)
      ∙ ap (map content) (i.flows key).joined

  -- ---- the flow's packets are all in its queue

  abbrev own : Spread → ℕ
  own spread = spread key

  pub own_queue : (spread : Spread) (ps : List Packet) → filter (is_of key) (filter (is_queued spread (own spread)) ps) ≡ filter (is_of key) ps
  own_queue spread [] = refl
  own_queue spread (p ∷ ps) = elim (is_of key p) as (λ v. is_of key p ≡ v
      → filter (is_of key) (filter (is_queued spread (own spread)) (p ∷ ps)) ≡ cond v (p ∷ filter (is_of key) ps) (filter (is_of key) ps)) [
        | true ↦ λ e.
            let same : key ≡ key_of p.frame = key_eq_same key (key_of p.frame) e in
            let queued : is_queued spread (own spread) p ≡ true = eq-eqb (spread (key_of p.frame)) (spread key) (ap spread (sym same)) in
            rw queued (rw e (ap (λ z. p ∷ z) (own_queue spread ps)))
        | false ↦ λ e. elim (is_queued spread (own spread) p) as (λ w. filter (is_of key) (cond w (p ∷ filter (is_queued spread (own spread)) ps) (filter (is_queued spread (own spread)) ps))
            ≡ filter (is_of key) ps) [
              | true ↦ rw e (own_queue spread ps)
              | false ↦ own_queue spread ps
            ]
      ] refl

  pub other_queue : (spread : Spread) (q : ℕ) (ps : List Packet) → (q ≡ own spread → ⊥) → filter (is_of key) (filter (is_queued spread q) ps) ≡ []
  other_queue spread q [] n = refl
  other_queue spread q (p ∷ ps) n = elim (is_of key p) as (λ v. is_of key p ≡ v → filter (is_of key) (filter (is_queued spread q) (p ∷ ps)) ≡ []) [
    | true ↦ λ e.
        let same : key ≡ key_of p.frame = key_eq_same key (key_of p.frame) e in
        let queued : is_queued spread q p ≡ false = ne_eqb (spread (key_of p.frame)) q (λ h. n (sym h ∙ ap spread (sym same))) in
        rw queued (other_queue spread q ps n)
    | false ↦ λ e. elim (is_queued spread q p) as (λ w. filter (is_of key) (cond w (p ∷ filter (is_queued spread q) ps) (filter (is_queued spread q) ps)) ≡ []) [
      | true ↦ rw e (other_queue spread q ps n)
      | false ↦ other_queue spread q ps n
    ]
  ] refl

  back_queues : (segs : ℕ) (spread : Spread) (queues : ℕ) (ps : List Packet) → spread key < queues → AreCaptured ps
      → back (flat_map (λ q. map (record_of q) (items_of segs spread q ps)) (range_with_len 0 queues)) ≡ map content (filter (is_of key) ps)
  back_queues segs spread queues ps below c =
      back-flat_map (λ q. map (record_of q) (items_of segs spread q ps)) (λ q. filter (is_of key) (filter (is_queued spread q) ps)) (range_with_len 0 queues)
      (all_range (λ q. back (map (record_of q) (items_of segs spread q ps)) ≡ map content (filter (is_of key) (filter (is_queued spread q) ps))) queues (λ q l. back_queue segs spread q ps c))
      ∙ ap (map content)
      (one_of_range (λ q. filter (is_of key) (filter (is_queued spread q) ps)) (own spread) queues below (λ q n. other_queue spread q ps n)
      ∙ own_queue spread ps)

  -- ---- windows

  window_none : (t : ℕ) (p : Packet) (window : List ℕ) → IsCaptured p → AllByRecursion (λ r. segments_of r ≡ []) (windows_by t p window)
  window_none t p [] c = tt
  window_none t p (b ∷ bytes) c = (
    segments_are (record { version = 2; kind = 2; modes = 0; lane = t; n = 0; m = 0; number = p.number }) (with_frame p (b ∷ bytes)) (record {
      version = refl;
      n = omega arith;
      m = omega arith;
      number = c.number;
    }),
    tt,
  )

  back_windows : (snap taps : ℕ) (ps : List Packet) → AllByRecursion IsCaptured ps → back (flat_map (λ t. windows_of snap t ps) (range_with_len 0 taps)) ≡ []
  back_windows snap taps ps c =
      back_none (flat_map (λ t. windows_of snap t ps) (range_with_len 0 taps))
      (all_joined (λ r. segments_of r ≡ []) (λ t. windows_of snap t ps) (range_with_len 0 taps)
      (all_range (λ t. AllByRecursion (λ r. segments_of r ≡ []) (windows_of snap t ps)) taps (λ t l.
      all_joined (λ r. segments_of r ≡ []) (λ p. windows_by t p (window_of snap t p.frame)) ps
      (all_of IsCaptured (λ p. AllByRecursion (λ r. segments_of r ≡ []) (windows_by t p (window_of snap t p.frame))) ps (λ p k. window_none t p (window_of snap t p.frame) k) c))))

  back_round : (o : Options) (ps : List Packet) → o.spread key < o.queues → AreCaptured ps → back (round_records o ps) ≡ map content (filter (is_of key) ps)
  back_round o ps below c =
      back-append (flat_map (λ q. map (record_of q) (items_of o.segs o.spread q ps)) (range_with_len 0 o.queues)) (flat_map (λ t. windows_of o.snap t (map (shown_of o.filter) ps))
      (range_with_len 0 o.taps))
      ∙ ap (λ z. back (flat_map (λ q. map (record_of q) (items_of o.segs o.spread q ps)) (range_with_len 0 o.queues)) ++ z) (back_windows o.snap o.taps (map (shown_of o.filter) ps)
      (all_shown o.filter ps c.each))
      ∙ append-nil (back (flat_map (λ q. map (record_of q) (items_of o.segs o.spread q ps)) (range_with_len 0 o.queues)))
      ∙ back_queues o.segs o.spread o.queues ps below c

pub front_captured : (n : ℕ) (ps : List Packet) → AreCaptured ps → AreCaptured (take n ps)
front_captured n ps c = record { each = all_taken IsCaptured n ps c.each; rising = near_taken (λ p q. p.number < q.number) n ps c.rising }

pub behind_captured : (p : Packet) (ps : List Packet) → AreCaptured (p ∷ ps) → AreCaptured ps
behind_captured p ps c = record { each = c.each.1; rising = near_behind (λ p q. p.number < q.number) p ps c.rising }

pub rounds_captured : (budget : ℕ) (ps : List Packet) → AreCaptured ps → AllByRecursion AreCaptured (rounds_of budget ps)
rounds_captured budget ps c = all_rounds AreCaptured front_captured behind_captured budget ps c

pub flows_come_back : FlowsComeBack
flows_come_back o ps lawful c key =
    back-flat_map key (round_records o) (λ round. filter (is_of key) round) (rounds_of o.budget ps)
    (all_of AreCaptured (λ round. back key (round_records o round) ≡ map content (filter (is_of key) round)) (rounds_of o.budget ps) (λ round k. back_round key o round (lawful.below key) k)
    (rounds_captured o.budget ps c))
    ∙ ap (map content) (sym (filter-flat_map (is_of key) (λ round. round) (rounds_of o.budget ps)) ∙ ap (filter (is_of key)) (rounds_are o.budget ps lawful.budget))
