-- Rounds that are worked in lanes: what is written of them.
use Rattle.std.proofs.Common.{◌≡◌, ℕ, Option, None, Some, List, [], ◌∷◌, ◌++◌, map, ◌+◌, refl, sym, ap, ◌∙◌, subst, arith}
use Rattle.std.specs.Prelude.{IfOk, OnOk, OnErr, MatchResult, Ok, Err}
use Rattle.std.specs.declared.result.Result.{Result}
use Rattle.std.specs.List.{flat_map}
use Rattle.std.proofs.lemmas.Grind.{flat_map-append}
use Rattle.std.specs.Io.KnownBytes.{Appends}
use Rattle.off_io.specs.Content.{AppendsPrefix}
use Rattle.off_io.proofs.Appending.{prefix_more}
use Rattle.off_io.proofs.Owing.{then_ok, then_err}
use Rattle.net_bytes.specs.declared.order.Order.{Order}
use Rattle.pcap_io.specs.Capture.{Packet}
use Rattle.offload_model.specs.Merged.{Merged}
use Rattle.offload_model.specs.Segments.{with_head}
use Rattle.offload_model.specs.Steps.{round_output}
use Rattle.offload_model.specs.Written.{Options, head_of, record_bytes, round_records}
use Rattle.taps.specs.Texts.{record_of_text}
use Rattle.lanes.specs.declared.lane.Lanes.{Lanes}
use Rattle.lanes.specs.Work.{lane_records, merged_in, records_of_queue, records_of_tap, records_of_texts}
use Rattle.records.specs.Records.{item_bytes}
use Rattle.rounds.specs.Lanes.{worked_records, queue_bytes, text_bytes, bytes_of_texts, tap_bytes, lanes_bytes, worked_bytes}
use Rattle.block_pool.specs.PoolState.{PoolState}
use Rattle.block_pool.specs.Giving.{GiverState, given_by, weights_given}
use Rattle.rounds.specs.Benches.{Brings, BringsBeside, Lends, MayBring}
use Rattle.rounds.proofs.Lending.{brings_rest, given_least, may_less}
use Rattle.rounds.specs.RoundsState.{BenchState, WorkedState}
use Rattle.rounds.specs.Weights.{weights_worked}

-- ---- the bytes of its records

both_parts : {A : Type 0} (a b x y : List A) → a ≡ b → x ≡ y → a ++ x ≡ b ++ y
both_parts a b x y e f = ap (λ z. z ++ x) e ∙ ap (λ z. b ++ z) f

flat_twice : {A B C : Type 0} (f : B → List C) (g : A → List B) (h : A → List C) (xs : List A) → ((x : A) → flat_map f (g x) ≡ h x) → flat_map f (flat_map g xs) ≡ flat_map h xs
flat_twice f g h [] e = refl
flat_twice f g h (x ∷ xs) e = flat_map-append f (g x) (flat_map g xs) ∙ both_parts (flat_map f (g x)) (h x) (flat_map f (flat_map g xs)) (flat_map h xs) (e x) (flat_twice f g h xs e)

items_are : (order : Order) (q : ℕ) (ms : List Merged) → flat_map (record_bytes order) (map (λ (m : Merged). with_head (head_of q m) m.packet) ms) ≡ flat_map (item_bytes order q) ms
items_are order q [] = refl
items_are order q (m ∷ ms) = ap (λ z. item_bytes order q m ++ z) (items_are order q ms)

texts_are : (order : Order) (t : ℕ) (texts : List Packet) → flat_map (record_bytes order) (map (record_of_text t) texts) ≡ flat_map (text_bytes order t) texts
texts_are order t [] = refl
texts_are order t (x ∷ texts) = ap (λ z. text_bytes order t x ++ z) (texts_are order t texts)

some_texts_are : (order : Order) (t : ℕ) (texts : Option (List Packet)) → flat_map (record_bytes order) (records_of_texts t texts) ≡ bytes_of_texts order t texts
some_texts_are order t None = refl
some_texts_are order t (Some texts) = texts_are order t texts

pub lanes_are : (order : Order) (lanes : Lanes) → flat_map (record_bytes order) (lane_records lanes) ≡ lanes_bytes order lanes
lanes_are order lanes =
    let queues = lanes.queues.items in
    let taps = lanes.taps.items in
    let bytes = record_bytes order in
    flat_map-append bytes (flat_map records_of_queue queues) (flat_map records_of_tap taps)
    ∙ both_parts (flat_map bytes (flat_map records_of_queue queues)) (flat_map (queue_bytes order) queues) (flat_map bytes (flat_map records_of_tap taps)) (flat_map (tap_bytes order) taps)
    (flat_twice bytes records_of_queue (queue_bytes order) queues (λ l. items_are order l.queue (merged_in l)))
    (flat_twice bytes records_of_tap (tap_bytes order) taps (λ l. some_texts_are order l.tap l.texts))

-- what is written of a round that was worked is what merging writes of it
pub worked_is : (options : Options) (order : Order) (ps : List Packet) (worked : WorkedState) → worked_records worked ≡ round_records options ps
    → worked_bytes order worked ≡ round_output options order ps
worked_is options order ps worked e = sym (lanes_are order worked.lanes) ∙ ap (flat_map (record_bytes order)) e

-- ---- a round that was worked, or not

bytes_at : {E : Type 0} (options : Options) (order : Order) (ps : List Packet) (r : Result WorkedState E) → IfOk r (λ w. worked_records w ≡ round_records options ps)
    → IfOk r (λ w. worked_bytes order w ≡ round_output options order ps)
bytes_at options order ps (Ok w) h = worked_is options order ps w h
bytes_at options order ps (Err e) h = tt

pub works_out : {E : Type 0} (options now : Options) (order : Order) (ps : List Packet) (r : Result WorkedState E) → now ≡ options → IfOk r (λ w. worked_records w ≡ round_records now ps)
    → IfOk r (λ w. worked_bytes order w ≡ round_output options order ps)
works_out options now order ps r same h = bytes_at options order ps r (subst (λ (o : Options). IfOk r (λ w. worked_records w ≡ round_records o ps)) same h)

pub may_put : {E : Type 0} (r : Result WorkedState E) (old new : BenchState) (p q : PoolState) (n : ℕ) (g g' : Option GiverState) → IfOk r (λ w. w.blocks + given_by g' ≡ n + given_by g) → Lends g g'
    → OnOk r ((new ≡ old) × (q ≡ p)) → MayBring n old p
    → IfOk r (λ w. MayBring w.blocks new q)
may_put (Ok w) old new p q n g g' size lends same may =
    let less = may_less w.blocks n old p (omega (arith, size, given_least g g' lends)) may in
    subst (λ (b : BenchState). MayBring w.blocks b q) (sym same.0) (subst (MayBring w.blocks old) (sym same.1) less)
may_put (Err e) old new p q n g g' size lends same may = tt

-- a round that was worked and put, or that there was no memory for, is home, but what went to others
pub brings_put : {E : Type 0} (r : Result WorkedState E) (old mid new : BenchState) (p q z : PoolState) (n : ℕ) (v : (ℕ → ℕ) → ℕ) (g g' : Option GiverState)
    → IfOk r (λ w. w.blocks + given_by g' ≡ n + given_by g) → IfOk r (λ w. (h : ℕ → ℕ) → weights_worked w h + weights_given g' h ≡ v h + weights_given g h)
    → OnOk r ((mid ≡ old) × (q ≡ p))
    → OnErr r (BringsBeside n v old mid p q g g') → MatchResult r (λ w. Brings w.blocks (weights_worked w) mid new q z) (λ _. (new ≡ mid) × (z ≡ q)) → BringsBeside n v old new p z g g'
brings_put (Ok w) old mid new p q z n v g g' size named same brings put =
    let own = weights_worked w in
    brings_rest w.blocks n own v old new p z g g' size named (subst (λ (b : BenchState). Brings w.blocks own b new p z) same.0 (subst (λ (x : PoolState). Brings w.blocks own mid new x z) same.1 put))
brings_put (Err e) old mid new p q z n v g g' size named same brings put =
    subst (λ (b : BenchState). BringsBeside n v old b p z g g') (sym put.0) (subst (λ (x : PoolState). BringsBeside n v old mid p x g g') (sym put.1) brings)

-- ---- one thing written behind another, of lists that are borrowed

pub ok_at : {T E : Type 0} (r : Result T E) (a b c : Option (List ℕ)) (xs ys vs ws : List ℕ) → xs ≡ vs → ys ≡ ws → Appends a b xs → OnOk r (Appends b c ys) → OnOk r (Appends a c (vs ++ ws))
ok_at r a b c xs ys vs ws e f p q = subst (λ (z : List ℕ). OnOk r (Appends a c (z ++ ws))) e (subst (λ (z : List ℕ). OnOk r (Appends a c (xs ++ z))) f (then_ok r a b c xs ys p q))

pub err_at : {T E : Type 0} (r : Result T E) (a b c : Option (List ℕ)) (xs ys vs ws : List ℕ) → xs ≡ vs → ys ≡ ws → Appends a b xs → OnErr r (AppendsPrefix b c ys)
    → OnErr r (AppendsPrefix a c (vs ++ ws))
err_at r a b c xs ys vs ws e f p q = subst (λ (z : List ℕ). OnErr r (AppendsPrefix a c (z ++ ws))) e (subst (λ (z : List ℕ). OnErr r (AppendsPrefix a c (xs ++ z))) f (then_err r a b c xs ys p q))

pub front_at : (a b : Option (List ℕ)) (xs vs ws : List ℕ) → xs ≡ vs → AppendsPrefix a b xs → AppendsPrefix a b (vs ++ ws)
front_at a b xs vs ws e h = prefix_more a b vs ws (subst (AppendsPrefix a b) e h)
