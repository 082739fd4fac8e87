-- Places and items, one after the other.
use Rattle.std.proofs.Common.{◌≡◌, ℕ, zero, suc, ◌+◌, ◌-◌, ◌<◌, ◌≤◌, List, [], ◌∷◌, ◌++◌, length, get_or, map, drop, refl, sym, ap, ◌∙◌, subst, arith, append_assoc}
use Rattle.std.proofs.lemmas.List.{drop_more, append-nil, nil_from_length, length-drop}
use Rattle.gro_table.specs.declared.packet.Packet.{Packet as Held}
use Rattle.gro_table.specs.declared.packet_list.PacketList.{PacketList}
use Rattle.gro.specs.declared.slot.Slot.{Slot}
use Rattle.frame_runs.specs.declared.run.Run.{Run}
use Rattle.frame_runs.specs.declared.engine.Engine.{Engine}
use Rattle.gro_table.specs.declared.places.Places.{Places}
use Rattle.gro_table.specs.declared.item.Item.{Item}
use Rattle.gro_table.specs.Build.{pieces_in}
use Rattle.frame_runs.specs.Chains.{chain_of}
use Rattle.gro_table.specs.Held.{count_of, counts_of}
use Rattle.gro_table.specs.Places.{ArePlacesOf}
use Rattle.gro_table.specs.Lists.{held_of, ArePaired}
use Rattle.gro_table.specs.Table.{AreItemsFrom}
use Rattle.gro_table.specs.Totals.{total, totals}
use Rattle.gro_table.specs.Waiting.{chosen, lined_up, run_held, AreTogether}
use Rattle.frame_runs.proofs.Chains.{chain_step}
use Rattle.gro_table.proofs.Lining.{whole_at, counts_total, same_sums}

-- the pieces that packets come to are fewer than what they hold
pub pieces_few : (ps : List Held) → pieces_in ps ≤ counts_of ps
pieces_few [] = omega arith
pieces_few (p ∷ ps) = omega (arith, pieces_few ps)

one_of_all : (f : Held → ℕ) (g : Run → List Held) (rs : List Run) (i : ℕ) (d : Run) → i < length rs → total f (g (get_or rs i d)) ≤ totals f (map g rs)
one_of_all f g [] i d h = absurd (omega (arith, h))
one_of_all f g (r ∷ rs) zero d h = omega arith
one_of_all f g (r ∷ rs) (suc i) d h = omega (arith, one_of_all f g rs i d (omega (arith, h)))

-- those of one run are no more than all packets hold
pub pieces_at : (l : PacketList) (e : Engine) (i : ℕ) (r : Run) → AreTogether l e → r ≡ get_or e.runs.items i r → i < length e.runs.items
    → pieces_in (run_held l e.next.items r) ≤ counts_of (held_of l)
pieces_at l e i r a is h =
    omega (
      arith,
      pieces_few (run_held l e.next.items r),
      counts_total (run_held l e.next.items r),
      ap (λ (z : Run). total count_of (run_held l e.next.items z)) is,
      one_of_all count_of (run_held l e.next.items) e.runs.items i r h,
      same_sums l e a count_of,
      counts_total (held_of l),
    )

-- the pieces of a chain's first packet, and of those behind it
pub pieces_step : (l : PacketList) (next : List ℕ) (left k : ℕ) (d : Slot) → ArePaired l → 0 < left → k < length l.slots.items
    → pieces_in (chosen (lined_up l) (chain_of next left k))
    ≡ (length (get_or l.slots.items k d).skb.rest + 1) + pieces_in (chosen (lined_up l) (chain_of next (left - 1) (get_or next k 0)))
pieces_step l next left k d paired h inside =
    let rest : List ℕ = chain_of next (left - 1) (get_or next k 0) in
    let w = whole_at l.slots.items l.spares.items k d paired inside in
    ap (λ (z : List ℕ). pieces_in (chosen (lined_up l) z)) (chain_step next left k h)
    ∙ ap (λ (z : List Held). pieces_in (z ++ chosen (lined_up l) rest)) w.1

-- the run at a place comes first of those from there on
pub run_first : (rs : List Run) (i : ℕ) (r : Run) → i < length rs → r ≡ get_or rs i r → drop i rs ≡ r ∷ drop (i + 1) rs
run_first rs i r h e = drop_more rs i r h ∙ ap (λ (z : Run). z ∷ drop (i + 1) rs) (sym e)

pub no_places : (g : Run → List Held) (rs : List Run) (i : ℕ) → i < length rs → ArePlacesOf (map g (drop i rs)) [] → ⊥
no_places g [] i h a = absurd (omega (arith, h))
no_places g (r ∷ rs) zero h a = a
no_places g (r ∷ rs) (suc i) h a = no_places g rs i (omega (arith, h)) a

none_left : (rs : List Run) (n : ℕ) → n ≡ length rs → drop n rs ≡ []
none_left rs n e = nil_from_length (drop n rs) (omega (arith, length-drop n rs, e))

pub places_end : (g : Run → List Held) (rs : List Run) (all : List Places) (n : ℕ) → n ≡ length rs
    → ((qs : List Places) → ArePlacesOf (map g (drop n rs)) qs → ArePlacesOf (map g rs) (all ++ qs)) → ArePlacesOf (map g rs) all
places_end g rs all n e f =
    subst (ArePlacesOf (map g rs)) (append-nil all) (f [] (subst (λ (z : List Run). ArePlacesOf (map g z) []) (sym (none_left rs n e)) refl))

-- one item more
pub items_more : (all : List (List Held)) (hs : List Held) (hss : List (List Held)) (done more : List Item) (i : Item) → more ≡ done ++ i ∷ []
    → AreItemsFrom (hs ∷ []) (i ∷ []) → ((is : List Item) → AreItemsFrom (hs ∷ hss) is → AreItemsFrom all (done ++ is))
    → (is : List Item) → AreItemsFrom hss is → AreItemsFrom all (more ++ is)
items_more all hs hss done more i m one f js a =
    subst (AreItemsFrom all) (sym (append_assoc done (i ∷ []) js) ∙ ap (λ (z : List Item). z ++ js) (sym m)) (f (i ∷ js) (one.0, a))

pub items_end : (all : List (List Held)) (g : Run → List Held) (rs : List Run) (done : List Item) (n : ℕ) → n ≡ length rs
    → ((is : List Item) → AreItemsFrom (map g (drop n rs)) is → AreItemsFrom all (done ++ is)) → AreItemsFrom all done
items_end all g rs done n e f =
    subst (AreItemsFrom all) (append-nil done) (f [] (subst (λ (z : List Run). AreItemsFrom (map g z) []) (sym (none_left rs n e)) refl))
