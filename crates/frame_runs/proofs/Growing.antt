-- What an engine has received of a list, where that has one packet more.
use Rattle.std.proofs.Common.{◌≡◌, ℕ, ◌<◌, Option, Some, None, List, [], ◌∷◌, ◌++◌, length, map, refl, sym, ap, ◌∙◌, subst, arith, length-append}
use Rattle.std.specs.List.{AllByRecursion}
use Rattle.std.proofs.lemmas.List.{get_or_append_left}
use Rattle.pcap_io.specs.Capture.{Packet}
use Rattle.frame_runs.specs.declared.run.Run.{Run}
use Rattle.frame_runs.specs.declared.engine.Engine.{Engine}
use Rattle.frame_runs.specs.Chains.{behind, indices, packet_at, no_packet, run_of}
use Rattle.frame_runs.specs.Engine.{Knows, IsChain, runs_of, AreRuns}
use Rattle.frame_runs.specs.Index.{IsFound, IsIndexOf, IsLatest}
use Rattle.frame_runs.specs.Flows.{place_of}
use Rattle.frame_runs.proofs.Flowing.{flows_more, place_more}

latest_same : (look again : Option (List ℕ) → Option ℕ) → ((q : Option (List ℕ)) → again q ≡ look q) → (rs : List (List Packet)) (o : Option ℕ)
    → IsLatest look rs o → IsLatest again rs o
latest_same look again same rs None l = tt
latest_same look again same rs (Some i) l = (l.0, λ q b. same q ∙ l.1 q b)

module _ (ps : List Packet) (x : Packet) (i : ℕ) (e : Engine) (a : AreRuns ps i e) where
  abbrev links : List ℕ
  links = e.next.items

  same_at : (k : ℕ) → k < length ps → packet_at (ps ++ (x ∷ [])) k ≡ packet_at ps k
  same_at k h = get_or_append_left ps (x ∷ []) no_packet k h

  same_all : (ks : List ℕ) → AllByRecursion (λ k. k < length ps) ks → map (packet_at (ps ++ (x ∷ []))) ks ≡ map (packet_at ps) ks
  same_all [] h = refl
  same_all (k ∷ ks) h =
      ap (λ (z : Packet). z ∷ map (packet_at (ps ++ (x ∷ []))) ks) (same_at k h.0)
      ∙ ap (λ (z : List Packet). packet_at ps k ∷ z) (same_all ks h.1)

  inside_more : (ks : List ℕ) → AllByRecursion (λ k. k < length ps) ks → AllByRecursion (λ k. k < length (ps ++ (x ∷ []))) ks
  inside_more [] h = tt
  inside_more (k ∷ ks) h = (omega (arith, h.0, length-append ps (x ∷ [])), inside_more ks h.1)

  chain_more : (r : Run) → IsChain ps links r → IsChain (ps ++ (x ∷ [])) links r
  chain_more r c = record {
    knows = subst (λ (z : List Packet). Knows r (packet_at (ps ++ (x ∷ [])) r.first) z) (sym (same_all (behind links r) c.inside.1))
        (subst (λ (z : Packet). Knows r z (map (packet_at ps) (behind links r))) (sym (same_at r.first c.inside.0)) c.knows);
    last = c.last;
    inside = inside_more (indices links r) c.inside;
  }

  chains_more : (rs : List Run) → AllByRecursion (IsChain ps links) rs → AllByRecursion (IsChain (ps ++ (x ∷ [])) links) rs
  chains_more [] c = tt
  chains_more (r ∷ rs) c = (chain_more r c.0, chains_more rs c.1)

  runs_more : (rs : List Run) → AllByRecursion (IsChain ps links) rs → map (run_of (ps ++ (x ∷ [])) links) rs ≡ map (run_of ps links) rs
  runs_more [] c = refl
  runs_more (r ∷ rs) c =
      ap (λ (z : List Packet). z ∷ map (run_of (ps ++ (x ∷ [])) links) rs) (same_all (indices links r) c.0.inside)
      ∙ ap (λ (z : List (List Packet)). run_of ps links r ∷ z) (runs_more rs c.1)

  pub runs_stay : runs_of (ps ++ (x ∷ [])) e ≡ runs_of ps e
  runs_stay = runs_more e.runs.items a.each

  pub are_more : length ps < length links → AreRuns (ps ++ (x ∷ [])) i e
  are_more h = record {
    each = chains_more e.runs.items a.each;
    shared = a.shared;
    linked = omega (arith, h, length-append ps (x ∷ []));
    flows = flows_more ps x e.flows a.flows;
    index = λ q.
        let t = subst (IsIndexOf (place_of ps e.flows)) (sym runs_stay) a.index q in
        (t.0, (t.1.0, subst (λ (z : Option ℕ). IsFound (runs_of (ps ++ (x ∷ [])) e) t.0 z) (sym (place_more ps x e.flows a.flows q)) t.1.1));
    latest = latest_same (place_of ps e.flows) (place_of (ps ++ (x ∷ [])) e.flows) (place_more ps x e.flows a.flows) (runs_of (ps ++ (x ∷ [])) e) e.last
        (subst (λ (z : List (List Packet)). IsLatest (place_of ps e.flows) z e.last) (sym runs_stay) a.latest);
  }
