use Rattle.std.proofs.Common.{◌≡◌, ◌≢◌, ℕ, List, [], ◌∷◌, refl}
use types.Kit.{‵, raw, ◌⊛◌, given, ◌$◌, ◌∵◌, !, qed, by, move, keep, split, join, fsplit, fsplit3, fjoin, learn, use0, use2, feq_i, group}
use Rattle.raw_block.proofs.Walking.{sep, named, Val, vunit, SProp, emp, guard_i, ftrue, fsep, flft, sem, of_opd}
use Rattle.raw_block.proofs.Walking.{returns, enter, unit_lit, alloc_all, pass_all, free_all, look_at, sets, tables}
use Rattle.raw_block.proofs.Walking.{fact, fact_i, fact_use, RattleType, plain}
use Rattle.raw_block.proofs.Walking.{nothing, opens, closes, MutRef, mut_vals, mut_Tells, Stays, walk_of, stay_ref}
use Rattle.raw_block.proofs.Walking.{Goes-ref, proved, leaves}
use Rattle.raw_block.specs.Shares.{name_owns}
use Rattle.raw_block.proofs.Naming.{names_differ}
use Rattle.raw_block.specs.contracts.name.Name.differ.{ended, clauses}
use Rattle.raw_block.specs.contracts.name.Name.differ.Key.{name as #self}
use Rattle.raw_block.proofs.name.Name.differ.Statement.{statement}
use Rattle.raw_block.proofs.name.Name.differ.Code as code
use Rattle.raw_block.specs.contracts.name.Name as name

pub differ_spec : {M : Type 1} → statement M
differ_spec 𝓤 𝓛 𝓜 𝓡 wired =
    let H = 𝓛.H in let 𝓣 = tables 𝓤 H 𝓜 𝓡 𝓡.env in let En = ended in let c = clauses 𝓛 𝓜.mem 𝓡.returns in
    let fn = code.function in let closed = code.unfolded 𝓤 H 𝓜 𝓡 wired in
    let Nr : RattleType = name.the_row in let hs : Stays En.signature.params En.kept =
    (stay_ref (0 ∷ []) tt (plain (λ _. Nr)), (stay_ref (1 ∷ []) tt (plain (λ _. Nr)), tt)) in
    proved 𝓛 En hs c 𝓜 𝓡 (Goes-ref 𝓛 2 0 tt (plain (λ _. Nr)), (Goes-ref 𝓛 2 1 tt (plain (λ _. Nr)), tt)) #self fn closed
    (λ κs. (mut_vals, (mut_vals, tt))) (λ κs. (mut_Tells (named 0) κs.0 Nr, (mut_Tells (named 1) κs.1.0 Nr, tt))) (λ κs qs bounds a gh are.
    let b : ℕ = a.0.ref_ptr.0 in let o : ℕ = a.0.ref_ptr.1 in let h : Nr.Denot = a.0.now in let vs = mut_vals a.0 in
    let b' : ℕ = a.1.0.ref_ptr.0 in let o' : ℕ = a.1.0.ref_ptr.1 in let h' : Nr.Denot = a.1.0.now in let vs' = mut_vals a.1.0 in
    let y : (walk_of 𝓛 En hs c).Ghost = ((κs, qs, bounds, a, (vs, (vs', tt))), gh) in
    let Post : Val → SProp 𝓤 = (walk_of 𝓛 En hs c).post y in
    qed 𝓛 (((‵ (flft κs.0 qs.0) ⊛ ‵ (flft κs.1.0 qs.1.0) ⊛ ‵ ftrue) ⊛ ‵ ((MutRef (named 0) κs.0 Nr).own_val a.0 vs) ⊛ ‵ (fsep ((MutRef (named 1) κs.1.0 Nr).own_val a.1.0 vs') ftrue))
    ∷ raw ((c κs a).requires gh) ∷ []) ∵
    keep ! (0 ∷ []) $ split ! $ split ! $ move ! (1 ∷ []) $ split ! $ move ! (3 ∷ []) $ split ! $ move ! (1 ∷ []) $ fsplit ! $
    -- [theirs; true; mine; their token; true; my token]
    keep ! (2 ∷ 0 ∷ 5 ∷ 3 ∷ 4 ∷ []) $
    enter ! 𝓣.C 𝓣.Λ fn _ Post $ alloc_all ! (λ l. pass_all ! refl ((tt, tt), ((tt, tt), tt)) $
    -- [mine; theirs; my token; their token; true]
    fsplit3 ! $ move ! (1 ∷ 2 ∷ 4 ∷ []) $ opens ! tt Nr b o (λ us.
    move ! (6 ∷ []) $ fsplit3 ! $ move ! (1 ∷ 2 ∷ 9 ∷ []) $ opens ! tt Nr b' o' (λ ws.
    -- [the cell'; own'; the open borrow' in three; first part'; the cell; own; the open borrow in three; first part; true]
    move ! (7 ∷ []) $ fsplit ! $ move ! (3 ∷ []) $ fsplit ! $
    -- [fields'; id'; fields; id; ..]
    move ! (3 ∷ 1 ∷ []) $ use2 𝓛 (given (h.id ≢ h'.id) (‵ (name_owns h.id) ⊛ ‵ (name_owns h'.id)))
    (fact_use 𝓤 _ (names_differ 𝓛 h.id h'.id) (guard_i 𝓤 (h.id ≢ h'.id)
    (sep 𝓤 (sem 𝓛 (name_owns h.id)) (sem 𝓛 (name_owns h'.id))))) $ learn ! (λ other. split ! $
    -- [id; id'; fields'; fields; the cell'; the open borrow' in three; first part'; the cell; the open borrow in three; first part; true]
    move ! (2 ∷ 1 ∷ []) $ fjoin ! $ move ! (3 ∷ 0 ∷ 4 ∷ 5 ∷ 6 ∷ []) $ closes ! tt Nr h' ws b' o' $
    -- [two parts'; token'; id; fields; first part'; the cell; the open borrow in three; first part; true]
    move ! (5 ∷ 0 ∷ 1 ∷ []) $ group ! 3 $
    -- [theirs; token'; id; fields; the cell; the open borrow in three; first part; true]
    move ! (3 ∷ 2 ∷ []) $ fjoin ! $ move ! (3 ∷ 0 ∷ 4 ∷ 5 ∷ 6 ∷ []) $ closes ! tt Nr h us b o $
    -- [two parts; token; theirs; token'; first part; true]
    move ! (5 ∷ 0 ∷ 1 ∷ []) $ group ! 3 $
    -- [mine; token; theirs; token'; true]
    sets ! (of_opd ! (unit_lit !)) refl (tt, tt) $
    move ! (2 ∷ []) $ nothing ! $ move ! (1 ∷ 0 ∷ []) $ join ! $ move ! (1 ∷ 0 ∷ []) $ join ! $
    -- [both; token; token'; true]
    move ! (1 ∷ 2 ∷ 3 ∷ []) $ group ! 3 $
    feq_i ! (List Val) (vunit ∷ []) (vunit ∷ []) refl $ let Names : Type 0 = h.id ≢ h'.id in
    let Same : Type 0 = (h.id ≡ h.id) × (h'.id ≡ h'.id) in
    use0 𝓛 (raw (fact 𝓤 Same)) (fact_i 𝓤 Same (emp 𝓤) (refl, refl)) $ use0 𝓛 (raw (fact 𝓤 Names)) (fact_i 𝓤 Names (emp 𝓤) other) $ join ! $
    returns ! (look_at ! 0 refl) $ free_all ! refl $ keep ! (2 ∷ 3 ∷ 1 ∷ 0 ∷ []) $
    by ! (leaves 𝓛 En hs c y vunit tt (h, (h', tt)) (tt, (tt, tt))))))))
