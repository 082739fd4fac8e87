-- The words that walks and their lemmas take from the logic and from the libraries below. No lemma stands here.

-- values and types of the machine
pub use mir.MapTy.{inst_fn}
pub use mir.Raw.{raw as bare}
pub use mir.Syntax.{Dict, a_type, dcons, dnil, impl, named, tcons, tnil, ty_int, ty_struct}
pub use mir.Val.{Val, of_list, vcons, vint, vnil, vptr, vstruct, vunit, WT, has_ty}
-- propositions, and the facts that they hold
pub use base.Fml.{Fml, GName, Lft, Share, feq, flft, fsep, ftrue, fdead, fex, ffalse, finv, fwand}
pub use base.Fraction.{full_share}
pub use base.FractionLaws.{Counts, Counts-all}
unfoldable pub use base.Growing.{at_least, latest}
pub use base.Logic.{SProp, emp, guard_i, id⊢, via, apply∗, ent, ex, fst∗, guard, never, never_e, sep, upd, upd_i, wand}
pub use base.Stored.{Gv}
pub use contract.BorrowLft.{⊑_static, ◌⊑◌, meet_⊑_left}
pub use contract.Monad.{fact, fact_i, fact_use}
pub use contract.Running.{tables}
unfoldable pub use contract.Running.{tables_of}
pub use mathlib.Core.Bool.{Bool, false, true}
pub use seplogic.Ra.Ura.{Ura}
pub use types.Logic.{sem, Logic}
pub use types.Owned.{basic}
-- running a body: statements, locals, and parts of a value
pub use Rattle.atomic_table.proofs.Calls.{exchanges, finds, fm, found}
pub use Rattle.atomic_table.proofs.Walks.{leaves, proved}
pub use Rattle.core.proofs.atomic.Steps.{tail}
pub use Rattle.core.specs.Sync.RawAtomic.{word}
pub use types.ByLocal.{alloc_all, env, free_all, get, get_in, is, lands_last, look_at, pass_all, sets, through}
pub use types.Part.{agg, look_in, sub, whole}
pub use types.Run.{Calls-last, addr, and_then, blocks, enter, exec, first, fld, lit, no_more, of_opd, returns, stop, unit_lit}
-- what a parameter owns, what becomes of it, and how it is stored
pub use Rattle.block_weight.specs.WeightRule.{full_weight, IsBalanced}
pub use Rattle.std_alloc.proofs.BoxSteps.Steps.{box_in, box_out}
pub use Rattle.std_heap.specs.contracts.GlobalAllocator.TheImpl.{dict, ghosts}
pub use denote.Builtin.{RefOf, u64, RawPtr}
pub use denote.Exit.{no, yes}
pub use denote.Laws.{shows, Is}
pub use denote.Memory.{cell_at, lone, part_at}
pub use denote.Param.{arg, bounded, layout, param}
pub use denote.Param.Laws.{Laws, arg_laws, param_laws}
pub use denote.Param.NoDrop.{glues}
pub use denote.Param.Send.{IsSend, IsSync, part_keyless, sendable}
pub use denote.Param.Shared.{copy_shared}
pub use denote.Plain.{uint_Tells, uint_vals}
pub use denote.RattleType.{RattleType, Valss, owns, RowLaws}
pub use denote.RawPtr.{InBlock, Ptr, at_block, block_of, block_ptr, count_of, ptr_val, null_ptr}
pub use denote.Ref.{MutRef, mut_Tells, mut_vals, shr_Tells, shr_vals}
pub use denote.SharingLaws.{contraction}
pub use denote.Signature.{plain, types_at}
pub use denote.Slice.{slice_val}
pub use denote.Steps.{closes, heard, nothing, only, opens, peeks}
pub use denote.Struct.Laws.{RawPtr-copy}
pub use denote.Struct.Members.{Member}
pub use denote.Struct.Owning.{shape}
pub use denote.Struct.Parts.{shape_of}
pub use denote.Struct.Struct.{within, Struct}
pub use denote.Triple.Clauses.{Lasts, lasts}
pub use denote.Triple.Entry.{alive}
pub use denote.Triple.Spec.{triple_of}
pub use denote.Triple.Walked.{Goes-dropped, Goes-ref, Stays, stay_dropped, stay_ref, walk_of}
