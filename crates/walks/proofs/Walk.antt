-- What a walk by hand names of the program logic, in one file.
pub use mathlib.Core.Path.{◌≡◌, refl, sym, ap, subst, ◌∙◌}
pub use Prim.Native.Nat.{ℕ, ◌+◌, ◌*◌, ◌<◌, ◌^◌}
pub use mathlib.Core.Bool.{Bool}
pub use mathlib.Core.List.{List, [], ◌∷◌}
pub use lib.ListN.{length, get_or, set}
pub use lib.Dec.{ltb→lt, nltb→le}
pub use seplogic.Ra.Ura.{Ura}
pub use base.Fraction.{left as PosShare·left}
pub use base.Fraction.{right as PosShare·right}
pub use base.Fraction.{full_share}
pub use mir.Syntax.{Callee, value_local, place, field, copy, rv_opd, assign, call, return, seq, Fn, named, erased, w8, w32, w64}
pub use mir.Val.{Val, Fits, vint, vbool, vptr}
pub use base.Logic.{SProp, ent, emp, id⊢, guard_i}
pub use base.Fml.{Lft, Share, Fml, ftrue, fsep, flft, fobor}
pub use prog.Memory.{Memory}
pub use prog.Routine.{Routine}
pub use prog.Wp.{Heap, Env, WpFn, Tables}
pub use ghost.Atoms.{Atoms}
pub use contract.Lifetimes.{Lfts}
pub use contract.Monad.{Fun, fact_i}
pub use contract.Running.{tables}
unfoldable pub use contract.Running.{tables_of}
pub use types.Logic.{Logic}
pub use types.Kit.{Item, given, learn, ‵, raw, ◌⊛◌, ◌$◌, ◌∵◌, !, Go, Seq, runs, qed, by, move}
pub use types.Kit.{keep, drop, split, join, use0, use1, use2, fsplit, fjoin, rewrite, at_ret}
pub use types.Part.{whole, sub, look_in, agg}
pub use types.Run.{look, look_raw, load, store, store_raw, assigns, assigns_last, forget, unit_lit, of_opd, bin, lit, addr, from, fld, hop}
pub use types.Run.{stop, and_then, no_more}
pub use denote.Laws.{Is}
pub use denote.Steps.{nothing, heard, owned}
pub use denote.Ref.{Bor, MutBor, NamedLft}
pub use denote.Signature.{types_at, plain, named_lft}
pub use denote.Slice.{slice_val, shr_slice_Lawful}
pub use native.Mathlib.Omega.{arith}
pub use borrow.Author.Rules.{scaled_Fits}
pub use denote.Builtin.{u8, u32, u64, usize, bool}
pub use denote.RattleType.{RattleType, owns}
pub use denote.Triple.Statement.{Triple}
pub use denote.Triple.Entry.{Args, Vals, alive, on_entry}
pub use denote.Triple.Clauses.{Clauses, at_exit, closing}
pub use denote.Triple.Spec.{Meets, triple_of}
pub use denote.Triple.Table.{entered, cited}
pub use denote.Triple.Walked.{Stays, stay_slice, Goes-slice, gave_slice, Goes-gave_slice, walk_of}
