-- What a walk by hand asks of a type whose values are one machine value each.
--     Spelled R        the machine value, that it can be no other, and that it is of the MIR's type.        Plain R      of plain data also: what is
--     owned is had for nothing
--     number, truth, nil, struct, enum, mutable, shared, reference     of the types that there are
--     Spelleds, Plains, spells, tells, lawful, makes       of a list of types
-- Assumes nothing.
use mathlib.Core.List.{List, [], ◌∷◌}
use lib.ListN.{length}
use seplogic.Ra.Ura.{Ura}
use mir.Syntax.{Width, Lifetime}
use mir.Val.{Val, vint, vbool, vunit, vptr}
use base.Fml.{Lft}
use types.Logic.{Logic}
use denote.RattleType.{RattleType}
use denote.Laws.{Is, Typed, Tells, Makes, Lawful, Spells, Tellss, Lawfuls, Makess, Ises}
use denote.Plain.{UInt, Boolean, uint_Tells, uint_Lawful, uint_Makes, bool_Tells, bool_Lawful, bool_Makes, Nothing, Nothing-Tells, Nothing-Lawful}
use denote.Plain.{Nothing-Makes}
use denote.Ref.{MutRef, mut_Tells, mut_Lawful}
use denote.Slice.{MutSlice, ShrSlice, slice_val, mut_slice_Tells, shr_slice_Tells, mut_slice_Lawful, shr_slice_Lawful}
use denote.Struct.Declared as SD
use denote.Struct.Struct.{Plains as Plainly}
use denote.Struct.Laws as LL
use denote.Enum.Declared as ED
use denote.Enum.Enum.{Few, Plainss}
use denote.Enum.Laws as EL

pub record Spelled (R : RattleType) : Type 2 where
  pub val : R.Denot → Val
  pub tells : Tells R (Is R) (λ x. val x ∷ [])
  pub lawful : {M : Type 1} {𝓤 : Ura M} (𝓛 : Logic 𝓤) → Lawful 𝓛 R

pub record Plain (R : RattleType) : Type 2 where
  pub spelled : Spelled R
  pub makes : {M : Type 1} {𝓤 : Ura M} (𝓛 : Logic 𝓤) → Makes 𝓛 R (Is R)

abbrev pub number : (w : Width) → Plain (UInt w)
number w = record {
  spelled = record { val = vint w; tells = uint_Tells w; lawful = λ 𝓛. uint_Lawful 𝓛 w };
  makes = λ 𝓛. uint_Makes 𝓛 w;
}

abbrev pub truth : Plain Boolean
truth = record { spelled = record { val = vbool; tells = bool_Tells; lawful = bool_Lawful }; makes = bool_Makes }

abbrev pub nil : Plain Nothing
nil = record { spelled = record { val = λ _. vunit; tells = Nothing-Tells; lawful = Nothing-Lawful }; makes = Nothing-Makes }

abbrev pub mutable : (ℓ : Lifetime) (κ : Lft) (R : RattleType) → Spelled (MutSlice ℓ κ R)
mutable ℓ κ R = record {
  val = λ x. slice_val x.ref_ptr (length x.now);
  tells = mut_slice_Tells ℓ κ R;
  lawful = λ 𝓛. mut_slice_Lawful 𝓛 ℓ κ R;
}

abbrev pub shared : (ℓ : Lifetime) (κ : Lft) (R : RattleType) → Spelled (ShrSlice ℓ κ R)
shared ℓ κ R = record {
  val = λ x. slice_val x.ref_ptr (length x.now);
  tells = shr_slice_Tells ℓ κ R;
  lawful = λ 𝓛. shr_slice_Lawful 𝓛 ℓ κ R;
}

abbrev pub reference : (ℓ : Lifetime) (κ : Lft) (R : RattleType) → Spelled (MutRef ℓ κ R)
reference ℓ κ R = record {
  val = λ x. vptr x.ref_ptr.0 x.ref_ptr.1;
  tells = mut_Tells ℓ κ R;
  lawful = λ 𝓛. mut_Lawful 𝓛 ℓ κ R;
}

abbrev pub struct : (T : SD.Declared) → LL.Laws T → Plainly (SD.fields T) → Plain (SD.row T)
struct T L pl = record {
  spelled = record { val = LL.val T L; tells = LL.tells T L; lawful = λ 𝓛. LL.lawful T L 𝓛 };
  makes = λ 𝓛. LL.makes T pl 𝓛;
}

abbrev pub enum : (T : ED.Declared) → EL.Laws T → Few (ED.shape T) → Plainss (ED.variants T) → Plain (ED.row T)
enum T L few pl = record {
  spelled = record { val = EL.val T L; tells = EL.tells T L; lawful = λ 𝓛. EL.lawful T L 𝓛 few };
  makes = λ 𝓛. EL.makes T pl 𝓛;
}

-- ---- of a list of types
abbrev pub Spelleds : List RattleType → Type 2
Spelleds [] = Unit {2}
Spelleds (R ∷ Rs) = Spelled R × Spelleds Rs

abbrev pub Plains : List RattleType → Type 2
Plains [] = Unit {2}
Plains (R ∷ Rs) = Plain R × Plains Rs

abbrev pub spelleds : (Rs : List RattleType) → Plains Rs → Spelleds Rs
spelleds [] ps = tt
spelleds (R ∷ Rs) ps = (ps.0.spelled, spelleds Rs ps.1)

abbrev pub spells : (Rs : List RattleType) → Spelleds Rs → Spells Rs
spells [] ss = tt
spells (R ∷ Rs) ss = ((λ x. ss.0.val x ∷ []), spells Rs ss.1)

abbrev pub tells : (Rs : List RattleType) (ss : Spelleds Rs) → Tellss Rs (Ises Rs) (spells Rs ss)
tells [] ss = tt
tells (R ∷ Rs) ss = (ss.0.tells, tells Rs ss.1)

module _ {M : Type 1} {𝓤 : Ura M} (𝓛 : Logic 𝓤) where
  abbrev pub lawful : (Rs : List RattleType) → Spelleds Rs → Lawfuls 𝓛 Rs
  lawful [] ss = tt
  lawful (R ∷ Rs) ss = (ss.0.lawful 𝓛, lawful Rs ss.1)

  abbrev pub makes : (Rs : List RattleType) → Plains Rs → Makess 𝓛 Rs (Ises Rs)
  makes [] ps = tt
  makes (R ∷ Rs) ps = (ps.0.makes 𝓛, makes Rs ps.1)

  -- a value is of its MIR type
  pub typed : {R : RattleType} (p : Plain R) (x : R.Denot) → Is R x (p.spelled.val x ∷ []) → Typed R.mir (p.spelled.val x ∷ [])
  typed p x is = (p.spelled.lawful 𝓛).typed x (p.spelled.val x ∷ []) is
