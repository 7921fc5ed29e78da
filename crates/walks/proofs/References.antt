-- A `&mut T` of plain data, in a walk by hand.
--     opened_ref       it is opened, which gives the value in its place.        closed_ref       it is closed at another value
-- Assumes `Logic`.
use mathlib.Core.Path.{refl}
use mathlib.Core.List.{List, [], ◌∷◌}
use seplogic.Ra.Ura.{Ura}
use base.Fraction.{full_share}
use mir.Syntax.{Lifetime}
use mir.Val.{Val}
use base.Fml.{Lft, Share, Fml, flft, fobs, fauth, fobor}
use types.Logic.{Logic}
use types.Kit.{Goal, Soaks, Item, ‵, Seq, Step, step, ◌$◌, move, drop, fsplit3, fjoin3, feq_i}
use types.SemTy.{Body}
use denote.RattleType.{RattleType}
use denote.Laws.{Is, shows}
use denote.Memory.{mem, cell_at}
use denote.Steps.{opens, closes, owned, peeks}
use denote.Struct.Steps.{spelt}
use denote.Ref.{MutBor, MutRef, mut_vals, at_last}
use Rattle.walks.proofs.Types.{Plain}

module _ (R : RattleType) (x : MutBor R.Denot) where
  -- what says that the reference is open
  abbrev pub opening_ref : Lft → Share → Fml
  opening_ref κ q = fobor κ q (Body (mem R) x.ref_ptr.0 x.ref_ptr.1 x.ghost_name)

  abbrev pub noted_ref : Fml
  noted_ref = fobs x.ghost_name (R.coded.code x.now)

  abbrev pub known_ref : Fml
  known_ref = fauth x.ghost_name (R.coded.code x.now)

-- the value y in its place
abbrev pub in_place : {R : RattleType} → Plain R → MutBor R.Denot → R.Denot → Fml
in_place {R} p x y = cell_at full_share R.mir (p.spelled.val y ∷ []) x.ref_ptr.0 x.ref_ptr.1

module _ {M : Type 1} {𝓤 : Ura M} {𝓛 : Logic 𝓤} {K : Type 0} {Γ : List (Item 𝓤)} {G : Goal 𝓤 𝓛.H} (t : K) where
  pub opened_ref : Soaks G → {R : RattleType} (p : Plain R) (ℓ : Lifetime) {κ : Lft} {q : Share} (x : MutBor R.Denot) (vs : List Val)
      → (Is R x.now (p.spelled.val x.now ∷ []) → Seq K 𝓛 (‵ (in_place p x x.now) ∷ ‵ (opening_ref R x κ q) ∷ ‵ (noted_ref R x) ∷ ‵
      (known_ref R x) ∷ Γ) G)
      → Seq K 𝓛 (‵ (flft κ q) ∷ ‵ ((MutRef ℓ κ R).own_val x vs) ∷ Γ) G
  opened_ref z {R} p ℓ x vs k = move t (1 ∷ []) $ fsplit3 t $ drop t $ opens t z R {h = x.now} x.ref_ptr.0 x.ref_ptr.1 (λ us.
      spelt t R (Is R) (shows 𝓛 R) (λ e. p.spelled.val e ∷ []) p.spelled.tells full_share x.now us x.ref_ptr.0 x.ref_ptr.1 $
      move t (1 ∷ []) $ peeks t R (Is R) (shows 𝓛 R) x.now (p.spelled.val x.now ∷ []) (λ is. drop t $ k is))

  pub closed_ref : Soaks G → {R : RattleType} (p : Plain R) (ℓ : Lifetime) {κ : Lft} {q : Share} (x : MutBor R.Denot) (y : R.Denot)
      → Is R y (p.spelled.val y ∷ [])
      → Step K 𝓛 (‵ (flft κ q) ∷ ‵ ((MutRef ℓ κ R).own_val (at_last x y) (mut_vals x)) ∷ Γ) G
      (‵ (in_place p x y) ∷ ‵ (opening_ref R x κ q) ∷ ‵ (noted_ref R x) ∷ ‵ (known_ref R x) ∷ Γ) G
  closed_ref z {R} p ℓ x y is = step (λ s. owned t R (Is R) (p.makes 𝓛) y (p.spelled.val y ∷ []) is $ move t (1 ∷ 0 ∷ []) $
      closes t z R y (p.spelled.val y ∷ []) x.ref_ptr.0 x.ref_ptr.1 $ feq_i t (List Val) (mut_vals x) (mut_vals x) refl $ fjoin3 t $
      move t (1 ∷ 0 ∷ []) $ s)
