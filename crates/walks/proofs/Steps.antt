-- Short forms for a walk by hand, of statements on whole locals and their fields.
--     local            an operand that is a local.        part     one that is a field of a local
--     sets, resets     a value goes into a local that is empty, or that holds another.        lands_in, lands_over      the same of a call's result
-- n is where the local stands in the context.
-- Assumes `Logic`.
use mathlib.Core.Path.{◌≡◌}
use Prim.Native.Nat.{ℕ, ◌+◌}
use mathlib.Core.Option.{some}
use mathlib.Core.List.{List, [], ◌∷◌}
use lib.Dec.{T}
use seplogic.Ra.Ura.{Ura}
use base.Fraction.{full_share}
use mir.Syntax.{Ty, field, place, copy, Rv as RValue, Body, seq, assign}
use mir.Val.{Val, WT, has_ty}
use base.Fml.{Share, fat, froom}
use prog.Memory.{field_of}
use prog.Wp.{Env, spot_of, Calls, Loops}
use types.Logic.{Logic}
use types.Kit.{Item, ‵, nth, put, Post, runs, lands, Step}
use types.Part.{Part, look_in}
use types.Run.{Opd, Rv, look, init, store, stop, fld, from, load, assigns, land}

module _ {M : Type 1} {𝓤 : Ura M} {𝓛 : Logic 𝓤} {K : Type 0} {Γ : List (Item 𝓤)} {E : Env 𝓤 𝓛.H} where
  open 𝓛 use {H}

  pub local : K → (n : ℕ) {i : ℕ} {q : Share} {v : Val} → nth 𝓛 n Γ ≡ ‵ (fat q (spot_of 𝓤 H E i).0 (spot_of 𝓤 H E i).1 (spot_of 𝓤 H E i).2 v)
      → Opd K 𝓛 Γ E (copy (place i [])) v
  local t n e = load t (from t (stop t)) (look t n e)

  pub part : K → (n : ℕ) {i k : ℕ} {τ : Ty} {d : ℕ} {q : Share} {v : Val} {back : Val → Item 𝓤} → field_of (spot_of 𝓤 H E i).0 k ≡ some (τ, d)
      → Part K 𝓛 (nth 𝓛 n Γ) q τ (spot_of 𝓤 H E i).1 ((spot_of 𝓤 H E i).2 + d) v back → Opd K 𝓛 Γ E (copy (place i (field k ∷ []))) v
  part t n e p = load t (from t (fld t e (stop t))) (look_in t n p)

  module _ {C : Calls 𝓤 H} {Λ : Loops 𝓤 H} {q : Post 𝓤 H} {rest : Body} where
    pub sets : K → (n : ℕ) {i : ℕ} {rv : RValue} {v : Val} → nth 𝓛 n Γ ≡ ‵ (froom (spot_of 𝓤 H E i).0 (spot_of 𝓤 H E i).1 (spot_of 𝓤 H E i).2)
        → Rv K 𝓛 Γ E rv v → T (has_ty (spot_of 𝓤 H E i).0 v) × WT v
        → Step K 𝓛 (put 𝓛 n (‵ (fat full_share (spot_of 𝓤 H E i).0 (spot_of 𝓤 H E i).1 (spot_of 𝓤 H E i).2 v)) Γ) (runs C Λ E rest q) Γ
        (runs C Λ E (seq (assign (place i []) rv) rest) q)
    sets t n e r wt = assigns t r (from t (stop t)) (init t n e wt)

    pub resets : K → (n : ℕ) {i : ℕ} {rv : RValue} {u v : Val} → nth 𝓛 n Γ ≡ ‵
        (fat full_share (spot_of 𝓤 H E i).0 (spot_of 𝓤 H E i).1 (spot_of 𝓤 H E i).2 u) → Rv K 𝓛 Γ E rv v → T (has_ty (spot_of 𝓤 H E i).0 v) × WT v
        → Step K 𝓛 (put 𝓛 n (‵ (fat full_share (spot_of 𝓤 H E i).0 (spot_of 𝓤 H E i).1 (spot_of 𝓤 H E i).2 v)) Γ) (runs C Λ E rest q) Γ
        (runs C Λ E (seq (assign (place i []) rv) rest) q)
    resets t n e r wt = assigns t r (from t (stop t)) (store t n e wt)

    pub lands_in : K → (n : ℕ) {i : ℕ} {v : Val} → nth 𝓛 n Γ ≡ ‵ (froom (spot_of 𝓤 H E i).0 (spot_of 𝓤 H E i).1 (spot_of 𝓤 H E i).2)
        → T (has_ty (spot_of 𝓤 H E i).0 v) × WT v
        → Step K 𝓛 (put 𝓛 n (‵ (fat full_share (spot_of 𝓤 H E i).0 (spot_of 𝓤 H E i).1 (spot_of 𝓤 H E i).2 v)) Γ) (runs C Λ E rest q) Γ
        (lands C Λ E (place i []) v rest q)
    lands_in t n e wt = land t (from t (stop t)) (init t n e wt)

    pub lands_over : K → (n : ℕ) {i : ℕ} {u v : Val} → nth 𝓛 n Γ ≡ ‵ (fat full_share (spot_of 𝓤 H E i).0 (spot_of 𝓤 H E i).1 (spot_of 𝓤 H E i).2 u)
        → T (has_ty (spot_of 𝓤 H E i).0 v) × WT v
        → Step K 𝓛 (put 𝓛 n (‵ (fat full_share (spot_of 𝓤 H E i).0 (spot_of 𝓤 H E i).1 (spot_of 𝓤 H E i).2 v)) Γ) (runs C Λ E rest q) Γ
        (lands C Λ E (place i []) v rest q)
    lands_over t n e wt = land t (from t (stop t)) (store t n e wt)
