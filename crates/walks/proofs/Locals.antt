-- A function's locals in a walk by hand: made at entry and freed at the return, all at once.
-- Within the walk the context begins with the locals, local k at k, and goes on with what says that each dies, then with the rest:  frame E cs Γ.
--     Content          what a local holds: nothing yet, or a value.        Blocks, env_of    the locals' blocks, and the environment that they make
--     enters           at entry: the result's local and the temporaries are empty, and each parameter holds its value
--     leaves           at the return, with Δ in front: the locals are freed, and Δ and the rest are left
-- Assumes `Logic`.
use mathlib.Core.Path.{refl}
use mathlib.Core.List.{List, [], ◌∷◌, ◌++◌, map}
use Prim.Native.Nat.{ℕ, zero}
use seplogic.Ra.Ura.{Ura}
use base.Fraction.{full_share}
use lib.Dec.{T}
use mir.Syntax.{Ty, Local, local, Fn, return}
use mir.Val.{Val, WT, has_ty}
use base.Logic.{SProp, ent, sep, via, mono_r}
use base.Fml.{fat, froom, fdies}
use prog.Wp.{Heap, Env, Calls, Loops, WpFn}
use types.Logic.{Logic}
use types.Kit.{Item, ‵, raw, mean, ⋆, pop, push, ++⊢, ⊢++, Goal, prop, runs, allocs, passes, params', frees, at_ret, Seq, Step, step, ◌$◌, ◌∵◌}
use types.Kit.{ !, qed, move, done}
use types.Run.{look, init, forget, returns, enter, alloc1, alloc0, params1, pass1, pass0, free1, free0}

pub data Content : Type 0 where
  empty : Content
  holds : Val → Content

abbrev pub Blocks : List Local → Type 0
Blocks [] = Unit {0}
Blocks (l ∷ ls) = ℕ × Blocks ls

module _ {M : Type 1} (𝓤 : Ura M) (H : Heap 𝓤) where
  abbrev pub env_of : (ls : List Local) → Blocks ls → Env 𝓤 H
  env_of [] bs = []
  env_of (local τ h ∷ ls) bs = (τ, bs.0) ∷ env_of ls bs.1

  abbrev pub cells : Env 𝓤 H → List Content → List (Item 𝓤)
  cells [] cs = []
  cells (e ∷ E) [] = ‵ (froom e.0 e.1 zero) ∷ cells E []
  cells (e ∷ E) (empty ∷ cs) = ‵ (froom e.0 e.1 zero) ∷ cells E cs
  cells (e ∷ E) (holds v ∷ cs) = ‵ (fat full_share e.0 e.1 zero v) ∷ cells E cs

  abbrev pub deaths : Env 𝓤 H → List (Item 𝓤)
  deaths [] = []
  deaths (e ∷ E) = ‵ (fdies e.0 e.1) ∷ deaths E

  abbrev pub frame : Env 𝓤 H → List Content → List (Item 𝓤) → List (Item 𝓤)
  frame E cs Γ = cells E cs ++ (deaths E ++ Γ)

  -- each value is of its local's type
  abbrev pub Typed : Env 𝓤 H → List Val → Type 0
  Typed E [] = Unit {0}
  Typed [] (v ∷ vs) = ⊥
  Typed (e ∷ E) (v ∷ vs) = (T (has_ty e.0 v) × WT v) × Typed E vs

  -- the same for all locals, of which the first is the result's
  abbrev pub Fits : Env 𝓤 H → List Val → Type 0
  Fits [] vs = ⊥
  Fits (e ∷ E) vs = Typed E vs

module _ {M : Type 1} {𝓤 : Ura M} (𝓛 : Logic 𝓤) where
  -- an entry goes to the front of those before it, and back; what follows some entries is changed
  up : (Δ : List (Item 𝓤)) (i : Item 𝓤) (Γ : List (Item 𝓤)) → ent 𝓤 (⋆ 𝓛 (Δ ++ (i ∷ Γ))) (⋆ 𝓛 (i ∷ (Δ ++ Γ)))
  up Δ i Γ =
      via 𝓤 (sep 𝓤 (⋆ 𝓛 Δ) (sep 𝓤 (mean 𝓛 i) (⋆ 𝓛 Γ))) (via 𝓤 (sep 𝓤 (⋆ 𝓛 Δ) (⋆ 𝓛 (i ∷ Γ))) (⊢++ 𝓛 Δ (i ∷ Γ))
      (mono_r 𝓤 (⋆ 𝓛 Δ) (pop 𝓛 i Γ)))
      (via 𝓤 (sep 𝓤 (mean 𝓛 i) (sep 𝓤 (⋆ 𝓛 Δ) (⋆ 𝓛 Γ))) (qed 𝓛 (raw (⋆ 𝓛 Δ) ∷ i ∷ raw (⋆ 𝓛 Γ) ∷ []) ∵ move ! (1 ∷ []) $ done !)
      (via 𝓤 (sep 𝓤 (mean 𝓛 i) (⋆ 𝓛 (Δ ++ Γ))) (mono_r 𝓤 (mean 𝓛 i) (++⊢ 𝓛 Δ Γ)) (push 𝓛 i (Δ ++ Γ))))

  down : (Δ : List (Item 𝓤)) (i : Item 𝓤) (Γ : List (Item 𝓤)) → ent 𝓤 (⋆ 𝓛 (i ∷ (Δ ++ Γ))) (⋆ 𝓛 (Δ ++ (i ∷ Γ)))
  down Δ i Γ =
      via 𝓤 (sep 𝓤 (mean 𝓛 i) (sep 𝓤 (⋆ 𝓛 Δ) (⋆ 𝓛 Γ))) (via 𝓤 (sep 𝓤 (mean 𝓛 i) (⋆ 𝓛 (Δ ++ Γ))) (pop 𝓛 i (Δ ++ Γ))
      (mono_r 𝓤 (mean 𝓛 i) (⊢++ 𝓛 Δ Γ)))
      (via 𝓤 (sep 𝓤 (⋆ 𝓛 Δ) (sep 𝓤 (mean 𝓛 i) (⋆ 𝓛 Γ))) (qed 𝓛 (i ∷ raw (⋆ 𝓛 Δ) ∷ raw (⋆ 𝓛 Γ) ∷ []) ∵ move ! (1 ∷ []) $ done !)
      (via 𝓤 (sep 𝓤 (⋆ 𝓛 Δ) (⋆ 𝓛 (i ∷ Γ))) (mono_r 𝓤 (⋆ 𝓛 Δ) (push 𝓛 i Γ)) (++⊢ 𝓛 Δ (i ∷ Γ))))

  after : (Δ : List (Item 𝓤)) (Γ Γ' : List (Item 𝓤)) → ent 𝓤 (⋆ 𝓛 Γ) (⋆ 𝓛 Γ') → ent 𝓤 (⋆ 𝓛 (Δ ++ Γ)) (⋆ 𝓛 (Δ ++ Γ'))
  after Δ Γ Γ' h = via 𝓤 (sep 𝓤 (⋆ 𝓛 Δ) (⋆ 𝓛 Γ)) (⊢++ 𝓛 Δ Γ) (via 𝓤 (sep 𝓤 (⋆ 𝓛 Δ) (⋆ 𝓛 Γ')) (mono_r 𝓤 (⋆ 𝓛 Δ) h)
      (++⊢ 𝓛 Δ Γ'))

  -- the first entries go after two more rows of them
  last : (Δ X Y Γ : List (Item 𝓤)) → ent 𝓤 (⋆ 𝓛 (Δ ++ (X ++ (Y ++ Γ)))) (⋆ 𝓛 (X ++ (Y ++ (Δ ++ Γ))))
  last Δ X Y Γ =
      via 𝓤 (sep 𝓤 (⋆ 𝓛 Δ) (sep 𝓤 (⋆ 𝓛 X) (sep 𝓤 (⋆ 𝓛 Y) (⋆ 𝓛 Γ))))
      (via 𝓤 (sep 𝓤 (⋆ 𝓛 Δ) (⋆ 𝓛 (X ++ (Y ++ Γ)))) (⊢++ 𝓛 Δ (X ++ (Y ++ Γ)))
      (mono_r 𝓤 (⋆ 𝓛 Δ) (via 𝓤 (sep 𝓤 (⋆ 𝓛 X) (⋆ 𝓛 (Y ++ Γ))) (⊢++ 𝓛 X (Y ++ Γ)) (mono_r 𝓤 (⋆ 𝓛 X) (⊢++ 𝓛 Y Γ)))))
      (via 𝓤 (sep 𝓤 (⋆ 𝓛 X) (sep 𝓤 (⋆ 𝓛 Y) (sep 𝓤 (⋆ 𝓛 Δ) (⋆ 𝓛 Γ))))
      (qed 𝓛 (raw (⋆ 𝓛 Δ) ∷ raw (⋆ 𝓛 X) ∷ raw (⋆ 𝓛 Y) ∷ raw (⋆ 𝓛 Γ) ∷ []) ∵ move ! (1 ∷ 2 ∷ []) $ done !)
      (via 𝓤 (sep 𝓤 (⋆ 𝓛 X) (⋆ 𝓛 (Y ++ (Δ ++ Γ)))) (mono_r 𝓤 (⋆ 𝓛 X) (via 𝓤 (sep 𝓤 (⋆ 𝓛 Y) (⋆ 𝓛 (Δ ++ Γ)))
      (mono_r 𝓤 (⋆ 𝓛 Y) (++⊢ 𝓛 Δ Γ)) (++⊢ 𝓛 Y (Δ ++ Γ)))) (++⊢ 𝓛 X (Y ++ (Δ ++ Γ)))))

module _ {M : Type 1} {𝓤 : Ura M} {𝓛 : Logic 𝓤} {K : Type 0} where
  -- the context is turned into what it entails
  open 𝓛 use {H}

  becomes : {G : Goal 𝓤 H} (Γ Γ' : List (Item 𝓤)) → ent 𝓤 (⋆ 𝓛 Γ) (⋆ 𝓛 Γ') → Step K 𝓛 Γ' G Γ G
  becomes {G} Γ Γ' h = step (λ s. record { prf = via 𝓤 (⋆ 𝓛 Γ') h s.prf })

  allocates : K → (ls : List Local) {Γ : List (Item 𝓤)} {Kt : Env 𝓤 H → Goal 𝓤 H}
      → ((bs : Blocks ls) → Seq K 𝓛 (frame 𝓤 H (env_of 𝓤 H ls bs) [] Γ) (Kt (env_of 𝓤 H ls bs))) → Seq K 𝓛 Γ (allocs ls Kt)
  allocates t [] k = alloc0 t $ k tt
  allocates t (local τ h ∷ ls) {Γ} k = alloc1 t (λ b. allocates t ls (λ bs.
      let X : List (Item 𝓤) = cells 𝓤 H (env_of 𝓤 H ls bs) [] in
      let Y : List (Item 𝓤) = deaths 𝓤 H (env_of 𝓤 H ls bs) in
      let r : Item 𝓤 = ‵ (froom τ b zero) in
      let d : Item 𝓤 = ‵ (fdies τ b) in
      becomes (X ++ (Y ++ (r ∷ d ∷ Γ))) (X ++ (r ∷ (Y ++ (d ∷ Γ)))) (after 𝓛 X _ _ (up 𝓛 Y r (d ∷ Γ))) $
      becomes (X ++ (r ∷ (Y ++ (d ∷ Γ)))) (r ∷ (X ++ (Y ++ (d ∷ Γ)))) (up 𝓛 X r _) $
      becomes (r ∷ (X ++ (Y ++ (d ∷ Γ)))) (r ∷ (X ++ (d ∷ (Y ++ Γ)))) (after 𝓛 (r ∷ X) _ _ (up 𝓛 Y d Γ)) $ k (b, bs)))

  passed : K → (E : Env 𝓤 H) (vs : List Val) (Γ : List (Item 𝓤)) {g : Goal 𝓤 H} → Typed 𝓤 H E vs → Seq K 𝓛 (cells 𝓤 H E (map holds vs) ++ Γ) g
      → Seq K 𝓛 (cells 𝓤 H E [] ++ Γ) (passes E vs g)
  passed t [] [] Γ w s = pass0 t $ s
  passed t (e ∷ E) [] Γ w s = pass0 t $ s
  passed t [] (v ∷ vs) Γ w s = absurd w
  passed t (e ∷ E) (v ∷ vs) Γ w s =
      let c : Item 𝓤 = ‵ (fat full_share e.0 e.1 zero v) in
      pass1 t (init t 0 refl w.0) $ becomes (c ∷ (cells 𝓤 H E [] ++ Γ)) (cells 𝓤 H E [] ++ (c ∷ Γ)) (down 𝓛 (cells 𝓤 H E []) c Γ) $
      passed t E vs (c ∷ Γ) w.1 (becomes (cells 𝓤 H E (map holds vs) ++ (c ∷ Γ)) (c ∷ (cells 𝓤 H E (map holds vs) ++ Γ))
      (up 𝓛 (cells 𝓤 H E (map holds vs)) c Γ) $ s)

  -- the first local is the result's
  stored : K → (E : Env 𝓤 H) (vs : List Val) (Γ : List (Item 𝓤)) {g : Goal 𝓤 H} → Fits 𝓤 H E vs → Seq K 𝓛 (cells 𝓤 H E (empty ∷ map holds vs) ++ Γ) g
      → Seq K 𝓛 (cells 𝓤 H E [] ++ Γ) (params' E vs g)
  stored t [] vs Γ w s = absurd w
  stored t (e ∷ E) vs Γ w s =
      let r : Item 𝓤 = ‵ (froom e.0 e.1 zero) in
      let X : List (Item 𝓤) = cells 𝓤 H E (map holds vs) in
      params1 t $ becomes (r ∷ (cells 𝓤 H E [] ++ Γ)) (cells 𝓤 H E [] ++ (r ∷ Γ)) (down 𝓛 (cells 𝓤 H E []) r Γ) $
      passed t E vs (r ∷ Γ) w (becomes (X ++ (r ∷ Γ)) (r ∷ (X ++ Γ)) (up 𝓛 X r Γ) $ s)

  freed_room : K → (e : Ty × ℕ) (E : Env 𝓤 H) (cs : List Content) (Γ : List (Item 𝓤)) {g : Goal 𝓤 H} → Seq K 𝓛 (frame 𝓤 H E cs Γ) (frees E g)
      → Seq K 𝓛 (‵ (froom e.0 e.1 zero) ∷ (cells 𝓤 H E cs ++ (‵ (fdies e.0 e.1) ∷ (deaths 𝓤 H E ++ Γ)))) (frees (e ∷ E) g)
  freed_room t e E cs Γ s =
      let r : Item 𝓤 = ‵ (froom e.0 e.1 zero) in
      let d : Item 𝓤 = ‵ (fdies e.0 e.1) in
      becomes (r ∷ (cells 𝓤 H E cs ++ (d ∷ (deaths 𝓤 H E ++ Γ)))) (r ∷ (d ∷ frame 𝓤 H E cs Γ))
      (after 𝓛 (r ∷ []) (cells 𝓤 H E cs ++ (d ∷ (deaths 𝓤 H E ++ Γ))) (d ∷ frame 𝓤 H E cs Γ) (up 𝓛 (cells 𝓤 H E cs) d (deaths 𝓤 H E ++ Γ))) $
      free1 t $ s

  freed : K → (E : Env 𝓤 H) (cs : List Content) (Γ : List (Item 𝓤)) {g : Goal 𝓤 H} → Seq K 𝓛 Γ g → Seq K 𝓛 (frame 𝓤 H E cs Γ) (frees E g)
  freed t [] cs Γ s = free0 t $ s
  freed t (e ∷ E) [] Γ s = freed_room t e E [] Γ (freed t E [] Γ s)
  freed t (e ∷ E) (empty ∷ cs) Γ s = freed_room t e E cs Γ (freed t E cs Γ s)
  freed t (e ∷ E) (holds v ∷ cs) Γ s = forget t 0 refl $ freed_room t e E cs Γ (freed t E cs Γ s)

  module _ {C : Calls 𝓤 H} {Λ : Loops 𝓤 H} where
    pub enters : K → (f : Fn) (vs : List Val) {Kf : Val → SProp 𝓤} {Γ : List (Item 𝓤)}
        → ((bs : Blocks f.locals) → Fits 𝓤 H (env_of 𝓤 H f.locals bs) vs)
        → ((bs : Blocks f.locals) → Seq K 𝓛 (frame 𝓤 H (env_of 𝓤 H f.locals bs) (empty ∷ map holds vs) Γ)
        (runs C Λ (env_of 𝓤 H f.locals bs) f.body (at_ret (env_of 𝓤 H f.locals bs) Kf)))
        → Seq K 𝓛 Γ (prop (WpFn 𝓤 H C Λ f vs Kf))
    enters t f vs {Kf} {Γ} w k = enter t C Λ f vs Kf $ allocates t f.locals (λ bs. stored t (env_of 𝓤 H f.locals bs) vs
        (deaths 𝓤 H (env_of 𝓤 H f.locals bs) ++ Γ) (w bs) (k bs))

    pub leaves : K → (Δ : List (Item 𝓤)) {e : Ty × ℕ} {E : Env 𝓤 H} (r : Val) (cs : List Content) (Γ : List (Item 𝓤)) {Kf : Val → SProp 𝓤}
        → Step K 𝓛 (Δ ++ Γ) (prop (Kf r)) (Δ ++ frame 𝓤 H (e ∷ E) (holds r ∷ cs) Γ) (runs C Λ (e ∷ E) return (at_ret (e ∷ E) Kf))
    leaves t Δ {e} {E} r cs Γ {Kf} = step (λ s.
        becomes (Δ ++ frame 𝓤 H (e ∷ E) (holds r ∷ cs) Γ) (frame 𝓤 H (e ∷ E) (holds r ∷ cs) (Δ ++ Γ))
        (last 𝓛 Δ (cells 𝓤 H (e ∷ E) (holds r ∷ cs)) (deaths 𝓤 H (e ∷ E)) Γ) $
        returns t (look t 0 refl) $ freed t (e ∷ E) (holds r ∷ cs) (Δ ++ Γ) s)
