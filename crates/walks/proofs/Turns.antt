-- A loop that counts from 0 to n, in a walk by hand.
--     counts           the loop's own rule, from what holds at each count:    At i     what is had where the loop's test is reached for the i-th
--                      time.        step     a turn at i < n ends in At (i + 1), or leaves by itself.        stop     the turn at n leaves the loop
--     counted          the same for a loop in a block, with the code that follows it
--     tests            a turn's test: it goes on, or it leaves.        breaks   the same the other way round
--     when             code that runs only where a test holds, and then what follows.        either   one of two, and then what follows
--     switched         the arms of a switch, and then what follows
-- Assumes `Logic`.
use mathlib.Core.Path.{◌≡◌, subst}
use Prim.Native.Nat.{ℕ, zero, suc, ◌+◌, ◌<◌}
use native.Mathlib.Nat.{lt-suc_self, lt_irrefl, zero-add}
use native.Mathlib.Omega.{arith}
use lib.WfN.{lt-wf_rel}
use seplogic.Ra.Ura.{Ura}
use mathlib.Core.Bool.{Bool, not}
use mathlib.Core.List.{List}
use lib.Dec.{T}
use mir.Syntax.{Width, Opd as Operand, Body, Arms, seq, block, loop, cond, switch, skip, exit}
use mir.Val.{vint, vbool}
use base.Logic.{SProp, ent, ex, guard, via, ex_i, ex_e, guard_i, guard_e}
use prog.Wp.{Heap, Out, next, exits, Env, after_seq, after_block, after_turn, Calls, Loops, Wp, Tables}
use types.Logic.{Logic}
use sound.Laws.{Laws}
use sound.Loop.{loop_rule}
use types.Kit.{Item, ⋆, Post, any_q, post, prop, runs, Seq, ◌$◌}
use types.Run.{Opd, Cases, first, branches, switches, skips, jumps}

module _ {M : Type 1} (𝓤 : Ura M) (H : Heap 𝓤) (L : Laws 𝓤 H) (𝓣 : Tables 𝓤 H) (E : Env 𝓤 H) (turn : Body) (Left : Out → SProp 𝓤) (At : ℕ → SProp 𝓤)
    (n : ℕ) where
  abbrev pub Turn : ℕ → SProp 𝓤 → Type 1
  Turn i X = ent 𝓤 (At i) (Wp 𝓤 H 𝓣.C 𝓣.Λ E turn (after_turn 𝓤 H X Left))

  -- the invariant, where t turns are left
  abbrev Inv : ℕ → SProp 𝓤
  Inv t = ex 𝓤 (λ (i : ℕ). guard 𝓤 (i + t ≡ n) (At i))

  abbrev Below : ℕ → SProp 𝓤
  Below t = ex 𝓤 (λ (u : ℕ). guard 𝓤 (u < t) (Inv u))

  at_inv : (t i : ℕ) → i + t ≡ n → ent 𝓤 (At i) (Inv t)
  at_inv t i e = via 𝓤 (guard 𝓤 (i + t ≡ n) (At i)) (guard_i 𝓤 (i + t ≡ n) (At i) e) (ex_i 𝓤 (λ (j : ℕ). guard 𝓤 (j + t ≡ n) (At j)) i)

  below : (t i : ℕ) → i + suc t ≡ n → ent 𝓤 (At (i + 1)) (Below (suc t))
  below t i e =
      via 𝓤 (Inv t) (at_inv t (i + 1) (omega arith))
      (via 𝓤 (guard 𝓤 (t < suc t) (Inv t)) (guard_i 𝓤 (t < suc t) (Inv t) (lt-suc_self t)) (ex_i 𝓤 (λ (u : ℕ). guard 𝓤 (u < suc t) (Inv u)) t))

  module _ (step : (i : ℕ) → i < n → (X : SProp 𝓤) → ent 𝓤 (At (i + 1)) X → Turn i X) (stop : (X : SProp 𝓤) → Turn n X) where
    turn_at : (t i : ℕ) → i + t ≡ n → Turn i (Below t)
    turn_at zero i e = subst (λ (k : ℕ). Turn k (Below zero)) (omega arith) (stop (Below zero))
    turn_at (suc t) i e = step i (omega arith) (Below (suc t)) (below t i e)

    turns : (t : ℕ) → ent 𝓤 (Inv t) (Wp 𝓤 H 𝓣.C 𝓣.Λ E turn (after_turn 𝓤 H (Below t) Left))
    turns t = ex_e 𝓤 (λ (i : ℕ). guard 𝓤 (i + t ≡ n) (At i)) (λ i. guard_e 𝓤 (i + t ≡ n) (At i) (λ e. turn_at t i e))

    pub counts : ent 𝓤 (At 0) (Wp 𝓤 H 𝓣.C 𝓣.Λ E (loop turn) Left)
    counts = via 𝓤 (Inv n) (at_inv n 0 (zero-add n)) (loop_rule 𝓤 H L 𝓣 ◌<◌ lt-wf_rel.wf E turn Left Inv turns n)

module _ {M : Type 1} {𝓤 : Ura M} {𝓛 : Logic 𝓤} {K : Type 0} {E : Env 𝓤 𝓛.H} {q : Post 𝓤 𝓛.H} where
  -- each turn is shown for any q' that is met by the next turn's start where the turn is over, and by the code that follows where the loop is left
  open 𝓛 use {H}

  pub counted : K → (𝓣 : Tables 𝓤 H) {turn rest : Body} (At : ℕ → List (Item 𝓤)) (n : ℕ)
      → ((i : ℕ) (q' : Post 𝓤 H) → (i < n → Seq K 𝓛 (At (i + 1)) (prop (post 𝓤 H q' next)))
      → ((Γ : List (Item 𝓤)) → Seq K 𝓛 Γ (runs 𝓣.C 𝓣.Λ E rest q) → Seq K 𝓛 Γ (prop (post 𝓤 H q' (exits 1))))
      → Seq K 𝓛 (At i) (runs 𝓣.C 𝓣.Λ E turn q'))
      → Seq K 𝓛 (At 0) (runs 𝓣.C 𝓣.Λ E (seq (block (loop turn)) rest) q)
  unfolding after_turn
  counted t 𝓣 {turn} {rest} At n go =
      let Left : Out → SProp 𝓤 = after_block 𝓤 H (after_seq 𝓤 H (Wp 𝓤 H 𝓣.C 𝓣.Λ E rest (post 𝓤 H q)) (post 𝓤 H q)) in
      record {
        prf = counts 𝓤 H 𝓛.laws 𝓣 E turn Left (λ i. ⋆ 𝓛 (At i)) n
            (λ i l X k. (go i (any_q (after_turn 𝓤 H X Left)) (λ _. record { prf = k }) (λ Γ s. record { prf = s.prf })).prf)
            (λ X. (go n (any_q (after_turn 𝓤 H X Left)) (λ l. absurd (lt_irrefl n l)) (λ Γ s. record { prf = s.prf })).prf);
      }

  pub tests : K → {C : Calls 𝓤 H} {Λ : Loops 𝓤 H} {Γ : List (Item 𝓤)} {c : Operand} {n : ℕ} {b : Body} {y : Bool} → Opd K 𝓛 Γ E c (vbool y)
      → (T y → Seq K 𝓛 Γ (runs C Λ E b q)) → (T (not y) → Seq K 𝓛 Γ (prop (post 𝓤 H q (exits n))))
      → Seq K 𝓛 Γ (runs C Λ E (seq (cond c skip (exit n)) b) q)
  tests t o k l = first t $ branches t o (λ h. skips t $ record { prf = (k h).prf }) (λ h. jumps t $ l h)

  pub breaks : K → {C : Calls 𝓤 H} {Λ : Loops 𝓤 H} {Γ : List (Item 𝓤)} {c : Operand} {n : ℕ} {b : Body} {y : Bool} → Opd K 𝓛 Γ E c (vbool y)
      → (T y → Seq K 𝓛 Γ (prop (post 𝓤 H q (exits n)))) → (T (not y) → Seq K 𝓛 Γ (runs C Λ E b q))
      → Seq K 𝓛 Γ (runs C Λ E (seq (cond c (exit n) skip) b) q)
  breaks t o l k = first t $ branches t o (λ h. jumps t $ l h) (λ h. skips t $ record { prf = (k h).prf })

  -- a choice, and then what follows; each arm is shown for any q' that what follows meets
  pub either : K → {C : Calls 𝓤 H} {Λ : Loops 𝓤 H} {Γ : List (Item 𝓤)} {c : Operand} {b b' rest : Body} {y : Bool} → Opd K 𝓛 Γ E c (vbool y)
      → ((q' : Post 𝓤 H) → ((Δ : List (Item 𝓤)) → Seq K 𝓛 Δ (runs C Λ E rest q) → Seq K 𝓛 Δ (prop (post 𝓤 H q' next)))
      → (T y → Seq K 𝓛 Γ (runs C Λ E b q')) × (T (not y) → Seq K 𝓛 Γ (runs C Λ E b' q')))
      → Seq K 𝓛 Γ (runs C Λ E (seq (cond c b b') rest) q)
  either t {C} {Λ} {rest = rest} o k =
      let arms = k (any_q (after_seq 𝓤 H (Wp 𝓤 H C Λ E rest (post 𝓤 H q)) (post 𝓤 H q))) (λ Δ s. record { prf = s.prf }) in
      first t $ branches t o arms.0 arms.1

  pub when : K → {C : Calls 𝓤 H} {Λ : Loops 𝓤 H} {Γ : List (Item 𝓤)} {c : Operand} {b rest : Body} {y : Bool} → Opd K 𝓛 Γ E c (vbool y)
      → (T y → (q' : Post 𝓤 H) → ((Δ : List (Item 𝓤)) → Seq K 𝓛 Δ (runs C Λ E rest q) → Seq K 𝓛 Δ (prop (post 𝓤 H q' next)))
      → Seq K 𝓛 Γ (runs C Λ E b q'))
      → (T (not y) → Seq K 𝓛 Γ (runs C Λ E rest q))
      → Seq K 𝓛 Γ (runs C Λ E (seq (cond c b skip) rest) q)
  when t o k l = either t o (λ q' then. ((λ h. k h q' then), λ h. skips t $ then _ (l h)))

  -- a switch, and then what follows; each arm is shown for any q' that what follows meets
  pub switched : K → {C : Calls 𝓤 H} {Λ : Loops 𝓤 H} {Γ : List (Item 𝓤)} {c : Operand} {arms : Arms} {rest : Body} {w : Width} {x : ℕ}
      → Opd K 𝓛 Γ E c (vint w x)
      → ((q' : Post 𝓤 H) → ((Δ : List (Item 𝓤)) → Seq K 𝓛 Δ (runs C Λ E rest q) → Seq K 𝓛 Δ (prop (post 𝓤 H q' next)))
      → Cases K 𝓛 Γ C Λ E q' (Unit {0}) arms x)
      → Seq K 𝓛 Γ (runs C Λ E (seq (switch c arms) rest) q)
  switched t {C} {Λ} {rest = rest} o k = first t $ switches t o (k (any_q (after_seq 𝓤 H (Wp 𝓤 H C Λ E rest (post 𝓤 H q)) (post 𝓤 H q)))
      (λ Δ s. record { prf = s.prf }))
