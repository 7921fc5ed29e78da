-- A call in a walk by hand, to the place where its result is stored.
--     called           of any function, from the tokens and what its parameters own: its result, its tokens, what is said of the last values, and
--                      what its contract ensures
--     calls_some       of a function whose result is plain data. φ is what the contract ensures
--     calls_equal      of a function whose result is plain data that the contract equates with x: the result is x
--     calls_plain      of a function of plain data whose result the contract equates with x: all that is asked is had for nothing, and the result is
--                      x
-- The operands are read with what is asked in front of the context.
-- Assumes `Logic`.
use mathlib.Core.Path.{◌≡◌, sym, ap, subst}
use mathlib.Core.List.{List, [], ◌∷◌}
use seplogic.Ra.Ura.{Ura}
use mir.Syntax.{Callee, Place, Opd as Operand, Body, seq, call}
use mir.Val.{Val}
use base.Logic.{SProp, ent, sep, emp, via, id⊢, emp∗, comm∗, mono∗, mono_r}
use base.Fml.{Fml, fsep}
use prog.Wp.{Env, Tables}
use types.Logic.{Logic}
use contract.Monad.{fact, fact_i, fact_use}
use contract.Lifetimes.{Lfts, Shares, AllOutlive}
use sound.WpLaws.{fm_of}
use types.Kit.{Goal, Item, mean, ‵, raw, ◌⊛◌, some, later, Post, runs, lands, Seq, Step, step, ◌$◌, fjoin, move, drop, use0, use1, split, pick}
use types.Kit.{await}
use types.Run.{Opds}
use denote.RattleType.{RattleType, Denots, owns}
use denote.Laws.{Is, shows, Ises, Are, valss, owns_make}
use denote.Signature.{types_at, type_at}
use denote.Steps.{peeks, heard, only}
use denote.Triple.Statement.{Triple}
use denote.Triple.Entry.{Args, Res, alive, on_entry}
use denote.Triple.Clauses.{Ended, Clauses, Lasts, at_exit, lasts, closing}
use denote.Triple.Spec.{triple_of}
use denote.Triple.Call.{calls_at}
use Rattle.walks.proofs.Types.{Spelled, Plain, Plains, spelleds, spells, makes}

-- what a contract ensures, put otherwise
pub that : {M : Type 1} (𝓤 : Ura M) (φ ψ : Type 0) → (φ → ψ) → ent 𝓤 (fact 𝓤 φ) (fact 𝓤 ψ)
that 𝓤 φ ψ f = fact_use 𝓤 φ (id⊢ 𝓤 (fact 𝓤 φ)) (λ x. fact_i 𝓤 ψ (fact 𝓤 φ) (f x))

module _ {M : Type 1} {𝓤 : Ura M} {𝓛 : Logic 𝓤} {K : Type 0} {Γ : List (Item 𝓤)} {E : Env 𝓤 𝓛.H} {q : Post 𝓤 𝓛.H}
    {f : Callee} {xs : List Operand} {d : Place} {rest : Body} where
  open 𝓛 use {H}

  pub called : K → (𝓣 : Tables 𝓤 H) (T : Ended) (c : Clauses 𝓤 T) → Triple 𝓤 (𝓣.C f) (triple_of 𝓛 T.signature (closing 𝓛 T c))
      → (y : (triple_of 𝓛 T.signature (closing 𝓛 T c)).Ghost) {i : Item 𝓤}
      → ent 𝓤 (mean 𝓛 i) (on_entry 𝓛 T.signature y.0.0 y.0.1 y.0.3 y.0.4)
      → ent 𝓤 (emp 𝓤) ((c y.0.0 y.0.3).requires y.1)
      → Opds K 𝓛 (raw ((triple_of 𝓛 T.signature (closing 𝓛 T c)).pre y) ∷ Γ) E xs ((triple_of 𝓛 T.signature (closing 𝓛 T c)).args y)
      → ((u : Val) (r : Res T.signature y.0.0) (ws : Lasts T y.0.0 y.0.3) → Is (type_at T.signature.result y.0.0) r (u ∷ [])
      → Seq K 𝓛 (raw ((c y.0.0 y.0.3).ensures y.1 r (at_exit T y.0.0 y.0.3 ws)) ∷ raw
      (alive 𝓛 T.signature y.0.0 y.0.1)
      ∷ ‵ ((type_at T.signature.result y.0.0).own_val r (u ∷ [])) ∷ ‵ (lasts T y.0.0 y.0.3 ws) ∷ Γ) (lands 𝓣.C 𝓣.Λ E d u rest q))
      → Seq K 𝓛 (i ∷ Γ) (runs 𝓣.C 𝓣.Λ E (seq (call f xs d) rest) q)
  called t 𝓣 T c known y has req os k =
      let Q : SProp 𝓤 = on_entry 𝓛 T.signature y.0.0 y.0.1 y.0.3 y.0.4 in
      let O : RattleType = type_at T.signature.result y.0.0 in
      use1 𝓛 (raw ((triple_of 𝓛 T.signature (closing 𝓛 T c)).pre y)) (via 𝓤 (sep 𝓤 Q (emp 𝓤))
      (via 𝓤 Q has (via 𝓤 (sep 𝓤 (emp 𝓤) Q) (emp∗ 𝓤 Q) (comm∗ 𝓤 (emp 𝓤) Q))) (mono_r 𝓤 Q req)) $
      calls_at t (fm_of 𝓤 H 𝓛.laws 𝓣) (triple_of 𝓛 T.signature (closing 𝓛 T c)) known y os (λ u.
      use1 𝓛 (later (some (λ (r : Res T.signature y.0.0). (raw (alive 𝓛 T.signature y.0.0 y.0.1) ⊛ ‵ (O.own_val r (u ∷ [])))
      ⊛ some (λ (ws : Lasts T y.0.0 y.0.3). ‵ (lasts T y.0.0 y.0.3 ws) ⊛ raw
      ((c y.0.0 y.0.3).ensures y.1 r (at_exit T y.0.0 y.0.3 ws)))))) (id⊢ 𝓤 _) $
      await t tt $ pick t (λ r. split t $ split t $ move t (2 ∷ []) $ pick t (λ ws. split t $ move t (3 ∷ []) $
      peeks t O (Is O) (shows 𝓛 O) r (u ∷ []) (λ is. move t (2 ∷ 3 ∷ 0 ∷ 1 ∷ []) $ k u r ws is))))

  pub calls_some : K → (𝓣 : Tables 𝓤 H) (T : Ended) (c : Clauses 𝓤 T) → Triple 𝓤 (𝓣.C f) (triple_of 𝓛 T.signature (closing 𝓛 T c))
      → (y : (triple_of 𝓛 T.signature (closing 𝓛 T c)).Ghost) {i : Item 𝓤}
      → ent 𝓤 (mean 𝓛 i) (on_entry 𝓛 T.signature y.0.0 y.0.1 y.0.3 y.0.4)
      → ent 𝓤 (emp 𝓤) ((c y.0.0 y.0.3).requires y.1)
      → (p : Plain (type_at T.signature.result y.0.0)) (φ : Res T.signature y.0.0 → Lasts T y.0.0 y.0.3 → Type 0)
      → ((r : Res T.signature y.0.0) (ws : Lasts T y.0.0 y.0.3) → ent 𝓤
      ((c y.0.0 y.0.3).ensures y.1 r (at_exit T y.0.0 y.0.3 ws)) (fact 𝓤 (φ r ws)))
      → Opds K 𝓛 (raw ((triple_of 𝓛 T.signature (closing 𝓛 T c)).pre y) ∷ Γ) E xs ((triple_of 𝓛 T.signature (closing 𝓛 T c)).args y)
      → ((r : Res T.signature y.0.0) (ws : Lasts T y.0.0 y.0.3) → φ r ws → Is (type_at T.signature.result y.0.0) r
      (p.spelled.val r ∷ [])
      → Seq K 𝓛 (raw (alive 𝓛 T.signature y.0.0 y.0.1) ∷ ‵ (lasts T y.0.0 y.0.3 ws) ∷ Γ)
      (lands 𝓣.C 𝓣.Λ E d (p.spelled.val r) rest q))
      → Seq K 𝓛 (i ∷ Γ) (runs 𝓣.C 𝓣.Λ E (seq (call f xs d) rest) q)
  calls_some t 𝓣 T c known y has req p φ said os k =
      let O : RattleType = type_at T.signature.result y.0.0 in
      let z : Spelled O = p.spelled in
      called t 𝓣 T c known y has req os (λ u r ws is. use1 𝓛 (raw (fact 𝓤 (φ r ws))) (said r ws) $ heard t (φ r ws) (λ h. move t (1 ∷ []) $ drop t $
      subst (λ (v : Val). Seq K 𝓛 (raw (alive 𝓛 T.signature y.0.0 y.0.1) ∷ ‵ (lasts T y.0.0 y.0.3 ws) ∷ Γ)
      (lands 𝓣.C 𝓣.Λ E d v rest q)) (sym (ap only (z.tells r (u ∷ []) is))) (k r ws h (subst (Is O r) (z.tells r (u ∷ []) is) is))))

  pub calls_equal : K → (𝓣 : Tables 𝓤 H) (T : Ended) (c : Clauses 𝓤 T) → Triple 𝓤 (𝓣.C f) (triple_of 𝓛 T.signature (closing 𝓛 T c))
      → (y : (triple_of 𝓛 T.signature (closing 𝓛 T c)).Ghost) {i : Item 𝓤}
      → ent 𝓤 (mean 𝓛 i) (on_entry 𝓛 T.signature y.0.0 y.0.1 y.0.3 y.0.4)
      → ent 𝓤 (emp 𝓤) ((c y.0.0 y.0.3).requires y.1)
      → (p : Plain (type_at T.signature.result y.0.0)) (x : Res T.signature y.0.0) (φ : Res T.signature y.0.0
      → Lasts T y.0.0 y.0.3 → Type 0)
      → ((r : Res T.signature y.0.0) (ws : Lasts T y.0.0 y.0.3) → ent 𝓤
      ((c y.0.0 y.0.3).ensures y.1 r (at_exit T y.0.0 y.0.3 ws)) (fact 𝓤 (φ r ws)))
      → ((r : Res T.signature y.0.0) (ws : Lasts T y.0.0 y.0.3) → φ r ws → r ≡ x)
      → Opds K 𝓛 (raw ((triple_of 𝓛 T.signature (closing 𝓛 T c)).pre y) ∷ Γ) E xs ((triple_of 𝓛 T.signature (closing 𝓛 T c)).args y)
      → ((ws : Lasts T y.0.0 y.0.3) → φ x ws → Is (type_at T.signature.result y.0.0) x (p.spelled.val x ∷ [])
      → Seq K 𝓛 (raw (alive 𝓛 T.signature y.0.0 y.0.1) ∷ ‵ (lasts T y.0.0 y.0.3 ws) ∷ Γ)
      (lands 𝓣.C 𝓣.Λ E d (p.spelled.val x) rest q))
      → Seq K 𝓛 (i ∷ Γ) (runs 𝓣.C 𝓣.Λ E (seq (call f xs d) rest) q)
  calls_equal t 𝓣 T c known y has req p x φ said eq os k =
      let O : RattleType = type_at T.signature.result y.0.0 in
      let z : Spelled O = p.spelled in
      calls_some t 𝓣 T c known y has req p φ said os (λ r ws h is.
      subst (λ (v : Val). Seq K 𝓛 (raw (alive 𝓛 T.signature y.0.0 y.0.1) ∷ ‵ (lasts T y.0.0 y.0.3 ws) ∷ Γ)
      (lands 𝓣.C 𝓣.Λ E d v rest q)) (sym (ap z.val (eq r ws h)))
      (k ws (subst (λ (o : O.Denot). φ o ws) (eq r ws h) h) (subst (λ (o : O.Denot). Is O o (z.val o ∷ [])) (eq r ws h) is)))

  pub calls_plain : K → (𝓣 : Tables 𝓤 H) (T : Ended) (c : Clauses 𝓤 T) → Triple 𝓤 (𝓣.C f) (triple_of 𝓛 T.signature (closing 𝓛 T c))
      → (κs : Lfts T.signature.lifetimes) (qs : Shares T.signature.lifetimes)
      (b : AllOutlive T.signature.lifetimes T.signature.outlives κs) (a : Args T.signature κs) (g : (c κs a).ghost)
      → ent 𝓤 (emp 𝓤) (alive 𝓛 T.signature κs qs) → ent 𝓤 (emp 𝓤) ((c κs a).requires g)
      → (ps : Plains (types_at T.signature.params κs)) → Are (types_at T.signature.params κs) (Ises (types_at T.signature.params κs)) a
      (valss (types_at T.signature.params κs) (spells (types_at T.signature.params κs) (spelleds (types_at T.signature.params κs) ps)) a)
      → (p : Plain (type_at T.signature.result κs)) (x : Res T.signature κs)
      → ((r : Res T.signature κs) (ws : Lasts T κs a) → ent 𝓤 ((c κs a).ensures g r (at_exit T κs a ws)) (fact 𝓤 (r ≡ x)))
      → Opds K 𝓛 (raw ((triple_of 𝓛 T.signature (closing 𝓛 T c)).pre (
        (
          κs,
          qs,
          b,
          a,
          valss (types_at T.signature.params κs)
              (spells (types_at T.signature.params κs) (spelleds (types_at T.signature.params κs) ps)) a,
        ),
        g,
      )) ∷ Γ) E xs
      ((triple_of 𝓛 T.signature (closing 𝓛 T c)).args (
        (
          κs,
          qs,
          b,
          a,
          valss (types_at T.signature.params κs)
              (spells (types_at T.signature.params κs) (spelleds (types_at T.signature.params κs) ps)) a,
        ),
        g,
      ))
      → (Is (type_at T.signature.result κs) x (p.spelled.val x ∷ []) → Seq K 𝓛 Γ (lands 𝓣.C 𝓣.Λ E d (p.spelled.val x) rest q))
      → Seq K 𝓛 Γ (runs 𝓣.C 𝓣.Λ E (seq (call f xs d) rest) q)
  calls_plain t 𝓣 T c known κs qs b a g al req ps are p x said os k =
      let Rs : List RattleType = types_at T.signature.params κs in
      use0 𝓛 (raw (on_entry 𝓛 T.signature κs qs a (valss Rs (spells Rs (spelleds Rs ps)) a)))
      (via 𝓤 (sep 𝓤 (emp 𝓤) (emp 𝓤)) (emp∗ 𝓤 (emp 𝓤)) (mono∗ 𝓤 al (owns_make 𝓛 Rs (Ises Rs) (makes 𝓛 Rs ps) a
      (valss Rs (spells Rs (spelleds Rs ps)) a) are))) $
      calls_equal t 𝓣 T c known ((κs, qs, b, a, valss Rs (spells Rs (spelleds Rs ps)) a), g) (id⊢ 𝓤 _) req p x (λ r ws. r ≡ x) said (λ r ws e. e) os
      (λ ws _ is. drop t $ drop t $ k is)

-- beside what is owned, what plain data owns: so are a call's parameters put together, the last first
pub beside : {M : Type 1} {𝓤 : Ura M} {𝓛 : Logic 𝓤} {K : Type 0} {Γ : List (Item 𝓤)} {G : Goal 𝓤 𝓛.H} {P : Fml} → K
    → (Rs : List RattleType) (ps : Plains Rs) (a : Denots Rs)
    → Are Rs (Ises Rs) a (valss Rs (spells Rs (spelleds Rs ps)) a) → Step K 𝓛 (‵ (fsep P (owns Rs a (valss Rs (spells Rs (spelleds Rs ps)) a))) ∷ Γ) G
    (‵ P ∷ Γ) G
beside {𝓤 = 𝓤} {𝓛 = 𝓛} t Rs ps a are = step (λ s. use0 𝓛 (‵ (owns Rs a (valss Rs (spells Rs (spelleds Rs ps)) a)))
    (owns_make 𝓛 Rs (Ises Rs) (makes 𝓛 Rs ps) a (valss Rs (spells Rs (spelleds Rs ps)) a) are) $ move t (1 ∷ 0 ∷ []) $ fjoin t $ s)
