-- From a walk of a function's MIR to the statement that the function meets its contract.
--     met              the walk starts from the tokens and what the parameters own, with their machine values written out, their relations in hand,
--                      and each of its local's type
--     ends_owning      how it ends: from the tokens, what is had of the parameters at exit, what the result owns, and what the contract ensures
--     ends             the same with plain data as its result, which owns nothing
--     drops, nothings, all_drop, had       of parameters of which nothing is kept: what is had of them, that it is enough, and that it is had
-- Assumes `Logic`.
use mathlib.Core.List.{List, [], ◌∷◌}
use Prim.Native.Nat.{ℕ}
use seplogic.Ra.Ura.{Ura}
use mir.Syntax.{Fn}
use mir.Val.{Val}
use base.Logic.{SProp, ent, sep, emp, via, fst∗, id⊢, emp∗, mono∗}
use contract.Monad.{top}
use base.Fml.{Fml, ftrue, fsep}
use prog.Wp.{WpFn, Tables}
use types.Logic.{Logic, sem}
use contract.Lifetimes.{Lfts, Shares, AllOutlive}
use sound.WpLaws.{WpFn-mono}
use types.Kit.{‵, raw, ◌$◌, ◌∵◌, !, qed, by, frame, join, use0, done, move}
use denote.RattleType.{RattleType, flat, mirs}
use denote.Laws.{Is, Ises, Are, valss, Typed, all_Typed}
use denote.Signature.{Slot, types_at, type_at}
use denote.Triple.End.{Kepts}
use denote.Steps.{owned}
use denote.Triple.Entry.{Args, Res, Vals, alive, on_entry}
use denote.Triple.Clauses.{Ended, Clauses, Lasts, at_exit, closing}
use denote.Triple.Spec.{Meets}
use denote.Triple.Walked.{Stays, stay_dropped, Silent, Goes-dropped, Fit, has_of, walk_of, AllGo, Ending, ends_at, walked, walk_Meets}
use Rattle.walks.proofs.Types.{Plain, Spelleds, spells, tells, lawful}

-- nothing is kept of any of the parameters, and nothing is said of them
module _ {n : ℕ} where
  -- the parameters but the first
  abbrev pub others : List (Slot n) → List (Slot n)
  others [] = []
  others (s ∷ ss) = ss

  abbrev pub drops : (ss : List (Slot n)) (ks : Kepts ss) → Stays ss ks
  drops [] ks = tt
  drops (s ∷ ss) ks = (stay_dropped s ks.0, drops ss ks.1)

  abbrev pub nothings : List (Slot n) → Fml
  nothings [] = ftrue
  nothings (s ∷ ss) = fsep ftrue (nothings ss)

  module _ {M : Type 1} {𝓤 : Ura M} (𝓛 : Logic 𝓤) where
    abbrev pub AllSilent : (ss : List (Slot n)) → Kepts ss → Type 1
    AllSilent [] ks = Unit {1}
    AllSilent (s ∷ ss) ks = Silent 𝓛 n s ks.0 × AllSilent ss ks.1

    pub all_drop : (ss : List (Slot n)) (ks : Kepts ss) → AllSilent ss ks → AllGo 𝓛 n ss ks (drops ss ks)
    all_drop [] ks qs = tt
    all_drop (s ∷ ss) ks qs = (Goes-dropped 𝓛 n s ks.0 qs.0, all_drop ss ks.1 qs.1)

    pub had : (ss : List (Slot n)) → ent 𝓤 (emp 𝓤) (sem 𝓛 (nothings ss))
    had [] = id⊢ 𝓤 (emp 𝓤)
    had (s ∷ ss) = via 𝓤 (sep 𝓤 (emp 𝓤) (emp 𝓤)) (emp∗ 𝓤 (emp 𝓤)) (mono∗ 𝓤 (id⊢ 𝓤 (emp 𝓤)) (had ss))

module _ {M : Type 1} {𝓤 : Ura M} (𝓛 : Logic 𝓤) (T : Ended) (hs : Stays T.signature.params T.kept)
    (c : Clauses 𝓤 T) where
  open 𝓛 use {H}

  module _ (y : (walk_of 𝓛 T hs c).Ghost) (r : Res T.signature y.0.0) (ws : Lasts T y.0.0 y.0.3)
      (fits : Fit T hs y.0.0 y.0.3 ws) where
    abbrev Has : Fml
    Has = has_of y.0.0 T.signature.params T.kept hs y.0.3 ws y.0.4

    abbrev O : RattleType
    O = type_at T.signature.result y.0.0

    abbrev Ensures : SProp 𝓤
    Ensures = (c y.0.0 y.0.3).ensures y.1 r (at_exit T y.0.0 y.0.3 ws)

    pub ends_owning : (u : Val) → ent 𝓤 (sep 𝓤 (alive 𝓛 T.signature y.0.0 y.0.1)
        (sep 𝓤 (sem 𝓛 Has) (sep 𝓤 (sem 𝓛 (O.own_val r (u ∷ []))) Ensures))) ((walk_of 𝓛 T hs c).post y u)
    ends_owning u = via 𝓤 (Ending 𝓛 T hs c y u r ws)
        (qed 𝓛 (raw (alive 𝓛 T.signature y.0.0 y.0.1) ∷ ‵ Has ∷ ‵ (O.own_val r (u ∷ [])) ∷ raw Ensures ∷ []) ∵ move ! (1 ∷ 2 ∷ []) $ join ! $
        move ! (1 ∷ 0 ∷ []) $ join ! $ done !)
        (ends_at 𝓛 T hs c y u r ws fits)

    module _ (says : ent 𝓤 (emp 𝓤) Ensures) (p : Plain O) (is : Is O r (p.spelled.val r ∷ [])) where
      pub ends : ent 𝓤 (sep 𝓤 (alive 𝓛 T.signature y.0.0 y.0.1) (sem 𝓛 Has)) ((walk_of 𝓛 T hs c).post y (p.spelled.val r))
      ends = via 𝓤 _
          (qed 𝓛 (raw (alive 𝓛 T.signature y.0.0 y.0.1) ∷ ‵ Has ∷ []) ∵ owned ! O (Is O) (p.makes 𝓛) r (p.spelled.val r ∷ []) is $
          use0 𝓛 (raw Ensures) says $ move ! (2 ∷ 3 ∷ 1 ∷ 0 ∷ []) $ done !)
          (ends_owning (p.spelled.val r))

      -- the same where nothing is had of any parameter
      pub ends_free : ent 𝓤 (emp 𝓤) (sem 𝓛 Has) → ent 𝓤 (alive 𝓛 T.signature y.0.0 y.0.1)
          ((walk_of 𝓛 T hs c).post y (p.spelled.val r))
      ends_free has = via 𝓤 _ (qed 𝓛 (raw (alive 𝓛 T.signature y.0.0 y.0.1) ∷ []) ∵ frame ! $ by ! (via 𝓤 (emp 𝓤) (top 𝓤 _) has)) ends

  module _ (goes : AllGo 𝓛 T.signature.lifetimes T.signature.params T.kept hs) (𝓣 : Tables 𝓤 H) (f : Fn)
      (ss : (κs : Lfts T.signature.lifetimes) → Spelleds (types_at T.signature.params κs)) where
    abbrev at : (κs : Lfts T.signature.lifetimes) → Args T.signature κs → Vals T.signature κs
    at κs a = valss (types_at T.signature.params κs) (spells (types_at T.signature.params κs) (ss κs)) a

    pub met : ((κs : Lfts T.signature.lifetimes) (qs : Shares T.signature.lifetimes)
        (b : AllOutlive T.signature.lifetimes T.signature.outlives κs) (a : Args T.signature κs) (g : (c κs a).ghost)
        → Are (types_at T.signature.params κs) (Ises (types_at T.signature.params κs)) a (at κs a)
        → Typed (mirs (types_at T.signature.params κs)) (flat (types_at T.signature.params κs) (at κs a))
        → ent 𝓤 (on_entry 𝓛 T.signature κs qs a (at κs a)) (WpFn 𝓤 H 𝓣.C 𝓣.Λ f (flat (types_at T.signature.params κs) (at κs a))
        ((walk_of 𝓛 T hs c).post ((κs, qs, b, a, at κs a), g))))
        → Meets 𝓛 T.signature (WpFn 𝓤 H 𝓣.C 𝓣.Λ f) (closing 𝓛 T c)
    met walk = walk_Meets 𝓛 T hs goes c (WpFn 𝓤 H 𝓣.C 𝓣.Λ f) (WpFn-mono 𝓤 H 𝓛.laws 𝓣 f)
        (walked 𝓛 T hs c (WpFn 𝓤 H 𝓣.C 𝓣.Λ f) (λ κs. spells (types_at T.signature.params κs) (ss κs))
        (λ κs. tells (types_at T.signature.params κs) (ss κs))
        (λ κs qs b a g are. via 𝓤 (on_entry 𝓛 T.signature κs qs a (at κs a))
        (fst∗ 𝓤 (on_entry 𝓛 T.signature κs qs a (at κs a)) ((c κs a).requires g))
        (walk κs qs b a g are (all_Typed 𝓛 (types_at T.signature.params κs) (lawful 𝓛 (types_at T.signature.params κs) (ss κs)) a
        (at κs a) are))))
