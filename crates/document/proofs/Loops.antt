-- Every loop over a document: what is still to be answered, from its step and the facts gathered so far, is the whole document's answer.
use mathlib.Core.Path.{◌≡◌, refl, sym, ap, ◌∙◌}
use mathlib.Core.List.{List, [], ◌∷◌, ◌++◌}
use Prim.Native.Nat.{ℕ, suc, ◌+◌, ◌-◌, ◌<◌, ◌≤◌}
use native.Mathlib.Omega.{arith}
use borrow.Author.Tests.{ltb-false}
use lib.Dec.{ltb}
use lib.ListN.{length}
use Rattle.std.specs.Prelude.{Option, Some, Result, Ok, Err}
use Rattle.text.specs.Parts.{part}
use Rattle.text.specs.Answers.{Answer, gives, refuses, giving}
use Rattle.text.specs.Logic.{cond_cases}
use Rattle.xml.specs.declared.PrologError.{PrologError}
use Rattle.xml.specs.Opening as opening
use Rattle.document.specs.declared.Mode.{Mode}
use Rattle.document.specs.declared.Event.{Event}
use Rattle.document.specs.declared.Event.TheVariants.{Silent, Opened, Text, Closed}
use Rattle.document.specs.Steps.{Step, Next, Done, Refused, step_answer}
use Rattle.document.specs.Elements.{Element, opened, text, closed, given, starts, total, fold, counted, gather, answer}
use Rattle.document.specs.Constructs.{step_of}
use Rattle.document.specs.Documents.{elements_of, max_length, prolog_step, first_step, after, read_from, document_of, check_of}
use Rattle.document.proofs.Events.{SoundStep, step_sound}
use Rattle.document.proofs.Runs.{first_holds, read_step}

pub starts_append : (c : ℕ) (xs ys : List Element) → starts c (xs ++ ys) ≡ starts c xs + starts c ys
unfolding starts
starts_append c [] ys = omega arith
starts_append c (x ∷ xs) ys = omega (arith, starts_append c xs ys)

-- a step that was taken
pub took : {step : Option (Mode × Event)} {m : Mode} {e : Event} → step ≡ Some (m, e) → step_answer (Ok step) ≡ Next m e
took p = ap (λ (x : Option (Mode × Event)). step_answer (Ok x)) p

-- the bytes that are left after a step, and one: a loop's measure
abbrev pub left : List ℕ → Step → ℕ
left l (Next m e) = suc (length l - m.at)
left l Done = 0
left l (Refused n p) = 0

pub left_less : (l : List ℕ) (m : Mode) (e : Event) (step step' : Step) → step ≡ Next m e → step' ≡ step_of l m → left l step' < left l step
left_less l m e step step' p q = rw (p, q) (go (step_of l m) (step_sound l m))
  where
    go : (r : Step) → SoundStep l m r → left l r < suc (length l - m.at)
    go (Next m' e) o = omega (arith, o.later, o.within)
    go Done h = omega arith
    go (Refused n q) h = omega arith

-- a document that is read has no more bytes than it may have
pub first_left : (l : List ℕ) → left l (first_step l) ≤ suc max_length
unfolding first_step
first_left l =
    cond_cases (λ (r : Step). left l r ≤ suc max_length) (ltb max_length (length l)) _ _ (λ e. omega arith)
    (λ e. go (opening.prolog l) (ltb-false max_length (length l) e))
  where
    go : (r : Result ℕ PrologError) → length l ≤ max_length → left l (prolog_step r) ≤ suc max_length
    go (Ok at) h = omega (arith, h)
    go (Err e) h = omega arith

-- the mode after a step counts the infos, of which k have started before the step's event
abbrev Counts : List ℕ → ℕ → Step → Type 0
Counts l k (Next m e) = m.infos ≡ k + total (elements_of l e)
Counts l k Done = Prim.Unit
Counts l k (Refused n p) = Prim.Unit

first_counts : (l : List ℕ) → Counts l 0 (first_step l)
unfolding starts
first_counts l = first_holds l (Counts l 0) (λ n p h. tt) (λ at. refl)

step_counts : (l : List ℕ) (m : Mode) → Counts l m.infos (step_of l m)
step_counts l m = go (step_of l m) (step_sound l m)
  where
    go : (r : Step) → SoundStep l m r → Counts l m.infos r
    go (Next m' e) o = o.counts
    go Done h = tt
    go (Refused n q) h = tt

module _ {F R : Type 0} (done : ℕ → F → R) (stop : ℕ → ℕ → R) (note : ℕ → F → Element → F) where
  -- the facts of a list are those of its front, then of the rest
  gather_append : (k : ℕ) (f : F) (xs ys : List Element) → gather note k f (xs ++ ys) ≡ gather note (k + total xs) (gather note k f xs) ys
  unfolding gather starts
  gather_append k f [] ys = let z : k + 0 ≡ k = omega arith in rw z refl
  gather_append k f (x ∷ xs) ys =
      let z : k + total (x ∷ xs) ≡ counted k x + total xs = omega arith in
      rw z (gather_append (counted k x) (note (counted k x) f x) xs ys)

  given_answer :
      (k : ℕ) (f : F) (es : List Element) (v : Answer (List Element))
      → answer done stop note k f (given es v) ≡ answer done stop note (k + total es) (gather note k f es) v
  given_answer k f es (gives xs) =
      let z : k + total (es ++ xs) ≡ k + total es + total xs = omega (arith, starts_append 2 es xs) in
      rw (z, gather_append k f es xs) refl
  given_answer k f es (refuses n p) = refl

  -- an event has one element at most
  gather_one : (k n : ℕ) (f : F) (x : Element) → n ≡ k + total (x ∷ []) → gather note k f (x ∷ []) ≡ fold (note n) f (x ∷ [])
  unfolding gather fold starts
  gather_one k n f x q = ap (λ (i : ℕ). note i f x) (omega (arith, q))

  gather_event :
      (l : List ℕ) (k n : ℕ) (f : F) (e : Event) → n ≡ k + total (elements_of l e)
      → gather note k f (elements_of l e) ≡ fold (note n) f (elements_of l e)
  unfolding gather fold
  gather_event l k n f Silent q = refl
  gather_event l k n f (Opened c p) q = gather_one k n f (opened c p) q
  gather_event l k n f (Text c from until) q = gather_one k n f (text c from (part l from until)) q
  gather_event l k n f (Closed c) q = gather_one k n f (closed c) q

  event_answer :
      (l : List ℕ) (k n : ℕ) (f : F) (e : Event) (v : Answer (List Element)) → n ≡ k + total (elements_of l e)
      → answer done stop note n (fold (note n) f (elements_of l e)) v ≡ answer done stop note k f (given (elements_of l e) v)
  event_answer l k n f e v q = rw (← gather_event l k n f e q, q) (sym (given_answer k f (elements_of l e) v))

  -- k infos have started and f is gathered before the step's event; whole is the document's answer
  pub record Reads (l : List ℕ) (whole : R) (step : Step) (k : ℕ) (f : F) : Type 0 where
    pub counts : Counts l k step
    pub same : answer done stop note k f (after l (read_from l) step) ≡ whole

module _ {F R : Type 0} {done : ℕ → F → R} {stop : ℕ → ℕ → R} {note : ℕ → F → Element → F} where
  pub reads_first :
      (l : List ℕ) (step : Step) (f : F) → step ≡ first_step l
      → Reads done stop note l (answer done stop note 0 f (document_of l)) step 0 f
  unfolding document_of
  reads_first l step f e = rw e (record { counts = first_counts l; same = refl })

  module _ {l : List ℕ} {whole : R} {step : Step} {k : ℕ} {f : F} (r : Reads done stop note l whole step k f) where
    pub reads_next :
        (m : Mode) (e : Event) (step' : Step) (f' : F) → step ≡ Next m e → step' ≡ step_of l m → f' ≡ fold (note m.infos) f (elements_of l e)
        → Reads done stop note l whole step' m.infos f'
    reads_next m e step' f' p q d =
        rw (q, d) (record {
          counts = step_counts l m;
          same =
              ap (answer done stop note m.infos (fold (note m.infos) f (elements_of l e))) (sym (read_step l m))
              ∙ (event_answer done stop note l k m.infos f e (read_from l m) (rw p at r.counts) ∙ rw p at r.same);
        })

    pub reads_done : step ≡ Done → done k f ≡ whole
    unfolding gather starts
    reads_done p = let z : k + 0 ≡ k = omega arith in rw z at (rw p at r.same)

    pub reads_refused : (n q : ℕ) → step ≡ Refused n q → stop n q ≡ whole
    reads_refused n q p = rw p at r.same

-- ---- a check gathers nothing

check_answer_lem : (v : Answer (List Element)) → answer (λ (n : ℕ) (u : Prim.Unit {0}). gives n) refuses (λ n u x. u) 0 tt v ≡ giving total v
check_answer_lem (gives es) = ap gives (omega arith)
check_answer_lem (refuses n p) = refl

abbrev pub Checks : List ℕ → Step → ℕ → Type 0
Checks l step k = Reads (λ (n : ℕ) (u : Prim.Unit {0}). gives n) refuses (λ n u x. u) l (check_of l) step k tt

pub checks_first : (l : List ℕ) (step : Step) → step ≡ first_step l → Checks l step 0
unfolding check_of
checks_first l step e = rw (← check_answer_lem (document_of l)) (reads_first l step tt e)
