-- A run of calls writes the sentences of the sheets that are not refused, one after the other, and nothing else.
use mathlib.Core.Path.{◌≡◌, refl, sym, ap, ◌∙◌}
use mathlib.Core.Bool.{true}
use mathlib.Core.List.{List, [], ◌∷◌, map}
use Prim.Native.Nat.{ℕ, ◌+◌, ◌-◌, ◌≤◌, ◌<◌}
use native.Mathlib.Omega.{arith}
use lib.Dec.{leb}
use lib.ListN.{length, take, drop, length-append}
use borrow.Author.Tests.{leb-true, leb-false}
use Rattle.buffer.specs.Writing.{written}
use Rattle.text.specs.Answers.{Answer, gives, refuses}
use Rattle.text.specs.Logic.{by_test}
use Rattle.sheet.specs.Sheet.{Sheet}
use Rattle.sheet.specs.Sentence.{sentence}
use Rattle.sheet.specs.Answers.{writing, after}
use Rattle.sheet.specs.Demand.{Call, next_start, Run, no_call, one_call, not_refused, sentences, all_in_range, Writes}
use Rattle.sheet.proofs.WriteOne.{length_written, written_nil, written_then, part_written, given, refused}

-- ---- there is a run

pub runs : (xs : List Sheet) (d : List ℕ) (at : ℕ) → (rs : List (Answer ℕ)) × ((e : List ℕ) × ((end : ℕ) × Run Call xs rs d at e end))
runs [] d at = ([], (d, (at, no_call)))
runs (x ∷ xs) d at =
    let r = writing d at x in
    let w = runs xs (after d at x) (next_start at r) in
    (r ∷ w.0, (w.1.0, (w.1.1.0, one_call (record { answer = refl; buffer = refl }) w.1.1.1)))

-- calls whose contract is the writer's for some sheet are calls of the writer
module _ {X : Type 0} {One : X → List ℕ → ℕ → Answer ℕ → List ℕ → Type 0} (f : X → Sheet)
    (call : (x : X) (d : List ℕ) (at : ℕ) (r : Answer ℕ) (e : List ℕ) → One x d at r e → Call (f x) d at r e) where
  pub lifted : {xs : List X} {rs : List (Answer ℕ)} {d e : List ℕ} {at end : ℕ} → Run One xs rs d at e end → Run Call (map f xs) rs d at e end
  lifted no_call = no_call
  lifted (one_call {x} {r = r} {d = d} {m = m} {at = at} c w) = one_call (call x d at r m c) (lifted w)

-- ---- one call more

record Writing (xs : List Sheet) (d : List ℕ) (at : ℕ) (e : List ℕ) (end : ℕ) : Type 0 where
  pub buffer : e ≡ written d at (sentences xs)
  pub place : end ≡ at + length (sentences xs)
  pub fits : at ≤ length d → end ≤ length d
  pub past : length d < at → xs ≡ []
  pub sound : all_in_range xs ≡ true

module _ (x : Sheet) (xs : List Sheet) (d : List ℕ) (at : ℕ) (m e : List ℕ) (end : ℕ) where
  one_written : {k : ℕ} → Call x d at (gives k) m → Writing xs m k e end → Writing (x ∷ xs) d at e end
  unfolding sentences all_in_range
  one_written {k} c w =
      let s = sentence x in
      let t = sentences xs in
      let g = given d at x c.answer in
      let l = length_written d at s g.room in
      let u : Writing xs (written d at s) (at + length s) e end = rw (c.buffer ∙ g.buffer, g.end) at w in
      let f : end ≤ length d = rw l at (u.fits (rw l g.room)) in
      record {
        buffer = u.buffer ∙ written_then d at s t g.room;
        place = u.place ∙ simp length-append (omega arith);
        fits = λ h. f;
        past = λ h. absurd (omega (arith, g.room));
        sound = rw g.range u.sound;
      }

  one_refused : {n p : ℕ} → Call x d at (refuses n p) m → Writing xs m at e end → Writing xs d at e end
  one_refused c w = rw (c.buffer ∙ refused d at x c.answer) at w

-- ---- all calls

writing_all : {xs : List Sheet} {rs : List (Answer ℕ)} {d e : List ℕ} {at end : ℕ} → Run Call xs rs d at e end → Writing (not_refused xs rs) d at e end
unfolding not_refused sentences all_in_range
writing_all (no_call {d} {at}) =
    record { buffer = sym (written_nil d at); place = omega arith; fits = λ h. h; past = λ h. refl; sound = refl }
writing_all (one_call {x} {xs} {r = gives k} {rs} {d} {m} {e} {at} {end} c w) = one_written x (not_refused xs rs) d at m e end c (writing_all w)
writing_all (one_call {x} {xs} {r = refuses n p} {rs} {d} {m} {e} {at} {end} c w) = one_refused x (not_refused xs rs) d at m e end c (writing_all w)

module _ (xs : List Sheet) (d : List ℕ) (at : ℕ) where
  -- what stands between the first start and the last end
  part_all : (length d < at → xs ≡ []) → take (length (sentences xs)) (drop at (written d at (sentences xs))) ≡ sentences xs
  unfolding sentences
  part_all h =
      by_test (leb at (length d))
      (λ e. part_written d at (sentences xs) (leb-true at (length d) e))
      (λ e. rw (h (leb-false at (length d) e)))

  whole : {e : List ℕ} {end : ℕ} → Writing xs d at e end → Writes xs d at e end
  unfolding sentences
  whole {e} {end} w =
      let n : end - at ≡ length (sentences xs) = omega (arith, w.place) in
      record {
        text = rw (n, w.buffer) (part_all w.past);
        buffer = w.buffer;
        size =
            by_test (leb at (length d))
            (λ h. ap length w.buffer ∙ length_written d at (sentences xs) (rw w.place at (w.fits (leb-true at (length d) h))))
            (λ h. ap length w.buffer ∙ rw (w.past (leb-false at (length d) h), written_nil d at));
        place = w.place;
        fits = w.fits;
        past = w.past;
        sound = w.sound;
      }

pub writes : {xs : List Sheet} {rs : List (Answer ℕ)} {d e : List ℕ} {at end : ℕ} → Run Call xs rs d at e end → Writes (not_refused xs rs) d at e end
writes {xs} {rs} {d} {e} {at} {end} w = whole (not_refused xs rs) d at (writing_all w)
