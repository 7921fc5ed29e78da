-- Reading a text of whole read-backs gives their sheets, and any other text is refused at its first line that is none.
use mathlib.Core.Path.{◌≡◌, refl, sym, ap, ap₂, ◌∙◌}
use mathlib.Core.Bool.{true, false}
use mathlib.Core.List.{List, [], ◌∷◌, ◌++◌, append_assoc}
use mathlib.Core.Logic.{◌⊎◌, inl, inr, ⊎_elim}
use mathlib.Core.Option.{none, some}
use Prim.Native.Nat.{ℕ, zero, suc, ◌+◌, ◌≤◌, ◌<◌}
use native.Mathlib.Omega.{arith}
use native.Mathlib.Nat.{zero-add}
use lib.ListN.{length, drop, get_or, length-append, length-drop}
use lib.Seq.{drop-drop, drop-append_seam}
use Rattle.text.specs.Answers.{Answer, gives, refuses, answer_and_then}
use Rattle.text.specs.Logic.{by_test, clash, and_left, and_right}
use Rattle.sheet.specs.declared.Found.{Found}
use Rattle.sheet.specs.Sheet.{Sheet, in_range}
use Rattle.sheet.specs.Sentence.{sentence}
use Rattle.sheet.specs.Reading.{found_at, sheet_in, sheet_of, is_line}
use Rattle.sheet.specs.Answers.{line_length, contents_from, contents_of, pick, asked, read_back}
use Rattle.sheet.specs.Demand.{sentences, all_in_range, Reads, Refuses, IsReadBacks}
use Rattle.sheet.proofs.ReadSentence.{found_at_lem, sheet_of_sentence}
use Rattle.sheet.proofs.Lines.{sentence_some, is_line_lem, line_length_lem, after_line, line_range, line_split, line_some, not_line}
use Rattle.sheet.proofs.Contents.{followed_by, contents_on, contents_stop, contents_end}

-- ---- texts of whole read-backs

-- what is found in the sentences of sheets, which stand at offset i
founds : ℕ → List Sheet → List Found
founds i [] = []
founds i (x ∷ xs) = found_at i (sentence x ++ sentences xs) ∷ founds (i + length (sentence x)) xs

founds_length : (i : ℕ) (xs : List Sheet) → length (founds i xs) ≡ length xs
unfolding founds
founds_length i [] = refl
founds_length i (x ∷ xs) = ap suc (founds_length (i + length (sentence x)) xs)

contents_sentences : (i : ℕ) (xs : List Sheet) → all_in_range xs ≡ true → contents_from (length (sentences xs)) i (sentences xs) ≡ gives (founds i xs)
unfolding sentences all_in_range founds
contents_sentences i [] v = contents_end i
contents_sentences i (x ∷ xs) v =
    let h = and_left (in_range x) (all_in_range xs) v in
    let r = sentences xs in
    contents_on i (sentence x ++ r) (is_line_lem x r h)
    ∙ rw (after_line x r h, line_length_lem x r h)
    (ap (followed_by (found_at i (sentence x ++ r))) (contents_sentences (i + length (sentence x)) xs (and_right (in_range x) (all_in_range xs) v)))

-- each of them is the sheet that was written
founds_sheet :
    (t : List ℕ) (i : ℕ) (xs : List Sheet) (k : ℕ) (f : Found) (z : Sheet)
    → drop i t ≡ sentences xs → all_in_range xs ≡ true → k < length xs → sheet_in t (get_or (founds i xs) k f) ≡ get_or xs k z
unfolding sentences all_in_range founds
founds_sheet t i [] k f z e v h = absurd (omega arith)
founds_sheet t i (x ∷ xs) zero f z e v h =
    ap (λ (l : List ℕ). sheet_in t (found_at i l)) (sym e)
    ∙ found_at_lem i t
    ∙ ap sheet_of e
    ∙ sheet_of_sentence x (sentences xs) (and_left (in_range x) (all_in_range xs) v)
founds_sheet t i (x ∷ xs) (suc k) f z e v h =
    let n = length (sentence x) in
    founds_sheet t (i + n) xs k f z
    (sym (drop-drop n i t) ∙ ap (drop n) e ∙ drop-append_seam (sentence x) (sentences xs))
    (and_right (in_range x) (all_in_range xs) v)
    (omega arith)

pick_some : (n : ℕ) (fs : List Found) (k : ℕ) (f : Found) → k < length fs → pick n fs k ≡ gives (n, some (get_or fs k f))
unfolding pick
pick_some n [] k f h = absurd (omega arith)
pick_some n (g ∷ fs) zero f h = refl
pick_some n (g ∷ fs) (suc k) f h = pick_some n fs k f (omega arith)

pick_none : (n : ℕ) (fs : List Found) (k : ℕ) → length fs ≤ k → pick n fs k ≡ refuses 21 0
unfolding pick
pick_none n [] k h = refl
pick_none n (g ∷ fs) zero h = absurd (omega arith)
pick_none n (g ∷ fs) (suc k) h = pick_none n fs k (omega arith)

module _ (xs : List Sheet) (v : all_in_range xs ≡ true) where
  all_contents : contents_of (sentences xs) ≡ gives (founds 0 xs)
  unfolding contents_of
  all_contents = contents_sentences 0 xs v

  all_count : read_back (sentences xs) 0 ≡ gives (length xs, none)
  unfolding read_back asked
  all_count = ap (λ (c : Answer (List Found)). answer_and_then c (asked 0)) all_contents ∙ ap (λ (n : ℕ). gives (n, none)) (founds_length 0 xs)

  all_pick : (k : ℕ) → read_back (sentences xs) (suc k) ≡ pick (length xs) (founds 0 xs) k
  unfolding read_back asked
  all_pick k = ap (λ (c : Answer (List Found)). answer_and_then c (asked (suc k))) all_contents ∙ ap (λ (n : ℕ). pick n (founds 0 xs) k) (founds_length 0 xs)

  pub reads : Reads xs
  reads =
      let f = found_at 0 [] in
      let n = founds_length 0 xs in
      record {
        count = all_count;
        each = λ k z h. (
          get_or (founds 0 xs) k f,
          (
            all_pick k ∙ pick_some (length xs) (founds 0 xs) k f (rw n h),
            founds_sheet (sentences xs) 0 xs k f z refl v h,
          ),
        );
        past = λ k h. all_pick k ∙ pick_none (length xs) (founds 0 xs) k (rw n h);
      }

-- equal texts are the sentences of equal lists
pub sentences_injective : (xs ys : List Sheet) → all_in_range xs ≡ true → all_in_range ys ≡ true → sentences xs ≡ sentences ys → xs ≡ ys
unfolding sentences all_in_range
sentences_injective [] [] v w e = refl
sentences_injective [] (y ∷ ys) v w e = absurd (omega (arith, sentence_some y, simp length-append at (ap length e)))
sentences_injective (x ∷ xs) [] v w e = absurd (omega (arith, sentence_some x, simp length-append at (ap length e)))
sentences_injective (x ∷ xs) (y ∷ ys) v w e =
    let a = sentences xs in
    let b = sentences ys in
    let p : x ≡ y
    = sym (sheet_of_sentence x a (and_left (in_range x) (all_in_range xs) v))
    ∙ ap sheet_of e
    ∙ sheet_of_sentence y b (and_left (in_range y) (all_in_range ys) w) in
    let q : a ≡ b
    = sym (drop-append_seam (sentence x) a)
    ∙ ap₂ drop (ap (λ (z : Sheet). length (sentence z)) p) e
    ∙ drop-append_seam (sentence y) b in
    ap₂ (λ (z : Sheet) (zs : List Sheet). z ∷ zs) p
    (sentences_injective xs ys (and_right (in_range x) (all_in_range xs) v) (and_right (in_range y) (all_in_range ys) w) q)

-- ---- any text

-- the text t, which stands at offset i, stops after the sentences of front
record Stopped (i : ℕ) (t : List ℕ) : Type 0 where
  pub front : List Sheet
  pub rest : List ℕ
  pub sound : all_in_range front ≡ true
  pub split : t ≡ sentences front ++ rest
  pub more : rest ≡ [] → ⊥
  pub other : (x : Sheet) (l : List ℕ) → in_range x ≡ true → rest ≡ sentence x ++ l → ⊥
  pub answer : contents_from (length t) i t ≡ refuses 23 (i + length (sentences front))

cons_nil : (b : ℕ) (l : List ℕ) → b ∷ l ≡ [] → ⊥
cons_nil b l e = omega (arith, ap length e)

module _ (i : ℕ) (t : List ℕ) (e : is_line t ≡ true) where
  more_sheets : IsReadBacks (drop (line_length t) t) → IsReadBacks t
  unfolding sentences all_in_range
  more_sheets s = (
    sheet_of t ∷ s.0,
    (rw (line_range t e) s.1.0, line_split t e ∙ ap (λ (l : List ℕ). sentence (sheet_of t) ++ l) s.1.1),
  )

  more_stopped : Stopped (i + line_length t) (drop (line_length t) t) → Stopped i t
  unfolding sentences all_in_range line_length
  more_stopped s = record {
    front = sheet_of t ∷ s.front;
    rest = s.rest;
    sound = rw (line_range t e) s.sound;
    split =
        line_split t e
        ∙ ap (λ (l : List ℕ). sentence (sheet_of t) ++ l) s.split
        ∙ sym (append_assoc (sentence (sheet_of t)) (sentences s.front) s.rest);
    more = s.more;
    other = s.other;
    answer = contents_on i t e ∙ ap (followed_by (found_at i t)) s.answer ∙ ap (refuses 23) (simp length-append (omega arith));
  }

stopped_here : (i b : ℕ) (l : List ℕ) → is_line (b ∷ l) ≡ false → Stopped i (b ∷ l)
unfolding sentences all_in_range
stopped_here i b l e = record {
  front = [];
  rest = b ∷ l;
  sound = refl;
  split = refl;
  more = cons_nil b l;
  other = not_line (b ∷ l) e;
  answer = contents_stop i (b ∷ l) (omega arith) e ∙ ap (refuses 23) (omega arith);
}

-- n bounds the length of the text
read_all : (n i : ℕ) (t : List ℕ) → length t ≤ n → IsReadBacks t ⊎ Stopped i t
unfolding sentences all_in_range
read_all zero i [] h = inl ([], (refl, refl))
read_all zero i (b ∷ l) h = absurd (omega arith)
read_all (suc n) i [] h = inl ([], (refl, refl))
read_all (suc n) i (b ∷ l) h =
    let t = b ∷ l in
    let k = line_length t in
    let s = line_some t in
    by_test (is_line t)
    (λ e.
    ⊎_elim
    (λ w. inl (more_sheets i t e w))
    (λ w. inr (more_stopped i t e w))
    (read_all n (i + k) (drop k t) (simp length-drop (omega arith))))
    (λ e. inr (stopped_here i b l e))

refused_at : (t : List ℕ) → Stopped 0 t → Refuses t
unfolding read_back contents_of
refused_at t s = record {
  front = s.front;
  rest = s.rest;
  sound = s.sound;
  split = s.split;
  more = s.more;
  other = s.other;
  answer = λ k.
      ap (λ (c : Answer (List Found)). answer_and_then c (asked k)) s.answer
      ∙ ap (refuses 23) (zero-add (length (sentences s.front)));
}

pub exact : (t : List ℕ) → IsReadBacks t ⊎ Refuses t
exact t = ⊎_elim inl (λ s. inr (refused_at t s)) (read_all (length t) 0 t (omega arith))

pub never : (t : List ℕ) → IsReadBacks t → Refuses t → ⊥
never t s r = clash (cc (all_count s.0 s.1.0, s.1.1, r.answer 0))
