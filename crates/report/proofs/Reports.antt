-- What is written about a document, by the answer to checking it and by the buffer's room.
use mathlib.Core.Path.{◌≡◌, refl, sym, ap, ◌∙◌}
use mathlib.Core.List.{List}
use Prim.Native.Nat.{ℕ, zero, suc, ◌*◌, ◌≤◌, ◌<◌}
use native.Mathlib.Nat.{zero-add}
use native.Mathlib.Omega.{arith}
use borrow.Author.Tests.{lt-ltb, le-ltb}
use lib.ListN.{length}
use Rattle.text.specs.Answers.{Answer, gives, refuses, giving}
use Rattle.text.specs.Logic.{clash}
use Rattle.buffer.specs.Cursor.{Put}
use Rattle.buffer.proofs.Room.{put_whole}
use Rattle.document.specs.Elements.{Element, total}
use Rattle.document.specs.Documents.{document_of, check_of}
use Rattle.document.proofs.Schema.{parts_limit}
use Rattle.sheet.specs.Sentence.{longest}
use Rattle.report.specs.Lines.{refusal_line, lines_from, lines_of, report_of, report_room, reported, reported_in}
use Rattle.report.proofs.Refusing.{refusal_le}
use Rattle.report.proofs.Following.{lines_le}

-- an accepted document has sixteen parts at most
pub check_limit : (l : List ℕ) (k : ℕ) → check_of l ≡ gives k → k ≤ 16
unfolding check_of
check_limit l k q = go (document_of l) refl q
  where
    go : (v : Answer (List Element)) → document_of l ≡ v → giving total v ≡ gives k → k ≤ 16
    go (gives es) e c = let t : total es ≡ k = cc in omega (arith, t, parts_limit l es e)
    go (refuses n p) e c = clash (cc)

-- ---- what is written, by the answer to checking

module _ (l : List ℕ) where
  -- the line of the refusal
  pub report_refused : (n p : ℕ) → check_of l ≡ refuses n p → report_of l ≡ refusal_line n p
  unfolding report_of
  report_refused n p q = ap (lines_of l) q

  -- part 0's line, where there are no parts
  pub report_none : (k : ℕ) → check_of l ≡ gives k → k ≡ 0 → report_of l ≡ lines_from l 1 0
  unfolding report_of
  report_none k q h = ap (lines_of l) q ∙ ap (λ (n : ℕ). lines_of l (gives n)) h

  -- the lines of all parts
  pub report_some : (k : ℕ) → check_of l ≡ gives k → 0 < k → report_of l ≡ lines_from l k 1
  unfolding report_of
  report_some zero q h = absurd (omega arith)
  report_some (suc k) q h = ap (lines_of l) q

-- ---- the answer and the buffer d

-- sixteen lines at most
report_le : (l : List ℕ) → length (report_of l) ≤ 16 * longest
report_le l = go (check_of l) refl
  where
    go : (c : Answer ℕ) → check_of l ≡ c → length (report_of l) ≤ 16 * longest
    go (gives zero) e = rw (report_none l 0 e refl) (omega (arith, lines_le l 1 0))
    go (gives (suc k)) e = rw (report_some l (suc k) e (omega arith)) (omega (arith, check_limit l (suc k) e, lines_le l (suc k) 1))
    go (refuses n p) e = rw (report_refused l n p e) (omega (arith, refusal_le n p))

module _ (d l : List ℕ) where
  -- where the buffer is too small
  pub no_room : length d < report_room → (refuses 13 0 ≡ reported d l) × (d ≡ reported_in d l)
  unfolding reported reported_in
  no_room h = let t = lt-ltb (length d) report_room h in (rw t, rw t)

  -- where there is room, and t is what is written
  pub has_room :
      {t e : List ℕ} {r : ℕ} → report_room ≤ length d → report_of l ≡ t → Put d 0 t e r → (gives r ≡ reported d l) × (e ≡ reported_in d l)
  unfolding reported reported_in
  has_room {t} {e} {r} h w p =
      let u = le-ltb (length d) report_room h in
      let v = put_whole (rw (sym w) at p) (omega (arith, report_le l)) in
      (rw u (ap gives (v.1 ∙ zero-add _)), rw u v.0)
