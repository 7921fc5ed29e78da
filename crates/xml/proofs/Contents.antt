-- Texts: their faults, and what stands after plain bytes.
use mathlib.Core.Path.{◌≡◌, refl, sym, ◌∙◌}
use mathlib.Core.Bool.{Bool, true, false, not, ◌&&◌, ◌||◌}
use mathlib.Core.List.{List, ◌∷◌}
use Prim.Native.Nat.{ℕ, ◌+◌, ◌≤◌, ◌<◌}
use Prim.Native.Char.{code}
use native.Mathlib.Omega.{arith}
use lib.Dec.{eqb, leb, leb-zero}
use lib.ListN.{length, get_or, drop, drop_of_length-le}
use Rattle.text.specs.Ascii.{ascii}
use Rattle.text.specs.Bytes.{leading}
use Rattle.text.specs.Parts.{starts_with}
use Rattle.text.specs.Logic.{and_comm, and_assoc}
use Rattle.text.proofs.Runs.{drop_next, other_byte, over_run, run_longer, run_both}
use Rattle.xml.specs.Bytes.{is_control, is_plain}
use Rattle.xml.specs.Searches.{up_to}
use Rattle.xml.specs.Texts.{is_reference, is_fault, content}
use Rattle.xml.proofs.ByteKinds.{plain_no_control}

-- one of the five references, from what the five tests gave
pub reference_is :
    (l : List ℕ) {a b c d e : Bool} → a ≡ starts_with (ascii "&amp;") l → b ≡ starts_with (ascii "&lt;") l → c ≡ starts_with (ascii "&gt;") l
    → d ≡ starts_with (ascii "&apos;") l → e ≡ starts_with (ascii "&quot;") l → a || b || c || d || e ≡ is_reference l
unfolding is_reference
reference_is l p q r s t = rw (p, q, r, s, t)

module _ (s : List ℕ) (i : ℕ) where
  -- a fault at an offset, from what the tests of its byte and of what stands there gave
  pub fault_is :
      {c r t : Bool} → i < length s → c ≡ is_control (get_or s i 0) → r ≡ is_reference (drop i s)
      → t ≡ starts_with (ascii "]]>") (drop i s) → c || (eqb (get_or s i 0) (code "&") && not r) || t ≡ is_fault (drop i s)
  unfolding is_fault
  fault_is h x y z = rw (x, y, z, drop_next s i h)

  pub fault_past : length s ≤ i → false ≡ is_fault (drop i s)
  unfolding is_fault
  fault_past h = rw (drop_of_length-le s h)

  -- the text ends at an offset where "<" stands
  pub end_is : i < length s → eqb (get_or s i 0) (code "<") ≡ starts_with (ascii "<") (drop i s)
  unfolding starts_with
  end_is h = rw (drop_next s i h) (and_comm true (eqb (get_or s i 0) (code "<")))

-- a plain byte is no fault, whatever follows, and doesn't end a text
plain_on :
    (i b : ℕ) (m : List ℕ) → is_plain b ≡ true
    → up_to (starts_with (ascii "<")) is_fault i (b ∷ m) ≡ up_to (starts_with (ascii "<")) is_fault (i + 1) m
unfolding is_fault starts_with
plain_on i b m e =
    rw (other_byte is_plain b (code "<") refl e, plain_no_control b e, other_byte is_plain b (code "&") refl e, other_byte is_plain b (code "]") refl e)

-- the text is after a run of plain bytes what it is before it
pub content_run : (s : List ℕ) (i r : ℕ) → r ≡ i + leading is_plain (drop i s) → content s r ≡ content s i
unfolding content
content_run s i r e = rw (e, over_run is_plain (up_to (starts_with (ascii "<")) is_fault) plain_on s i)

-- ---- blocks of 16 bytes

-- after k bytes of the block at an offset, with t whether they all passed
pub record Passed (p : ℕ → Bool) (s : List ℕ) (at : ℕ) (t : Bool) (k : ℕ) : Type 0 where
  pub few : k ≤ 16
  pub all : t ≡ leb k (leading p (drop at s))

module _ (p : ℕ → Bool) (s : List ℕ) (at : ℕ) where
  pub block_start : Passed p s at true 0
  block_start = record { few = omega arith; all = sym (leb-zero (leading p (drop at s))) }

  pub block_on : {t u : Bool} {k : ℕ} → at + 16 ≤ length s → k < 16 → Passed p s at t k → u ≡ p (get_or s (at + k) 0) → Passed p s at (t && u) (k + 1)
  block_on {k = k} h g v q = record { few = omega arith; all = run_longer p s at k (omega arith) v.all q }

  pub block_end : {t : Bool} {k : ℕ} → 16 ≤ k → Passed p s at t k → t ≡ leb 16 (leading p (drop at s))
  block_end {k = k} h v = let z : k ≡ 16 = omega (arith, v.few) in rw z at v.all

abbrev block : (ℕ → Bool) → List ℕ → Bool
block p l = leb 16 (leading p l)

abbrev other : ℕ → ℕ → Bool
other x b = not (eqb b x)

turned : (c x y z : Bool) → c && x && y && z ≡ x && (y && (z && c))
turned c x y z = simp and_assoc (and_comm c (x && (y && z)) ∙ simp and_assoc)

-- a block is plain if it holds no "<", no "&", no "]" and no control byte
pub plain_block :
    (l : List ℕ)
    → block is_plain l ≡ block (other (code "<")) l && (block (other (code "&")) l && (block (other (code "]")) l && block (λ b. not (is_control b)) l))
plain_block l =
    run_both (λ b. not (is_control b) && other (code "<") b && other (code "&") b) (other (code "]")) 16 l
    ∙ rw (run_both (λ b. not (is_control b) && other (code "<") b) (other (code "&")) 16 l, run_both (λ b. not (is_control b)) (other (code "<")) 16 l)
    (turned (block (λ b. not (is_control b)) l) (block (other (code "<")) l) (block (other (code "&")) l) (block (other (code "]")) l))
