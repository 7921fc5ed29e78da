-- What is known of a packet that is accepted.
use mathlib.Core.Path.{◌≡◌, refl, sym, ap, ◌∙◌}
use mathlib.Core.Bool.{Bool, true, false, cond, not}
use mathlib.Core.List.{List}
use Rattle.std.specs.Prelude.{Result, Ok}
use Prim.Native.Nat.{ℕ, ◌≤◌}
use native.Mathlib.Omega.{arith}
use borrow.Author.Tests.{ltb-false, le-ltb, leb-true, not-false, eqb-true, eq-eqb}
use lib.Dec.{eqb, ltb, leb}
use lib.ListN.{length, take}
use mir.Syntax.{w32}
use mir.Val.{Fits}
use Rattle.text.specs.Ascii.{ascii}
use Rattle.text.specs.Logic.{eql, and_right, cond_cases, clash}
use Rattle.text.specs.Answers.{Answer, gives, refuses}
use Rattle.words.specs.Duration.{is_lasting}
use Rattle.coordinates.specs.Place.{in_range}
use Rattle.packet.specs.declared.Fields.{Fields}
use Rattle.packet.specs.declared.Fault.{Fault}
use Rattle.packet.specs.BigEndian.{number_of}
use Rattle.packet.specs.Packet.{flag, fields_of, epicentre, lasting_of, packet_of, packet_answer}

pub record Accepted (p : List ℕ) (f : Fields) : Type 0 where
  pub warn : eql (take 4 p) (ascii "WARN") ≡ true
  pub version : number_of 1 0x04 p ≡ 1
  pub alert : flag 0 p ≡ true
  pub low : 132 ≤ length p
  pub high : length p ≤ 1_200
  pub fields : f ≡ fields_of p
  pub centred : in_range (epicentre f) ≡ true
  pub lasts : is_lasting (lasting_of f) ≡ true

-- a test that an accepted packet has passed
past : (n : ℕ) (y : Answer Fields) (f : Fields) (t : Bool) → cond t (refuses n 0) y ≡ gives f → (t ≡ false) × (y ≡ gives f)
past n y f true q = clash (cc)
past n y f false q = (refl, q)

same : (f g : Fields) → gives f ≡ gives g → g ≡ f
same f g e = cc

pub accepted : (p : List ℕ) (f : Fields) → packet_of p ≡ gives f → Accepted p f
unfolding packet_of
accepted p f e₀ =
    let e₁ = past _ _ f (ltb (length p) 8) e₀ in
    let e₂ = past _ _ f (not (eql (take 4 p) (ascii "WARN"))) e₁.1 in
    let e₃ = past _ _ f (not (eqb (number_of 1 0x04 p) 1)) e₂.1 in
    let e₄ = past _ _ f (not (flag 0 p)) e₃.1 in
    let e₅ = past _ _ f (ltb (length p) 132) e₄.1 in
    let e₆ = past _ _ f (ltb 1_200 (length p)) e₅.1 in
    let e₇ = past _ _ f (not (in_range (epicentre (fields_of p)))) e₆.1 in
    let e₈ = past _ _ f (not (is_lasting (lasting_of (fields_of p)))) e₇.1 in
    let s = same _ _ e₈.1 in
    record {
      warn = not-false _ e₂.0;
      version = eqb-true (number_of 1 0x04 p) 1 (not-false _ e₃.0);
      alert = not-false _ e₄.0;
      low = ltb-false (length p) 132 e₅.0;
      high = ltb-false 1_200 (length p) e₆.0;
      fields = s;
      centred = ap (λ (g : Fields). in_range (epicentre g)) s ∙ not-false _ e₇.0;
      lasts = ap (λ (g : Fields). is_lasting (lasting_of g)) s ∙ not-false _ e₈.0;
    }

-- and a packet of which all this holds is accepted
pub accepts : (p : List ℕ) (f : Fields) → Accepted p f → packet_of p ≡ gives f
unfolding packet_of
accepts p f a =
    rw (
      le-ltb (length p) 8 (omega (arith, a.low)),
      a.warn,
      eq-eqb (number_of 1 0x04 p) 1 a.version,
      a.alert,
      le-ltb (length p) 132 a.low,
      le-ltb 1_200 (length p) a.high,
      ← a.fields,
      a.centred,
      a.lasts,
    )

-- ---- refusals: a packet's own have the numbers 1 to 7; "All others carry 0."

abbrev Refusal : Answer Fields → Type 0
Refusal a = (n at : ℕ) → a ≡ refuses n at → (1 ≤ n) × (n ≤ 7) × (at ≡ 0)

module _ (k : ℕ) (low : 1 ≤ k) (high : k ≤ 7) where
  numbered : Refusal (refuses k 0)
  numbered n at e = let f : k ≡ n = cc in let g : 0 ≡ at = cc in (rw (← f) low, rw (← f) high, sym g)

  first : (y : Answer Fields) (t : Bool) → Refusal y → Refusal (cond t (refuses k 0) y)
  first y t h = cond_cases Refusal t (refuses k 0) y (λ _. numbered) (λ _. h)

pub refusal_numbers : (p : List ℕ) → Refusal (packet_of p)
unfolding packet_of
refusal_numbers p =
    first 1 (omega arith) (omega arith) _ (ltb (length p) 8)
    (first 2 (omega arith) (omega arith) _ (not (eql (take 4 p) (ascii "WARN")))
    (first 3 (omega arith) (omega arith) _ (not (eqb (number_of 1 0x04 p) 1))
    (first 4 (omega arith) (omega arith) _ (not (flag 0 p))
    (first 1 (omega arith) (omega arith) _ (ltb (length p) 132)
    (first 5 (omega arith) (omega arith) _ (ltb 1_200 (length p))
    (first 6 (omega arith) (omega arith) _ (not (in_range (epicentre (fields_of p))))
    (first 7 (omega arith) (omega arith) _ (not (is_lasting (lasting_of (fields_of p))))
    (λ n at e. clash (cc)))))))))

-- ---- the lasting time

-- of the packet o that was read
pub lasts_read : (p : List ℕ) (o : Result Fields Fault) → packet_answer o ≡ packet_of p → (f : Fields) → o ≡ Ok f → is_lasting (lasting_of f) ≡ true
lasts_read p o e f g = (accepted p f (sym e ∙ ap packet_answer g)).lasts

-- it fits 32 bits
pub lasting_fits : (s r : ℕ) → is_lasting s ≡ true → r ≡ s → Fits w32 r
lasting_fits s r h e = record { fits = omega (arith, leb-true s 31_536_000 (and_right (leb 1 s) (leb s 31_536_000) h)) }
