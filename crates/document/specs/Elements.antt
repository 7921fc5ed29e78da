-- What a document is: its elements in their order, or a refusal.
use Rattle.std.specs.Prelude.{Bool, false, List, [], ◌∷◌, ◌++◌, ℕ, ◌+◌, eqb}
use mir.Val.{bool_byte}
use Rattle.text.specs.Answers.{Answer, gives, refuses, giving}
use Rattle.schema.specs.Classes as class

-- a container's start tag at an offset; a leaf's text, from the byte after its start tag on; a container's end
pub data Element : Type 0 where
  opened : (class offset : ℕ) → Element
  text : (class offset : ℕ) (bytes : List ℕ) → Element
  closed : (class : ℕ) → Element

-- elements in front of those of an answer
abbrev pub given : List Element → Answer (List Element) → Answer (List Element)
given es = giving (λ (xs : List Element). es ++ xs)

abbrev pub is_start : ℕ → Element → Bool
is_start c (opened d p) = eqb d c
is_start c (text d p t) = false
is_start c (closed d) = false

-- how many containers of a class there are
unfoldable pub starts : ℕ → List Element → ℕ
starts c [] = 0
starts c (x ∷ xs) = bool_byte (is_start c x) + starts c xs

-- "Parts are the info elements": how many there are
abbrev pub total : List Element → ℕ
total es = starts class.info es

-- ---- facts of a document are gathered from its elements one by one

unfoldable pub fold : {F : Type 0} → (F → Element → F) → F → List Element → F
fold note f [] = f
fold note f (x ∷ xs) = fold note (note f x) xs

-- the infos that have started with an element, k before it
abbrev pub counted : ℕ → Element → ℕ
counted k x = k + bool_byte (is_start class.info x)

-- note n f x: the facts f with what x adds to them, where n infos have started; k have before the elements
unfoldable pub gather : {F : Type 0} → (ℕ → F → Element → F) → ℕ → F → List Element → F
gather note k f [] = f
gather note k f (x ∷ xs) = gather note (counted k x) (note (counted k x) f x) xs

-- an answer by that of a document: by the number of parts and the facts gathered, or by the refusal's number and place
abbrev pub answer : {F R : Type 0} → (ℕ → F → R) → (ℕ → ℕ → R) → (ℕ → F → Element → F) → ℕ → F → Answer (List Element) → R
answer done stop note k f (gives es) = done (k + total es) (gather note k f es)
answer done stop note k f (refuses n p) = stop n p
