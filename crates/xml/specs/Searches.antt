-- Texts that run to an end, and the first fault in them.
use Rattle.std.specs.Prelude.{Bool, false, cond, ◌||◌, List, [], ◌∷◌, ℕ, ◌+◌, Result, Ok, Err}
use Rattle.xml.specs.declared.ContentError.{ContentError}
use Rattle.xml.specs.declared.ContentError.TheVariants.{Fault, Unended}

-- a test of what follows holds at some offset of a text
abbrev pub holds : (List ℕ → Bool) → List ℕ → Bool
holds f [] = false
holds f (b ∷ l) = f (b ∷ l) || holds f l

-- What stands from the offset i on, in l, up to the first offset where `end` holds: that one, or the first one before it where `fault` holds.
-- What has no end "gives only 15 at the input's length", with a fault or without.
abbrev pub up_to : (List ℕ → Bool) → (List ℕ → Bool) → ℕ → List ℕ → Result ℕ ContentError
up_to end fault i [] = Err Unended
up_to end fault i (b ∷ l) =
    cond (end (b ∷ l)) (Ok i)
    (cond (fault (b ∷ l)) (Err (cond (holds end (b ∷ l)) (Fault i) Unended))
    (up_to end fault (i + 1) l))
