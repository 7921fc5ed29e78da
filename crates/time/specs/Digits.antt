-- A digit's value, as the numbers of Rattle.text.specs.Bytes take it: a byte below "0" counts as 0.
use Rattle.std.specs.Prelude.{ℕ, ◌-◌}
use Prim.Native.Char.{code}

abbrev pub digit_value : ℕ → ℕ
digit_value b = b - code "0"
