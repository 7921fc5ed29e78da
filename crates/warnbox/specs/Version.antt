-- The library's version, 2.1.0.
use Rattle.std.specs.Prelude.{ℕ, ◌+◌, ◌*◌}

-- as one number: 10,000 for each major version, 100 for each minor one, 1 for each patch
abbrev pub version : ℕ
version = 2 * 10000 + 1 * 100 + 0
