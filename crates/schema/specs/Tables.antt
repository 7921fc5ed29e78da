-- What the code's tables have to say, each by one test over the whole table. Private functions take a table that passes its test.
use Rattle.std.specs.Prelude.{Bool, ◌&&◌, ◌||◌, List, [], ℕ, ◌+◌, ◌-◌, ◌*◌, ◌%◌, ◌<◌, T, eqb, leb, ltb, length, get_or}
use Rattle.text.specs.Logic.{below}
use Rattle.schema.specs.Classes.{name_of}
use Rattle.schema.specs.Sequences.{next_of, container_of, states, classes}

-- ---- a container's table of what may follow

-- the entry of a table for a container's state and a class, through the class's column
abbrev pub entry_at : List (List ℕ) → List ℕ → ℕ → ℕ → ℕ
entry_at table columns s c = get_or (get_or table s []) (get_or columns c 0) 0

-- the column is below the table's width, and the entry is the next state, which is one of the states
abbrev pub is_right : (first width : ℕ) → List (List ℕ) → List ℕ → ℕ → ℕ → Bool
is_right first width table columns s c =
    ltb (get_or columns c 0) width && (ltb (entry_at table columns s c) states && eqb (entry_at table columns s c) (next_of (first + s) c))

-- a table is right in each of a container's n states, which start at first
pub record Tabled (first n width : ℕ) (table : List (List ℕ)) (columns : List ℕ) : Type 0 where
  pub right : T (below n (λ (s : ℕ). below classes (is_right first width table columns s)))

-- ---- the container of each state

abbrev pub is_owner : List ℕ → ℕ → Bool
is_owner table s = ltb (get_or table s 0) classes && eqb (get_or table s 0) (container_of s)

pub record Owned (table : List ℕ) (state : ℕ) : Type 0 where
  pub right : T (below states (is_owner table))
  pub state_below : state < states

-- ---- the class of each name's hash

abbrev pub hash_of : List ℕ → ℕ
hash_of t = (11 * (get_or t 0 0 + length t) + 3 * get_or t 2 0 + 7 * get_or t (length t - 1) 0) % 128

-- a name has 3 to 12 letters, and its hash leads to its class
abbrev pub is_hashed : List ℕ → ℕ → Bool
is_hashed table c =
    eqb c 0 || (leb 3 (length (name_of c)) && leb (length (name_of c)) 12 && eqb (get_or table (hash_of (name_of c)) 0) c)

pub record Hashed (table : List ℕ) : Type 0 where
  pub low : T (below 128 (λ (h : ℕ). ltb (get_or table h 0) classes))
  pub right : T (below classes (is_hashed table))
