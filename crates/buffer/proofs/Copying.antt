-- A text copied byte by byte.
use mathlib.Core.Path.{◌≡◌}
use mathlib.Core.List.{List}
use Prim.Native.Nat.{ℕ, ◌+◌, ◌≤◌, ◌<◌}
use native.Mathlib.Numerals.{add-one}
use lib.ListN.{length, take, drop, set, get_or, take-append-drop}
use lib.Seq.{take-suc, take-length}
use Rattle.buffer.specs.Cursor.{put_text, Put}
use Rattle.buffer.proofs.Chain.{put_append, put_past, put_then}
use Rattle.buffer.proofs.Room.{byte_in}

-- the first i bytes of s are written
module _ (s : List ℕ) (i : ℕ) {d e : List ℕ} {at k : ℕ} (p : Put d at (take i s) e k) where
  pub copy_more : i < length s → k < length e → Put d at (take (i + 1) s) (set e k (get_or s i 0)) (k + 1)
  unfolding put_text
  copy_more h l = record { result = rw (add-one i, take-suc s i 0, put_append, ← p.result, byte_in e k (get_or s i 0) l) }

  pub copy_full : length e ≤ k → Put d at s e k
  copy_full h = rw (take-append-drop i s) at (put_then p (put_past e k (drop i s) h))

  pub copy_done : i ≡ length s → Put d at s e k
  copy_done h = rw (h, take-length) at p
