-- Small letters pass, and the masks agree with the definition at every byte: the tests are computed here.
use mathlib.Core.Bool.{true, false, ◌&&◌}
use Prim.Native.Nat.{ℕ, ◌-◌}
use Prim.Native.Char.{code}
use native.Mathlib.Nat.{zero-add}
use native.Mathlib.Omega.{arith}
use lib.Dec.{leb}
use borrow.Author.Tests.{le-leb}
use Rattle.xml_tags.proofs.ByteKinds.{tag_all, tag_bit}
use Rattle.xml_tags.proofs.bytes.is_tag_byte.Goals as goal

pub returns-then-b : goal.returns-then-b
returns-then-b c = tag_all (λ (k : ℕ). leb (code "a") k && leb k (code "z")) true tt c.args.b (omega arith) c.if-b.true

pub returns-then-b-lt64 : goal.returns-then-b-lt64
returns-then-b-lt64 c = tag_bit _ 0 tt _ _ c.if-b-lt64.true (zero-add _)

pub returns-then-b-lt128 : goal.returns-then-b-lt128
returns-then-b-lt128 c = let b = c.args.b in tag_bit _ 64 tt (b - 64) b (omega arith) (omega arith)

pub returns : goal.returns
returns c = tag_all (leb 128) false tt c.args.b (omega arith) (le-leb _ _ c.if-b-lt128.false)
