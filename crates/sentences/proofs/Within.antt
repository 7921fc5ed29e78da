-- A report ends in the buffer that it is written into.
use Rattle.std.proofs.Common.{◌≡◌, ℕ, ◌≤◌, List, length, arith}
use lib.ListN.{length-append}
use Rattle.text.specs.Answers.{gives}
use Rattle.text.specs.Logic.{by_test, clash}
use Rattle.buffer.specs.Writing.{written}
use Rattle.report.specs.Lines.{report_of, report_room, reported, reported_in}
use lib.Dec.{ltb}

module _ (d l : List ℕ) where
  pub end_within : {k : ℕ} {e : List ℕ} → gives k ≡ reported d l → e ≡ reported_in d l → k ≤ length e
  unfolding reported reported_in written
  end_within {k} {e} q h =
      by_test (ltb (length d) report_room)
      (λ t. clash (cc (q, t)))
      (λ t.
      let end : k ≡ length (report_of l) = cc (q, t) in
      rw (h, t) (simp length-append (omega (arith, end))))
