-- The loop's invariant: the first `i` bytes of the rest are digits, at most `most` of them, and `value` is the number that they write.
use Rattle.std.proofs.Common.{◌≡◌, ◌+◌, ◌^◌, ◌<◌, ◌≤◌, take, drop}
use Rattle.text.specs.Bytes.{digits, number}
use Rattle.coordinates.proofs.scan.digits_at.Given as goal

abbrev pub invariant-loop-i : goal.invariant-loop-i
invariant-loop-i l = record {
  few : l.i ≤ l.most;
  run : l.i + digits (drop l.i l.rest) ≡ digits l.rest;
  value : l.value ≡ number (take l.i l.rest);
  small : l.value < 10 ^ l.i;
}
