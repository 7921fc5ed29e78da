-- Invariant: after the places read, the tokens that are left say what the whole text says, for each function that the step computes; and there are at
-- most as many places as bytes passed.
use Rattle.std.proofs.Common.{◌≡◌, ◌≤◌, ◌-◌, length, drop}
use Rattle.text.specs.Answers.{giving}
use Rattle.text.specs.Tokens.{tokens}
use Rattle.polygon.specs.Polygon.{polygon_of}
use Rattle.polygon.specs.Ring.{ComputesEdge, over_edges}
use Rattle.polygon.proofs.Rings.{walks_with}
use Rattle.polygon.proofs.walk.Given as goal

abbrev pub invariant-loop-step : goal.invariant-loop-step
invariant-loop-step g l = record {
  few : l.count ≤ l.at;
  within : l.at ≤ length l.text;
  same : (h : _) → ComputesEdge (goal.F-post g l.step) h → walks_with h l.first l.last l.count l.sum (tokens (drop l.at l.text)) ≡ giving (over_edges h l.fn.none) (polygon_of l.text);
}

abbrev pub decreases-loop-step : goal.decreases-loop-step
decreases-loop-step g l = length l.text - l.at
