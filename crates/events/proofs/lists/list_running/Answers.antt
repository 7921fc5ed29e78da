-- A room that is too short stays as it was.
use Rattle.std.proofs.Common.{◌≤◌, ◌∙◌, ap, arith, length}
use Rattle.std.proofs.lemmas.Grind.{common_steps}
use Rattle.text.specs.Answers.{gives}
use Rattle.text.proofs.Rooms.{listed_fits, listed_not}
use Rattle.events.specs.Running.{running}
use Rattle.events.proofs.Listing.{running_count}
use Rattle.events.proofs.lists.list_running.Goals as goal

pub returns-then-room-count : goal.returns-then-room-count
returns-then-room-count c = listed_not c.args.room.now (running c.args.time c.args.entries.now) (omega arith)

pub returns : goal.returns
returns c =
    let list = running c.args.time c.args.entries.now in
    let room : length list ≤ length c.args.room.now = grind (arith, common_steps, running_count) in
    (ap gives c.write.ensures.0 ∙ (listed_fits c.args.room.now list room).0, c.write.ensures.1)
