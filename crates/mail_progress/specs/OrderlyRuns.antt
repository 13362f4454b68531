-- What holds of each house in an orderly run.
use Rattle.std.specs.Prelude.{◌≡◌, ℕ, ◌<◌, true, List, Some}
use Rattle.mail_world.specs.House.{Copy, Box, Lane, House, IsStart}
use Rattle.mail_world.specs.Events.{LaneIs, BoxIs}
use Rattle.mail_world.specs.Runs.{Happened, Run, last_house}
use Rattle.mail_progress.specs.Orderly.{uncollected, IsOrderly}

-- a prefix of an orderly run is one too, so it is so of each house in between
abbrev pub InEveryOrderlyRun : (ℕ → House → Type 0) → Type 0
InEveryOrderlyRun Holds = (room blocks : ℕ) (start : House) (run : List Happened) → IsStart blocks start
    → Run start run → IsOrderly room start run → Holds room (last_house start run)

-- the slip of a released copy finds room in its lane's channel
abbrev pub SlipsFindRoom : ℕ → House → Type 0
SlipsFindRoom room h = (w : ℕ) (box : Box) (copy : Copy) (lane : Lane) → BoxIs h w box → box.hand ≡ Some copy
    → copy.released ≡ true → LaneIs h copy.post.note.txn.lane lane → uncollected lane < room
