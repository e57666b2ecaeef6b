-- The refusal of a sheet with its frame, before a list is looked at.
use Rattle.std.proofs.Math.Option.{Option, some, none}
use Rattle.model.specs.Frame.{Frame}
use Rattle.model.specs.Tasks.{Tasks, with_frame}
use Rattle.model.specs.Refusal.{Refusal}
use Rattle.model.specs.Checks.{check_tasks}

-- that of the sheet with this frame, and none where there is no frame
abbrev pub framed_first : Option Frame → Tasks → Option Refusal
framed_first none s = none
framed_first (some f) s = check_tasks (with_frame (some f) s)
