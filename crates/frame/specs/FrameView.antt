-- A frame by value as the definitions see it, and a sheet with it.
use Rattle.std.specs.Prelude as std
use Rattle.std.specs.Prelude.{ℕ, ◌+◌, ◌*◌, Bool, true, false, List, [], ◌∷◌, get_or}
use Rattle.std.proofs.Math.Option.{Option, some, none}
use Rattle.model.specs.Series.{table}
use Rattle.model.specs.Frame as model_frame
use Rattle.model.specs.Tasks.{Tasks, with_frame}
use Rattle.taskset.specs.declared.TaskSet.{TaskSet}
use Rattle.taskset.specs.TaskSet.{view_of}
use Rattle.frame.specs.declared.Window.{Window}
use Rattle.frame.specs.declared.Frame.{Frame}

-- a value where the test holds, else none
abbrev pub given : {A : Type 0} → Bool → A → Option A
given true a = some a
given false a = none

abbrev pub no_window : Window
no_window = record { first = 0; length = 0 }

-- the entry of a window
abbrev pub window_of : Frame → ℕ → Window
window_of f k = get_or f.windows k no_window

-- its ticks and windows
abbrev pub windows_of : Frame → model_frame.Frame
windows_of f = record {
  ticks = f.ticks;
  count = f.count;
  first = λ k. (window_of f k).first;
  size = λ k. (window_of f k).length;
}

-- the frame, if there is one
abbrev pub frame_of : std.Option Frame → Option model_frame.Frame
frame_of std.None = none
frame_of (std.Some f) = some (windows_of f)

-- the sheet of a task set with this frame
abbrev pub framed_of : TaskSet → std.Option Frame → Tasks
framed_of s f = with_frame (frame_of f) (view_of s)

-- window k of a frame passed as numbers, and the frame: its ticks, its count, then first tick and length of window 0, of window 1, ..; numbers past the end count as 0,
-- and no number is no frame
unfoldable pub window_at : List ℕ → ℕ → Window
window_at l k = record { first = get_or l (2 * k + 2) 0; length = get_or l (2 * k + 3) 0 }

abbrev pub frame_from : List ℕ → std.Option Frame
frame_from [] = std.None
frame_from (n ∷ l) =
    std.Some (record { ticks = get_or (n ∷ l) 0 0; count = get_or (n ∷ l) 1 0; windows = table (window_at (n ∷ l)) 16 })
