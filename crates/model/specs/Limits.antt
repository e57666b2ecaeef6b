-- The limits of documents 01 and 02.
use Rattle.std.specs.Prelude.{ℕ}

-- tasks of a sheet
abbrev pub max_tasks : ℕ
max_tasks = 32

-- period, deadline and jitter
abbrev pub max_time : ℕ
max_time = 1000000

-- releases of a call or file
abbrev pub max_releases : ℕ
max_releases = 1024

-- tick of a release (document 02, R-3)
abbrev pub max_tick : ℕ
max_tick = 1000000000000000

-- document 01's limit on ticks: that of a kind 2 record, whose tick has four bytes, and of the list that a "late" verdict promises
abbrev pub max_short_tick : ℕ
max_short_tick = 1000000000

-- "charge": the ticks that each job takes beside its cost, one byte (document 02, R-4)
abbrev pub max_charge : ℕ
max_charge = 255

-- ticks of a frame, and its windows (document 02, R-10)
abbrev pub max_frame : ℕ
max_frame = 10000

abbrev pub max_windows : ℕ
max_windows = 16

-- "horizon H"
abbrev pub horizon_tick : ℕ
horizon_tick = 10000000
