-- What a release and a record mean that were read from a file.
use Rattle.std.specs.Prelude.{Result, Ok, Err}
use Rattle.model.specs.Tasks.{Release}
use Rattle.fileformat.specs.Records.{short, long, Record, broken, wrong_mark, task_record, release_record, charge_record, end_record}
use Rattle.records.specs.declared.Job.{Job}
use Rattle.refusal.specs.Refusal.{number_of}
use Rattle.records.specs.declared.Record.{Record as Read}
use Rattle.records.specs.declared.Record.TheVariants.{Task, Release as Short, LongRelease, Charge, End}
use Rattle.records.specs.declared.Fault.{Fault}
use Rattle.records.specs.declared.Fault.TheVariants.{Reason, Mark}

-- the release
abbrev pub release_of : Job → Release
release_of j = record { task = j.task; tick = j.tick; cost = j.cost }

-- the record, or what is wrong with it
abbrev pub record_in : Result Read Fault → Record
record_in (Ok (Task t)) = task_record t
record_in (Ok (Short j)) = release_record short (release_of j)
record_in (Ok (LongRelease j)) = release_record long (release_of j)
record_in (Ok (Charge c)) = charge_record c
record_in (Ok End) = end_record
record_in (Err (Reason r)) = broken (number_of r)
record_in (Err Mark) = wrong_mark
