-- The records of a file. "Each record is one kind byte and a body whose length the kind fixes."
-- A further kind is a constructor of `Record`, its size and bytes, and a line of `record_of`.
use Rattle.std.specs.Prelude.{ℕ, suc, ◌+◌, Bool, true, false, List, [], ◌∷◌, ◌++◌, ltb, leb, eqb, length}
use Rattle.model.specs.Limits.{max_short_tick}
use Rattle.model.specs.Tasks.{Release}
use Rattle.taskset.specs.declared.Task.{Task}
use Rattle.fileformat.specs.Numbers.{field, bytes_of}

-- how a release record holds its tick: kind 2 in four bytes; kind 4, "a release with an eight-byte tick", in eight
pub data Width : Type 0 where
  short : Width
  long : Width

-- whether it is a long one, as code has it
abbrev pub width_in : Bool → Width
width_in true = long
width_in false = short

abbrev pub kind_of : Width → ℕ
kind_of short = 2
kind_of long = 4

abbrev pub tick_bytes : Width → ℕ
tick_bytes short = 4
tick_bytes long = 8

-- how a task record holds the task's mark (document 02, R-9): "a kind 1 task is high"; "a kind 6 record is kind 1 with a last byte, 0 for low"
abbrev pub task_kind : Bool → ℕ
task_kind true = 6
task_kind false = 1

abbrev pub mark_bytes : Bool → List ℕ
mark_bytes true = 0 ∷ []
mark_bytes false = []

-- the bytes of its body, 17 where the task is low, else 16, and of the record
abbrev pub task_body : Bool → ℕ
task_body true = 17
task_body false = 16

abbrev pub task_size : Bool → ℕ
task_size low = suc (task_body low)

-- a record, or what is wrong with it: 1, no such kind; 2, the file ends inside the record or where a kind is due; or that the last byte of a kind 6 record is not 0
pub data Record : Type 0 where
  broken : ℕ → Record
  wrong_mark : Record
  task_record : Task → Record
  release_record : Width → Release → Record
  charge_record : ℕ → Record
  end_record : Record

-- "kind 1, task: P, J, E, D, four bytes each"; of kind 6 the task is low
unfoldable pub task_from : Bool → List ℕ → Task
task_from low l = record { period = field 0 4 l; jitter = field 4 4 l; cost = field 8 4 l; deadline = field 12 4 l; low = low }

-- a kind 6 record by its last byte: a low task where it is 0
unfoldable pub marked_from : List ℕ → Record
marked_from l = elim (eqb (field 16 1 l) 0) [ true ↦ task_record (task_from true l) | false ↦ wrong_mark ]

-- "kind 2, release: task number, one byte; tick, four; cost, four"; of kind 4 the tick has eight
unfoldable pub release_from : Width → List ℕ → Release
release_from w l = record { task = field 0 1 l; tick = field 1 (tick_bytes w) l; cost = field (1 + tick_bytes w) 4 l }

-- the bytes of its body: 9 or 13
abbrev pub body_size : Width → ℕ
body_size w = 1 + tick_bytes w + 4

-- "a kind 5 record has a one-byte charge S" (document 02, R-4)
unfoldable pub charge_from : List ℕ → ℕ
charge_from l = field 0 1 l

-- a record whose body has n bytes, l being what follows the kind byte
unfoldable pub whole : ℕ → List ℕ → Record → Record
whole n l r = elim (ltb (length l) n) [ true ↦ broken 2 | false ↦ r ]

-- the record with which some bytes begin
unfoldable pub record_of : List ℕ → Record
record_of [] = broken 2
record_of (k ∷ l) =
    elim (eqb k 1) [
      | true ↦ whole (task_body false) l (task_record (task_from false l))
      | false ↦
          elim (eqb k 2) [
            | true ↦ whole (body_size short) l (release_record short (release_from short l))
            | false ↦
                elim (eqb k 3) [
                  | true ↦ whole 0 l end_record
                  | false ↦
                      elim (eqb k 4) [
                        | true ↦ whole (body_size long) l (release_record long (release_from long l))
                        | false ↦
                            elim (eqb k 5) [
                              | true ↦ whole 1 l (charge_record (charge_from l))
                              | false ↦ elim (eqb k 6) [ true ↦ whole (task_body true) l (marked_from l) | false ↦ broken 1 ]
                            ]
                      ]
                ]
          ]
    ]

-- the bytes of a record; "the writer uses kind 6 for low tasks only"
unfoldable pub task_bytes : Task → List ℕ
task_bytes t =
    task_kind t.low ∷ (bytes_of 4 t.period ++ (bytes_of 4 t.jitter ++ (bytes_of 4 t.cost ++ (bytes_of 4 t.deadline ++ mark_bytes t.low))))

unfoldable pub release_bytes : Width → Release → List ℕ
release_bytes w r = kind_of w ∷ (bytes_of 1 r.task ++ (bytes_of (tick_bytes w) r.tick ++ bytes_of 4 r.cost))

unfoldable pub record_bytes : Record → List ℕ
record_bytes (broken n) = []
record_bytes wrong_mark = []
record_bytes (task_record t) = task_bytes t
record_bytes (release_record w r) = release_bytes w r
record_bytes (charge_record c) = 5 ∷ bytes_of 1 c
record_bytes end_record = 3 ∷ []

-- how many they are: of a task 17 or 18, of a release 10 or 14
abbrev pub release_size : Width → ℕ
release_size w = suc (body_size w)

unfoldable pub size_of : Record → ℕ
size_of (broken n) = 0
size_of wrong_mark = 0
size_of (task_record t) = task_size t.low
size_of (release_record w r) = release_size w
size_of (charge_record c) = 2
size_of end_record = 1

-- "the writer uses kind 2 up to 1,000,000,000 and kind 4 above"
unfoldable pub width_for : ℕ → Width
width_for t = elim (leb t max_short_tick) [ true ↦ short | false ↦ long ]

-- the record that a release is written as
abbrev pub written_record : Release → Record
written_record r = release_record (width_for r.tick) r
