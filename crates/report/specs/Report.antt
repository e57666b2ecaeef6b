-- The text that the programs print, as lists of bytes.
use Rattle.std.specs.Prelude.{ℕ, ◌-◌, List, [], ◌∷◌, ◌++◌, get_or}
use Rattle.model.specs.Tasks.{Tasks}
use Rattle.model.specs.Choice.{Scope, ordinary, high_only}
use Rattle.text.specs.Text.{line_feed, field, lines}

-- a blank
abbrev pub blank : ℕ
blank = 32

-- "task period jitter cost deadline keep worst" and a line feed
abbrev pub choice_header : List ℕ
choice_header =
    116 ∷ 97 ∷ 115 ∷ 107 ∷ 32 ∷ 112 ∷ 101 ∷ 114 ∷ 105 ∷ 111 ∷ 100 ∷ 32 ∷ 106 ∷ 105 ∷ 116 ∷ 116 ∷ 101 ∷ 114 ∷ 32 ∷ 99 ∷ 111 ∷ 115 ∷ 116 ∷ 32 ∷ 100 ∷ 101 ∷ 97 ∷ 100 ∷ 108 ∷
    105 ∷ 110 ∷ 101 ∷ 32 ∷ 107 ∷ 101 ∷ 101 ∷ 112 ∷ 32 ∷ 119 ∷ 111 ∷ 114 ∷ 115 ∷ 116 ∷ 10 ∷ []

-- "fits" and a line feed
abbrev pub fits_line : List ℕ
fits_line = 102 ∷ 105 ∷ 116 ∷ 115 ∷ 10 ∷ []

-- "high only" and a line feed
abbrev pub high_only_line : List ℕ
high_only_line = 104 ∷ 105 ∷ 103 ∷ 104 ∷ 32 ∷ 111 ∷ 110 ∷ 108 ∷ 121 ∷ 10 ∷ []

-- "job task release ready finish response" and a line feed
abbrev pub run_header : List ℕ
run_header =
    106 ∷ 111 ∷ 98 ∷ 32 ∷ 116 ∷ 97 ∷ 115 ∷ 107 ∷ 32 ∷ 114 ∷ 101 ∷ 108 ∷ 101 ∷ 97 ∷ 115 ∷ 101 ∷ 32 ∷ 114 ∷ 101 ∷ 97 ∷ 100 ∷ 121 ∷ 32 ∷ 102 ∷ 105 ∷ 110 ∷ 105 ∷ 115 ∷ 104 ∷
    32 ∷ 114 ∷ 101 ∷ 115 ∷ 112 ∷ 111 ∷ 110 ∷ 115 ∷ 101 ∷ 10 ∷ []

-- "refused "
abbrev pub refused_word : List ℕ
refused_word = 114 ∷ 101 ∷ 102 ∷ 117 ∷ 115 ∷ 101 ∷ 100 ∷ 32 ∷ []

-- "at "
abbrev pub at_word : List ℕ
at_word = 97 ∷ 116 ∷ 32 ∷ []

-- seven numbers on a line: task, P, J, E, D, K, largest R
unfoldable pub choice_fields : ℕ → ℕ → ℕ → ℕ → ℕ → ℕ → ℕ → List ℕ
choice_fields i p j e d k w =
    field i blank ++ (field p blank ++ (field j blank ++ (field e blank ++ (field d blank ++ (field k blank ++ field w line_feed)))))

-- the line of task i
unfoldable pub choice_line : Tasks → List ℕ → List ℕ → ℕ → List ℕ
choice_line s kept worst i =
    choice_fields i (s.period i) (s.jitter i) (s.cost i) (s.deadline i) (get_or kept i 0) (get_or worst i 0)

-- the last line of a choice: "fits" of the ordinary one, "high only" of the one of the high tasks alone
unfoldable pub last_line : Scope → List ℕ
last_line ordinary = fits_line
last_line high_only = high_only_line

-- what the first program, and the third, prints for a choice
unfoldable pub choice_text : Scope → Tasks → List ℕ → List ℕ → List ℕ
choice_text c s kept worst = choice_header ++ (lines (choice_line s kept worst) s.count ++ last_line c)

-- six numbers on a line: place in the list, task, release, ready, finish, response
unfoldable pub run_fields : ℕ → ℕ → ℕ → ℕ → ℕ → ℕ → List ℕ
run_fields p i a r f d =
    field p blank ++ (field i blank ++ (field a blank ++ (field r blank ++ (field f blank ++ field d line_feed))))

-- the line of the release at p
unfoldable pub run_line : List ℕ → List ℕ → List ℕ → List ℕ → ℕ → List ℕ
run_line task tick ready finish p =
    run_fields p (get_or task p 0) (get_or tick p 0) (get_or ready p 0) (get_or finish p 0) (get_or finish p 0 - get_or tick p 0)

-- what the second program prints for a run of n releases
unfoldable pub run_text : ℕ → List ℕ → List ℕ → List ℕ → List ℕ → List ℕ
run_text n task tick ready finish = run_header ++ lines (run_line task tick ready finish) n

-- the one line that a refusal prints: "refused 15 at 2"
unfoldable pub refusal_text : ℕ → ℕ → List ℕ
refusal_text n p = refused_word ++ (field n blank ++ (at_word ++ field p line_feed))
