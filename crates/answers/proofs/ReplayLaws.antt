-- The text of a run, and the text of a file that was read.
use Prim.Native.Nat.{ℕ, ◌≤◌}
use mathlib.Core.Path.{◌≡◌, refl, sym, ap, ap₂, ◌∙◌}
use mathlib.Core.Option.{none}
use mathlib.Core.List.{List, [], ◌++◌, append-nil}
use native.Mathlib.Omega.{arith}
use lib.ListN.{length, drop, length-map, length-append}
use Rattle.model.specs.Limits.{max_releases}
use Rattle.model.specs.Tasks.{Tasks, Release}
use Rattle.model.specs.Refusal.{Refusal, Answer, refused, answered}
use Rattle.model.specs.Ready.{ready_at, ready_list}
use Rattle.model.specs.Run.{finish_at, finish_list}
use Rattle.model.specs.Checks.{check_tasks, refusal_of}
use Rattle.model.specs.Choice.{column, Choice, unfit, chosen, choice}
use Rattle.model.specs.Stops.{stop_count}
use Rattle.model.specs.Calls.{releases_of, column_after, run_inputs, jump_call}
use Rattle.model.proofs.OrderLaws.{answers}
use Rattle.taskset.specs.declared.TaskSet.{TaskSet}
use Rattle.taskset.specs.TaskSet.{view_of}
use Rattle.fileformat.specs.File.{File, sheet_in, decode, ValidFile}
use Rattle.fileformat.specs.FileCalls.{read_call, read_count, read_sheet, read_column}
use Rattle.fileformat.proofs.RoundTrips.{decode_valid}
use Rattle.fileformat.proofs.RoundTripCalls.{view_set, releases_of_columns}
use Rattle.model.proofs.TableLaws.{length_table}
use Rattle.report.specs.Report.{run_text, refusal_text}
use Rattle.answers.specs.Answers.{tasks_of, ticks_of, costs_of, sheet_text, choose_text, list_text, replay_text}
use Rattle.answers.proofs.AnswerColumnLaws.{read_roomy, run_text_same}
use Rattle.answers.proofs.AcceptedCallLaws.{run_accepted}
use Rattle.answers.specs.Listed.{Listed, Kept, kept_text}

ready_long : (s : Tasks) (k : ℕ → ℕ) (x : List Release) → length (ready_list s k x) ≡ length x
unfolding ready_list
ready_long s k x = length_table (ready_at s k x) (length x)

finish_long : (s : Tasks) (k : ℕ → ℕ) (x : List Release) → length (finish_list s k x) ≡ length x
unfolding finish_list
finish_long s k x = length_table (finish_at s k x) (length x)

module _ (s : Tasks) (kept : List ℕ) (n : ℕ) (task tick cost ready finish : List ℕ) (hr : n ≤ length ready) (hf : n ≤ length finish)
    (l : Listed s n task tick cost) (k : Kept s kept) where
  accepted : refusal_of (run_inputs s kept n task tick cost ready finish) ≡ none
  accepted = sym (run_accepted s kept n task tick cost ready finish l k hr hf)

  -- such a run is not refused
  pub never_refused : (m p : ℕ) → refused (record { number = m; place = p }) ≡ jump_call s kept n task tick cost ready finish → ⊥
  unfolding jump_call
  never_refused m p h =
      let f : refused (record { number = m; place = p }) ≡ answered (stop_count s (column kept) (releases_of n task tick cost)) =
      h ∙ sym (answers (run_inputs s kept n task tick cost ready finish) _ (sym accepted))
      in
      let z : ◌≡◌ {A = ℕ} 0 1 = cc in
      omega arith

  -- and its text is that of its columns
  pub ran_said
      : (a b : List ℕ)
      → a ≡ column_after (refusal_of (run_inputs s kept n task tick cost ready finish)) (ready_list s (column kept) (releases_of n task tick cost)) ready
      → b ≡ column_after (refusal_of (run_inputs s kept n task tick cost ready finish)) (finish_list s (column kept) (releases_of n task tick cost)) finish
      → run_text n task tick a b ≡ kept_text s kept n task tick cost
  unfolding kept_text column_after releases_of
  ran_said a b ea eb =
      let rs : List ℕ = ready_list s (column kept) (releases_of n task tick cost) in
      let fs : List ℕ = finish_list s (column kept) (releases_of n task tick cost) in
      let ar : a ≡ rs ++ drop (length rs) ready = rw accepted at ea in
      let af : b ≡ fs ++ drop (length fs) finish = rw accepted at eb in
      let ln : length (releases_of n task tick cost) ≡ n = length_table _ n in
      let lr : length rs ≡ n = ready_long s (column kept) (releases_of n task tick cost) ∙ ln in
      let lf : length fs ≡ n = finish_long s (column kept) (releases_of n task tick cost) ∙ ln in
      ap₂ (run_text n task tick) ar af
      ∙ ap₂ (λ (x y : List ℕ). run_text n x y (rs ++ drop (length rs) ready) (fs ++ drop (length fs) finish)) (sym (append-nil task)) (sym (append-nil tick))
      ∙ run_text_same n task tick rs fs [] [] (drop (length rs) ready) (drop (length fs) finish) l.task_long l.tick_long (omega arith) (omega arith)

module _ (f a b c : List ℕ) (ha : max_releases ≤ length a) (hb : max_releases ≤ length b) (hc : max_releases ≤ length c) where
  -- a file that was refused
  pub record Halts (n p : ℕ) : Type 0 where
    pub choose : refusal_text n p ≡ choose_text f
    pub replay : refusal_text n p ≡ replay_text f

  pub halts : (n p : ℕ) → refused (record { number = n; place = p }) ≡ read_count (read_call f a b c) → Halts n p
  unfolding read_count choose_text replay_text
  halts n p h = go (decode f) refl
    where
      said : refused (record { number = n; place = p }) ≡ read_count (decode f)
      said = h ∙ ap read_count (read_roomy f a b c ha hb hc)

      go : (d : Answer File) → decode f ≡ d → Halts n p
      go (refused q) g =
          let i : refused (record { number = n; place = p }) ≡ refused q = said ∙ ap read_count g in
          let q' : ◌≡◌ {A = Refusal} (record { number = n; place = p }) q = cc in
          let j : decode f ≡ refused (record { number = n; place = p }) = g ∙ ap refused (sym q') in
          record { choose = rw (choose_text, j); replay = rw (replay_text, j) }
      go (answered x) g =
          let i : refused (record { number = n; place = p }) ≡ answered (length x.releases) = said ∙ ap read_count g in let z : ◌≡◌ {A = ℕ} 0 1 = cc in absurd
          (omega arith)

  -- a file that was accepted: the task set t and the columns p, q, r hold what it holds
  pub record Holds (n : ℕ) (t : TaskSet) (p q r : List ℕ) : Type 0 where
    pub sheet : none ≡ check_tasks (view_of t)
    pub choose : sheet_text (view_of t) ≡ choose_text f
    pub listed : Listed (view_of t) n p q r
    pub replay : list_text (view_of t) n p q r (choice (view_of t)) ≡ replay_text f

  -- the list text looks at the listed releases alone
  list_same
      : (s : Tasks) (x : List Release) (ra rb rc : List ℕ) (c : Choice)
      → list_text s (length x) (tasks_of x ++ ra) (ticks_of x ++ rb) (costs_of x ++ rc) c ≡ list_text s (length x) (tasks_of x) (ticks_of x) (costs_of x) c
  unfolding list_text
  list_same s x ra rb rc (unfit i) = refl
  list_same s x ra rb rc (chosen ks ws) = long ∙ sym short
    where
      rs : List ℕ
      rs = ready_list s (column ks) x

      fs : List ℕ
      fs = finish_list s (column ks) x

      lr : length rs ≡ length x
      lr = ready_long s (column ks) x

      lf : length fs ≡ length x
      lf = finish_long s (column ks) x

      same : (pa pb : List ℕ) → run_text (length x) (tasks_of x ++ pa) (ticks_of x ++ pb) rs fs ≡ run_text (length x) (tasks_of x) (ticks_of x) rs fs
      same pa pb =
          ap₂ (run_text (length x) (tasks_of x ++ pa) (ticks_of x ++ pb)) (sym (append-nil rs)) (sym (append-nil fs))
          ∙ run_text_same (length x) (tasks_of x) (ticks_of x) rs fs pa pb [] [] (omega (arith, length-map x (λ (r : Release). r.task)))
          (omega (arith, length-map x (λ (r : Release). r.tick))) (omega (arith, lr)) (omega (arith, lf))

      long : list_text s (length x) (tasks_of x ++ ra) (ticks_of x ++ rb) (costs_of x ++ rc) (chosen ks ws) ≡ run_text (length x) (tasks_of x) (ticks_of x) rs fs
      long = rw (releases_of_columns x ra rb rc) (same ra rb)

      back : releases_of (length x) (tasks_of x) (ticks_of x) (costs_of x) ≡ x
      back =
          ap₂ (λ (u v : List ℕ). releases_of (length x) u v (costs_of x)) (sym (append-nil (tasks_of x))) (sym (append-nil (ticks_of x)))
          ∙ ap (releases_of (length x) (tasks_of x ++ []) (ticks_of x ++ [])) (sym (append-nil (costs_of x))) ∙ releases_of_columns x [] [] []

      short : list_text s (length x) (tasks_of x) (ticks_of x) (costs_of x) (chosen ks ws) ≡ run_text (length x) (tasks_of x) (ticks_of x) rs fs
      short = rw back

  pub holds
      : (n : ℕ) (t : TaskSet) (p q r : List ℕ) → answered n ≡ read_count (read_call f a b c) → t ≡ read_sheet (read_call f a b c)
      → p ≡ read_column (λ x. x.task) (read_call f a b c) a → q ≡ read_column (λ x. x.tick) (read_call f a b c) b
      → r ≡ read_column (λ x. x.cost) (read_call f a b c) c → Holds n t p q r
  unfolding read_count read_sheet read_column column_after choose_text replay_text
  holds n t p q r h et ep eq er = go (decode f) refl
    where
      roomy : read_call f a b c ≡ decode f
      roomy = read_roomy f a b c ha hb hc

      said : answered n ≡ read_count (decode f)
      said = h ∙ ap read_count roomy

      build : (x : File) → decode f ≡ answered x → n ≡ length x.releases → view_of t ≡ sheet_in x
          → p ≡ tasks_of x.releases ++ drop (length (tasks_of x.releases)) a
          → q ≡ ticks_of x.releases ++ drop (length (ticks_of x.releases)) b
          → r ≡ costs_of x.releases ++ drop (length (costs_of x.releases)) c → Holds n t p q r
      build x g en ev ap' aq ar =
          let v : ValidFile x = decode_valid f x g in
          let back : releases_of n p q r ≡ x.releases =
          rw (en, ap', aq, ar) (releases_of_columns x.releases (drop (length (tasks_of x.releases)) a) (drop (length (ticks_of x.releases)) b)
          (drop (length (costs_of x.releases)) c)) in
          let ok : none ≡ check_tasks (view_of t) = rw ev (sym v.tasks) in
          record {
            sheet = ok;
            choose = ap sheet_text ev ∙ rw (choose_text, g);
            listed = record {
              sheet = ok;
              few = omega (arith, v.few);
              task_long =
                  omega (
                    arith,
                    ap length ap',
                    length-append (tasks_of x.releases) (drop (length (tasks_of x.releases)) a),
                    length-map x.releases
                        (λ (y : Release). y.task),
                  );
              tick_long =
                  omega (
                    arith,
                    ap length aq,
                    length-append (ticks_of x.releases) (drop (length (ticks_of x.releases)) b),
                    length-map x.releases
                        (λ (y : Release). y.tick),
                  );
              cost_long =
                  omega (
                    arith,
                    ap length ar,
                    length-append (costs_of x.releases) (drop (length (costs_of x.releases)) c),
                    length-map x.releases
                        (λ (y : Release). y.cost),
                  );
              list = rw (ev, back) (sym v.releases);
            };
            replay =
                ap (λ (s : Tasks). list_text s n p q r (choice s)) ev
                ∙ rw (replay_text, g, en, ap', aq, ar) (list_same (sheet_in x) x.releases _ _ _ (choice (sheet_in x)));
          }

      go : (d : Answer File) → decode f ≡ d → Holds n t p q r
      go (refused y) g = let i : answered n ≡ refused y = said ∙ ap read_count g in let z : ◌≡◌ {A = ℕ} 0 1 = cc in absurd (omega arith)
      go (answered x) g =
          let i : answered n ≡ answered (length x.releases) = said ∙ ap read_count g in
          let en : n ≡ length x.releases = cc in
          let d : read_call f a b c ≡ answered x = roomy ∙ g in
          build x g en (ap view_of (et ∙ ap read_sheet d) ∙ view_set x.charge x.tasks) (rw d at ep) (rw d at eq) (rw d at er)
