-- How a call for a trace ends: after the search, the lent columns, and then the answer.
use Prim.Native.Nat.{ℕ, ◌≤◌, ◌<◌}
use mathlib.Core.Path.{◌≡◌, refl, sym, ap, ◌∙◌}
use mathlib.Core.Option.{Option, some, none}
use mathlib.Core.List.{List, [], ◌∷◌, ◌++◌, map}
use native.Mathlib.Omega.{arith}
use lib.ListN.{length, get_or, take, drop}
use lib.Seq.{ext_get_or, length-take-le, get_or-take}
use Rattle.model.specs.Tasks.{Tasks, Release}
use Rattle.model.specs.Refusal.{Refusal, Answer, refused, answered, answer_by}
use Rattle.model.specs.Checks.{check_slots}
use Rattle.model.specs.Calls.{lends, releases_of}
use Rattle.model.specs.Series.{table}
use Rattle.model.proofs.TableLaws.{length_table, get_or_table, map_table}
use Rattle.model.proofs.AnswerByLaws.{by_answered, by_refusal}
use Rattle.model.proofs.OrderLaws.{first_refusal_lem, next_check, last_decides}
use Rattle.releases.proofs.ReleaseLaws.{Columns}
use Rattle.enumeration.specs.SmallTraces.{small_traces}
use Rattle.enumeration.specs.SmallCalls.{small_fault, member_at, check_room, small_refusal, small_call, length_in, small_column}
use Rattle.enumeration.proofs.MemberLaws.{length_refused, length_past, Holding, length_trace}
use Rattle.std.specs.Prelude as std
use Rattle.std.specs.Prelude.{Ok, Err}
use Rattle.refusal.specs.declared.Refusal as code
use Rattle.refusal.specs.Refusal.{number_of}
use Rattle.smalltraces.specs.SmallAnswers.{found_call, Finds, SmallEnds}

-- the first n places of a row are a column of the releases that the rows hold
module _ (n : ℕ) (task tick cost : List ℕ) (c : Columns n task tick cost) where
  first_places : (row : List ℕ) → n ≤ length row → table (λ p. get_or row p 0) n ≡ take n row
  first_places row h =
      ext_get_or 0 (table (λ p. get_or row p 0) n) (take n row) (length_table _ n ∙ sym (length-take-le n row h))
      (λ i b.
      let k : i < n = omega (arith, length_table (λ p. get_or row p 0) n) in get_or_table _ 0 n i k ∙ sym (get_or-take n row i 0 k))

  pub tasks_held : map (λ (q : Release). q.task) (releases_of n task tick cost) ≡ take n task
  unfolding releases_of
  tasks_held = map_table _ _ n ∙ first_places task c.task_long

  pub ticks_held : map (λ (q : Release). q.tick) (releases_of n task tick cost) ≡ take n tick
  unfolding releases_of
  ticks_held = map_table _ _ n ∙ first_places tick c.tick_long

  pub costs_held : map (λ (q : Release). q.cost) (releases_of n task tick cost) ≡ take n cost
  unfolding releases_of
  costs_held = map_table _ _ n ∙ first_places cost c.cost_long

-- the answer of the call by that of the search
module _ (s : Tasks) (n t p : ℕ) (task tick cost : List ℕ) where
  abbrev answer : Answer (Option (List Release))
  answer = small_call s n t p task tick cost

  abbrev member : Option (List Release)
  member = member_at (small_traces s n t) p

  pub call_refused : (q : Refusal) → found_call s n t p ≡ refused q → answer ≡ refused q
  unfolding found_call small_call small_refusal answer_by
  call_refused q e =
      ap (λ (o : Option Refusal). answer_by o member) (sym (first_refusal_lem (small_fault s n t) _ q (by_refusal (small_fault s n t) member q e)))

  -- where the search answers, the columns decide
  room_decides : (o : Option (List Release)) → found_call s n t p ≡ answered o → answer ≡ answer_by (check_room o task tick cost) o
  unfolding found_call small_call small_refusal
  room_decides o e =
      let f = by_answered (small_fault s n t) member o e in
      ap (λ (x : Option Refusal). answer_by x member)
      (sym (next_check (small_fault s n t) (check_room member task tick cost ∷ []) f.0) ∙ sym (last_decides (check_room member task tick cost)))
      ∙ ap (λ (x : Option (List Release)). answer_by (check_room x task tick cost) x) f.1

  pub call_past : found_call s n t p ≡ answered none → answer ≡ answered none
  unfolding check_room answer_by
  call_past e = room_decides none e

  module _ (k : ℕ) (w : Holding (found_call s n t p) k) where
    room : (o : Option Refusal) → o ≡ check_slots (lends k task ∷ lends k tick ∷ lends k cost ∷ []) → answer ≡ answer_by o (some w.trace)
    unfolding check_room
    room o e =
        room_decides (some w.trace) w.is
        ∙ ap (λ (x : Option Refusal). answer_by x (some w.trace))
        (ap (λ (x : ℕ). check_slots (lends x task ∷ lends x tick ∷ lends x cost ∷ [])) w.long ∙ sym e)

    pub call_short : (q : Refusal) → some q ≡ check_slots (lends k task ∷ lends k tick ∷ lends k cost ∷ []) → answer ≡ refused q
    unfolding answer_by
    call_short q e = room (some q) e

    pub call_trace : none ≡ check_slots (lends k task ∷ lends k tick ∷ lends k cost ∷ []) → answer ≡ answered (some w.trace)
    unfolding answer_by
    call_trace e = room none e

-- what a search found
module _ (a : Answer (Option (List Release))) (task tick cost : List ℕ) where
  pub found_refused : (e : code.Refusal) → Finds a task tick cost (Err e) → a ≡ refused (record { number = number_of e.reason; place = e.place })
  found_refused e w = length_refused a _ w.told

  pub found_past : Finds a task tick cost (Ok std.None) → a ≡ answered none
  found_past w = length_past a w.told

  pub found_trace : (k : ℕ) → Finds a task tick cost (Ok (std.Some k)) → Holding a k
  found_trace k w = length_trace a k w.told

  -- the rows are long enough for it
  pub found_columns : (k : ℕ) → Finds a task tick cost (Ok (std.Some k)) → Columns 6 task tick cost → Columns k task tick cost
  found_columns k w c =
      let h : k ≤ 6 = w.few k refl in
      record { task_long = omega (arith, c.task_long); tick_long = omega (arith, c.tick_long); cost_long = omega (arith, c.cost_long) }

-- how the call ends, by its answer
module _ (a : Answer (Option (List Release))) (task tick cost : List ℕ) where
  pub ends_refused
      : (r : code.Refusal) → a ≡ refused (record { number = number_of r.reason; place = r.place }) → SmallEnds a task tick cost task tick cost (Err r)
  unfolding length_in small_column
  ends_refused r e = rw e (record { told = refl; task_column = refl; tick_column = refl; cost_column = refl })

  pub ends_past : a ≡ answered none → SmallEnds a task tick cost task tick cost (Ok std.None)
  unfolding length_in small_column
  ends_past e = rw e (record { told = refl; task_column = refl; tick_column = refl; cost_column = refl })

  -- the columns that hold the first k places of rows, in which the trace is
  pub record Put (k : ℕ) (tasks ticks costs task' tick' cost' : List ℕ) : Type 0 where
    pub task_put : task' ≡ take k tasks ++ drop k task
    pub tick_put : tick' ≡ take k ticks ++ drop k tick
    pub cost_put : cost' ≡ take k costs ++ drop k cost

  pub ends_trace
      : (k : ℕ) (tasks ticks costs task' tick' cost' : List ℕ) (l : List Release) → length l ≡ k → releases_of (length l) tasks ticks costs ≡ l
      → Columns k tasks ticks costs → Put k tasks ticks costs task' tick' cost' → a ≡ answered (some l)
      → SmallEnds a task tick cost task' tick' cost' (Ok (std.Some k))
  unfolding length_in small_column
  ends_trace k tasks ticks costs task' tick' cost' l e held c w f =
      rw f
      (record {
        told = ap (λ (x : ℕ). answered (some x)) (sym e);
        task_column = w.task_put ∙ column (λ q. q.task) task tasks (tasks_held k tasks ticks costs c);
        tick_column = w.tick_put ∙ column (λ q. q.tick) tick ticks (ticks_held k tasks ticks costs c);
        cost_column = w.cost_put ∙ column (λ q. q.cost) cost costs (costs_held k tasks ticks costs c);
      })
    where
      rows : releases_of k tasks ticks costs ≡ l
      rows = ap (λ (x : ℕ). releases_of x tasks ticks costs) (sym e) ∙ held

      column
          : (f : Release → ℕ) (lent row : List ℕ) → map f (releases_of k tasks ticks costs) ≡ take k row → take k row ++ drop k lent ≡ map f l ++ drop (length l) lent
      column f lent row h =
          ap (λ (x : List ℕ). x ++ drop k lent) (sym h ∙ ap (map f) rows) ∙ ap (λ (x : ℕ). map f l ++ drop x lent) (sym e)
