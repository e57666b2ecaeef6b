-- The tests of sheets, frames and records, one part after the other.
use Prim.Native.Nat.{ℕ}
use mathlib.Core.Path.{◌≡◌, refl, sym, ap, ◌∙◌}
use mathlib.Core.Bool.{Bool, true, false, not, ◌&&◌}
use mathlib.Core.Option.{Option, some, none}
use mathlib.Core.List.{List}
use borrow.Author.Tests.{eq-eqb, ne_eqb, not-true, not-false}
use lib.Dec.{eqb, leb}
use lib.ListN.{take}
use Rattle.model.specs.Search.{first}
use Rattle.model.specs.Frame.{Frame}
use Rattle.model.specs.Tasks.{Tasks, with_frame}
use Rattle.model.specs.Choice.{scope_in}
use Rattle.model.proofs.FrameLaws.{frame_itself}
use Rattle.std.specs.Prelude as std
use Rattle.std.specs.Prelude.{is_some}
use Rattle.frame.specs.declared.Frame as frame
use Rattle.frame.specs.FrameView.{frame_of}
use Rattle.admission.specs.Offers.{Plan}
use Rattle.admission.specs.Boards.{nowhere, or_end, same_mark, differs, window_differs, same_frame, same_tasks, same_column, same_scope, same_plan}
use Rattle.admission.proofs.SameLaws.{tasks_of_lem, frame_yes}
use Rattle.comparison.proofs.CompareLaws.{ended}

and_true : (b : Bool) → b ≡ (b && true)
and_true true = refl
and_true false = refl

-- sheets: the counts, the charges, then the tasks and the frames
module _ (s s' : Tasks) where
  pub count_differs : (s.count ≡ s'.count → ⊥) → false ≡ same_tasks s s'
  unfolding same_tasks
  count_differs h = rw (same_tasks, ne_eqb s.count s'.count h)

  pub charge_differs : s.count ≡ s'.count → (s.charge ≡ s'.charge → ⊥) → false ≡ same_tasks s s'
  unfolding same_tasks
  charge_differs n h = rw (same_tasks, eq-eqb s.count s'.count n, ne_eqb s.charge s'.charge h)

  pub tasks_decide
      : (r : ℕ) → s.count ≡ s'.count → s.charge ≡ s'.charge → r ≡ or_end s.count (first (differs s s') s.count 0) → same_frame s.frame s'.frame ≡ true
      → leb s.count r ≡ same_tasks s s'
  unfolding same_tasks
  tasks_decide r n c e f =
      rw (same_tasks, eq-eqb s.count s'.count n, eq-eqb s.charge s'.charge c, f) (ended (differs s s') s.count r e ∙ and_true _)

-- no frames
pub none_same : same_frame none none ≡ true
unfolding same_frame
none_same = refl

-- a sheet with its frame: the sheet without it, then the frames
pub framed_test : (o p : Option Frame) (s s' : Tasks) → (same_tasks (with_frame none s) (with_frame none s') && same_frame o p) ≡ same_tasks (with_frame o s) (with_frame p s')
unfolding same_tasks same_frame
framed_test o p s s' =
    let front : Bool = eqb s.count s'.count && eqb s.charge s'.charge && nowhere (differs s s') s.count in
    ap (λ b. b && same_frame o p) (sym (and_true front))

-- whether an offer is stale: the sheets, the frames, then the offer
module _ (o p : Option Frame) (s s' : Tasks) (b : Bool) where
  pub stale_sheet : same_tasks (with_frame none s) (with_frame none s') ≡ false → true ≡ not (same_tasks (with_frame o s) (with_frame p s') && b)
  stale_sheet h = rw (← framed_test o p s s', h)

  module _ (h : same_tasks (with_frame none s) (with_frame none s') ≡ true) where
    pub stale_frame : same_frame o p ≡ false → true ≡ not (same_tasks (with_frame o s) (with_frame p s') && b)
    stale_frame e = rw (← framed_test o p s s', h, e)

    pub offer_decides : same_frame o p ≡ true → not b ≡ not (same_tasks (with_frame o s) (with_frame p s') && b)
    offer_decides e = rw (← framed_test o p s s', h, e)

-- frames that are there
module _ (f g : Frame) where
  pub ticks_differ : (f.ticks ≡ g.ticks → ⊥) → false ≡ same_frame (some f) (some g)
  unfolding same_frame
  ticks_differ e = rw (same_frame, ne_eqb f.ticks g.ticks e)

  pub windows_differ : f.ticks ≡ g.ticks → (f.count ≡ g.count → ⊥) → false ≡ same_frame (some f) (some g)
  unfolding same_frame
  windows_differ t e = rw (same_frame, eq-eqb f.ticks g.ticks t, ne_eqb f.count g.count e)

  pub windows_decide : f.ticks ≡ g.ticks → f.count ≡ g.count → nowhere (window_differs f g) f.count ≡ same_frame (some f) (some g)
  unfolding same_frame
  windows_decide t n = rw (same_frame, eq-eqb f.ticks g.ticks t, eq-eqb f.count g.count n)

-- a frame that is there, and none
pub one_alone : (f : Frame) → false ≡ same_frame (some f) none
unfolding same_frame
one_alone f = refl

pub none_and : (o : std.Option frame.Frame) (b : Bool) → is_some o ≡ not b → b ≡ same_frame none (frame_of o)
unfolding same_frame
none_and std.None b h = not-false b (sym h)
none_and (std.Some f) b h = not-true b (sym h)

-- which of the two choices
scope_mark : (a b : Bool) → same_mark a b ≡ same_scope (scope_in a) (scope_in b)
unfolding same_mark same_scope
scope_mark true true = refl
scope_mark true false = refl
scope_mark false true = refl
scope_mark false false = refl

-- records of the same frame
module _ (o : Option Frame) (s s' : Tasks) (k k' w w' : List ℕ) (p p' : Bool) where
  abbrev pub left : Plan
  left = record { tasks = with_frame o s; kept = take s.count k; worst = take s.count w; scope = scope_in p }

  abbrev pub right : Plan
  right = record { tasks = with_frame o s'; kept = take s'.count k'; worst = take s'.count w'; scope = scope_in p' }

  sheet_test : same_tasks (with_frame none s) (with_frame none s') ≡ same_tasks left.tasks right.tasks
  sheet_test = and_true _ ∙ ap (λ b. same_tasks (with_frame none s) (with_frame none s') && b) (sym (frame_yes o o (frame_itself o))) ∙ framed_test o o s s'

  pub sheets_differ : same_tasks (with_frame none s) (with_frame none s') ≡ false → false ≡ same_plan left right
  unfolding same_plan
  sheets_differ h = let e : same_tasks left.tasks right.tasks ≡ false = sym sheet_test ∙ h in rw (same_plan, e)

  module _ (h : same_tasks (with_frame none s) (with_frame none s') ≡ true) where
    is_same : same_tasks left.tasks right.tasks ≡ true
    is_same = sym sheet_test ∙ h

    pub same_count : s.count ≡ s'.count
    same_count = (tasks_of_lem _ _ h).count

    front : (a b : List ℕ) → same_column (take s.count a) (take s.count b) ≡ same_column (take s.count a) (take s'.count b)
    front a b = ap (λ n. same_column (take s.count a) (take n b)) same_count

    pub kept_differ : same_column (take s.count k) (take s.count k') ≡ false → false ≡ same_plan left right
    unfolding same_plan
    kept_differ g = let e = sym (front k k') ∙ g in rw (same_plan, is_same, e)

    pub worst_differ
        : same_column (take s.count k) (take s.count k') ≡ true → same_column (take s.count w) (take s.count w') ≡ false → false ≡ same_plan left right
    unfolding same_plan
    worst_differ g i = let e = sym (front k k') ∙ g in let d = sym (front w w') ∙ i in rw (same_plan, is_same, e, d)

    pub scope_decides
        : same_column (take s.count k) (take s.count k') ≡ true → same_column (take s.count w) (take s.count w') ≡ true → same_mark p p' ≡ same_plan left right
    unfolding same_plan
    scope_decides g i = let e = sym (front k k') ∙ g in let d = sym (front w w') ∙ i in rw (same_plan, is_same, e, d) (scope_mark p p')
