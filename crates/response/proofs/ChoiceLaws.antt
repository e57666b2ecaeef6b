-- What a choice says: with the kept jitters chosen every task that is judged fits, and each is the least that does, given the choices above.
use Prim.Native.Nat.{ℕ, zero, suc, ◌≤◌, ◌<◌}
use mathlib.Core.Path.{◌≡◌, refl, sym, ap, ◌∙◌}
use mathlib.Core.Bool.{Bool, true, false}
use mathlib.Core.Option.{Option, some, none, some-injective}
use mathlib.Core.List.{List, [], ◌∷◌, ◌++◌}
use mathlib.Core.Logic.{◌⊎◌, inl, inr}
use native.Mathlib.Omega.{arith}
use lib.ListN.{length, get_or, take, length-append, get_or-append}
use lib.Seq.{take-suc, take-append-le, take_at, get_or_at, get_or-take, get_or-append_seam}
use lib.IntN.{ℤ, pos}
use Rattle.model.specs.Tasks.{Tasks}
use Rattle.model.specs.Verdict.{Verdict, horizon, late, fits, verdict}
use Rattle.model.specs.Choice.{is_fits, worst_of, column, and_keep, least_keep, Choice, unfit, chosen, Scope, judges, keep_for, worst_for, choice_next, choice_of}
use Rattle.model.proofs.SeriesLaws.{below_suc}
use Rattle.model.proofs.SearchLaws.{Found, first_found, first_nothing}
use Rattle.model.proofs.SameVerdict.{verdict_kept}

-- the choices of the tasks above, and K for the task below them
pub keep_above : (above : List ℕ) (K j : ℕ) → j < length above → and_keep above K j ≡ get_or above j 0
keep_above above K j h = get_or-append above (K ∷ []) 0 j h

pub keep_own : (above : List ℕ) (K i : ℕ) → length above ≡ i → and_keep above K i ≡ K
keep_own above K i h = rw (← h) (get_or-append_seam above K [] 0)

-- a task that is judged has the least kept jitter at which it fits and its worst value there; one that is not has 0 and 0
module _ (c : Scope) (s : Tasks) (above : List ℕ) (i : ℕ) where
  pub keep_judged : judges c s i ≡ true → keep_for c s above i ≡ least_keep s above i
  unfolding keep_for
  keep_judged h = rw (keep_for, h)

  pub keep_left_out : judges c s i ≡ false → keep_for c s above i ≡ some 0
  unfolding keep_for
  keep_left_out h = rw (keep_for, h)

  pub worst_judged : (K : ℕ) → judges c s i ≡ true → worst_for c s above K i ≡ worst_of (verdict s (and_keep above K) i)
  unfolding worst_for
  worst_judged K h = rw (worst_for, h)

  pub worst_left_out : (K : ℕ) → judges c s i ≡ false → worst_for c s above K i ≡ pos 0
  unfolding worst_for
  worst_left_out K h = rw (worst_for, h)

-- K is the kept jitter of task i, given the choices above, and w its worst value
pub record Pick (c : Scope) (s : Tasks) (above : List ℕ) (K : ℕ) (w : ℤ) (i : ℕ) : Type 0 where
  pub keep : keep_for c s above i ≡ some K
  pub worst : w ≡ worst_for c s above K i

-- the choice of the first n tasks
pub record ChosenTo (c : Scope) (s : Tasks) (n : ℕ) (ks : List ℕ) (ws : List ℤ) : Type 0 where
  pub long : length ks ≡ n
  pub long_worst : length ws ≡ n
  pub each : (i : ℕ) → i < n → Pick c s (take i ks) (column ks i) (get_or ws i (pos 0)) i

module _ (c : Scope) (s : Tasks) where
  next_none : (n : ℕ) (ks : List ℕ) (ws : List ℤ) → keep_for c s ks n ≡ none → choice_next c s n (chosen ks ws) ≡ unfit n
  unfolding choice_next
  next_none n ks ws h = rw (choice_next, h)

  pub next_some
      : (n : ℕ) (ks : List ℕ) (ws : List ℤ) (K : ℕ) → keep_for c s ks n ≡ some K
      → choice_next c s n (chosen ks ws) ≡ chosen (ks ++ (K ∷ [])) (ws ++ (worst_for c s ks K n ∷ []))
  unfolding choice_next
  next_some n ks ws K h = rw (choice_next, h)

  -- one task more
  one_more
      : (n : ℕ) (ks : List ℕ) (ws : List ℤ) (K : ℕ) → ChosenTo c s n ks ws → keep_for c s ks n ≡ some K
      → ChosenTo c s (suc n) (ks ++ (K ∷ [])) (ws ++ (worst_for c s ks K n ∷ []))
  one_more n ks ws K t h = record {
    long = length-append ks (K ∷ []) ∙ omega (arith, t.long);
    long_worst = length-append ws (worst ∷ []) ∙ omega (arith, t.long_worst);
    each = λ i g. go i (below_suc i n g);
  }
    where
      worst : ℤ
      worst = worst_for c s ks K n

      go : (i : ℕ) → (i < n) ⊎ (i ≡ n) → Pick c s (take i (ks ++ (K ∷ []))) (column (ks ++ (K ∷ [])) i) (get_or (ws ++ (worst ∷ [])) i (pos 0)) i
      go i (inl g) =
          rw (
            take-append-le i ks (K ∷ []) (omega (arith, t.long)),
            get_or-append ks (K ∷ []) 0 i (omega (arith, t.long)),
            get_or-append ws (worst ∷ []) (pos 0) i (omega (arith, t.long_worst)),
          ) (t.each i g)
      go i (inr g) =
          rw (g, take_at ks (K ∷ []) n t.long, get_or_at ks K [] 0 n t.long, get_or_at ws worst [] (pos 0) n t.long_worst)
          (record { keep = h; worst = refl })

  -- each task of a choice is a pick, given the choices above
  pub chosen_to : (n : ℕ) (ks : List ℕ) (ws : List ℤ) → choice_of c s n ≡ chosen ks ws → ChosenTo c s n ks ws
  unfolding choice_of choice_next
  chosen_to zero ks ws h =
      let a : ks ≡ [] = cc in
      let b : ws ≡ [] = cc in
      record { long = ap length a; long_worst = ap length b; each = λ i g. absurd (omega arith) }
  chosen_to (suc n) ks ws h = go (choice_of c s n) refl (chosen_to n)
    where
      go : (r : Choice) → choice_of c s n ≡ r → ((ks : List ℕ) (ws : List ℤ) → choice_of c s n ≡ chosen ks ws → ChosenTo c s n ks ws) → ChosenTo c s (suc n) ks ws
      go (unfit m) e f =
          let g : unfit m ≡ chosen ks ws = sym (ap (choice_next c s n) e) ∙ h in let z : ◌≡◌ {A = ℕ} 0 1 = cc in absurd (omega arith)
      go (chosen above bs) e f = pick (keep_for c s above n) refl
        where
          pick : (o : Option ℕ) → keep_for c s above n ≡ o → ChosenTo c s (suc n) ks ws
          pick none d =
              let g : unfit n ≡ chosen ks ws = sym (ap (choice_next c s n) e ∙ next_none n above bs d) ∙ h in
              let z : ◌≡◌ {A = ℕ} 0 1 = cc in absurd (omega arith)
          pick (some K) d =
              let g : chosen (above ++ (K ∷ [])) (bs ++ (worst_for c s above K n ∷ [])) ≡ chosen ks ws =
              sym (ap (choice_next c s n) e ∙ next_some n above bs K d) ∙ h in
              let a : above ++ (K ∷ []) ≡ ks = cc in
              let b : bs ++ (worst_for c s above K n ∷ []) ≡ ws = cc in
              rw (← a, ← b) (one_more n above bs K (f above bs e) d)

-- a verdict that is "fits" names its worst value
fits_of : (v : Verdict) → is_fits v ≡ true → (q : ℕ) × (v ≡ fits (worst_of v) q)
unfolding is_fits worst_of
fits_of (horizon q) h = let z : ◌≡◌ {A = ℕ} 0 1 = cc in absurd (omega arith)
fits_of (late q r) h = let z : ◌≡◌ {A = ℕ} 0 1 = cc in absurd (omega arith)
fits_of (fits r q) h = (q, refl)

-- K is in 0..J, task i fits with it, and with no smaller one, given the choices above
pub record Least (s : Tasks) (above : List ℕ) (i K : ℕ) : Type 0 where
  pub in_jitter : K ≤ s.jitter i
  pub fits_at : is_fits (verdict s (and_keep above K) i) ≡ true
  pub not_below : (n : ℕ) → n < K → is_fits (verdict s (and_keep above n) i) ≡ false

module _ (s : Tasks) (above : List ℕ) (i : ℕ) where
  -- what was found for a task is the least K that fits
  pub least_keep_lem : (K : ℕ) → least_keep s above i ≡ some K → Least s above i K
  unfolding least_keep
  least_keep_lem K h = go (first_found (λ n. is_fits (verdict s (and_keep above n) i)) (suc (s.jitter i)) 0 K h)
    where
      go : Found (λ n. is_fits (verdict s (and_keep above n) i)) (suc (s.jitter i)) 0 K → Least s above i K
      go f = record { in_jitter = omega arith; fits_at = f.holds; not_below = λ n g. f.before n (omega arith) g }

  -- where nothing was found no K in 0..J fits
  pub no_keep : least_keep s above i ≡ none → (K : ℕ) → K ≤ s.jitter i → is_fits (verdict s (and_keep above K) i) ≡ false
  unfolding least_keep
  no_keep h K g = first_nothing (λ n. is_fits (verdict s (and_keep above n) i)) (suc (s.jitter i)) 0 h K (omega arith) (omega arith)

-- the first i + 1 kept jitters are those of the whole column
same_column_lem : (ks : List ℕ) (i j : ℕ) → i < length ks → j ≤ i → and_keep (take i ks) (column ks i) j ≡ column ks j
same_column_lem ks i j h g = ap (λ (l : List ℕ). get_or l j 0) (sym (take-suc ks i 0 h)) ∙ get_or-take (suc i) ks j 0 (omega arith)

-- a choice of kept jitters ks, with worst values ws
module _ (c : Scope) (s : Tasks) (ks : List ℕ) (ws : List ℤ) (h : choice_of c s s.count ≡ chosen ks ws) where
  choice_to : ChosenTo c s s.count ks ws
  choice_to = chosen_to c s s.count ks ws h

  -- one for each task
  pub choice_length : length ks ≡ s.count
  choice_length = choice_to.long

  choice_pick : (i : ℕ) → i < s.count → judges c s i ≡ true → Least s (take i ks) i (column ks i)
  choice_pick i g j = least_keep_lem s (take i ks) i (column ks i) (sym (keep_judged c s (take i ks) i j) ∙ (choice_to.each i g).keep)

  -- a task that is not judged is kept at 0, with the worst value 0
  pub choice_left_out : (i : ℕ) → i < s.count → judges c s i ≡ false → (column ks i ≡ 0) × (get_or ws i (pos 0) ≡ pos 0)
  choice_left_out i g j =
      let e : some 0 ≡ some (column ks i) = sym (keep_left_out c s (take i ks) i j) ∙ (choice_to.each i g).keep in
      (sym (some-injective _ _ e), (choice_to.each i g).worst ∙ worst_left_out c s (take i ks) i (column ks i) j)

  -- each within its task's jitter
  pub choice_keeps : (i : ℕ) → i < s.count → column ks i ≤ s.jitter i
  choice_keeps i g = go (judges c s i) refl
    where
      go : (b : Bool) → judges c s i ≡ b → column ks i ≤ s.jitter i
      go true j = (choice_pick i g j).in_jitter
      go false j = omega (arith, (choice_left_out i g j).0)

  choice_same : (i : ℕ) → i < s.count → verdict s (and_keep (take i ks) (column ks i)) i ≡ verdict s (column ks) i
  choice_same i g = verdict_kept s (and_keep (take i ks) (column ks i)) (column ks) i (λ j l. same_column_lem ks i j (omega (arith, choice_length)) l)

  -- with them every task that is judged fits, with the worst value chosen
  pub choice_fits : (i : ℕ) → i < s.count → judges c s i ≡ true → (q : ℕ) × (verdict s (column ks) i ≡ fits (get_or ws i (pos 0)) q)
  choice_fits i g j = go (fits_of (verdict s (and_keep (take i ks) (column ks i)) i) (choice_pick i g j).fits_at)
    where
      worst : get_or ws i (pos 0) ≡ worst_of (verdict s (and_keep (take i ks) (column ks i)) i)
      worst = (choice_to.each i g).worst ∙ worst_judged c s (take i ks) i (column ks i) j

      go
          : (q : ℕ) × (verdict s (and_keep (take i ks) (column ks i)) i ≡ fits (worst_of (verdict s (and_keep (take i ks) (column ks i)) i)) q)
          → (q : ℕ) × (verdict s (column ks) i ≡ fits (get_or ws i (pos 0)) q)
      go (q, e) = (q, sym (choice_same i g) ∙ e ∙ ap (λ (r : ℤ). fits r q) (sym worst))

  -- no smaller K of such a task fits, given the choices above
  pub choice_least : (i K : ℕ) → i < s.count → judges c s i ≡ true → K < column ks i → is_fits (verdict s (and_keep (take i ks) K) i) ≡ false
  choice_least i K g j l = (choice_pick i g j).not_below K l

-- task n is the first of those judged that fits at no K, given the choices above
pub record Unfit (c : Scope) (s : Tasks) (n : ℕ) : Type 0 where
  pub above : List ℕ
  pub worst : List ℤ
  pub chosen_above : choice_of c s n ≡ chosen above worst
  pub judged : judges c s n ≡ true
  pub none_fits : (K : ℕ) → K ≤ s.jitter n → is_fits (verdict s (and_keep above K) n) ≡ false

module _ (c : Scope) (s : Tasks) where
  -- a task with no kept jitter is judged
  none_judged : (above : List ℕ) (n : ℕ) → keep_for c s above n ≡ none → judges c s n ≡ true
  none_judged above n d = go (judges c s n) refl
    where
      go : (b : Bool) → judges c s n ≡ b → judges c s n ≡ true
      go true j = j
      go false j = let e = sym (keep_left_out c s above n j) ∙ d in let z : ◌≡◌ {A = ℕ} 0 1 = cc in absurd (omega arith)

  unfit_to : (m n : ℕ) → choice_of c s m ≡ unfit n → (n < m) × Unfit c s n
  unfolding choice_of choice_next
  unfit_to zero n h = let z : ◌≡◌ {A = ℕ} 0 1 = cc in absurd (omega arith)
  unfit_to (suc m) n h = go (choice_of c s m) refl (unfit_to m n)
    where
      go : (r : Choice) → choice_of c s m ≡ r → (choice_of c s m ≡ unfit n → (n < m) × Unfit c s n) → (n < suc m) × Unfit c s n
      go (unfit x) e f =
          let g : unfit x ≡ unfit n = sym (ap (choice_next c s m) e) ∙ h in
          let r : (n < m) × Unfit c s n = f (e ∙ g) in (omega arith, r.1)
      go (chosen above bs) e f = pick (keep_for c s above m) refl
        where
          pick : (o : Option ℕ) → keep_for c s above m ≡ o → (n < suc m) × Unfit c s n
          pick none d =
              let g : unfit m ≡ unfit n = sym (ap (choice_next c s m) e ∙ next_none c s m above bs d) ∙ h in
              let i : m ≡ n = cc in
              let j = none_judged above m d in
              let u : Unfit c s m = record {
                above = above;
                worst = bs;
                chosen_above = e;
                judged = j;
                none_fits = no_keep s above m (sym (keep_judged c s above m j) ∙ d);
              } in
              (omega arith, rw i at u)
          pick (some K) d =
              let g : chosen (above ++ (K ∷ [])) (bs ++ (worst_for c s above K m ∷ [])) ≡ unfit n =
              sym (ap (choice_next c s m) e ∙ next_some c s m above bs K d) ∙ h in
              let z : ◌≡◌ {A = ℕ} 0 1 = cc in absurd (omega arith)

  -- a task that the choice names as unfit
  pub choice_unfit : (n : ℕ) → choice_of c s s.count ≡ unfit n → (n < s.count) × Unfit c s n
  choice_unfit n h = unfit_to s.count n h
