-- The ring of a window: one more job gives the last 256 of the jobs held and that one.
use Prim.Native.Nat.{ℕ, suc, ◌+◌, ◌-◌, ◌%◌, ◌≤◌, ◌<◌, min}
use mathlib.Core.Path.{◌≡◌, refl, sym, ap, ap₂, ◌∙◌}
use mathlib.Core.Bool.{Bool, true, false}
use mathlib.Core.Logic.{◌⊎◌, inl, inr}
use mathlib.Core.List.{List, [], ◌∷◌, ◌++◌, append_assoc, append-nil}
use native.Mathlib.Omega.{arith}
use native.Mathlib.Nat.{eq-or-lt_of_le}
use borrow.Author.Tests.{lt-ltb, le-ltb}
use lib.Dec.{ltb}
use lib.ListN.{length, get_or, take, drop, set, length-append, length-take, length-drop, length-set}
use lib.Seq.{drop-cons, set_split, take-length, drop-length, drop-set-lt, take-suc-set, get_or-set_same, get_or-set_other}
use Rattle.model.specs.Series.{table}
use Rattle.model.specs.LastJobs.{Completion, window_jobs, last_of}
use Rattle.model.proofs.SeriesLaws.{tests, le_or_lt}
use Rattle.model.proofs.TableLaws.{length_table, table_agree, table_set}
use Rattle.model.proofs.LastJobLaws.{last_all}
use Rattle.monitor.specs.Layout.{window_slots, count_in, job_in, place_in, used_in, from, held_in, counted, with_job}

-- a list turned at its start
turned_none : {A : Type 0} (l : List A) → from 0 l ≡ l
unfolding from
turned_none l = append-nil l

-- and at its end
turned_all : {A : Type 0} (l : List A) → from (length l) l ≡ l
unfolding from
turned_all l = rw (drop-length l, take-length l) refl

-- the place after p in a ring of n
next : ℕ → ℕ → ℕ → Type 0
next n p q = ((suc p ≡ n) × (q ≡ 0)) ⊎ ((suc p < n) × (q ≡ suc p))

-- a full ring in which the oldest entry is replaced: its list, and the same by the last n
module _ {A : Type 0} (d x : A) (l : List A) (p : ℕ) (h : p < length l) where
  abbrev replaced : List A
  replaced = drop (suc p) l ++ (take p l ++ (x ∷ []))

  ends : last_of (length l) (from p l ++ (x ∷ [])) ≡ replaced
  unfolding last_of from
  ends =
      let n : length ((drop p l ++ take p l) ++ (x ∷ [])) - length l ≡ 1
      = omega (arith, length-append (drop p l ++ take p l) (x ∷ []), length-append (drop p l) (take p l), length-take p l, length-drop p l) in
      rw (n, append_assoc (drop p l) (take p l) (x ∷ []), drop-cons l p d h) refl

  turned : (q : ℕ) → next (length l) p q → from q (set l p x) ≡ replaced
  unfolding from next
  turned q (inl e) = let none : drop (suc p) l ≡ [] = rw e.0 (drop-length l) in rw (e.1, append-nil, set_split l p x h, none) refl
  turned q (inr e) = rw e.1 (ap₂ ◌++◌ (drop-set-lt (suc p) l p x (omega arith)) (take-suc-set l p x h))

-- the place after a place
next_place : (n : ℕ) → window_jobs ≤ n → next window_jobs (n % window_jobs) (counted n % window_jobs)
unfolding next counted
next_place n h = go (le_or_lt window_jobs (suc (n % window_jobs)))
  where
    go : (window_jobs ≤ suc (n % window_jobs)) ⊎ (suc (n % window_jobs) < window_jobs) → next window_jobs (n % window_jobs) (counted n % window_jobs)
    go (inl l) = inl (omega arith, rw (counted, le-ltb n window_jobs h) (omega arith))
    go (inr l) = inr (omega arith, rw (counted, le-ltb n window_jobs h) (omega arith))

-- the count after one more job
counted_part : (n : ℕ) → n < window_jobs → counted n ≡ suc n
unfolding counted
counted_part n h = rw (counted, lt-ltb n window_jobs h) (omega arith)

counted_full : (n : ℕ) → window_jobs ≤ n → window_jobs ≤ counted n
unfolding counted
counted_full n h = rw (counted, le-ltb n window_jobs h) (omega arith)

pub counted_low : (n : ℕ) → counted n < 512
unfolding counted
counted_low n = go (ltb n window_jobs) refl
  where
    go : (b : Bool) → ltb n window_jobs ≡ b → counted n < 512
    go true e = rw (counted, e) (omega tests)
    go false e = rw (counted, e) (omega arith)

-- a place in use after one more job, other than that job's, was in use
pub used_before : (n k : ℕ) → k < min (counted n) window_jobs → (k ≡ n % window_jobs → ⊥) → k < min n window_jobs
used_before n k h ne = go (le_or_lt window_jobs n)
  where
    go : (window_jobs ≤ n) ⊎ (n < window_jobs) → k < min n window_jobs
    go (inl l) = omega arith
    go (inr l) = let p : n % window_jobs ≡ n = omega arith in omega (arith, counted_part n l)

-- a ring that is not yet full, or just full, holds its jobs in order
held_part : (w : List ℕ) → count_in w ≤ window_jobs → held_in w ≡ table (job_in w) (count_in w)
unfolding held_in
held_part w h = go (eq-or-lt_of_le {n = count_in w} {m = window_jobs} h)
  where
    go : (count_in w ≡ window_jobs) ⊎ (count_in w < window_jobs) → from (place_in w) (table (job_in w) (used_in w)) ≡ table (job_in w) (count_in w)
    go (inl e) =
        let p : place_in w ≡ 0 = rw e refl in
        let u : used_in w ≡ count_in w = omega arith in
        rw (p, u) (turned_none _)
    go (inr l) =
        let p : place_in w ≡ length (table (job_in w) (count_in w)) = omega (arith, length_table (job_in w) (count_in w)) in
        let u : used_in w ≡ count_in w = omega arith in
        rw (u, p) (turned_all _)

-- a full ring is turned at its next place
held_full : (w : List ℕ) → window_jobs ≤ count_in w → held_in w ≡ from (place_in w) (table (job_in w) window_jobs)
unfolding held_in
held_full w h = let u : used_in w ≡ window_jobs = omega arith in rw u refl

-- one more job in the slots
module _ (w : List ℕ) (c : Completion) (long : window_slots ≤ length w) where
  -- with the job's task, and with its response too
  abbrev tasked : List ℕ
  tasked = set w (34 + place_in w) c.task

  abbrev told : List ℕ
  told = set tasked (290 + place_in w) c.response

  pub place_low : place_in w < window_jobs
  place_low = omega arith

  pub length_with : length (with_job w c) ≡ length w
  unfolding with_job
  length_with = length-set told 1 (counted (count_in w)) ∙ length-set tasked (290 + place_in w) c.response ∙ length-set w (34 + place_in w) c.task

  pub count_with : count_in (with_job w c) ≡ counted (count_in w)
  unfolding with_job
  count_with = get_or-set_same told 1 (counted (count_in w)) 0 (omega (arith, length-set tasked (290 + place_in w) c.response, length-set w (34 + place_in w) c.task))

  -- a slot other than that of the count, and one that is none of the three
  but_count : (k : ℕ) → (k ≡ 1 → ⊥) → get_or (with_job w c) k 0 ≡ get_or told k 0
  unfolding with_job
  but_count k ne = get_or-set_other told 1 k (counted (count_in w)) 0 ne

  pub slot_with_lem : (k : ℕ) → (k ≡ 1 → ⊥) → (k ≡ 34 + place_in w → ⊥) → (k ≡ 290 + place_in w → ⊥) → get_or (with_job w c) k 0 ≡ get_or w k 0
  slot_with_lem k a b d =
      but_count k a ∙ get_or-set_other tasked (290 + place_in w) k c.response 0 d ∙ get_or-set_other w (34 + place_in w) k c.task 0 b

  pub job_with : job_in (with_job w c) (place_in w) ≡ c
  job_with =
      let t : get_or (with_job w c) (34 + place_in w) 0 ≡ c.task
      = but_count (34 + place_in w) (λ (e : 34 + place_in w ≡ 1). omega arith)
      ∙ get_or-set_other tasked (290 + place_in w) (34 + place_in w) c.response 0 (λ (e : 34 + place_in w ≡ 290 + place_in w). omega arith)
      ∙ get_or-set_same w (34 + place_in w) c.task 0 (omega (arith, place_low)) in
      let r : get_or (with_job w c) (290 + place_in w) 0 ≡ c.response
      = but_count (290 + place_in w) (λ (e : 290 + place_in w ≡ 1). omega arith)
      ∙ get_or-set_same tasked (290 + place_in w) c.response 0 (omega (arith, place_low, length-set w (34 + place_in w) c.task)) in
      rw (t, r) refl

  pub jobs_with : (k : ℕ) → k < window_jobs → (k ≡ place_in w → ⊥) → job_in (with_job w c) k ≡ job_in w k
  jobs_with k h ne =
      let t : get_or (with_job w c) (34 + k) 0 ≡ get_or w (34 + k) 0
      = slot_with_lem (34 + k) (λ (e : 34 + k ≡ 1). omega arith) (λ (e : 34 + k ≡ 34 + place_in w). ne (omega arith)) (λ (e : 34 + k ≡ 290 + place_in w). omega arith) in
      let r : get_or (with_job w c) (290 + k) 0 ≡ get_or w (290 + k) 0
      = slot_with_lem (290 + k) (λ (e : 290 + k ≡ 1). omega arith) (λ (e : 290 + k ≡ 34 + place_in w). omega (arith, place_low)) (λ (e : 290 + k ≡ 290 + place_in w). ne (omega arith)) in
      rw (t, r) refl

  -- the ring, one entry replaced
  ring_with : table (job_in (with_job w c)) window_jobs ≡ set (table (job_in w) window_jobs) (place_in w) c
  ring_with =
      table_set (job_in w) (job_in (with_job w c)) window_jobs (place_in w) place_low jobs_with ∙ ap (set (table (job_in w) window_jobs) (place_in w)) job_with

  -- where the ring is not full
  held_more : count_in w < window_jobs → held_in (with_job w c) ≡ last_of window_jobs (held_in w ++ (c ∷ []))
  unfolding table
  held_more h =
      let n = count_in w in
      let p : place_in w ≡ n = omega arith in
      let more : count_in (with_job w c) ≡ suc n = count_with ∙ counted_part n h in
      let same : table (job_in (with_job w c)) n ≡ table (job_in w) n
      = table_agree (job_in (with_job w c)) (job_in w) n (λ i l. jobs_with i (omega arith) (λ (e : i ≡ place_in w). omega arith)) in
      let here : job_in (with_job w c) n ≡ c = ap (job_in (with_job w c)) (sym p) ∙ job_with in
      held_part (with_job w c) (omega (arith, more))
      ∙ ap (table (job_in (with_job w c))) more
      ∙ ap₂ (λ l x. l ++ (x ∷ [])) (same ∙ sym (held_part w (omega arith))) here
      ∙ sym (last_all window_jobs (held_in w ++ (c ∷ []))
      (rw (held_part w (omega arith)) (omega (arith, length-append (table (job_in w) n) (c ∷ []), length_table (job_in w) n))))

  -- where it is
  held_turned : window_jobs ≤ count_in w → held_in (with_job w c) ≡ last_of window_jobs (held_in w ++ (c ∷ []))
  held_turned h =
      let ring = table (job_in w) window_jobs in
      let long-ring : length ring ≡ window_jobs = length_table (job_in w) window_jobs in
      let low : place_in w < length ring = omega (arith, long-ring, place_low) in
      let place : place_in (with_job w c) ≡ counted (count_in w) % window_jobs = ap (λ n. n % window_jobs) count_with in
      held_full (with_job w c) (rw count_with (counted_full (count_in w) h))
      ∙ ap₂ from place ring_with
      ∙ turned c c ring (place_in w) low (counted (count_in w) % window_jobs) (rw long-ring (next_place (count_in w) h))
      ∙ sym (ends c c ring (place_in w) low)
      ∙ ap₂ (λ n l. last_of n (l ++ (c ∷ []))) long-ring (sym (held_full w h))

  -- the jobs held after one more: the last 256 of those held and that one
  pub held_with : held_in (with_job w c) ≡ last_of window_jobs (held_in w ++ (c ∷ []))
  held_with = go (le_or_lt window_jobs (count_in w))
    where
      go : (window_jobs ≤ count_in w) ⊎ (count_in w < window_jobs) → held_in (with_job w c) ≡ last_of window_jobs (held_in w ++ (c ∷ []))
      go (inl h) = held_turned h
      go (inr h) = held_more h
