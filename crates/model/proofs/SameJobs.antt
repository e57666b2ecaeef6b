-- Jobs that agree at each place of the list have the same run: nothing past the list matters.
use Prim.Native.Nat.{ℕ, zero, suc, ◌+◌, ◌*◌, ◌<◌, max, pred}
use mathlib.Core.Path.{◌≡◌, refl, ap, ◌∙◌}
use mathlib.Core.Bool.{Bool, true, false, cond, ◌&&◌}
use mathlib.Core.Option.{Option, some, none}
use native.Mathlib.Omega.{arith}
use lib.Dec.{leb, ltb, eqb}
use Rattle.model.specs.Series.{on, sum, most}
use Rattle.model.specs.Run.{Jobs, pending, prefer, top, pick, less, left_at, runs, is_job, runs_in, end_of, finish_of}
use Rattle.model.proofs.SeriesLaws.{sum_eq}

-- the largest of equal values is equal
most_eq : (f g : ℕ → ℕ) (n : ℕ) → ((p : ℕ) → p < n → f p ≡ g p) → most f n ≡ most g n
unfolding most
most_eq f g zero h = refl
most_eq f g (suc n) h = λ x. max (most_eq f g n (λ p l. h p (omega arith)) x) (h n (omega arith) x)

-- a job that is chosen among the first n is one of them
abbrev Among : ℕ → Option ℕ → Type 0
Among n none = Unit {0}
Among n (some q) = q < n

prefer_among : (f : ℕ → ℕ) (o : Option ℕ) (p : ℕ) (b : Bool) → Among p o → Among (suc p) (prefer f o p b)
unfolding prefer
prefer_among f none p false h = tt
prefer_among f none p true h = omega arith
prefer_among f (some q) p false h = omega arith
prefer_among f (some q) p true h = go (ltb (f p) (f q))
  where
    go : (b : Bool) → Among (suc p) (cond b (some p) (some q))
    go true = omega arith
    go false = omega arith

top_among : (f : ℕ → ℕ) (pend : ℕ → Bool) (n : ℕ) → Among n (top f pend n)
unfolding top
top_among f pend zero = tt
top_among f pend (suc n) = prefer_among f (top f pend n) n (pend n) (top_among f pend n)

-- tasks that agree on the jobs looked at give the same of two jobs
prefer_same
    : (f g : ℕ → ℕ) (o : Option ℕ) (p : ℕ) (b : Bool) → ((q : ℕ) → q < suc p → f q ≡ g q) → Among p o → prefer f o p b ≡ prefer g o p b
unfolding prefer
prefer_same f g none p false h a = refl
prefer_same f g none p true h a = refl
prefer_same f g (some q) p false h a = refl
prefer_same f g (some q) p true h a = λ x. cond (ltb (h p (omega arith) x) (h q (omega arith) x)) (some p) (some q)

-- tasks and tests that agree below n give the same of the first n jobs
top_same
    : (f g : ℕ → ℕ) (pend pend' : ℕ → Bool) (n : ℕ)
    → ((p : ℕ) → p < n → f p ≡ g p) → ((p : ℕ) → p < n → pend p ≡ pend' p) → top f pend n ≡ top g pend' n
unfolding top
top_same f g pend pend' zero h e = refl
top_same f g pend pend' (suc n) h e =
    prefer_same f g (top f pend n) n (pend n) h (top_among f pend n)
    ∙ (λ x. prefer g (top_same f g pend pend' n (λ p l. h p (omega arith)) (λ p l. e p (omega arith)) x) n (e n (omega arith) x))

-- the work that a job has left after a tick depends on what it alone had left
less_same : (o : Option ℕ) (left left' : ℕ → ℕ) (p : ℕ) → left p ≡ left' p → less o left p ≡ less o left' p
unfolding less
less_same none left left' p e = e
less_same (some q) left left' p e = λ x. cond (eqb p q) (pred (e x)) (e x)

-- the same jobs below the same count, and the same ticks ours
pub record SameJobs (j k : Jobs) : Type 0 where
  pub count : j.count ≡ k.count
  pub task : (p : ℕ) → p < j.count → j.task p ≡ k.task p
  pub start : (p : ℕ) → p < j.count → j.start p ≡ k.start p
  pub work : (p : ℕ) → p < j.count → j.work p ≡ k.work p
  pub ours : (t : ℕ) → j.ours t ≡ k.ours t
  pub turn : j.turn ≡ k.turn

module _ (j k : Jobs) (same : SameJobs j k) where
  -- where the same work is left the same job is picked
  pick_same : (left left' : ℕ → ℕ) (t : ℕ) → ((p : ℕ) → p < j.count → left p ≡ left' p) → pick j left t ≡ pick k left' t
  unfolding pick pending
  pick_same left left' t h = λ x. cond (same.ours t x) (chosen x) none
    where
      chosen : top j.task (pending j left t) j.count ≡ top k.task (pending k left' t) k.count
      chosen =
          top_same _ _ _ _ j.count same.task (λ p l x. leb (same.start p l x) t && ltb 0 (h p l x))
          ∙ ap (top k.task (pending k left' t)) same.count

  -- the same work is left
  left_same : (t p : ℕ) → p < j.count → left_at j t p ≡ left_at k t p
  unfolding left_at
  left_same zero p h = same.work p h
  left_same (suc t) p h =
      less_same (pick j (left_at j t) t) (left_at j t) (left_at k t) p (left_same t p h)
      ∙ ap (λ o. less o (left_at k t) p) (pick_same (left_at j t) (left_at k t) t (left_same t))

  -- the same job runs in each tick
  pub runs_same : (t : ℕ) → runs j t ≡ runs k t
  unfolding runs
  runs_same t = pick_same (left_at j t) (left_at k t) t (left_same t)

  -- the run ends by the same tick
  end_same : end_of j ≡ end_of k
  unfolding end_of
  end_same =
      (λ x. most_eq _ _ j.count same.start x + sum_eq _ _ j.count same.work x * same.turn x)
      ∙ ap (λ n. most k.start n + sum k.work n * k.turn) same.count

  -- each job finishes at the same tick
  pub finish_same : (p : ℕ) → finish_of j p ≡ finish_of k p
  unfolding finish_of runs_in
  finish_same p = λ x. most (λ t. on (is_job (runs_same t x) p) (suc t)) (end_same x)
