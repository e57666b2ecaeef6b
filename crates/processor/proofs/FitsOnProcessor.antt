-- "fits" on any processor: where the walk ends without a late q, no job of the task is late in any trace in which its own releases are legal.
use Prim.Native.Nat.{ℕ, ◌+◌, ◌-◌, ◌*◌, ◌≤◌, ◌<◌}
use mathlib.Core.Path.{◌≡◌}
use mathlib.Core.List.{List}
use native.Mathlib.Omega.{arith}
use lib.ListN.{length}
use Rattle.model.specs.Processor.{Processor}
use Rattle.model.specs.Tasks.{Tasks, Release, release_at}
use Rattle.model.specs.Arrival.{arrivals}
use Rattle.model.specs.Gap.{gap, Legal}
use Rattle.model.specs.Ready as Model
use Rattle.model.specs.Ready.{ready_at}
use Rattle.model.specs.Run.{jobs_on, left_at}
use Rattle.model.specs.Claims.{Trace}
use Rattle.shaper.proofs.GapLaws.{gap_mono}
use Rattle.trace.proofs.PositionLaws.{place_le}
use Rattle.trace.proofs.LegalLaws.{legal_at}
use Rattle.trace.proofs.ReadyAtLaws.{Since, ready_at_closed}
use Rattle.theory.proofs.RunLaws.{left_later}
use Rattle.theory.proofs.FitsOfJobs.{Walk, Done, fits_core}
use Rattle.processor.specs.ProcessorDemand.{Regular, load_on, above_on, demand_on}
use Rattle.processor.specs.ProcessorClaims.{WalkOn, MetOn}
use Rattle.processor.proofs.SamePlace.{same_place}
use Rattle.processor.proofs.JobLaws.{spaced, own_work, bounded}

-- a job at p of task i is finished w(q) ticks after a tick that is not after the first one in which the job q places before it may run
pub record DoneOn (m : Processor) (s : Tasks) (k : ℕ → ℕ) (i : ℕ) (l : List Release) (last : ℕ) (w : ℕ → ℕ) (p : ℕ) : Type 0 where
  pub q : ℕ
  pub q_le : q ≤ last
  pub lead : ℕ
  pub lead_le : lead ≤ p
  pub lead_own : (release_at l lead).task ≡ i
  pub places : Model.place l p ≡ Model.place l lead + q
  pub from : ℕ
  pub from_le : from ≤ m.start (ready_at s k l lead)
  pub done : left_at (jobs_on m s k l) (from + w q) p ≡ 0

-- the response of a job: finished w ticks after a tick e that is not after the start of the job q places before it, δ after its ready tick; that ready tick
-- lies the gap of b places after a release at n, and the job's own release is at least the full jitter's gap of b + q places after n
reach
    : (P J K D δ b q w n a e : ℕ) → e ≤ n + (b * P - K) + δ → n + ((b + q) * P - J) ≤ a
    → w + δ + (J - (q * P + K)) ≤ D + (q * P - J) → e + w ≤ a + D
reach P J K D δ b q w n a e g h x = omega arith

module _ (m : Processor) (r : Regular m) (s : Tasks) (k : ℕ → ℕ) (i : ℕ) (periods : (j : ℕ) → j < i → 1 ≤ s.period j)
    (last : ℕ) (w : ℕ → ℕ) (d : WalkOn m r s k i last w) (l : List Release) (tr : Trace s l) where
  -- the walk, over the jobs of a trace
  walk : Walk (jobs_on m s k l) i (load_on m s) (λ j. arrivals (s.period j) (k j)) (gap (s.period i) (k i)) last w
  unfolding demand_on above_on
  walk = record {
    own_work = own_work m r s k l tr i;
    own_spaced = spaced m r s k l i;
    rising = gap_mono (s.period i) (k i);
    met = λ q u g. d.met q u g;
    stops = d.ends;
  }

  -- every job of the task is finished so
  pub done_on : (p : ℕ) → p < length l → (release_at l p).task ≡ i → DoneOn m s k i l last w p
  done_on p g e =
      go (fits_core (jobs_on m s k l) i (load_on m s) (λ j. gap (s.period j) (k j)) (λ j. arrivals (s.period j) (k j)) (gap (s.period i) (k i))
      last w (bounded m r s k l tr i periods) walk p g e)
    where
      go : Done (jobs_on m s k l) i last w p → DoneOn m s k i l last w p
      go c = record {
        q = c.q;
        q_le = c.q_le;
        lead = c.lead;
        lead_le = c.lead_le;
        lead_own = c.lead_own;
        places = rw (same_place l i p g e, same_place l i c.lead (omega (arith, c.lead_le)) c.lead_own) at c.places;
        from = c.from;
        from_le = c.from_le;
        done = c.done;
      }

  -- and is then finished D ticks after its release
  in_time
      : Legal s l i → (p : ℕ) → p < length l → (release_at l p).task ≡ i → (c : DoneOn m s k i l last w p) → Since s k l i c.lead
      → left_at (jobs_on m s k l) ((release_at l p).tick + s.deadline i) p ≡ 0
  unfolding gap
  in_time legal p g e c n =
      let lead : Model.place l n.from ≤ Model.place l c.lead = place_le l i n.from c.lead n.not_after (omega arith) n.of_task c.lead_own in
      let both : Model.place l p - Model.place l n.from ≡ Model.place l c.lead - Model.place l n.from + c.q = omega (arith, c.places) in
      left_later (jobs_on m s k l) (c.from + w c.q) ((release_at l p).tick + s.deadline i) p
      (reach (s.period i) (s.jitter i) (k i) (s.deadline i) r.pickup (Model.place l c.lead - Model.place l n.from) c.q (w c.q)
      (release_at l n.from).tick (release_at l p).tick c.from
      (omega (arith, c.from_le, r.starts (ready_at s k l c.lead), n.is))
      (rw both at (legal_at s l i legal n.from p (omega arith) g n.of_task e))
      (d.in_time c.q c.q_le))
      c.done

  -- where the walk ends without a late q and the own releases are legal, no job of the task is late
  pub fits_on : Legal s l i → MetOn m s k i l
  fits_on legal p g e = go (done_on p g e)
    where
      go : DoneOn m s k i l last w p → left_at (jobs_on m s k l) ((release_at l p).tick + s.deadline i) p ≡ 0
      go c = in_time legal p g e c (ready_at_closed s k l i c.lead (omega (arith, c.lead_le)) c.lead_own)
