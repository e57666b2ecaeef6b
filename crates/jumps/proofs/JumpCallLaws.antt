-- Laws of the call: the stops of the jobs in columns are the definition's, and what the call answers.
use Prim.Native.Nat.{ℕ, ◌+◌}
use mathlib.Core.Path.{◌≡◌, sym, ap, ap₂, ◌∙◌}
use mathlib.Core.Option.{some}
use mathlib.Core.List.{List, ◌++◌}
use lib.ListN.{length}
use Rattle.model.specs.Series.{table}
use Rattle.model.specs.Tasks.{Tasks}
use Rattle.model.specs.Choice.{column}
use Rattle.model.specs.Refusal.{Refusal, refused, answered}
use Rattle.model.specs.Checks.{refusal_of}
use Rattle.model.specs.Ready.{ready_at, ready_list}
use Rattle.model.specs.Run.{finish_at, finish_list}
use Rattle.model.specs.Stops.{different, stop_ticks, stop_count}
use Rattle.model.specs.Calls.{releases_of, run_inputs, jump_call}
use Rattle.model.proofs.TableLaws.{table_agree, map_table}
use Rattle.model.proofs.OrderLaws.{answers, refuses}
use Rattle.releases.proofs.ReleaseLaws.{length_releases}
use Rattle.queues.specs.Queues.{jobs_of}
use Rattle.queues.proofs.RunCallLaws.{Cleared, ready_written, slot, same_finish}
use Rattle.jumps.specs.Jumps.{stops_of}

module _ (s : Tasks) (kept : List ℕ) (n : ℕ) (task tick cost ready finish : List ℕ) where
  -- a refused run
  pub jump_refused : (q : Refusal) → some q ≡ refusal_of (run_inputs s kept n task tick cost ready finish) → refused q ≡ jump_call s kept n task tick cost ready finish
  unfolding jump_call
  jump_refused q e = refuses (run_inputs s kept n task tick cost ready finish) _ q e

  module _ (e : Cleared s kept n task tick cost ready finish) where
    -- the ticks at which the jobs in columns stop are the definition's
    same_stops : stops_of (jobs_of s.frame n task cost s.charge (ready_written s kept n task tick cost ready)) ≡ stop_ticks s (column kept) (releases_of n task tick cost)
    unfolding stop_ticks ready_list finish_list
    same_stops =
        ap₂ ◌++◌
        (table_agree _ (λ p. ready_at s (column kept) (releases_of n task tick cost) p + 1) n (λ p h. ap (λ x. x + 1) (slot s kept n task tick cost ready finish e p h))
        ∙ ap (table (λ p. ready_at s (column kept) (releases_of n task tick cost) p + 1)) long
        ∙ sym (map_table (λ x. x + 1) (ready_at s (column kept) (releases_of n task tick cost)) (length (releases_of n task tick cost))))
        (table_agree _ (finish_at s (column kept) (releases_of n task tick cost)) n (same_finish s kept n task tick cost ready finish e)
        ∙ ap (table (finish_at s (column kept) (releases_of n task tick cost))) long)
      where
        long : n ≡ length (releases_of n task tick cost)
        long = sym (length_releases n task tick cost)

    -- a run that is not refused
    pub jump_answered : (o : List ℕ) (stops : ℕ)
        → o ≡ ready_written s kept n task tick cost ready
        → stops ≡ different (stops_of (jobs_of s.frame n task cost s.charge o))
        → answered stops ≡ jump_call s kept n task tick cost ready finish
    unfolding jump_call stop_count
    jump_answered o stops g f =
        ap answered (f ∙ ap (λ x. different (stops_of (jobs_of s.frame n task cost s.charge x))) g ∙ ap different same_stops)
        ∙ answers (run_inputs s kept n task tick cost ready finish) _ e.clear
