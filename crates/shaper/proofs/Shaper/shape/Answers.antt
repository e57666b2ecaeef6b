-- `Shaper::shape` is one step of the two numbers; what that means for a history is a law.
use Prim.Native.Nat.{◌-◌, max}
use mathlib.Core.Path.{◌≡◌, ap, ◌∙◌}
use Rattle.shaper.specs.Shaper.{ready_by}
use Rattle.shaper.proofs.ShaperLaws.{shapes_by}
use Rattle.shaper.proofs.Shaper.shape.Goals.{After-max-ready}
use Rattle.shaper.proofs.Shaper.shape.Goals as goal

-- the ready tick, as the two numbers of the state give it
ready_by_lem : (c : After-max-ready) → c.max-ready.result ≡ ready_by c.args.self c.args.release
unfolding ready_by
ready_by_lem c =
    c.max-ready.ensures
    ∙ ap
    (max c.args.release)
    (c.max-floor.ensures
    ∙ ap
    (max c.args.self.last)
    (c.saturating_sub-due.ensures ∙ ap (◌-◌ c.args.self.next) c.from.ensures))

pub returns : goal.returns
returns c = shapes_by _ _ _ _ _ (ready_by_lem (goal.at.returns c).After-max-ready) c.max.ensures c.from-2.ensures
