use mathlib.Core.Path.{refl, ap}
use Rattle.std.proofs.Common.{◌∙◌, sym}
use Rattle.std.specs.Prelude.{Err}
use Rattle.loader.specs.declared.Loader.{Loader}
use Rattle.loader.specs.Loader.{going, fed}
use Rattle.loader.proofs.FeedLaws.{fed_decided, undecided, answered_by, feeding_next, feeding_ends, feeding_stops}
use Rattle.loader.proofs.feed.Goals.{In-Err, After-loop-b}
use Rattle.loader.proofs.feed.Goals as goal

-- the loader that is refused at a byte
abbrev halted_here : (c : In-Err) → Loader
halted_here c = record { tasks = c.step.new.tasks; line = c.step.new.line; answer = Err c.in-Err.refusal }

pub returns-then-is_err : goal.returns-then-is_err
returns-then-is_err c = sym (fed_decided _ _ (sym c.is_err.ensures.value ∙ c.if-is_err.true))

pub loop-b-init : goal.loop-b-init
loop-b-init c = refl

pub loop-b-preserved : goal.loop-b-preserved
loop-b-preserved c =
    feeding_next _ (going c.step.new.tasks c.step.new.line) (going c.loop-b.tasks c.loop-b.line) _ _ c.loop-b.invariant c.loop-b-test.true refl
    (answered_by _ _ _ _ _ c.in_default.is c.step.ensures)

pub returns-in-Err : goal.returns-in-Err
returns-in-Err c =
    feeding_stops (going c.args.l.tasks c.args.l.line) (halted_here c) _ _
    (feeding_next _ (halted_here c) (going c.loop-b.tasks c.loop-b.line) _ _ c.loop-b.invariant c.loop-b-test.true refl
    (answered_by _ _ _ _ _ c.in-Err.is c.step.ensures))
    refl
    ∙ ap (λ x. fed x c.args.piece.now) (sym (undecided c.args.l (sym c.is_err.ensures.value ∙ c.if-is_err.false)))

pub returns : goal.returns
returns c =
    feeding_ends (going c.args.l.tasks c.args.l.line) (going c.loop-b.tasks c.loop-b.line) _ _ c.loop-b.invariant c.loop-b-test.false
    ∙ ap (λ x. fed x c.args.piece.now) (sym (undecided c.args.l (sym c.is_err.ensures.value ∙ c.if-is_err.false)))
