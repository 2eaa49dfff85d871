use Rattle.std.proofs.Common.{ap, ◌∙◌}
use Rattle.addresses.specs.Written.{written}
use Rattle.store.specs.Looks.{seen}
use Rattle.store.specs.Stored.{stored}
use Rattle.store.specs.Walks.{ahead}
use Rattle.writer.proofs.Takings.{left_all, left_more}
use Rattle.writing.specs.Stages.{step_text, text_ahead}
use Rattle.writing.proofs.Steps.{written_ahead, ahead_more}
use Rattle.writing.proofs.text.spell.Goals as goal

pub loop-look-init : goal.loop-look-init
loop-look-init g c =
    let l = stored c.args.list.now in
    left_all g.met.P.Pieces.laws _ (written l) _
    (written_ahead l c.start-stage.result (ahead c.into_iter-look-iterator.result) c.start-stage.ensures (ap ahead c.into_iter-look-iterator.ensures.into_iter_gives ∙ c.walk-look-items.ensures))

pub loop-look-preserved : goal.loop-look-preserved
loop-look-preserved g c =
    let s = c.loop-look.stage in
    let t = c.after-stage.result in
    let v = seen c.in-Some.look in
    let rest = ahead c.next.new.self in
    left_more g.met.P.Pieces.laws _ _ _ (written (stored c.args.list.now)) _ (step_text s v) (text_ahead t rest)
    (ahead_more s t (ahead c.loop-look.look-iterator) rest v c.in-Some.ensures.steps c.after-stage.ensures) c.loop-look.invariant c.in_ok-spell_step.ensures
