use Rattle.std.proofs.Common.{◌++◌, ◌∙◌}
use Rattle.store.specs.Looks.{seen}
use Rattle.writer.proofs.Takings.{takes_behind, takes_short}
use Rattle.writing.specs.Stages.{lead_at, tail_at, own_text}
use Rattle.writing.proofs.Signs.{lead_scalars, lead_bytes, tail_scalars, tail_bytes}
use Rattle.writing.proofs.step.spell_step.Goals as goal

pub returns-in_err-take_signs : goal.returns-in_err-take_signs
returns-in_err-take_signs g c =
    let s = c.args.stage in
    let v = seen c.args.look in
    takes_short g.met.P.Pieces.laws _ _ (lead_at s) (own_text v ++ tail_at s v) _ c.from_residual.ensures.0
    (c.in_err-take_signs.ensures (lead_at s) (lead_scalars s) (c.lead.ensures ∙ lead_bytes s))

pub returns-in_err-spell_look : goal.returns-in_err-spell_look
returns-in_err-spell_look g c =
    let laws = g.met.P.Pieces.laws in
    let s = c.args.stage in
    let v = seen c.args.look in
    takes_behind laws _ _ _ (lead_at s) (own_text v ++ tail_at s v) _ (c.in_ok-take_signs.ensures (lead_at s) (lead_scalars s) (c.lead.ensures ∙ lead_bytes s))
    (takes_short laws _ _ (own_text v) (tail_at s v) _ c.from_residual-in_err-spell_look.ensures.0 c.in_err-spell_look.ensures)

pub returns : goal.returns
returns g c =
    let laws = g.met.P.Pieces.laws in
    let s = c.args.stage in
    let v = seen c.args.look in
    takes_behind laws _ _ _ (lead_at s) (own_text v ++ tail_at s v) _ (c.in_ok-take_signs.ensures (lead_at s) (lead_scalars s) (c.lead.ensures ∙ lead_bytes s))
    (takes_behind laws _ _ _ (own_text v) (tail_at s v) _ c.in_ok-spell_look.ensures
    (c.take_signs-2.ensures (tail_at s v) (tail_scalars s v) (c.tail.ensures ∙ tail_bytes s v)))
