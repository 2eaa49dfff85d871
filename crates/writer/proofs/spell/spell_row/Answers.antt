use Rattle.std.proofs.Common.{◌+◌, [], ◌∷◌, get_or, drop}
use Rattle.std.proofs.lemmas.List.{at_drop_more}
use Rattle.writer.proofs.Takings.{left_more, left_short}
use Rattle.writer.proofs.spell.spell_row.Goals as goal

pub returns-in_err-push : goal.returns-in_err-push
returns-in_err-push g c =
    let row = c.args.row.now in
    let i = c.loop-c.c-index in
    left_short g.met.S.Sink.laws _ _ _ row (drop i row) (get_or row i 0 ∷ []) (drop (i + 1) row) (at_drop_more (λ x. x) row i 0 c.loop-c-test.true) _
    c.from_residual.ensures.0 c.loop-c.invariant c.in_err-push.ensures

pub loop-c-preserved : goal.loop-c-preserved
loop-c-preserved g c =
    let row = c.args.row.now in
    let i = c.loop-c.c-index in
    left_more g.met.S.Sink.laws _ _ _ row (drop i row) (get_or row i 0 ∷ []) (drop (i + 1) row) (at_drop_more (λ x. x) row i 0 c.loop-c-test.true)
    c.loop-c.invariant c.in_ok-push.ensures
