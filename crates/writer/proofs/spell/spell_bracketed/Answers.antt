use Rattle.std.proofs.Common.{[], ◌∷◌, ◌++◌}
use Rattle.addresses.specs.Signs.{open_bracket, close_bracket}
use Rattle.writer.proofs.Takings.{takes_behind, takes_short}
use Rattle.writer.proofs.spell.spell_bracketed.Goals as goal

pub returns-in_err-push : goal.returns-in_err-push
returns-in_err-push g c = takes_short g.met.S.Sink.laws _ _ (open_bracket ∷ []) _ _ c.from_residual.ensures.0 c.in_err-push.ensures

pub returns-in_err-spell_row : goal.returns-in_err-spell_row
returns-in_err-spell_row g c =
    let laws = g.met.S.Sink.laws in
    let a = c.args.addr.now in
    takes_behind laws _ _ _ (open_bracket ∷ []) (a ++ close_bracket ∷ []) _ c.in_ok-push.ensures
    (takes_short laws _ _ a (close_bracket ∷ []) _ c.from_residual-in_err-spell_row.ensures.0 c.in_err-spell_row.ensures)

pub returns : goal.returns
returns g c =
    let laws = g.met.S.Sink.laws in
    let a = c.args.addr.now in
    takes_behind laws _ _ _ (open_bracket ∷ []) (a ++ close_bracket ∷ []) _ c.in_ok-push.ensures
    (takes_behind laws _ _ _ a (close_bracket ∷ []) _ c.in_ok-spell_row.ensures c.push-2.ensures)
