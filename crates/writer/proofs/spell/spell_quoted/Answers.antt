use Rattle.std.proofs.Common.{rules, [], ◌∷◌, ◌++◌}
use Rattle.addresses.specs.Signs.{quote}
use Rattle.addresses.specs.Written.{escaped}
use Rattle.writer.proofs.Takings.{takes_behind, takes_short}
use Rattle.writer.proofs.spell.spell_quoted.Goals as goal

pub returns-in_err-push : goal.returns-in_err-push
returns-in_err-push g c = takes_short g.met.S.Sink.laws _ _ (quote ∷ []) _ _ c.from_residual.ensures.0 c.in_err-push.ensures

pub returns-in_err-spell_row : goal.returns-in_err-spell_row
returns-in_err-spell_row g c =
    let laws = g.met.S.Sink.laws in
    let n = escaped c.args.name.now in
    takes_behind laws _ _ _ (quote ∷ []) (n ++ quote ∷ []) _ c.in_ok-push.ensures
    (takes_short laws _ _ n (quote ∷ []) _ c.from_residual-in_err-spell_row.ensures.0 c.in_err-spell_row.ensures)

pub returns : goal.returns
returns g c =
    let laws = g.met.S.Sink.laws in
    let n = escaped c.args.name.now in
    takes_behind laws _ _ _ (quote ∷ []) (n ++ quote ∷ []) _ c.in_ok-push.ensures
    (takes_behind laws _ _ _ n (quote ∷ []) _ (search rules) c.push-2.ensures)
