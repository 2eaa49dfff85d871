use Rattle.std.proofs.Common.{[], ◌∷◌}
use Rattle.addresses.specs.Signs.{colon}
use Rattle.addresses.specs.Written.{quoted}
use Rattle.writer.proofs.Takings.{takes_behind, takes_short}
use Rattle.writer.proofs.spell.spell_opening.Goals as goal

pub returns-in_err-spell_quoted : goal.returns-in_err-spell_quoted
returns-in_err-spell_quoted g c =
    takes_short g.met.S.Sink.laws _ _ (quoted c.args.name.now) (colon ∷ []) _ c.from_residual.ensures.0 c.in_err-spell_quoted.ensures

pub returns : goal.returns
returns g c = takes_behind g.met.S.Sink.laws _ _ _ (quoted c.args.name.now) (colon ∷ []) _ c.in_ok-spell_quoted.ensures c.push.ensures
