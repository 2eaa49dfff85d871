use Rattle.std.proofs.Common.{[], ◌∷◌}
use Rattle.addresses.specs.Signs.{space}
use Rattle.addresses.specs.Written.{quoted, bracketed}
use Rattle.writer.proofs.Takings.{takes_behind, takes_short}
use Rattle.writer.proofs.spell.spell_mailbox.Goals as goal

pub returns-in_err-spell_quoted-in-Some : goal.returns-in_err-spell_quoted-in-Some
returns-in_err-spell_quoted-in-Some g c =
    rw c.in-Some.is (takes_short g.met.S.Sink.laws _ _ (quoted c.in-Some.name.now) (space ∷ bracketed c.args.mailbox.addr.now) _ c.from_residual.ensures.0 c.in_err-spell_quoted-in-Some.ensures)

pub returns-in_err-push-in-Some : goal.returns-in_err-push-in-Some
returns-in_err-push-in-Some g c =
    let laws = g.met.S.Sink.laws in
    let a = bracketed c.args.mailbox.addr.now in
    rw c.in-Some.is (takes_behind laws _ _ _ (quoted c.in-Some.name.now) (space ∷ a) _ c.in_ok-spell_quoted-in-Some.ensures
    (takes_short laws _ _ (space ∷ []) a _ c.from_residual-in_err-push-in-Some.ensures.0 c.in_err-push-in-Some.ensures))

pub returns-in_ok-push-in-Some : goal.returns-in_ok-push-in-Some
returns-in_ok-push-in-Some g c =
    let laws = g.met.S.Sink.laws in
    let a = bracketed c.args.mailbox.addr.now in
    rw c.in-Some.is (takes_behind laws _ _ _ (quoted c.in-Some.name.now) (space ∷ a) _ c.in_ok-spell_quoted-in-Some.ensures
    (takes_behind laws _ _ _ (space ∷ []) a _ c.in_ok-push-in-Some.ensures c.spell_bracketed.ensures))
