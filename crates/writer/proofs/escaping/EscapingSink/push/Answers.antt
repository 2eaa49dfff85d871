use Rattle.std.proofs.Common.{◌≡◌, ℕ, true, [], ◌∷◌, ◌++◌, sym, refl, ap}
use Rattle.std.proofs.lemmas.Bool.{cond-true}
use Rattle.characters.specs.WhiteSpace.{among}
use Rattle.addresses.specs.Signs.{quote, backslash}
use Rattle.addresses.specs.Written.{escaped}
use Rattle.writer.proofs.Takings.{takes_behind, takes_short, takes_escaped}
use Rattle.writer.proofs.escaping.EscapingSink.push.Goals as goal

marked : (c : ℕ) → true ≡ among c (backslash ∷ quote ∷ []) → backslash ∷ c ∷ [] ≡ escaped (c ∷ [])
marked c e = sym (ap (λ x. x ++ []) (cond-true _ (backslash ∷ c ∷ []) (c ∷ []) (sym e)))

pub returns-in_err-push : goal.returns-in_err-push
returns-in_err-push g c =
    let laws = g.met.S.Sink.laws in
    takes_escaped laws (λ x. x.sink) c.args.self.now (record { sink = record c.args.self.now.sink { now = c.push-2.new.self } }) (c.args.c ∷ []) (backslash ∷ c.args.c ∷ []) _ (marked c.args.c c.if-not-is_escaped.ensures) refl
    (takes_short laws _ _ (backslash ∷ []) (c.args.c ∷ []) _ c.from_residual.ensures.0 c.in_err-push.ensures)

pub returns : goal.returns
returns g c =
    let laws = g.met.S.Sink.laws in
    takes_escaped laws (λ x. x.sink) c.args.self.now (record { sink = record c.args.self.now.sink { now = c.push-3.new.self } }) (c.args.c ∷ []) (backslash ∷ c.args.c ∷ []) _ (marked c.args.c c.if-not-is_escaped.ensures) refl
    (takes_behind laws _ _ _ (backslash ∷ []) (c.args.c ∷ []) _ c.in_ok-push.ensures c.push-3.ensures)
