-- The next mark of a run that is held, none, and the mark behind it.
use Rattle.std.proofs.Common.{◌∷◌, [], refl, ap, ◌∙◌, sym}
use Rattle.blanks.specs.Given.{these}
use Rattle.blanks.specs.Ahead.{behind_run}
use Rattle.blanks.proofs.Left.{next_blank, no_blank}
use Rattle.blanks.proofs.held.Held.give.Goals as goal

pub returns-in-Some : goal.returns-in-Some
returns-in-Some c =
    (next_blank c.args.self.now _ _ c.in-Holding.is _ (sym c.get.ensures.blank ∙ c.in-Some.is), c.saturating_add-self.ensures)

pub returns-in_default-behind : goal.returns-in_default-behind
returns-in_default-behind c =
    let left = no_blank c.args.self.now _ _ c.in-Holding.is (sym c.get.ensures.blank ∙ c.in_default-get.is) in
    (λ ws. left ws ∙ ap (λ b. behind_run b ws) c.in_default-behind.is, refl, refl)

pub returns : goal.returns
returns c =
    let left = no_blank c.args.self.now _ _ c.in-Holding.is (sym c.get.ensures.blank ∙ c.in_default-get.is) in
    (λ ws. left ws ∙ ap (λ b. behind_run b ws) c.in-Some-behind.is ∙ ap (these (c.in-Some-behind.m ∷ [])) (sym (c.pass.ensures.ahead ws)), c.pass.ensures.given)
