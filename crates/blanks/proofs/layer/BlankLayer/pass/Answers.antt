-- Outside a run the mark passes.
use Rattle.std.proofs.Common.{[], ◌∷◌, sym, ap, ◌∙◌}
use Rattle.marks.proofs.Waits.{took}
use Rattle.blanks.specs.Given.{outside, these, giving}
use Rattle.blanks.specs.declared.state.State.TheVariants.{Plain}
use Rattle.blanks.proofs.Answers.{one, stands}
use Rattle.blanks.proofs.layer.BlankLayer.pass.Goals as goal

pub returns : goal.returns
returns g c =
    let s = c.args.self.now in
    let told = c.next.ensures in
    let ws = g.S.Source.waiting c.next.new.self in
    one c.flat.result _ _ s.held.given c.pass.new.self.given (g.S.Source.close s.below) (g.S.Source.close c.next.new.self)
    (stands s.held (g.S.Source.waiting s.below) Plain c.requires
    ∙ ap (giving outside) (took told _ _ c.in_ok-m.was c.in-Some.is)
    ∙ (λ i. these (sym c.flat.ensures i ∷ []) (sym (c.pass.ensures.ahead ws) i)))
    c.pass.ensures.given told.keeps
