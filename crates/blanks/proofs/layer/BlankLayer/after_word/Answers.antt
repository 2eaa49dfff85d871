-- After a word: a blank begins a run, and any other mark passes.
use Rattle.std.proofs.Common.{[], ◌∷◌, sym, refl, ap, ◌∙◌}
use Rattle.marks.specs.declared.mark.Mark.TheVariants.{Blank}
use Rattle.marks.proofs.Waits.{took}
use Rattle.blanks.specs.declared.state.State.TheVariants.{AfterWord}
use Rattle.blanks.specs.Given.{inside, these, giving}
use Rattle.blanks.proofs.Answers.{one, same, stands}
use Rattle.blanks.proofs.Reading.{as_blank, code_proper, first_proper, passes}
use Rattle.blanks.proofs.layer.BlankLayer.after_word.Goals as goal

pub begin-requires : goal.begin-requires
begin-requires g c =
    let first = took c.next.ensures _ _ c.in_ok-m.was c.in-Some.is in
    (c.requires, code_proper _ _ (sym c.code.ensures ∙ c.in-Some-code.is) (first_proper _ _ _ first (g.S.Source.proper c.args.self.now.below)))

pub returns-in-Some-code : goal.returns-in-Some-code
returns-in-Some-code g c =
    let s = c.args.self.now in
    let told = c.next.ensures in
    let ws = g.S.Source.waiting c.next.new.self in
    same _ _ s.held.given s.held.given (g.S.Source.close s.below) (g.S.Source.close c.next.new.self) _ _ _
    (stands s.held (g.S.Source.waiting s.below) AfterWord c.requires
    ∙ ap (giving (inside [])) (took told _ _ c.in_ok-m.was c.in-Some.is)
    ∙ as_blank c.in-Some.m c.in-Some-code.first [] ws (sym c.code.ensures ∙ c.in-Some-code.is)
    ∙ sym (stands s.held (Blank c.in-Some-code.first ∷ ws) AfterWord c.requires))
    refl told.keeps c.begin.ensures

pub returns : goal.returns
returns g c =
    let s = c.args.self.now in
    let told = c.next.ensures in
    let ws = g.S.Source.waiting c.next.new.self in
    one c.in-Some.m _ _ s.held.given c.pass.new.self.given (g.S.Source.close s.below) (g.S.Source.close c.next.new.self)
    (stands s.held (g.S.Source.waiting s.below) AfterWord c.requires
    ∙ ap (giving (inside [])) (took told _ _ c.in_ok-m.was c.in-Some.is)
    ∙ passes c.in-Some.m ws (sym c.code.ensures ∙ c.in_default-code.is)
    ∙ ap (these (c.in-Some.m ∷ [])) (sym (c.pass.ensures.ahead ws)))
    c.pass.ensures.given told.keeps
