use Rattle.std.proofs.Common.{Ok, sym, ap, ◌∙◌}
use Rattle.std.proofs.lemmas.Result.{err_from_is_err_and}
use Rattle.marks.proofs.TableSteps.{before_limit, moves_line_end, moves_part, moves_fault}
use Rattle.marks.proofs.table.TokenTable.open.Goals as goal

pub returns-in_err-opened-clause-stream : goal.returns-in_err-opened-clause-stream
returns-in_err-opened-clause-stream c =
    let s = c.args.self.now in
    let inside = before_limit s.text.now s.tokens.now s.index c.args.token s.stops c.requires.next in
    let p = err_from_is_err_and c.from_residual.result c.from_residual.ensures.1 in
    rw (p.1, p.2) (moves_fault s.text.now s.tokens.now inside.0 s.part s.index c.args.token c.in_err-opened.field-0.0 c.requires.out c.requires.next (sym c.in_err-opened.ensures))

pub returns-in-None-clause-stream : goal.returns-in-None-clause-stream
returns-in-None-clause-stream c =
    let s = c.args.self.now in
    let inside = before_limit s.text.now s.tokens.now s.index c.args.token s.stops c.requires.next in
    moves_line_end s.text.now s.tokens.now inside.0 s.part s.index c.args.token c.requires.out c.requires.next (sym c.in_ok-opened.ensures ∙ ap Ok c.in-None.is)

pub returns-in-Some-clause-stream : goal.returns-in-Some-clause-stream
returns-in-Some-clause-stream c =
    let s = c.args.self.now in
    let inside = before_limit s.text.now s.tokens.now s.index c.args.token s.stops c.requires.next in
    moves_part s.text.now s.tokens.now inside.0 s.part c.in-Some.part s.index c.args.token c.lead.result c.requires.out c.requires.next (sym c.in_ok-opened.ensures ∙ ap Ok c.in-Some.is) c.lead.ensures
