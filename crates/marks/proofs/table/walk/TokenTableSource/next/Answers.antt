use Rattle.std.proofs.Common.{◌≤◌, length, refl, ap, ◌∙◌, arith}
use Rattle.std.proofs.lemmas.Option.{slice_get_read}
use Rattle.marks.specs.Gives.{closing}
use Rattle.marks.specs.Streams.{gives_close}
use Rattle.marks.specs.Tables.{table_from}
use Rattle.marks.specs.Texts.{close_of}
use Rattle.marks.proofs.TableSteps.{table_close}
use Rattle.marks.proofs.table.walk.TokenTableSource.next.Goals as goal

pub open-requires-clause-next : goal.open-requires-clause-next
open-requires-clause-next c =
    let (_, _, _, (inside, is), _) = c.in-Some.ensures.lookup in
    slice_get_read c.loop-self.self.tokens.now _ c.loop-self.self.index c.in-Some.token.now refl inside (is c.in-Some.token.now)

pub returns-in_default : goal.returns-in_default
returns-in_default c =
    let s = c.loop-self.self in
    let last : length s.tokens.now ≤ s.index = omega (arith, c.in_default.ensures.lookup) in
    let all = table_close s.text.now s.tokens.now s.part s.index last (omega (arith, c.loop-self-test.true)) in
    gives_close _ (table_from s.text.now s.tokens.now s.part s.index) (close_of (length s.text.now)) c.closing.result (c.loop-self.invariant ∙ all) all
    (c.closing.ensures ∙ ap closing c.close_of.ensures)
