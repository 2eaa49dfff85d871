use Rattle.std.proofs.Common.{sym, refl, ap, arith, rules}
use Rattle.std.proofs.lemmas.Result.{err_from_is_err_and}
use Rattle.addresses.specs.Reading.{run}
use Rattle.reader.specs.Readers.{view}
use Rattle.reader.proofs.Turns.{fills, goes_on, refuses, passes, ends}
use Rattle.reader.proofs.machine.Reader.read.Goals as goal

pub loop-mark-init : goal.loop-mark-init
loop-mark-init g c =
    let s = g.S.Source in
    let source = c.args.source.now in
    record { rest = ap (λ p. run 0 (s.waiting source) (s.close source) p) (sym c.restart.ensures); same = refl; few = omega arith }

pub returns-in_err-mark : goal.returns-in_err-mark
returns-in_err-mark g c =
    let d = passes c.loop-mark.invariant c.next.ensures c.in_err-mark.field-0.0 c.in_err-mark.was in
    let p = err_from_is_err_and c.from_residual.result c.from_residual.ensures.1 in
    rw (p.1, p.2) (record { answer = d.answer; rest = d.rest; same = d.same })

pub returns-then-taken-ge-MAX_MARKS : goal.returns-then-taken-ge-MAX_MARKS
returns-then-taken-ge-MAX_MARKS g c =
    let d = fills c.loop-mark.invariant c.next.ensures _ c.in-Some.mark c.fault.result c.in_ok-mark.was c.in-Some.is (omega (arith, c.if-taken-ge-MAX_MARKS.true)) c.fault.ensures in
    record { answer = d.answer; rest = d.rest; same = d.same }

pub loop-mark-preserved : goal.loop-mark-preserved
loop-mark-preserved g c =
    goes_on c.loop-mark.invariant c.next.ensures (view c.take.new.self) c.take.result c.in_ok-mark.was c.in-Some.is (omega (arith, c.if-taken-ge-MAX_MARKS.false)) c.take.ensures c.map_err.ensures.cases (λ b f p. search rules) _ c.in_ok-map_err.was

pub returns-in_err-map_err : goal.returns-in_err-map_err
returns-in_err-map_err g c =
    let d = refuses c.loop-mark.invariant c.next.ensures (view c.take.new.self) c.take.result c.in_ok-mark.was c.in-Some.is (omega (arith, c.if-taken-ge-MAX_MARKS.false)) c.take.ensures c.map_err.ensures.cases (λ b f p. search rules) c.in_err-map_err.field-0.0 c.in_err-map_err.was in
    let p = err_from_is_err_and c.from_residual-in_err-map_err.result c.from_residual-in_err-map_err.ensures.1 in
    rw (p.1, p.2) (record { answer = d.answer; rest = d.rest; same = d.same })

pub returns : goal.returns
returns g c =
    let d = ends c.loop-mark.invariant c.next.ensures c.end.new.self c.end.result c.map_err-2.result c.in_ok-mark.was c.in_default.is c.end.ensures c.map_err-2.ensures.cases (λ b f p. search rules) in
    record { answer = d.0; rest = d.1; same = d.2 }
