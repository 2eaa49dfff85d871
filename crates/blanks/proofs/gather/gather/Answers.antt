-- One turn of the loop: a blank more is read, and held.
use Rattle.std.proofs.Common.{sym, ◌∙◌}
use Rattle.marks.proofs.Waits.{took}
use Rattle.blanks.proofs.Reading.{one_more, pushed_proper, code_proper, first_proper}
use Rattle.blanks.proofs.gather.gather.Goals as goal

pub loop-m-preserved : goal.loop-m-preserved
loop-m-preserved g c =
    let inv = c.loop-m.invariant in
    let told = c.next.ensures in
    let put = c.in_ok-push.ensures in
    let first = took told _ _ c.in-Ok-Some.is c.in-Ok-Some.field-0-is in
    let is = sym c.code.ensures ∙ c.in-Some.is in
    record {
      given = inv.given ∙ one_more c.loop-m.run c.push.new.self c.in-Ok-Some.m c.in-Some.c _ _ first is put;
      proper = pushed_proper c.loop-m.run c.push.new.self c.in-Some.c put inv.proper (code_proper _ _ is (first_proper _ _ _ first (g.S.Source.proper c.loop-m.below)));
      close = told.keeps ∙ inv.close;
    }
