use Rattle.std.proofs.Common.{sym}
use Rattle.std.proofs.lemmas.Result.{err_from_is_err_and}
use Rattle.reader.specs.Readers.{view}
use Rattle.reader.proofs.Refusals.{refused_last}
use Rattle.reader.proofs.machine.Reader.end.Goals as goal

pub returns-in_err-finish_trimmed-in-Unquoted : goal.returns-in_err-finish_trimmed-in-Unquoted
returns-in_err-finish_trimmed-in-Unquoted c =
    let p = err_from_is_err_and c.from_residual.result c.from_residual.ensures.1 in
    rw (p.1, p.2)
    (refused_last (view c.args.self.now) _ (sym c.if-is_open.ensures) c.in-Unquoted.is c.in_err-finish_trimmed-in-Unquoted.ensures)
