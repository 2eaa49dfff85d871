use Rattle.std.proofs.Common.{subst, rules, ◌∙◌}
use Rattle.reader.specs.Ends.{LastOther}
use Rattle.reader.proofs.Ends.{trimmed_at}
use Rattle.reader.proofs.chars.trim.Goals as goal

pub returns : goal.returns
returns c =
    let last = c.last_other-last.result in
    let is = subst (λ xs. LastOther xs last) c.as_slice.ensures.value c.last_other-last.ensures in
    c.truncate.ensures ∙ trimmed_at c.args.chars.now last c.map_or.result is (search rules)
