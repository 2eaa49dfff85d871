use Rattle.std.proofs.Common.{◌≡◌, ℕ, true, List, length, Ok, Err, Result, ◌∙◌, rules}
use lib.Utf8.{scalars}
use Rattle.std.specs.Result.{MatchResult}
use Rattle.marks.specs.declared.fault.Fault.{Fault}
use Rattle.marks.specs.declared.fault.Ground.TheVariants as ground_of
use Rattle.addresses.specs.Mailboxes.{Entry}
use Rattle.addresses.specs.Refusals.{list_fault}
use Rattle.addresses.specs.Writing.{writing}
use Rattle.addresses.specs.Written.{written}
use Rattle.addresses.proofs.Fining.{fine_proper}
use Rattle.addresses.proofs.WrittenScalars.{scalars_written}
use Rattle.store.specs.Stored.{stored}
use Rattle.writing.specs.declared.text.ShortBuffer.{ShortBuffer}
use Rattle.writing.specs.Writes.{told}
use Rattle.writing.proofs.Telling.{told_done, told_short}
use Rattle.mailboxes.specs.declared.list.MailboxList.{MailboxList}
use Rattle.mailboxes.proofs.list.MailboxList.write.Goals as goal

-- a proper list has no character without bytes
all_scalar : (l : MailboxList) → scalars (written (stored l.store)) ≡ true
all_scalar l = scalars_written (stored l.store) (fine_proper (stored l.store) l.proper).entries

-- p is what the writing answered, and r is made of it
answered : (l : List Entry) (n : ℕ) (p : Result ℕ ShortBuffer) (r : Result ℕ Fault) → scalars (written l) ≡ true → p ≡ told l n
    → MatchResult p (λ k. r ≡ Ok k) (λ f. r ≡ Err (list_fault ground_of.ShortBuffer f.needed)) → r ≡ writing l n
answered l n (Ok k) r s e made = made ∙ told_done l n k e
answered l n (Err f) r s e made = made ∙ told_short l n f s e

pub returns-clause-answer : goal.returns-clause-answer
returns-clause-answer c =
    let l = c.args.self.now in
    answered (stored l.store) (length c.args.out.now) c.write_text.result c.map_err.result (all_scalar l) c.write_text.ensures.answer (search rules)

pub returns-clause-buffer : goal.returns-clause-buffer
returns-clause-buffer c = c.write_text.ensures.buffer (all_scalar c.args.self.now)
