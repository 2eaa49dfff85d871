-- What a list answers, in the words of the model.
--     told r      the answer that a row keeps, or the fault, as a reply
-- Assumes nothing.
use Rattle.std.specs.Prelude.{Ok, Err, Result}
use Rattle.marks.specs.declared.fault.Fault.{Fault}
use Rattle.addresses.specs.Events as model
use Rattle.life.specs.declared.answer.Answer.{Answer}
use Rattle.life.specs.declared.answer.Answer.TheVariants as answer

abbrev pub told : Result Answer Fault → model.Reply
told (Ok answer.Done) = model.accepted
told (Ok (answer.Number n)) = model.told (model.number n)
told (Ok (answer.Mailbox n a)) = model.told (model.mailbox_shape n a)
told (Ok (answer.Group n k)) = model.told (model.group_shape n k)
told (Err f) = model.refused f
