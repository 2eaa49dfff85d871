-- The events in the life of a list, what each is replied, and the list that it leaves.
--     Event           a read of the marks that wait in its source and of its close, an addition, a removal of an entry or of a
--                     member, a writing into a buffer of so many bytes, or a question
--     Question        how many mailboxes or entries there are, or a look at an entry or a member
--     Reply           accepted, told a value, or refused
--     Value           what is told: a number, or the shape of what a look sees, since a row of events cannot lend the
--                     characters of a list that later events change
--     shape s         the lengths of what is seen: of a name, if there is one, and an address, or of a group's name with the
--                     number of its members
--     replied, changed, counted, shown, answer_to    the replies that come of what calls answer
--     reply_to l e    what the event e is replied that finds the list l
--     left_by l e     the list that it leaves
--     waiting_by e ws what then waits in a source where ws waited; only a read takes of it
--     filled_by l e b what a buffer then holds that held b; only a writing changes it, and its room is that of the buffer
-- Assumes nothing.
use Rattle.std.specs.Prelude.{ℕ, List, length, Some, None, Ok, Err, Option, Result}
use Rattle.marks.specs.declared.mark.Mark.{Mark}
use Rattle.marks.specs.declared.fault.Fault.{Fault}
use Rattle.marks.specs.Gives.{Close}
use Rattle.addresses.specs.Mailboxes.{Entry, mailboxes}
use Rattle.addresses.specs.Reading.{reading}
use Rattle.addresses.specs.Additions.{Addition, added}
use Rattle.addresses.specs.Removals.{removed}
use Rattle.addresses.specs.Looks.{Seen, seen_mailbox, seen_group, look}
use Rattle.addresses.specs.Writing.{writing, filled}
use Rattle.addresses.specs.Outcomes.{done, left_of}

pub data Question : Type 0 where
  how_many_mailboxes : Question
  how_many_entries : Question
  look_at : ℕ → Option ℕ → Question

pub data Event : Type 0 where
  a_read : List Mark → Close → Event
  an_addition : Addition → Event
  a_removal : ℕ → Option ℕ → Event
  a_writing : ℕ → Event
  a_question : Question → Event

pub data Value : Type 0 where
  number : ℕ → Value
  mailbox_shape : Option ℕ → ℕ → Value
  group_shape : ℕ → ℕ → Value

pub data Reply : Type 0 where
  accepted : Reply
  told : Value → Reply
  refused : Fault → Reply

-- ── replies ──

abbrev pub replied : Result (Unit {0}) Fault → Reply
replied (Ok _) = accepted
replied (Err f) = refused f

abbrev pub changed : Result (List Entry) Fault → Reply
changed o = replied (done o)

abbrev pub counted : Result ℕ Fault → Reply
counted (Ok n) = told (number n)
counted (Err f) = refused f

abbrev pub shape : Seen → Value
shape (seen_mailbox None a) = mailbox_shape None (length a)
shape (seen_mailbox (Some n) a) = mailbox_shape (Some (length n)) (length a)
shape (seen_group n k) = group_shape (length n) k

abbrev pub shown : Result Seen Fault → Reply
shown (Ok s) = told (shape s)
shown (Err f) = refused f

abbrev pub answer_to : List Entry → Question → Reply
answer_to l how_many_mailboxes = told (number (mailboxes l))
answer_to l how_many_entries = told (number (length l))
answer_to l (look_at i o) = shown (look l i o)

abbrev pub reply_to : List Entry → Event → Reply
reply_to l (a_read ms x) = changed (reading ms x).answer
reply_to l (an_addition a) = changed (added l a)
reply_to l (a_removal i o) = changed (removed l i o)
reply_to l (a_writing n) = counted (writing l n)
reply_to l (a_question q) = answer_to l q

-- ── what is left ──

abbrev pub left_by : List Entry → Event → List Entry
left_by l (a_read ms x) = left_of l (reading ms x).answer
left_by l (an_addition a) = left_of l (added l a)
left_by l (a_removal i o) = left_of l (removed l i o)
left_by l (a_writing n) = l
left_by l (a_question q) = l

abbrev pub waiting_by : Event → List Mark → List Mark
waiting_by (a_read ms x) ws = (reading ms x).left
waiting_by (an_addition a) ws = ws
waiting_by (a_removal i o) ws = ws
waiting_by (a_writing n) ws = ws
waiting_by (a_question q) ws = ws

abbrev pub filled_by : List Entry → Event → List ℕ → List ℕ
filled_by l (a_read ms x) b = b
filled_by l (an_addition a) b = b
filled_by l (a_removal i o) b = b
filled_by l (a_writing n) b = filled l b
filled_by l (a_question q) b = b
