-- What is asked of a list, in the words of the model.
--     addition_asked a        the addition
--     asked waiting close n e s    the event e beside the source s, which is known by what waits in it and by its close, where
--                             the buffer for writings has n bytes
--     still_waiting waiting close e s    what then waits in s: only a read of it takes marks from it
-- Assumes nothing.
use Rattle.std.specs.Prelude.{ℕ, List}
use Rattle.std.specs.Option.{option_map}
use Rattle.marks.specs.declared.mark.Mark.{Mark}
use Rattle.marks.specs.Gives.{Close}
use Rattle.marks.specs.Texts.{text_stream}
use Rattle.addresses.specs.Additions as additions
use Rattle.addresses.specs.Events as model
use Rattle.addresses.specs.Reading.{reading}
use Rattle.life.specs.declared.event.Addition.{Addition}
use Rattle.life.specs.declared.event.Addition.TheVariants as add
use Rattle.life.specs.declared.event.Event.{Event}
use Rattle.life.specs.declared.event.Event.TheVariants as event

abbrev pub addition_asked : Addition → additions.Addition
addition_asked (add.Mailbox m) = additions.new_mailbox (option_map (λ x. x.now) m.name) m.addr.now
addition_asked (add.Group n) = additions.new_group n.now
addition_asked (add.Member i m) = additions.new_member i (option_map (λ x. x.now) m.name) m.addr.now

abbrev pub asked : {S : Type 0} → (S → List Mark) → (S → Close) → ℕ → Event → S → model.Event
asked waiting close n event.Read s = model.a_read (waiting s) (close s)
asked waiting close n (event.ReadText t) s = model.a_read (text_stream t.now).marks (text_stream t.now).close
asked waiting close n (event.Add a) s = model.an_addition (addition_asked a)
asked waiting close n (event.Remove p) s = model.a_removal p.entry p.member
asked waiting close n event.Write s = model.a_writing n
asked waiting close n event.CountMailboxes s = model.a_question model.how_many_mailboxes
asked waiting close n event.CountEntries s = model.a_question model.how_many_entries
asked waiting close n (event.Look p) s = model.a_question (model.look_at p.entry p.member)

abbrev pub still_waiting : {S : Type 0} → (S → List Mark) → (S → Close) → Event → S → List Mark
still_waiting waiting close event.Read s = (reading (waiting s) (close s)).left
still_waiting waiting close (event.ReadText t) s = waiting s
still_waiting waiting close (event.Add a) s = waiting s
still_waiting waiting close (event.Remove p) s = waiting s
still_waiting waiting close event.Write s = waiting s
still_waiting waiting close event.CountMailboxes s = waiting s
still_waiting waiting close event.CountEntries s = waiting s
still_waiting waiting close (event.Look p) s = waiting s
