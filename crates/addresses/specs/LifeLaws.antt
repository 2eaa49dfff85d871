-- What is proved of the law of a list's life.
--     ProperEvent e      the marks that wait for a read are proper, as those of every source are; of other events nothing is asked
--     replies l es       the replies to a row of events that finds the list l, by the definitions
--     list_after l es    the list that the row leaves, by the definitions
--     KeepsLaw l e       the event e that finds l happens, by the definitions, as the law says, and leaves a proper list
--     EventLaw           every event keeps the law that finds a proper list
--     LifeLaw            and so does every row of events from the empty list on
--     LifeDecides        the law allows no other list after a row of events than that of the definitions
-- Assumes nothing.
use Rattle.std.specs.Prelude.{◌≡◌, List, [], ◌∷◌}
use Rattle.std.specs.List.{AllByRecursion as Every}
use Rattle.marks.specs.Proper.{AllProper}
use Rattle.addresses.specs.Mailboxes.{Entry}
use Rattle.addresses.specs.Proper.{Proper}
use Rattle.addresses.specs.Events.{Event, a_read, an_addition, a_removal, a_writing, a_question, Reply, reply_to, left_by}
use Rattle.addresses.specs.Life.{Happens, Life, WholeLife}

abbrev pub ProperEvent : Event → Type 0
ProperEvent (a_read ms x) = AllProper ms
ProperEvent (an_addition a) = Unit {0}
ProperEvent (a_removal i o) = Unit {0}
ProperEvent (a_writing n) = Unit {0}
ProperEvent (a_question q) = Unit {0}

abbrev pub replies : List Entry → List Event → List Reply
replies l [] = []
replies l (e ∷ es) = reply_to l e ∷ replies (left_by l e) es

abbrev pub list_after : List Entry → List Event → List Entry
list_after l [] = l
list_after l (e ∷ es) = list_after (left_by l e) es

pub record KeepsLaw (l : List Entry) (e : Event) : Type 0 where
  pub happens : Happens l e (reply_to l e) (left_by l e)
  pub proper : Proper (left_by l e)

abbrev pub EventLaw : Type 0
EventLaw = (l : List Entry) (e : Event) → Proper l → ProperEvent e → KeepsLaw l e

abbrev pub LifeLaw : Type 0
LifeLaw = (es : List Event) → Every ProperEvent es → WholeLife [] es (replies [] es) (list_after [] es)

abbrev pub LifeDecides : Type 0
LifeDecides = (l : List Entry) (es : List Event) (rs : List Reply) (k : List Entry) → Proper l → Every ProperEvent es → Life l es rs k → k ≡ list_after l es
