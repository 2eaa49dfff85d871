-- Lists stay proper, whatever is done to them.
--     event_fine      a list that an event leaves of a proper one passes the test
--     empty_fine      and so does the empty list
-- Assumes nothing.
use Rattle.std.proofs.Common.{◌≡◌, true, List, [], ap, ◌∙◌}
use Rattle.addresses.specs.Mailboxes.{Entry}
use Rattle.addresses.specs.Fine.{fine}
use Rattle.addresses.specs.Events.{Event, left_by}
use Rattle.addresses.specs.LifeLaws.{ProperEvent}
use Rattle.addresses.proofs.Fining.{fine_proper, proper_fine}
use Rattle.addresses.proofs.Living.{event_law, empty_proper}

pub event_fine : (l : List Entry) (e : Event) (k : List Entry) → fine l ≡ true → ProperEvent e → k ≡ left_by l e → fine k ≡ true
event_fine l e k p fit same = ap fine same ∙ proper_fine (left_by l e) (event_law l e (fine_proper l p) fit).proper

pub empty_fine : (l : List Entry) → l ≡ [] → fine l ≡ true
empty_fine l same = ap fine same ∙ proper_fine [] empty_proper
