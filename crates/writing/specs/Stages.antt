-- The text of a list, told by what a walk through it shows, one step after the other.
--     start             where a walk begins: no group is open, and nothing was shown
--     after s v         where it stands behind v, if it stood at s before
--     lead_at s         what is written before that which comes next: the lead of an entry, or of a member of the open group
--     tail_at s v       what is written behind v: the closing of its group, if v is the last member or a group without any
--     own_text v        what is written of v itself: a mailbox, or the opening of a group
--     step_text s v     all that is written at the step that shows v
--     text_ahead s vs   all that is written from s on, where the walk has still to show vs
-- `Steps` in proofs/ says that the text ahead of a walk that begins is the written text of the list. Assumes nothing.
use Rattle.std.specs.Prelude.{ℕ, ◌-◌, true, false, cond, List, [], ◌∷◌, ◌++◌, ◌==◌, nat_lt}
use Rattle.addresses.specs.Looks.{Seen, seen_mailbox, seen_group}
use Rattle.addresses.specs.Mailboxes.{mailbox}
use Rattle.addresses.specs.Written.{mailbox_text}
use Rattle.writer.specs.Pieces.{opening, entry_lead, member_lead, closing}
use Rattle.writing.specs.declared.stage.Stage.{Stage}

abbrev pub start : Stage
start = record { members = 0; first = true }

abbrev pub after : Stage → Seen → Stage
after s (seen_mailbox n a) = record { members = s.members - 1; first = false }
after s (seen_group n k) = record { members = k; first = nat_lt 0 k }

abbrev pub lead_at : Stage → List ℕ
lead_at s = cond (s.members == 0) (entry_lead s.first) (member_lead s.first)

abbrev pub tail_at : Stage → Seen → List ℕ
tail_at s (seen_mailbox n a) = cond (s.members == 1) closing []
tail_at s (seen_group n k) = cond (k == 0) closing []

abbrev pub own_text : Seen → List ℕ
own_text (seen_mailbox n a) = mailbox_text (mailbox n a)
own_text (seen_group n k) = opening n

abbrev pub step_text : Stage → Seen → List ℕ
step_text s v = lead_at s ++ (own_text v ++ tail_at s v)

abbrev pub text_ahead : Stage → List Seen → List ℕ
text_ahead s [] = []
text_ahead s (v ∷ vs) = step_text s v ++ text_ahead (after s v) vs
