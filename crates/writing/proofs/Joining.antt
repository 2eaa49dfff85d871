-- How the text of a list is put together from its pieces. Assumes nothing.
--     group_parts        a group: its opening, the members and the closing
--     entries_left first es, members_left first ms    what is left to write where es or ms are left; `first` tells that none was written
--     written_left       at the beginning all is left
--     loose_left, group_left, member_left             the pieces of the next one, and what is left behind it
use Rattle.std.proofs.Common.{◌≡◌, ℕ, Bool, true, false, List, [], ◌∷◌, ◌++◌, sym, refl, ap, ◌∙◌}
use Rattle.std.proofs.lemmas.List.{append_assoc}
use Rattle.addresses.specs.Signs.{space, colon}
use Rattle.addresses.specs.Mailboxes.{Mailbox, Entry, loose, group}
use Rattle.addresses.specs.Written.{quoted, mailbox_text, behind_first, separated, members_text, entry_text, written}
use Rattle.writer.specs.Pieces.{opening, entry_lead, member_lead, closing}

-- ── what is left ──

abbrev pub entries_left : Bool → List Entry → List ℕ
entries_left true es = separated entry_text es
entries_left false es = behind_first entry_text es

abbrev pub members_left : Bool → List Mailbox → List ℕ
members_left true ms = members_text ms
members_left false ms = behind_first mailbox_text ms

pub written_left : (l : List Entry) → written l ≡ entries_left true l
unfolding written
written_left l = refl

pub group_parts : (n : List ℕ) (ms : List Mailbox) → entry_text (group n ms) ≡ opening n ++ (members_left true ms ++ closing)
group_parts n ms = append_assoc (quoted n) (colon ∷ members_text ms) closing ∙ sym (append_assoc (quoted n) (colon ∷ []) (members_text ms ++ closing))

entry_left : (first : Bool) (e : Entry) (es : List Entry) → entries_left first (e ∷ es) ≡ entry_lead first ++ (entry_text e ++ entries_left false es)
entry_left true e es = refl
entry_left false e es = refl

pub loose_left : (first : Bool) (m : Mailbox) (es : List Entry) → entries_left first (loose m ∷ es) ≡ entry_lead first ++ (mailbox_text m ++ entries_left false es)
loose_left first m es = entry_left first (loose m) es

pub group_left : (first : Bool) (n : List ℕ) (ms : List Mailbox) (es : List Entry)
    → entries_left first (group n ms ∷ es) ≡ entry_lead first ++ (opening n ++ (members_left true ms ++ (closing ++ entries_left false es)))
group_left first n ms es =
    let more = entries_left false es in
    entry_left first (group n ms) es
    ∙ ap (λ t. entry_lead first ++ t) (
    ap (λ t. t ++ more) (group_parts n ms) ∙ append_assoc (opening n) (members_left true ms ++ closing) more
    ∙ ap (λ t. opening n ++ t) (append_assoc (members_left true ms) closing more)
    )

-- with all that is left behind the members
pub member_left : (first : Bool) (m : Mailbox) (ms : List Mailbox) (more : List ℕ)
    → members_left first (m ∷ ms) ++ more ≡ member_lead first ++ (mailbox_text m ++ (members_left false ms ++ more))
member_left true m ms more = ap (λ t. space ∷ t) (append_assoc (mailbox_text m) (behind_first mailbox_text ms) more)
member_left false m ms more = ap (λ t. member_lead false ++ t) (append_assoc (mailbox_text m) (behind_first mailbox_text ms) more)

-- no member is left
pub members_none : (first : Bool) (more : List ℕ) → members_left first [] ++ more ≡ more
members_none true more = refl
members_none false more = refl

pub entries_none : (first : Bool) → entries_left first [] ≡ []
entries_none true = refl
entries_none false = refl
