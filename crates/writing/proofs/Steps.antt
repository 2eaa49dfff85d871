-- The steps of a walk, put together. Assumes nothing.
--     ahead_more           the text ahead of a walk that shows something: that of the step, and the text behind it
--     ahead_none           where it shows nothing more, no text is ahead
--     members_ahead        the members of an open group, and its closing
--     written_ahead        where the walk begins, the text ahead is the written text of the list
use Rattle.std.proofs.Common.{◌≡◌, ℕ, ◌-◌, ◌<◌, Bool, true, false, cond, eqb, ltb, List, [], ◌∷◌, ◌++◌, map, length, None, sym, refl, ap, ◌∙◌, arith}
use Rattle.std.proofs.lemmas.List.{append-nil, append_assoc}
use Rattle.std.proofs.lemmas.Bool.{eq-eqb, ne_eqb, lt-ltb}
use Rattle.std.specs.List.{slice_get}
use Rattle.addresses.specs.Looks.{Seen, mailbox_seen}
use Rattle.addresses.specs.Mailboxes.{Mailbox, mailbox, Entry, loose, group}
use Rattle.addresses.specs.Written.{mailbox_text, written}
use Rattle.store.specs.Walks.{walked}
use Rattle.writer.specs.Pieces.{opening, entry_lead, member_lead, closing}
use Rattle.writing.proofs.Joining.{entries_left, members_left, written_left, entries_none, loose_left, group_left, member_left}
use Rattle.writing.specs.Stages.{start, after, step_text, text_ahead}
use Rattle.writing.specs.declared.stage.Stage.{Stage}

pub ahead_more : (s t : Stage) (vs ws : List Seen) (v : Seen) → vs ≡ v ∷ ws → t ≡ after s v → text_ahead s vs ≡ step_text s v ++ text_ahead t ws
ahead_more s t vs ws v e f = ap (text_ahead s) e ∙ ap (λ x. step_text s v ++ text_ahead x ws) (sym f)

shown_none : (vs : List Seen) → None ≡ slice_get vs 0 → vs ≡ []
shown_none [] e = refl
shown_none (x ∷ vs) e = cc

pub ahead_none : (s : Stage) (vs : List Seen) → None ≡ slice_get vs 0 → text_ahead s vs ≡ []
ahead_none s vs e = ap (text_ahead s) (shown_none vs e)

-- ── the members of an open group ──

abbrev standing : ℕ → Bool → Stage
standing k f = record { members = k; first = f }

abbrev after_member : ℕ → Bool → Mailbox → Bool → ℕ → List Seen → List ℕ
after_member k f m last j vs = (member_lead f ++ (mailbox_text m ++ cond last closing [])) ++ text_ahead (standing j false) vs

member_step : (k : ℕ) (f : Bool) (m : Mailbox) (vs : List Seen) → 0 < k → text_ahead (standing k f) (mailbox_seen m ∷ vs) ≡ after_member k f m (eqb k 1) (k - 1) vs
member_step k f (mailbox n a) vs h =
    let inside : eqb k 0 ≡ false = ne_eqb k 0 (λ e. omega arith) in
    ap (λ b. (cond b (entry_lead f) (member_lead f) ++ (mailbox_text (mailbox n a) ++ cond (eqb k 1) closing [])) ++ text_ahead (standing (k - 1) false) vs) inside

members_ahead : (k : ℕ) (f : Bool) (ms : List Mailbox) (vs : List Seen) → k ≡ length ms → 0 < k
    → text_ahead (standing k f) (map mailbox_seen ms ++ vs) ≡ members_left f ms ++ (closing ++ text_ahead (standing 0 false) vs)
members_ahead k f [] vs e h = absurd (omega arith)
members_ahead k f (m ∷ []) vs e h =
    let more = closing ++ text_ahead (standing 0 false) vs in
    let none : k - 1 ≡ 0 = omega arith in
    member_step k f m vs h
    ∙ ap (λ b. after_member k f m b (k - 1) vs) (eq-eqb k 1 e)
    ∙ ap (λ j. after_member k f m true j vs) none
    ∙ append_assoc (member_lead f) (mailbox_text m ++ closing) (text_ahead (standing 0 false) vs)
    ∙ ap (λ t. member_lead f ++ t) (append_assoc (mailbox_text m) closing (text_ahead (standing 0 false) vs))
    ∙ sym (member_left f m [] more)
members_ahead k f (m ∷ m₂ ∷ ms) vs e h =
    let more = closing ++ text_ahead (standing 0 false) vs in
    let rest = map mailbox_seen (m₂ ∷ ms) ++ vs in
    member_step k f m rest h
    ∙ ap (λ b. after_member k f m b (k - 1) rest) (ne_eqb k 1 (λ d. omega arith))
    ∙ ap (λ t. (member_lead f ++ t) ++ text_ahead (standing (k - 1) false) rest) (append-nil (mailbox_text m))
    ∙ ap (λ t. (member_lead f ++ mailbox_text m) ++ t) (members_ahead (k - 1) false (m₂ ∷ ms) vs (omega arith) (omega arith))
    ∙ append_assoc (member_lead f) (mailbox_text m) (members_left false (m₂ ∷ ms) ++ more)
    ∙ sym (member_left f m (m₂ ∷ ms) more)

-- ── the entries ──

entries_ahead : (f : Bool) (es : List Entry) → text_ahead (standing 0 f) (walked es) ≡ entries_left f es
entries_ahead f [] = sym (entries_none f)
entries_ahead f (loose (mailbox n a) ∷ es) =
    let text = mailbox_text (mailbox n a) in
    ap (λ t. (entry_lead f ++ t) ++ text_ahead (standing 0 false) (walked es)) (append-nil text)
    ∙ ap (λ t. (entry_lead f ++ text) ++ t) (entries_ahead false es)
    ∙ append_assoc (entry_lead f) text (entries_left false es)
    ∙ sym (loose_left f (mailbox n a) es)
entries_ahead f (group n [] ∷ es) =
    ap (λ t. (entry_lead f ++ (opening n ++ closing)) ++ t) (entries_ahead false es)
    ∙ append_assoc (entry_lead f) (opening n ++ closing) (entries_left false es)
    ∙ ap (λ t. entry_lead f ++ t) (append_assoc (opening n) closing (entries_left false es))
    ∙ sym (group_left f n [] es)
entries_ahead f (group n (m ∷ ms) ∷ es) =
    let k = length (m ∷ ms) in
    let rest = map mailbox_seen (m ∷ ms) ++ walked es in
    let some : 0 < k = omega arith in
    ap (λ b. (entry_lead f ++ (opening n ++ cond b closing [])) ++ text_ahead (standing k (ltb 0 k)) rest) (ne_eqb k 0 (λ d. omega arith))
    ∙ ap (λ b. (entry_lead f ++ (opening n ++ [])) ++ text_ahead (standing k b) rest) (lt-ltb 0 k some)
    ∙ ap (λ t. (entry_lead f ++ t) ++ text_ahead (standing k true) rest) (append-nil (opening n))
    ∙ ap (λ t. (entry_lead f ++ opening n) ++ t) (members_ahead k true (m ∷ ms) (walked es) refl some)
    ∙ ap (λ t. (entry_lead f ++ opening n) ++ (members_left true (m ∷ ms) ++ (closing ++ t))) (entries_ahead false es)
    ∙ append_assoc (entry_lead f) (opening n) (members_left true (m ∷ ms) ++ (closing ++ entries_left false es))
    ∙ sym (group_left f n (m ∷ ms) es)

pub written_ahead : (l : List Entry) (s : Stage) (vs : List Seen) → s ≡ start → vs ≡ walked l → text_ahead s vs ≡ written l
written_ahead l s vs e f = (λ i. text_ahead (e i) (f i)) ∙ entries_ahead true l ∙ sym (written_left l)
