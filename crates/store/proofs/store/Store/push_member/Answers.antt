use Rattle.std.proofs.Common.{◌≡◌, ◌+◌, ◌-◌, ◌&&◌, ◌∷◌, ◌++◌, [], true, length, set, take, drop, sym, refl, ap, ◌∙◌, arith}
use Rattle.std.specs.List.{slice_get}
use Rattle.std.proofs.lemmas.Bool.{and_left, and_parts}
use Rattle.std.proofs.lemmas.List.{take_all}
use Rattle.std.proofs.lemmas.Result.{err_from_is_err_and}
use Rattle.addresses.specs.Lent.{lent}
use Rattle.addresses.specs.Limits.{within}
use Rattle.addresses.specs.Mailboxes.{Mailbox, mailboxes, characters}
use Rattle.store.specs.Edits.{has_group, ends_in_group, last_joined, joined_at}
use Rattle.store.specs.Layout.{mailbox_row, mailbox_record}
use Rattle.store.specs.Stored.{stored}
use Rattle.store.proofs.Held.{entries_held, mailboxes_held, characters_held, kept}
use Rattle.store.proofs.Standing.{GroupThere}
use Rattle.store.proofs.Joining.{append_as_insert, joined, joined_groups}
use Rattle.store.proofs.Laying.{Stands, settled}
use Rattle.store.proofs.Ends.{ends_is, last_joined_is}
use Rattle.store.proofs.Stores.{told_none, told_group, group_inside, members_few, joined_within}
use Rattle.store.proofs.store.Store.push_member.Goals as goal
use Rattle.store.proofs.store.Store.push_member.Goals.{After-group_at, In_ok-name, After-replace}

-- the last place
module _ (c : After-group_at) where
  last_is : length (stored c.args.self.now) - 1 ≡ c.saturating_sub-last.result
  last_is = omega (arith, c.saturating_sub-last.ensures, c.len.ensures.value, entries_held c.args.self.now.laid)

  ends : ends_in_group (stored c.args.self.now) ≡ has_group (stored c.args.self.now) c.saturating_sub-last.result
  ends = ends_is (stored c.args.self.now) ∙ ap (has_group (stored c.args.self.now)) last_is

  joins : (x : Mailbox) → last_joined (stored c.args.self.now) x ≡ joined_at (stored c.args.self.now) c.saturating_sub-last.result x
  joins x = last_joined_is (stored c.args.self.now) x ∙ ap (λ i. joined_at (stored c.args.self.now) i x) last_is

  -- the test of the place and of the list is that of the last entry
  same : (x : Mailbox)
      → (has_group (stored c.args.self.now) c.saturating_sub-last.result && within (joined_at (stored c.args.self.now) c.saturating_sub-last.result x))
      ≡ (ends_in_group (stored c.args.self.now) && within (last_joined (stored c.args.self.now) x))
  same x = λ i. sym ends i && within (sym (joins x) i)

pub returns-in_err-name-clause-fits : goal.returns-in_err-name-clause-fits
returns-in_err-name-clause-fits c =
    let p = err_from_is_err_and c.from_residual.result c.from_residual.ensures.1 in
    let none = told_none c.args.self.now c.as_slice.ensures.value c.saturating_sub-last.result (sym c.in_err-name.ensures.ok_part ∙ c.group_at.ensures) in
    rw p.1 (sym (and_left _ _ (ends (goal.at.returns-in_err-name-clause-fits c).After-group_at ∙ none)))

there : (c : In_ok-name) → GroupThere (slice_get (stored c.args.self.now) c.saturating_sub-last.result) c.in_ok-name.name c.in_ok-name.members
there c = told_group c.args.self.now c.as_slice.ensures.value c.saturating_sub-last.result _ _ (sym c.in_ok-name.ensures.ok_part ∙ c.group_at.ensures)

pub returns-in_err-room_for_mailbox-clause-fits : goal.returns-in_err-room_for_mailbox-clause-fits
returns-in_err-room_for_mailbox-clause-fits c =
    let p = err_from_is_err_and c.from_residual-in_err-room_for_mailbox.result c.from_residual-in_err-room_for_mailbox.ensures.1 in
    let g = there (goal.at.returns-in_err-room_for_mailbox-clause-fits c).In_ok-name in
    let b = (goal.at.returns-in_err-room_for_mailbox-clause-fits c).After-group_at in
    rw p.1 (c.in_err-room_for_mailbox.ensures ∙ joined_within c.args.self.now c.saturating_sub-last.result g (lent c.args.mailbox) ∙ same b (lent c.args.mailbox))

pub one_more-requires : goal.one_more-requires
one_more-requires c =
    let s = c.args.self.now in
    omega (arith, members_few s c.saturating_sub-last.result (there (goal.at.one_more-requires c).In_ok-name), s.small.0)

module _ (c : After-replace) where
  abbrev one : Mailbox
  one = lent c.args.mailbox

  abbrev group_there : GroupThere (slice_get (stored c.args.self.now) c.saturating_sub-last.result) c.in_ok-name.name c.in_ok-name.members
  group_there = there (goal.at.After-replace c).In_ok-name

  joined_fits : true ≡ (has_group (stored c.args.self.now) c.saturating_sub-last.result && within (joined_at (stored c.args.self.now) c.saturating_sub-last.result one))
  joined_fits = c.in_ok-room_for_mailbox.ensures ∙ joined_within c.args.self.now c.saturating_sub-last.result group_there one

  -- nothing stands behind the last entry
  all : take (c.saturating_sub-last.result + 1) (stored c.args.self.now) ≡ stored c.args.self.now
  all =
      let s = c.args.self.now in
      take_all _ (stored s) (omega (arith, last_is (goal.at.After-replace c).After-group_at, group_inside s c.saturating_sub-last.result group_there))

  boxes_at : length c.args.self.now.rows.mailboxes ≡ mailboxes (take (c.saturating_sub-last.result + 1) (stored c.args.self.now))
  boxes_at = sym (ap mailboxes all ∙ mailboxes_held c.args.self.now.laid)

  chars_at : length c.args.self.now.rows.chars ≡ characters (take (c.saturating_sub-last.result + 1) (stored c.args.self.now))
  chars_at = sym (ap characters all ∙ characters_held c.args.self.now.laid)

  boxes : c.append.new.self.mailboxes ≡ take (length c.args.self.now.rows.mailboxes) c.args.self.now.rows.mailboxes ++ mailbox_record one ∷ drop (length c.args.self.now.rows.mailboxes) c.args.self.now.rows.mailboxes
  boxes = c.append.ensures.records ∙ append_as_insert c.args.self.now.rows.mailboxes (mailbox_record one ∷ []) _ refl

  chars : c.append.new.self.chars ≡ take (length c.args.self.now.rows.chars) c.args.self.now.rows.chars ++ (mailbox_row one ++ drop (length c.args.self.now.rows.chars) c.args.self.now.rows.chars)
  chars = c.append.ensures.row ∙ append_as_insert c.args.self.now.rows.chars (mailbox_row one) _ refl

  laid_out : Stands (joined_at (stored c.args.self.now) c.saturating_sub-last.result one) c.replace.new.self c.append.new.self.mailboxes c.append.new.self.chars
  laid_out = joined c.args.self.now.laid c.saturating_sub-last.result group_there one boxes_at chars_at (c.replace.ensures.after ∙ ap (set c.args.self.now.entries c.saturating_sub-last.result) c.one_more.ensures) boxes chars

pub invariant_of-self : goal.invariant_of-self
invariant_of-self c =
    let s = c.args.self.now in
    kept (laid_out c) (s.counted ∙ sym (joined_groups s.laid c.saturating_sub-last.result (group_there c) (one c))) (sym (and_parts _ _ (sym (joined_fits c))).1)

pub returns-clause-fits : goal.returns-clause-fits
returns-clause-fits c =
    let b = goal.at.returns-clause-fits c in
    joined_fits b.After-replace ∙ same b.After-group_at (lent c.args.mailbox)

pub returns-clause-after : goal.returns-clause-after
returns-clause-after c =
    let b = goal.at.returns-clause-after c in
    settled (laid_out b.After-replace) ∙ sym (joins b.After-group_at (lent c.args.mailbox))
