use Rattle.std.proofs.Common.{◌≡◌, ◌+◌, ◌≤◌, ◌&&◌, ◌++◌, true, length, set, take, drop, sym, ap, ◌∙◌, append_assoc, arith}
use Rattle.std.specs.List.{slice_get}
use Rattle.std.proofs.lemmas.Bool.{and_parts}
use Rattle.std.proofs.lemmas.Result.{err_from_is_err_and}
use Rattle.addresses.specs.Lent.{lent}
use Rattle.addresses.specs.Limits.{within}
use Rattle.addresses.specs.Mailboxes.{Mailbox, mailboxes, characters}
use Rattle.store.specs.Edits.{has_group, joined_at}
use Rattle.store.specs.Layout.{mailbox_row}
use Rattle.store.specs.Stored.{stored}
use Rattle.store.proofs.Held.{entries_held, kept}
use Rattle.store.proofs.Places.{chars_fit}
use Rattle.store.proofs.Standing.{GroupThere}
use Rattle.store.proofs.Joining.{joined, joined_groups}
use Rattle.store.proofs.Laying.{Stands, settled}
use Rattle.store.proofs.Stores.{told_group, group_inside, members_few, joined_within}
use Rattle.store.proofs.store.Store.insert_member.Goals as goal
use Rattle.store.proofs.store.Store.insert_member.Goals.{In_ok-name, After-replace}

there : (c : In_ok-name) → GroupThere (slice_get (stored c.args.self.now) c.args.entry) c.in_ok-name.name c.in_ok-name.members
there c = told_group c.args.self.now c.as_slice.ensures.value c.args.entry _ _ (sym c.in_ok-name.ensures.ok_part ∙ c.group_at.ensures)

pub returns-in_err-room_for_mailbox-clause-fits : goal.returns-in_err-room_for_mailbox-clause-fits
returns-in_err-room_for_mailbox-clause-fits c =
    let p = err_from_is_err_and c.from_residual-in_err-room_for_mailbox.result c.from_residual-in_err-room_for_mailbox.ensures.1 in
    let g = there (goal.at.returns-in_err-room_for_mailbox-clause-fits c).In_ok-name in
    rw p.1 (c.in_err-room_for_mailbox.ensures ∙ joined_within c.args.self.now c.args.entry g (lent c.args.mailbox))

inside : (c : In_ok-name) → c.args.entry + 1 ≤ length (stored c.args.self.now)
inside c = omega (arith, group_inside c.args.self.now c.args.entry (there c))

pub overflow_add-entry : goal.overflow_add-entry
overflow_add-entry c =
    let s = c.args.self.now in
    omega (arith, inside (goal.at.overflow_add-entry c).In_ok-name, entries_held s.laid, c.as_slice.ensures.at_most, ap length c.as_slice.ensures.value)

pub place-end-requires : goal.place-end-requires
place-end-requires c = omega (arith, inside (goal.at.place-end-requires c).In_ok-name)

pub insert-requires-clause-within : goal.insert-requires-clause-within
insert-requires-clause-within c =
    let s = c.args.self.now in
    -- the place before the group would do here, too: that it is the one behind is said by what is laid out then
    omega (arith, ap (λ p. p.chars) c.place-end.ensures, chars_fit s.laid (c.args.entry + 1), chars_fit s.laid c.args.entry)

pub one_more-requires : goal.one_more-requires
one_more-requires c =
    let s = c.args.self.now in
    omega (arith, members_few s c.args.entry (there (goal.at.one_more-requires c).In_ok-name), s.small.0)

module _ (c : After-replace) where
  abbrev one : Mailbox
  one = lent c.args.mailbox

  abbrev group_there : GroupThere (slice_get (stored c.args.self.now) c.args.entry) c.in_ok-name.name c.in_ok-name.members
  group_there = there (goal.at.After-replace c).In_ok-name

  fits : true ≡ (has_group (stored c.args.self.now) c.args.entry && within (joined_at (stored c.args.self.now) c.args.entry one))
  fits = c.in_ok-room_for_mailbox.ensures ∙ joined_within c.args.self.now c.args.entry group_there one

  boxes_at : c.place-end.result.mailboxes ≡ mailboxes (take (c.args.entry + 1) (stored c.args.self.now))
  boxes_at = ap (λ p. p.mailboxes) c.place-end.ensures

  chars_at : c.place-end.result.chars ≡ characters (take (c.args.entry + 1) (stored c.args.self.now))
  chars_at = ap (λ p. p.chars) c.place-end.ensures

  chars : c.insert.new.self.chars ≡ take c.place-end.result.chars c.args.self.now.rows.chars ++ (mailbox_row one ++ drop c.place-end.result.chars c.args.self.now.rows.chars)
  chars = c.insert.ensures.row ∙ append_assoc (take c.place-end.result.chars c.args.self.now.rows.chars) (mailbox_row one) _

  laid_out : Stands (joined_at (stored c.args.self.now) c.args.entry one) c.replace.new.self c.insert.new.self.mailboxes c.insert.new.self.chars
  laid_out = joined c.args.self.now.laid c.args.entry group_there one boxes_at chars_at (c.replace.ensures.after ∙ ap (set c.args.self.now.entries c.args.entry) c.one_more.ensures) c.insert.ensures.records chars

pub invariant_of-self : goal.invariant_of-self
invariant_of-self c =
    let s = c.args.self.now in
    kept (laid_out c) (s.counted ∙ sym (joined_groups s.laid c.args.entry (group_there c) (one c))) (sym (and_parts _ _ (sym (fits c))).1)

pub returns-clause-fits : goal.returns-clause-fits
returns-clause-fits c = fits (goal.at.returns-clause-fits c).After-replace

pub returns-clause-after : goal.returns-clause-after
returns-clause-after c = settled (laid_out (goal.at.returns-clause-after c).After-replace)
