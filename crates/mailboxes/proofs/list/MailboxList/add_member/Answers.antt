use Rattle.std.proofs.Common.{◌≡◌, ℕ, cond, ◌&&◌, List, Ok, Err, Option, sym, refl, ap, ◌∙◌, rules}
use Rattle.std.proofs.lemmas.Result.{err_from_is_err_and}
use Rattle.std.specs.Option.{option_map}
use Rattle.std.specs.Result.{is_ok}
use Rattle.addresses.specs.Mailboxes.{Mailbox, Entry}
use Rattle.addresses.specs.Limits.{within}
use Rattle.addresses.specs.Additions.{added, new_member, with_member}
use Rattle.addresses.specs.Events.{an_addition}
use Rattle.addresses.specs.Lent.{lent}
use Rattle.addresses.specs.Outcomes.{left_of}
use Rattle.addresses.proofs.Outcomes.{comes_err}
use Rattle.additions.specs.Taking.{fitted}
use Rattle.additions.proofs.Joining.{member_accepted, member_refused}
use Rattle.store.specs.Stored.{stored}
use Rattle.mailboxes.proofs.Fitting.{fitted_leaves, fitted_comes, Home, home}
use Rattle.mailboxes.proofs.Keeping.{event_fine}
use Rattle.mailboxes.proofs.list.MailboxList.add_member.Goals as goal
use Rattle.mailboxes.proofs.list.MailboxList.add_member.Goals.{After-insert_member}

pub returns-in_err-take_mailbox : goal.returns-in_err-take_mailbox
returns-in_err-take_mailbox c =
    let p = err_from_is_err_and c.from_residual-in_err-take_mailbox.result c.from_residual-in_err-take_mailbox.ensures.1 in
    let l = stored c.args.self.now.store in
    let h = home l c.args.entry c.in_ok-find_group.ensures in
    let refused = member_refused l c.args.entry (option_map (λ x. x.now) c.args.name) c.args.addr.now h.place _ h.there (sym c.in_err-take_mailbox.ensures) in
    comes_err refused (p.1 ∙ ap Err p.2) refl

-- the store was asked to take the mailbox one into the group that is the entry
module _ (c : After-insert_member) where
  abbrev before : List Entry
  before = stored c.args.self.now.store

  abbrev after : List Entry
  after = stored c.insert_member.new.self

  abbrev name : Option (List ℕ)
  name = option_map (λ x. x.now) c.args.name

  abbrev addr : List ℕ
  addr = c.args.addr.now

  abbrev one : Mailbox
  one = lent c.mailbox.result

  at_home : Home before c.args.entry
  at_home = home before c.args.entry c.in_ok-find_group.ensures

  abbrev enlarged : List Entry
  enlarged = with_member before c.args.entry at_home.place one

  same : added before (new_member c.args.entry name addr) ≡ fitted enlarged
  same = member_accepted before c.args.entry name addr at_home.place one at_home.there (sym c.in_ok-take_mailbox.ensures ∙ ap Ok (sym c.mailbox.ensures))

  fits : is_ok c.insert_member.result ≡ within enlarged
  fits = c.insert_member.ensures.fits ∙ (λ i. at_home.has i && within (at_home.joined one i))

  kept : after ≡ cond (is_ok c.insert_member.result) enlarged before
  kept = c.insert_member.ensures.after ∙ ap (λ w. cond (is_ok c.insert_member.result) w before) (at_home.joined one)

  left : after ≡ left_of before (added before (new_member c.args.entry name addr))
  left = fitted_leaves before enlarged after (added before (new_member c.args.entry name addr)) c.insert_member.result same fits kept

pub invariant_of-self-2 : goal.invariant_of-self-2
invariant_of-self-2 c = record { proper = event_fine (before c) (an_addition (new_member c.args.entry (name c) (addr c))) (after c) c.args.self.now.proper tt (left c) }

pub returns : goal.returns
returns c =
    let b = (goal.at.returns c).After-insert_member in
    fitted_comes (before b) (enlarged b) (after b) (added (before b) (new_member b.args.entry (name b) (addr b))) b.insert_member.result (same b) (fits b) (kept b) c.map_err.result (search rules)
