use Rattle.std.proofs.Common.{◌≡◌, ℕ, List, Ok, Err, Option, sym, refl, ap, ◌∙◌, rules}
use Rattle.std.proofs.lemmas.Result.{err_from_is_err_and}
use Rattle.std.specs.Option.{option_map}
use Rattle.addresses.specs.Mailboxes.{Mailbox, Entry}
use Rattle.addresses.specs.Additions.{added, new_mailbox, with_mailbox}
use Rattle.addresses.specs.Events.{an_addition}
use Rattle.addresses.specs.Lent.{lent}
use Rattle.addresses.specs.Outcomes.{left_of}
use Rattle.addresses.proofs.Outcomes.{comes_err}
use Rattle.additions.specs.Taking.{fitted}
use Rattle.additions.proofs.Joining.{mailbox_accepted, mailbox_refused}
use Rattle.store.specs.Stored.{stored}
use Rattle.mailboxes.proofs.Fitting.{fitted_leaves, fitted_comes}
use Rattle.mailboxes.proofs.Keeping.{event_fine}
use Rattle.mailboxes.proofs.list.MailboxList.add_mailbox.Goals as goal
use Rattle.mailboxes.proofs.list.MailboxList.add_mailbox.Goals.{After-push_mailbox}

pub returns-in_err-take_mailbox : goal.returns-in_err-take_mailbox
returns-in_err-take_mailbox c =
    let p = err_from_is_err_and c.from_residual.result c.from_residual.ensures.1 in
    let l = stored c.args.self.now.store in
    let refused = mailbox_refused l (option_map (λ x. x.now) c.args.name) c.args.addr.now _ (sym c.in_err-take_mailbox.ensures) in
    comes_err refused (p.1 ∙ ap Err p.2) refl

-- the store was asked to take the mailbox one
module _ (c : After-push_mailbox) where
  abbrev before : List Entry
  before = stored c.args.self.now.store

  abbrev after : List Entry
  after = stored c.push_mailbox.new.self

  abbrev name : Option (List ℕ)
  name = option_map (λ x. x.now) c.args.name

  abbrev addr : List ℕ
  addr = c.args.addr.now

  abbrev one : Mailbox
  one = lent c.mailbox.result

  same : added before (new_mailbox name addr) ≡ fitted (with_mailbox before one)
  same = mailbox_accepted before name addr one (sym c.in_ok-take_mailbox.ensures ∙ ap Ok (sym c.mailbox.ensures))

  left : after ≡ left_of before (added before (new_mailbox name addr))
  left = fitted_leaves before (with_mailbox before one) after (added before (new_mailbox name addr)) c.push_mailbox.result same c.push_mailbox.ensures.fits c.push_mailbox.ensures.after

pub invariant_of-self-2 : goal.invariant_of-self-2
invariant_of-self-2 c =
    let b = (goal.at.invariant_of-self-2 c).After-push_mailbox in
    record { proper = event_fine (before b) (an_addition (new_mailbox (name b) (addr b))) (after b) c.args.self.now.proper tt (left b) }

pub returns : goal.returns
returns c =
    let b = (goal.at.returns c).After-push_mailbox in
    fitted_comes (before b) (with_mailbox (before b) (one b)) (after b) (added (before b) (new_mailbox (name b) (addr b))) b.push_mailbox.result (same b) b.push_mailbox.ensures.fits b.push_mailbox.ensures.after c.map_err.result (search rules)
