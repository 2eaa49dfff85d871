use Rattle.std.proofs.Common.{◌≡◌, ◌+◌, [], ◌∷◌, ◌++◌, length, true, sym, ap, ◌∙◌, append-nil, arith}
use Rattle.std.proofs.lemmas.List.Sums.{sum_by_push}
use Rattle.std.proofs.lemmas.Result.{err_from_is_err_and}
use Rattle.addresses.specs.Lent.{lent}
use Rattle.addresses.specs.Limits.{within}
use Rattle.addresses.specs.Mailboxes.{Entry, loose, mailbox_length, groups_in}
use Rattle.store.specs.Layout.{mailbox_row, entry_row, Small}
use Rattle.store.specs.Stored.{stored}
use Rattle.store.specs.declared.records.EntryRecord.TheVariants.{Loose}
use Rattle.store.proofs.Held.{keeps_small, kept, all_ok, all_put}
use Rattle.store.proofs.Laying.{Stands, settled}
use Rattle.store.proofs.Pushing.{pushed}
use Rattle.store.proofs.Stores.{few_entries, loose_within}
use Rattle.store.proofs.store.Store.push_mailbox.Goals as goal
use Rattle.store.proofs.store.Store.push_mailbox.Goals.{After-push}

pub returns-in_err-room_for_mailbox-clause-fits : goal.returns-in_err-room_for_mailbox-clause-fits
returns-in_err-room_for_mailbox-clause-fits c =
    let p = err_from_is_err_and c.from_residual.result c.from_residual.ensures.1 in
    rw p.1 (c.in_err-room_for_mailbox.ensures ∙ loose_within c.args.self.now (lent c.args.mailbox))

pub unwrap-requires : goal.unwrap-requires
unwrap-requires c =
    let s = c.args.self.now in
    let small : Small (length s.rows.mailboxes + 1) s.groups (length s.rows.chars + mailbox_length (lent c.args.mailbox)) =
    keeps_small _ _ _ (sym c.in_ok-room_for_mailbox.ensures) in
    all_ok 320 s.entries (_ ∷ []) _ c.push.ensures.room (omega (arith, few_entries s, small))

module _ (c : After-push) where
  abbrev one : Entry
  one = loose (lent c.args.mailbox)

  fits : true ≡ within (stored c.args.self.now ++ one ∷ [])
  fits = c.in_ok-room_for_mailbox.ensures ∙ loose_within c.args.self.now (lent c.args.mailbox)

  entries : c.push.new.self ≡ c.args.self.now.entries ++ Loose ∷ []
  entries =
      let s = c.args.self.now in
      let small : Small (length s.rows.mailboxes + 1) s.groups (length s.rows.chars + mailbox_length (lent c.args.mailbox)) =
      keeps_small _ _ _ (sym c.in_ok-room_for_mailbox.ensures) in
      all_put 320 s.entries (Loose ∷ []) _ _ c.push.ensures.room c.push.ensures.after (omega (arith, few_entries s, small))

  chars : c.append.new.self.chars ≡ c.args.self.now.rows.chars ++ entry_row one
  chars = c.append.ensures.row ∙ ap (λ l. c.args.self.now.rows.chars ++ l) (sym (append-nil (mailbox_row (lent c.args.mailbox))))

  laid_out : Stands (stored c.args.self.now ++ one ∷ []) c.push.new.self c.append.new.self.mailboxes c.append.new.self.chars
  laid_out = pushed c.args.self.now.laid one entries c.append.ensures.records chars

pub invariant_of-self : goal.invariant_of-self
invariant_of-self c = let s = c.args.self.now in kept (laid_out c) (omega (arith, s.counted, sum_by_push groups_in (stored s) (one c))) (fits c)

pub returns-clause-fits : goal.returns-clause-fits
returns-clause-fits c = fits (goal.at.returns-clause-fits c).After-push

pub returns-clause-after : goal.returns-clause-after
returns-clause-after c = settled (laid_out (goal.at.returns-clause-after c).After-push)
