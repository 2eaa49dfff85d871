use Rattle.std.proofs.Common.{◌≡◌, ◌+◌, [], ◌∷◌, ◌++◌, true, length, sym, ap, ◌∙◌, append-nil, arith}
use Rattle.std.proofs.lemmas.List.Sums.{sum_by_push}
use Rattle.std.proofs.lemmas.Result.{err_from_is_err_and}
use Rattle.addresses.specs.Limits.{within}
use Rattle.addresses.specs.Mailboxes.{Entry, group, groups_in}
use Rattle.store.specs.Layout.{entry_row, Small}
use Rattle.store.specs.Stored.{stored}
use Rattle.store.specs.declared.records.EntryRecord.TheVariants.{Group}
use Rattle.store.proofs.Held.{keeps_small, kept, all_ok, all_put}
use Rattle.store.proofs.Laying.{Stands, settled}
use Rattle.store.proofs.Pushing.{pushed}
use Rattle.store.proofs.Stores.{few_entries, group_within}
use Rattle.store.proofs.store.Store.push_group.Goals as goal
use Rattle.store.proofs.store.Store.push_group.Goals.{After-unwrap-2}

pub returns-in_err-room_for_group-clause-fits : goal.returns-in_err-room_for_group-clause-fits
returns-in_err-room_for_group-clause-fits c =
    let p = err_from_is_err_and c.from_residual.result c.from_residual.ensures.1 in
    rw p.1 (c.in_err-room_for_group.ensures ∙ group_within c.args.self.now c.args.name.now)

pub unwrap-requires-2 : goal.unwrap-requires-2
unwrap-requires-2 c =
    let s = c.args.self.now in
    let small : Small (length s.rows.mailboxes) (s.groups + 1) (length s.rows.chars + length c.args.name.now) = keeps_small _ _ _ (sym c.in_ok-room_for_group.ensures) in
    all_ok 320 s.entries (_ ∷ []) _ c.push.ensures.room (omega (arith, few_entries s, small))

module _ (c : After-unwrap-2) where
  abbrev one : Entry
  one = group c.args.name.now []

  fits : true ≡ within (stored c.args.self.now ++ one ∷ [])
  fits = c.in_ok-room_for_group.ensures ∙ group_within c.args.self.now c.args.name.now

  small : Small (length c.args.self.now.rows.mailboxes) (c.args.self.now.groups + 1) (length c.args.self.now.rows.chars + length c.args.name.now)
  small = keeps_small _ _ _ (sym c.in_ok-room_for_group.ensures)

  entries : c.push.new.self ≡ c.args.self.now.entries ++ Group (length c.args.name.now) 0 ∷ []
  entries =
      let s = c.args.self.now in
      all_put 320 s.entries (Group (length c.args.name.now) 0 ∷ []) _ _ c.push.ensures.room c.push.ensures.after (omega (arith, few_entries s, small))

  boxes : c.args.self.now.rows.mailboxes ≡ c.args.self.now.rows.mailboxes ++ []
  boxes = sym (append-nil c.args.self.now.rows.mailboxes)

  chars : c.extend.new.self ≡ c.args.self.now.rows.chars ++ entry_row one
  chars =
      let s = c.args.self.now in
      all_put 8192 s.rows.chars c.args.name.now _ _ c.extend.ensures.room c.extend.ensures.after (omega (arith, small))
      ∙ ap (λ l. s.rows.chars ++ l) (sym (append-nil c.args.name.now))

  laid_out : Stands (stored c.args.self.now ++ one ∷ []) c.push.new.self c.args.self.now.rows.mailboxes c.extend.new.self
  laid_out = pushed c.args.self.now.laid one entries boxes chars

pub invariant_of-self : goal.invariant_of-self
invariant_of-self c = let s = c.args.self.now in kept (laid_out c) (omega (arith, s.counted, sum_by_push groups_in (stored s) (one c))) (fits c)

pub returns-clause-fits : goal.returns-clause-fits
returns-clause-fits c = fits (goal.at.returns-clause-fits c).After-unwrap-2

pub returns-clause-after : goal.returns-clause-after
returns-clause-after c = settled (laid_out (goal.at.returns-clause-after c).After-unwrap-2)
