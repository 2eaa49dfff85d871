use Rattle.std.proofs.Common.{◌≡◌, suc, ◌+◌, ◌≤◌, length, take, drop, is_some, Some, sym, refl, ap, ◌∙◌, arith}
use Rattle.std.specs.List.{remove, slice_get}
use Rattle.std.proofs.lemmas.List.Sums.{sum_by_push}
use Rattle.std.proofs.lemmas.Option.{slice_get_read}
use Rattle.addresses.specs.Mailboxes.{Entry, mailboxes_in as boxes_in, groups_in, characters_in, mailboxes, groups, characters}
use Rattle.store.specs.Layout.{entry_record, group_count}
use Rattle.store.specs.Stored.{stored}
use Rattle.store.proofs.Laying.{Stands, settled, laid, group_count_is}
use Rattle.store.proofs.Held.{cut_short}
use Rattle.store.proofs.Standing.{nth_whole, nth_front, an_entry}
use Rattle.store.proofs.Replacing.{groups_mid}
use Rattle.store.proofs.Removing.{removed, removed_groups}
use Rattle.store.proofs.Stores.{told_record}
use Rattle.store.proofs.store.Store.remove_entry.Goals as goal
use Rattle.store.proofs.store.Store.remove_entry.Goals.{After-place-end, After-group_count}

-- the entry that goes, and where it lies
module _ (c : After-place-end) where
  told : (e : Entry) × (slice_get (stored c.args.self.now) c.args.entry ≡ Some e) × (entry_record e ≡ c.in-Some.field-0.now)
  told =
      let read = c.in-Some.ensures.lookup in
      an_entry _ _ (told_record c.args.self.now c.as_slice.ensures.value c.args.entry _ (slice_get_read _ _ _ _ refl read.3.0 read.1))

  boxes_at : c.place-start.result.mailboxes ≡ mailboxes (take c.args.entry (stored c.args.self.now))
  boxes_at = ap (λ p. p.mailboxes) c.place-start.ensures

  boxes_end : c.place-end.result.mailboxes ≡ mailboxes (take (c.args.entry + 1) (stored c.args.self.now))
  boxes_end = ap (λ p. p.mailboxes) c.place-end.ensures

  chars_at : c.place-start.result.chars ≡ characters (take c.args.entry (stored c.args.self.now))
  chars_at = ap (λ p. p.chars) c.place-start.ensures

  chars_end : c.place-end.result.chars ≡ characters (take (c.args.entry + 1) (stored c.args.self.now))
  chars_end = ap (λ p. p.chars) c.place-end.ensures

  boxes_grow : c.place-start.result.mailboxes ≤ c.place-end.result.mailboxes
  boxes_grow =
      let l = stored c.args.self.now in
      omega (arith, boxes_at, boxes_end, ap mailboxes (nth_front l c.args.entry told.0 told.1), sum_by_push boxes_in (take c.args.entry l) told.0)

  chars_grow : c.place-start.result.chars ≤ c.place-end.result.chars
  chars_grow =
      let l = stored c.args.self.now in
      omega (arith, chars_at, chars_end, ap characters (nth_front l c.args.entry told.0 told.1), sum_by_push characters_in (take c.args.entry l) told.0)

pub cut-requires-clause-records_first : goal.cut-requires-clause-records_first
cut-requires-clause-records_first c = omega (arith, boxes_grow (goal.at.cut-requires-clause-records_first c).After-place-end)

pub cut-requires-clause-row_first : goal.cut-requires-clause-row_first
cut-requires-clause-row_first c = omega (arith, chars_grow (goal.at.cut-requires-clause-row_first c).After-place-end)

module _ (c : After-group_count) where
  abbrev b : After-place-end
  b = (goal.at.After-group_count c).After-place-end

  counted : c.group_count.result ≡ groups_in (told b).0
  counted = c.group_count.ensures ∙ ap group_count (sym (told b).2) ∙ group_count_is (told b).0

  laid_out : Stands (remove (stored c.args.self.now) c.args.entry) c.remove.new.self c.cut.new.self.mailboxes c.cut.new.self.chars
  laid_out = removed c.args.self.now.laid c.args.entry (told b).0 (told b).1 (boxes_at b) (boxes_end b) (chars_at b) (chars_end b) c.remove.ensures.after c.cut.ensures.records c.cut.ensures.row

pub overflow_sub-self : goal.overflow_sub-self
overflow_sub-self c =
    let s = c.args.self.now in
    let l = stored s in
    let (e, is, _) = told (b c) in
    omega (arith, counted c, s.counted, ap groups (nth_whole l c.args.entry e is), groups_mid (take c.args.entry l) e (drop (suc c.args.entry) l))

pub invariant_of-self : goal.invariant_of-self
invariant_of-self c =
    let s = c.args.self.now in
    let d = b c in
    record {
      laid = laid (laid_out c);
      counted = omega (arith, removed_groups s.laid c.args.entry (told d).0 (told d).1, ap groups (settled (laid_out c)), s.counted, counted c);
      small = (
        omega (arith, s.small.0, ap length c.cut.ensures.records, cut_short s.rows.mailboxes _ _ (boxes_grow d)),
        omega (arith, s.small.1),
        omega (arith, s.small.2, ap length c.cut.ensures.row, cut_short s.rows.chars _ _ (chars_grow d)),
      );
    }

pub returns-clause-there : goal.returns-clause-there
returns-clause-there c = sym (ap is_some (told (b (goal.at.returns-clause-there c).After-group_count)).1)

pub returns-clause-after : goal.returns-clause-after
returns-clause-after c = settled (laid_out (goal.at.returns-clause-after c).After-group_count)
