use Rattle.std.proofs.Common.{◌≡◌, ℕ, ◌≤◌, List, [], ◌∷◌, ◌++◌, map, length, take, drop, sym, refl, ap, subst, ◌∙◌, append_assoc, rules, arith, length-append}
use Rattle.std.specs.Iterator.{YieldsFirstBy}
use Rattle.std.specs.List.{flat_map}
use Rattle.std.specs.Option.{MatchOption}
use Rattle.std.proofs.lemmas.List.{take_at, drop_at}
use Rattle.addresses.specs.Looks.{Seen, seen_group}
use Rattle.addresses.specs.Mailboxes.{Mailbox, Entry, loose, group}
use Rattle.store.specs.Layout.{mailbox_row, all_boxes, row, mailbox_record, entry_record, opened, dealt}
use Rattle.store.specs.Looks.{seen}
use Rattle.store.specs.Walks.{walked, left_of, ahead}
use Rattle.store.specs.declared.store.walk.Walk.{Walk}
use Rattle.store.proofs.Walking.{Idle, idle, reopened_laid, reopened_ahead, loose_first, group_first}
use Rattle.store.proofs.store.walk.steps.WalkIterator.next.Goals as goal
use Rattle.store.proofs.store.walk.steps.WalkIterator.next.Goals.{In_ok-entry, In-Loose, After-take_member-in-Loose, In-Group, After-split_at}

-- no group is open
abbrev rest_of : (w : Walk) → w.members ≤ 0 → Idle w.members w.entries.now w.mailboxes.now w.chars.now
rest_of w zero = idle w.laid zero

module _ (c : In_ok-entry) where
  abbrev idle_rest : Idle c.args.self.now.members c.args.self.now.entries.now c.args.self.now.mailboxes.now c.args.self.now.chars.now
  idle_rest = rest_of c.args.self.now c.if-self-gt0.false

  records : c.in_ok-entry.entry.now ∷ c.in_ok-entry.others.now ≡ map entry_record idle_rest.behind
  records = sym c.in_ok-entry.ensures.cases.0 ∙ idle_rest.records

-- ── a loose mailbox is next ──

module _ (c : In-Loose) where
  abbrev loose_rest : Idle c.args.self.now.members c.args.self.now.entries.now c.args.self.now.mailboxes.now c.args.self.now.chars.now
  loose_rest = idle_rest (goal.at.In-Loose c).In_ok-entry

  it : (m : Mailbox) × (fs : List Entry) × (loose_rest.behind ≡ loose m ∷ fs) × (c.in_ok-entry.others.now ≡ map entry_record fs)
  it = loose_first _ _ loose_rest.behind (records (goal.at.In-Loose c).In_ok-entry) c.in-Loose.is

  loose_boxes : c.args.self.now.mailboxes.now ≡ map mailbox_record ((it.0 ∷ []) ++ all_boxes it.1)
  loose_boxes = loose_rest.box_records ∙ ap (λ l. map mailbox_record (all_boxes l)) it.2

  loose_chars : c.args.self.now.chars.now ≡ flat_map mailbox_row (it.0 ∷ []) ++ row it.1
  loose_chars = loose_rest.chars ∙ ap row it.2

  -- to show it as the one member of an open group shows the same
  same : left_of (dealt (opened 1 c.in_ok-entry.others.now) c.args.self.now.mailboxes.now c.args.self.now.chars.now) ≡ ahead c.args.self.now
  same = reopened_ahead (it.0 ∷ []) it.1 it.3 loose_boxes loose_chars refl ∙ sym (loose_rest.shows ∙ ap walked it.2)

pub invariant_of-self : goal.invariant_of-self
invariant_of-self c = record {
  laid = reopened_laid ((it c).0 ∷ []) (it c).1 (it c).3 (loose_boxes c) (loose_chars c) refl;
  small = c.args.self.now.small;
}

module _ (c : After-take_member-in-Loose) where
  loose_steps : YieldsFirstBy seen ahead c.args.self.now c.take_member-in-Loose.result c.take_member-in-Loose.new.self
  loose_steps =
      let left = ahead c.take_member-in-Loose.new.self in
      let P : List Seen → Type 0 = λ l. MatchOption c.take_member-in-Loose.result ((l ≡ []) × (left ≡ [])) (λ v. l ≡ seen v ∷ left) in
      subst P (same (goal.at.After-take_member-in-Loose c).In-Loose) c.take_member-in-Loose.ensures

pub returns-in-Loose-clause-steps : goal.returns-in-Loose-clause-steps
returns-in-Loose-clause-steps c = loose_steps c

pub returns-in-Loose-clause-goes : goal.returns-in-Loose-clause-goes
returns-in-Loose-clause-goes c = let steps = loose_steps c in search rules

-- ── a group is next ──

module _ (c : In-Group) where
  abbrev group_rest : Idle c.args.self.now.members c.args.self.now.entries.now c.args.self.now.mailboxes.now c.args.self.now.chars.now
  group_rest = idle_rest (goal.at.In-Group c).In_ok-entry

  those : (t : List ℕ) × (ms : List Mailbox) × (fs : List Entry) × (group_rest.behind ≡ group t ms ∷ fs) × (length t ≡ c.in-Group.name) × (length ms ≡ c.in-Group.members) × (c.in_ok-entry.others.now ≡ map entry_record fs)
  those = group_first _ _ group_rest.behind _ _ (records (goal.at.In-Group c).In_ok-entry) c.in-Group.is

  group_chars : c.args.self.now.chars.now ≡ those.0 ++ (flat_map mailbox_row those.1 ++ row those.2)
  group_chars = group_rest.chars ∙ ap row those.3 ∙ append_assoc those.0 (flat_map mailbox_row those.1) (row those.2)

  fit : c.in-Group.name ≤ length c.args.self.now.chars.now
  fit = omega (arith, ap length group_chars, length-append those.0 (flat_map mailbox_row those.1 ++ row those.2), those.4)

  group_boxes : c.args.self.now.mailboxes.now ≡ map mailbox_record (those.1 ++ all_boxes those.2)
  group_boxes = group_rest.box_records ∙ ap (λ l. map mailbox_record (all_boxes l)) those.3

pub split_at-requires : goal.split_at-requires
split_at-requires c = fit (goal.at.split_at-requires c).In-Group

module _ (c : After-split_at) where
  abbrev d : In-Group
  d = (goal.at.After-split_at c).In-Group

  chars_left : c.split_at.result.1.now ≡ flat_map mailbox_row (those d).1 ++ row (those d).2
  chars_left =
      c.split_at.ensures.back
      ∙ ap (drop c.in-Group.name) (group_chars d)
      ∙ drop_at (those d).0 (flat_map mailbox_row (those d).1 ++ row (those d).2) _ (those d).4

  group_steps : ahead c.args.self.now ≡ seen_group c.split_at.result.0.now c.in-Group.members ∷ left_of (dealt (opened c.in-Group.members c.in_ok-entry.others.now) c.args.self.now.mailboxes.now c.split_at.result.1.now)
  group_steps =
      let t = those d in
      let title = c.split_at.ensures.front ∙ ap (take c.in-Group.name) (group_chars d) ∙ take_at t.0 (flat_map mailbox_row t.1 ++ row t.2) _ t.4 in
      (group_rest d).shows
      ∙ ap walked t.3
      ∙ (λ i. seen_group (sym title i) (t.5 i) ∷ sym (reopened_ahead t.1 t.2 t.6 (group_boxes d) chars_left t.5) i)

pub invariant_of-self-in-Group : goal.invariant_of-self-in-Group
invariant_of-self-in-Group c =
    let b = (goal.at.invariant_of-self-in-Group c).After-split_at in
    let t = those (d b) in
    record {
      laid = reopened_laid t.1 t.2 t.6 (group_boxes (d b)) (chars_left b) t.5;
      small = omega (arith, c.split_at.ensures.back_len, c.args.self.now.small);
    }

pub returns-in-Group-clause-steps : goal.returns-in-Group-clause-steps
returns-in-Group-clause-steps c = group_steps (goal.at.returns-in-Group-clause-steps c).After-split_at

pub returns-in-Group-clause-goes : goal.returns-in-Group-clause-goes
returns-in-Group-clause-goes c =
    let shorter = ap length (group_steps (goal.at.returns-in-Group-clause-goes c).After-split_at) in
    search (rules, arith)
