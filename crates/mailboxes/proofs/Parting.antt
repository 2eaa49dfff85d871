-- A removal, by what the store answers: b tells that the part is there, and k is then the list without it, or else the old one.
--     entry_leaves     what a removal of the entry i leaves
--     member_leaves    what a removal of the member j of the group that is the entry i leaves
-- Assumes nothing.
use Rattle.std.proofs.Common.{◌≡◌, ℕ, Bool, cond, List, set, is_some, Some, None, Ok, Option, ap, ◌∙◌}
use Rattle.std.specs.Option.{option_map}
use Rattle.std.specs.List.{remove as without, slice_get}
use Rattle.marks.specs.declared.fault.Ground.TheVariants.{NoSuchEntry, NoSuchMember}
use Rattle.addresses.specs.Mailboxes.{Entry, loose, group}
use Rattle.addresses.specs.Outcomes.{left_of}
use Rattle.addresses.specs.Refusals.{found, ◌>>=◌}
use Rattle.addresses.specs.Places.{as_group, group_at, member_at}
use Rattle.addresses.specs.Removals.{removed}
use Rattle.store.specs.Edits.{some_member, replaced, without_member, parted_at}
use Rattle.store.specs.Edits as edits
use Rattle.mailboxes.specs.Answers.{settled}

-- where o is there, w is left, and else the fault of the ground that is given
module _ {X : Type 0} (l w k : List Entry) (b : Bool) (after : k ≡ cond b w l) where
  leaves : (o : Option X) (f : _) (p : ℕ) → b ≡ is_some o → k ≡ left_of l (found o f p >>= λ _. Ok w)
  leaves None f p there = after ∙ ap (λ d. cond d w l) there
  leaves (Some x) f p there = after ∙ ap (λ d. cond d w l) there

pub entry_leaves : (l k : List Entry) (i : ℕ) (b : Bool) → b ≡ is_some (slice_get l i) → k ≡ cond b (without l i) l → k ≡ left_of l (removed l i None)
entry_leaves l k i b there after = leaves l (without l i) k b after (slice_get l i) NoSuchEntry i there

pub member_leaves : (l k : List Entry) (i j : ℕ) (b : Bool) → Ok tt ≡ settled (group_at l i) → b ≡ is_some (edits.member_at l i j) → k ≡ cond b (parted_at l i j) l
    → k ≡ left_of l (removed l i (Some j))
member_leaves l k i j b home there after = by (slice_get l i) home there after
  where
    by : (o : Option Entry) → Ok tt ≡ settled (found o NoSuchEntry i >>= as_group i) → b ≡ is_some (some_member o j)
        → k ≡ cond b (replaced l i (option_map (λ e. without_member e j) o)) l
        → k ≡ left_of l ((found o NoSuchEntry i >>= as_group i) >>= λ g. member_at g j >>= λ _. Ok (set l i (group g.name (without g.members j))))
    by None e there after = cc
    by (Some (loose m)) e there after = cc
    by (Some (group n ms)) e there after = leaves l (set l i (group n (without ms j))) k b after (slice_get ms j) NoSuchMember j there
