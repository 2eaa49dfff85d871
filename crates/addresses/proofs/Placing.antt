-- What stands at a place of a list, or that nothing does.
--     entry_there, entry_missing, group_there, group_missing, group_not, member_there, member_missing    how `entry_at`,
--                      `group_at` and `member_at` compute
--     There l i o      the part that is named stands in the list l
--     part_cases       it does, or it is missing
-- Assumes nothing.
use Rattle.std.proofs.Common.{◌≡◌, ℕ, ◌≤◌, ◌⊎◌, List, length, Some, None, Ok, Err, Option, refl, ap, inl, inr}
use Rattle.std.proofs.lemmas.Option.{slice_get_past}
use Rattle.std.specs.List.{slice_get}
use Rattle.marks.specs.declared.fault.Fault.{Fault}
use Rattle.marks.specs.declared.fault.Ground.TheVariants.{NoSuchEntry, NotAGroup, NoSuchMember}
use Rattle.addresses.specs.Mailboxes.{Mailbox, Entry, loose, group}
use Rattle.addresses.specs.Refusals.{list_fault, ◌>>=◌, found}
use Rattle.addresses.specs.Places.{Group, entry_at, as_group, group_at, member_at}
use Rattle.addresses.specs.Missing.{Missing, no_entry, no_group, no_member}

module _ (l : List Entry) (i : ℕ) where
  pub entry_there : (e : Entry) → slice_get l i ≡ Some e → entry_at l i ≡ Ok e
  entry_there e h = ap (λ o. found o NoSuchEntry i) h

  pub entry_missing : length l ≤ i → entry_at l i ≡ Err (list_fault NoSuchEntry i)
  entry_missing h = ap (λ o. found o NoSuchEntry i) (slice_get_past l i h)

  pub group_there : (n : List ℕ) (ms : List Mailbox) → slice_get l i ≡ Some (group n ms) → group_at l i ≡ Ok (record { name = n; members = ms })
  group_there n ms h = ap (λ r. r >>= as_group i) (entry_there (group n ms) h)

  pub group_missing : length l ≤ i → group_at l i ≡ Err (list_fault NoSuchEntry i)
  group_missing h = ap (λ r. r >>= as_group i) (entry_missing h)

  pub group_not : (m : Mailbox) → slice_get l i ≡ Some (loose m) → group_at l i ≡ Err (list_fault NotAGroup i)
  group_not m h = ap (λ r. r >>= as_group i) (entry_there (loose m) h)

pub member_there : (g : Group) (j : ℕ) (m : Mailbox) → slice_get g.members j ≡ Some m → member_at g j ≡ Ok m
member_there g j m h = ap (λ o. found o NoSuchMember j) h

pub member_missing : (g : Group) (j : ℕ) → length g.members ≤ j → member_at g j ≡ Err (list_fault NoSuchMember j)
member_missing g j h = ap (λ o. found o NoSuchMember j) (slice_get_past g.members j h)

abbrev pub There : List Entry → ℕ → Option ℕ → Type 0
There l i None = (e : Entry) × (slice_get l i ≡ Some e)
There l i (Some j) = (n : List ℕ) × (ms : List Mailbox) × (m : Mailbox) × (slice_get l i ≡ Some (group n ms)) × (slice_get ms j ≡ Some m)

pub part_cases : (l : List Entry) (i : ℕ) (o : Option ℕ) → There l i o ⊎ ((f : Fault) × Missing l i o f)
part_cases l i None = by (slice_get l i) refl
  where
    by : (x : Option Entry) → slice_get l i ≡ x → There l i None ⊎ ((f : Fault) × Missing l i None f)
    by None h = inr (list_fault NoSuchEntry i, no_entry h)
    by (Some e) h = inl (e, h)
part_cases l i (Some j) = by (slice_get l i) refl
  where
    within : (n : List ℕ) (ms : List Mailbox) → slice_get l i ≡ Some (group n ms) → (x : Option Mailbox) → slice_get ms j ≡ x → There l i (Some j) ⊎ ((f : Fault) × Missing l i (Some j) f)
    within n ms h None g = inr (list_fault NoSuchMember j, no_member h g)
    within n ms h (Some m) g = inl (n, ms, m, h, g)

    by : (x : Option Entry) → slice_get l i ≡ x → There l i (Some j) ⊎ ((f : Fault) × Missing l i (Some j) f)
    by None h = inr (list_fault NoSuchEntry i, no_entry h)
    by (Some (loose m)) h = inr (list_fault NotAGroup i, no_group h)
    by (Some (group n ms)) h = within n ms h (slice_get ms j) refl
