-- How much a list holds after an addition or a removal.
--     Sized k m g c      the list k has m mailboxes, g groups and c characters
--     within_sized       whether it is within the limits, by its sizes
--     with_…, without_…  the sizes of the list after a change
-- Assumes nothing.
use Rattle.std.proofs.Common.{◌≡◌, ℕ, ◌+◌, ◌-◌, ◌&&◌, leb, List, [], ◌∷◌, ◌++◌, length, set, Some, arith}
use Rattle.std.proofs.lemmas.List.{length_push}
use Rattle.std.proofs.lemmas.List.Sums.{sum_by_push}
use Rattle.std.specs.List.{remove as without, slice_get}
use Rattle.addresses.specs.Mailboxes.{Mailbox, Entry, loose, group, mailbox_length, mailboxes_in, groups_in, characters_in, mailboxes, groups, characters}
use Rattle.addresses.specs.Limits.{within}
use Rattle.addresses.specs.Additions.{with_mailbox, with_group, with_member}
use Rattle.addresses.proofs.Replacing.{replaced_set, replaced_without, replaced_length, replaced_sum}

pub record Sized (k : List Entry) (m g c : ℕ) : Type 0 where
  pub has_mailboxes : mailboxes k ≡ m
  pub has_groups : groups k ≡ g
  pub has_characters : characters k ≡ c

pub within_sized : (k : List Entry) (m g c : ℕ) → Sized k m g c → within k ≡ (leb m 256 && (leb g 64 && leb c 8192))
unfolding within
within_sized k m g c s = cc

pub with_mailbox_sized : (l : List Entry) (m : Mailbox) → Sized (with_mailbox l m) (mailboxes l + 1) (groups l) (characters l + mailbox_length m)
with_mailbox_sized l m = omega (arith, sum_by_push mailboxes_in l (loose m), sum_by_push groups_in l (loose m), sum_by_push characters_in l (loose m))

pub with_group_sized : (l : List Entry) (n : List ℕ) → Sized (with_group l n) (mailboxes l) (groups l + 1) (characters l + length n)
with_group_sized l n = omega (arith, sum_by_push mailboxes_in l (group n []), sum_by_push groups_in l (group n []), sum_by_push characters_in l (group n []))

module _ (l : List Entry) (i : ℕ) (n : List ℕ) (ms : List Mailbox) (there : slice_get l i ≡ Some (group n ms)) where
  pub with_member_sized : (m : Mailbox) → Sized (with_member l i (record { name = n; members = ms }) m) (mailboxes l + 1) (groups l) (characters l + mailbox_length m)
  with_member_sized m =
      let r = replaced_set l i (group n ms) (group n (ms ++ m ∷ [])) there in
      omega (arith, length_push ms m, sum_by_push mailbox_length ms m, replaced_sum mailboxes_in r, replaced_sum groups_in r, replaced_sum characters_in r)

  pub without_member_sized : (j : ℕ) (m : Mailbox) → slice_get ms j ≡ Some m → Sized (set l i (group n (without ms j))) (mailboxes l - 1) (groups l) (characters l - mailbox_length m)
  without_member_sized j m h =
      let r = replaced_set l i (group n ms) (group n (without ms j)) there in
      let s = replaced_without ms j m h in
      omega (arith, replaced_length s, replaced_sum mailbox_length s, replaced_sum mailboxes_in r, replaced_sum groups_in r, replaced_sum characters_in r)

pub without_entry_sized : (l : List Entry) (i : ℕ) (e : Entry) → slice_get l i ≡ Some e → Sized (without l i) (mailboxes l - mailboxes_in e) (groups l - groups_in e) (characters l - characters_in e)
without_entry_sized l i e h =
    let r = replaced_without l i e h in
    omega (arith, replaced_sum mailboxes_in r, replaced_sum groups_in r, replaced_sum characters_in r)
