-- The test of a proper list, part by part.
--     fine_proper, proper_fine     of a list
--     mailbox_proper, proper_mailbox, part_from, part_to, name_from, name_to, writable_from, writable_to    of its parts
-- Assumes nothing.
use Rattle.std.proofs.Common.{◌≡◌, ℕ, Bool, true, not, ◌&&◌, List, [], ◌∷◌, length, Some, None, Option, refl, inl, inr, ⊎_elim}
use lib.Utf8.{scalars}
use Rattle.std.proofs.lemmas.Bool.{and_parts, and_from, or_cases, or_left, or_right, not-true, not_from_false, leb-true, le-leb}
use Rattle.std.specs.List.{AllByRecursion as Every}
use Rattle.characters.specs.WhiteSpace.{among}
use Rattle.addresses.specs.Signs.{close_bracket, at_sign}
use Rattle.addresses.specs.Mailboxes.{Mailbox, mailbox, Entry, loose, group}
use Rattle.addresses.specs.Limits.{short, within}
use Rattle.addresses.specs.Bare.{bare}
use Rattle.addresses.specs.Proper.{Part, PartName, Writable, ProperMailbox, ProperEntry, Proper}
use Rattle.addresses.specs.Fine.{every, part, name_part, writable, mailbox_fine, entry_fine, fine}
use Rattle.addresses.proofs.Within.{within_true, true_within}

module _ {X : Type 0} (f : X → Bool) (P : X → Type 0) where
  every_all : ((x : X) → f x ≡ true → P x) → (xs : List X) → every f xs ≡ true → Every P xs
  every_all h [] e = tt
  every_all h (x ∷ xs) e = let p = and_parts (f x) (every f xs) e in (h x p.0, every_all h xs p.1)

  all_every : ((x : X) → P x → f x ≡ true) → (xs : List X) → Every P xs → every f xs ≡ true
  all_every h [] a = refl
  all_every h (x ∷ xs) a = and_from (f x) (every f xs) (h x a.0) (all_every h xs a.1)

pub part_from : (cs : List ℕ) → part cs ≡ true → Part cs
part_from cs e = let p = and_parts (short cs) (scalars cs) e in record { few = leb-true (length cs) 2000 p.0; scalar = p.1 }

pub part_to : (cs : List ℕ) → Part cs → part cs ≡ true
part_to cs p = and_from (short cs) (scalars cs) (le-leb (length cs) 2000 p.few) p.scalar

pub name_from : (n : Option (List ℕ)) → name_part n ≡ true → PartName n
name_from None e = tt
name_from (Some n) e = part_from n e

pub name_to : (n : Option (List ℕ)) → PartName n → name_part n ≡ true
name_to None p = refl
name_to (Some n) p = part_to n p

pub writable_from : (n : Option (List ℕ)) (a : List ℕ) → writable n a ≡ true → Writable n a
writable_from None a e = ⊎_elim (λ h. inl (not-true (among close_bracket a) h)) (λ h. inr h) (or_cases (not (among close_bracket a)) (bare a) e)
writable_from (Some n) a e = not-true (among close_bracket a) e

pub writable_to : (n : Option (List ℕ)) (a : List ℕ) → Writable n a → writable n a ≡ true
writable_to None a (inl e) = or_left (not (among close_bracket a)) (bare a) (not_from_false (among close_bracket a) e)
writable_to None a (inr e) = or_right (not (among close_bracket a)) (bare a) e
writable_to (Some n) a e = not_from_false (among close_bracket a) e

pub mailbox_proper : (m : Mailbox) → mailbox_fine m ≡ true → ProperMailbox m
mailbox_proper (mailbox n a) e =
    let p = and_parts (name_part n) (part a && (among at_sign a && writable n a)) e in
    let q = and_parts (part a) (among at_sign a && writable n a) p.1 in
    let r = and_parts (among at_sign a) (writable n a) q.1 in
    record { name = name_from n p.0; address = part_from a q.0; has_at = r.0; writable = writable_from n a r.1 }

pub proper_mailbox : (m : Mailbox) → ProperMailbox m → mailbox_fine m ≡ true
proper_mailbox (mailbox n a) p =
    and_from (name_part n) _ (name_to n p.name)
    (and_from (part a) _ (part_to a p.address) (and_from (among at_sign a) (writable n a) p.has_at (writable_to n a p.writable)))

entry_proper : (e : Entry) → entry_fine e ≡ true → ProperEntry e
entry_proper (loose m) h = mailbox_proper m h
entry_proper (group n ms) h =
    let p = and_parts (part n) (every mailbox_fine ms) h in
    record { name = part_from n p.0; members = every_all mailbox_fine ProperMailbox mailbox_proper ms p.1 }

proper_entry : (e : Entry) → ProperEntry e → entry_fine e ≡ true
proper_entry (loose m) p = proper_mailbox m p
proper_entry (group n ms) p =
    and_from (part n) (every mailbox_fine ms) (part_to n p.name) (all_every mailbox_fine ProperMailbox proper_mailbox ms p.members)

pub fine_proper : (l : List Entry) → fine l ≡ true → Proper l
unfolding fine
fine_proper l e =
    let p = and_parts (every entry_fine l) (within l) e in
    record { entries = every_all entry_fine ProperEntry entry_proper l p.0; limits = true_within l p.1 }

pub proper_fine : (l : List Entry) → Proper l → fine l ≡ true
unfolding fine
proper_fine l p =
    and_from (every entry_fine l) (within l) (all_every entry_fine ProperEntry proper_entry l p.entries) (within_true l p.limits)
