-- Taking, and then looking at the list, is adding as `added` says: for the list to cite.
--     mailbox_checks_split, group_checks_split             the checks of an addition are its own ones and then the list's
--     mailbox_added, member_added, group_added             what an addition answers, by what taking gives
--     mailbox_accepted, member_accepted, group_accepted    where taking gives a mailbox or a name
--     mailbox_refused, member_refused, group_refused       where it gives a fault
--     member_homeless                                      where there is no such group
--     mailbox_passes, group_passes                         what is taken is of the bytes given, and passes its own checks
--     mailbox_taken_fine, group_taken_part                 what is taken is fit for a proper list
-- Assumes nothing.
use Rattle.std.proofs.Common.{◌≡◌, ℕ, true, false, List, [], ◌∷◌, ◌++◌, Some, None, Ok, Err, Option, Result, refl, ap, ◌∙◌, subst}
use lib.Utf8.{scalars}
use Rattle.std.proofs.lemmas.Bool.{and_from}
use Rattle.std.specs.List.{AllByRecursion as Every}
use Rattle.characters.specs.WhiteSpace.{among}
use Rattle.marks.specs.declared.fault.Fault.{Fault}
use Rattle.marks.specs.declared.fault.Ground.TheVariants.{FullList}
use Rattle.addresses.specs.Signs.{at_sign}
use Rattle.addresses.specs.Mailboxes.{Mailbox, mailbox, Entry}
use Rattle.addresses.specs.Limits.{short, within}
use Rattle.addresses.specs.Fine.{part, name_part, writable, mailbox_fine}
use Rattle.addresses.specs.WellFormed.{characters_of}
use Rattle.addresses.specs.Refusals.{◌>>=◌, Check, ◌else◌, judged}
use Rattle.addresses.specs.Places.{Group, group_at}
use Rattle.addresses.specs.Additions.{new_mailbox, new_group, new_member, or_ill, text_of, name_of, mailbox_of, mailbox_checks, group_checks, with_mailbox, with_group, with_member, added}
use Rattle.addresses.proofs.Characters.{characters_found}
use Rattle.addresses.proofs.Checks.{Passes}
use Rattle.additions.specs.Taking.{passed, own_checks, own_group_checks, taken_mailbox, taken_group, fitted}
use Rattle.additions.specs.Steps.{short_name}

-- ── the checks ──

pub mailbox_checks_split : (m : Mailbox) (k : List Entry) → mailbox_checks m k ≡ own_checks m ++ within k else FullList ∷ []
mailbox_checks_split (mailbox n a) k = refl

pub group_checks_split : (n : List ℕ) (k : List Entry) → group_checks n k ≡ own_group_checks n ++ within k else FullList ∷ []
group_checks_split n k = refl

-- ── what an addition answers ──

-- the last check is the list's, which comes of x
judged_last : {X : Type 0} (cs : List Check) (x : X) (k : X → List Entry) → judged (cs ++ within (k x) else FullList ∷ []) (k x) ≡ (passed cs x >>= λ y. fitted (k y))
judged_last [] x k = refl
judged_last ((true else g) ∷ cs) x k = judged_last cs x k
judged_last ((false else g) ∷ cs) x k = refl

-- k is the list that the addition of a mailbox makes
mailbox_judged : (r : Result Mailbox Fault) (k : Mailbox → List Entry)
    → (r >>= λ m. judged (mailbox_checks m (k m)) (k m)) ≡ ((r >>= λ m. passed (own_checks m) m) >>= λ m. fitted (k m))
mailbox_judged (Ok (mailbox n a)) k = judged_last (own_checks (mailbox n a)) (mailbox n a) k
mailbox_judged (Err f) k = refl

group_judged : (r : Result (List ℕ) Fault) (k : List ℕ → List Entry)
    → (r >>= λ n. judged (group_checks n (k n)) (k n)) ≡ ((r >>= λ n. passed (own_group_checks n) n) >>= λ n. fitted (k n))
group_judged (Ok n) k = judged_last (own_group_checks n) n k
group_judged (Err f) k = refl

pub mailbox_added : (l : List Entry) (n : Option (List ℕ)) (a : List ℕ) → added l (new_mailbox n a) ≡ (taken_mailbox n a >>= λ m. fitted (with_mailbox l m))
mailbox_added l n a = mailbox_judged (mailbox_of n a) (with_mailbox l)

pub member_added : (l : List Entry) (i : ℕ) (n : Option (List ℕ)) (a : List ℕ)
    → added l (new_member i n a) ≡ (group_at l i >>= λ g. taken_mailbox n a >>= λ m. fitted (with_member l i g m))
member_added l i n a = by (group_at l i)
  where
    by : (r : Result Group Fault)
        → (r >>= λ g. mailbox_of n a >>= λ m. judged (mailbox_checks m (with_member l i g m)) (with_member l i g m)) ≡ (r >>= λ g. taken_mailbox n a >>= λ m. fitted (with_member l i g m))
    by (Ok g) = mailbox_judged (mailbox_of n a) (with_member l i g)
    by (Err f) = refl

pub group_added : (l : List Entry) (n : List ℕ) → added l (new_group n) ≡ (taken_group n >>= λ name. fitted (with_group l name))
group_added l n = group_judged (text_of n) (with_group l)

-- ── the same, case by case ──

pub mailbox_accepted : (l : List Entry) (n : Option (List ℕ)) (a : List ℕ) (m : Mailbox) → taken_mailbox n a ≡ Ok m → added l (new_mailbox n a) ≡ fitted (with_mailbox l m)
mailbox_accepted l n a m e = mailbox_added l n a ∙ ap (λ r. r >>= λ x. fitted (with_mailbox l x)) e

pub mailbox_refused : (l : List Entry) (n : Option (List ℕ)) (a : List ℕ) (f : Fault) → taken_mailbox n a ≡ Err f → added l (new_mailbox n a) ≡ Err f
mailbox_refused l n a f e = mailbox_added l n a ∙ ap (λ r. r >>= λ x. fitted (with_mailbox l x)) e

pub member_accepted : (l : List Entry) (i : ℕ) (n : Option (List ℕ)) (a : List ℕ) (g : Group) (m : Mailbox)
    → group_at l i ≡ Ok g → taken_mailbox n a ≡ Ok m → added l (new_member i n a) ≡ fitted (with_member l i g m)
member_accepted l i n a g m there e =
    member_added l i n a
    ∙ ap (λ r. r >>= λ h. taken_mailbox n a >>= λ x. fitted (with_member l i h x)) there
    ∙ ap (λ r. r >>= λ x. fitted (with_member l i g x)) e

pub member_refused : (l : List Entry) (i : ℕ) (n : Option (List ℕ)) (a : List ℕ) (g : Group) (f : Fault)
    → group_at l i ≡ Ok g → taken_mailbox n a ≡ Err f → added l (new_member i n a) ≡ Err f
member_refused l i n a g f there e =
    member_added l i n a
    ∙ ap (λ r. r >>= λ h. taken_mailbox n a >>= λ x. fitted (with_member l i h x)) there
    ∙ ap (λ r. r >>= λ x. fitted (with_member l i g x)) e

pub member_homeless : (l : List Entry) (i : ℕ) (n : Option (List ℕ)) (a : List ℕ) (f : Fault) → group_at l i ≡ Err f → added l (new_member i n a) ≡ Err f
member_homeless l i n a f e = member_added l i n a ∙ ap (λ r. r >>= λ h. taken_mailbox n a >>= λ x. fitted (with_member l i h x)) e

pub group_accepted : (l : List Entry) (n name : List ℕ) → taken_group n ≡ Ok name → added l (new_group n) ≡ fitted (with_group l name)
group_accepted l n name e = group_added l n ∙ ap (λ r. r >>= λ x. fitted (with_group l x)) e

pub group_refused : (l : List Entry) (n : List ℕ) (f : Fault) → taken_group n ≡ Err f → added l (new_group n) ≡ Err f
group_refused l n f e = group_added l n ∙ ap (λ r. r >>= λ x. fitted (with_group l x)) e

-- ── what is taken ──

passed_all : {X : Type 0} (cs : List Check) (x y : X) → passed cs x ≡ Ok y → (x ≡ y) × Every Passes cs
passed_all [] x y e = (cc, tt)
passed_all ((true else g) ∷ cs) x y e = let p = passed_all cs x y e in (p.0, (refl, p.1))
passed_all ((false else g) ∷ cs) x y e = cc

pub mailbox_passes : (n : Option (List ℕ)) (a : List ℕ) (m : Mailbox) → taken_mailbox n a ≡ Ok m → (mailbox_of n a ≡ Ok m) × Every Passes (own_checks m)
mailbox_passes n a m e = by (mailbox_of n a) e
  where
    by : (r : Result Mailbox Fault) → (r >>= λ x. passed (own_checks x) x) ≡ Ok m → (r ≡ Ok m) × Every Passes (own_checks m)
    by (Ok x) e = let p = passed_all (own_checks x) x m e in (ap Ok p.0, subst (λ y. Every Passes (own_checks y)) p.0 p.1)
    by (Err f) e = cc

pub group_passes : (n name : List ℕ) → taken_group n ≡ Ok name → (text_of n ≡ Ok name) × (short name ≡ true)
group_passes n name e = by (text_of n) e
  where
    by : (r : Result (List ℕ) Fault) → (r >>= λ x. passed (own_group_checks x) x) ≡ Ok name → (r ≡ Ok name) × (short name ≡ true)
    by (Ok x) e = let p = passed_all (own_group_checks x) x name e in (ap Ok p.0, subst (λ y. short y ≡ true) p.0 p.1.0)
    by (Err f) e = cc

-- characters are scalar values
text_scalars : (bs cs : List ℕ) → text_of bs ≡ Ok cs → scalars cs ≡ true
text_scalars bs cs e = (((characters_found bs).well_formed cs).0 (by (characters_of bs) e)).0
  where
    by : (r : Result (List ℕ) ℕ) → or_ill r ≡ Ok cs → r ≡ Ok cs
    by (Ok x) e = cc
    by (Err p) e = cc

name_parts : (n x : Option (List ℕ)) → name_of n ≡ Ok x → short_name x ≡ true → name_part x ≡ true
name_parts n None e s = refl
name_parts None (Some x) e s = cc
name_parts (Some bs) (Some x) e s = and_from (short x) (scalars x) s (text_scalars bs x (by (text_of bs) e))
  where
    by : (r : Result (List ℕ) Fault) → (r >>= λ cs. Ok (Some cs)) ≡ Ok (Some x) → r ≡ Ok x
    by (Ok y) e = cc
    by (Err f) e = cc

pub group_taken_part : (n name : List ℕ) → taken_group n ≡ Ok name → part name ≡ true
group_taken_part n name e = let p = group_passes n name e in and_from (short name) (scalars name) p.1 (text_scalars n name p.0)

pub mailbox_taken_fine : (n : Option (List ℕ)) (a : List ℕ) (m : Mailbox) → taken_mailbox n a ≡ Ok m → mailbox_fine m ≡ true
mailbox_taken_fine n a (mailbox x y) e =
    let (of, (few, (short-enough, (has, (writes, _))))) = mailbox_passes n a (mailbox x y) e in
    let (name, addr) = by (name_of n) (text_of a) of in
    and_from (name_part x) _ (name_parts n x name few)
    (and_from (part y) _ (and_from (short y) (scalars y) short-enough (text_scalars a y addr)) (and_from (among at_sign y) (writable x y) has writes))
  where
    by : (r : Result (Option (List ℕ)) Fault) (t : Result (List ℕ) Fault) → (r >>= λ u. t >>= λ v. Ok (mailbox u v)) ≡ Ok (mailbox x y) → (r ≡ Ok x) × (t ≡ Ok y)
    by (Ok u) (Ok v) e = (cc, cc)
    by (Ok u) (Err f) e = cc
    by (Err f) t e = cc
