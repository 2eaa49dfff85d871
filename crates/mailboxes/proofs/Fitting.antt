-- An addition, by what is taken and by what the store answers: p tells whether the list w with the new part keeps the
-- limits, and k is then that list, or else the old one.
--     fitted_leaves        what it leaves
--     fitted_comes         what it answers, by p, and leaves
--     Home, home           the group that a member is added to, as the store has it
-- Assumes nothing.
use Rattle.std.proofs.Common.{◌≡◌, ℕ, true, cond, List, Some, None, Ok, Err, Option, Result, sym, refl, ap, ◌∙◌}
use Rattle.std.specs.Option.{option_map}
use Rattle.std.specs.Result.{is_ok, MatchResult}
use Rattle.std.specs.List.{slice_get}
use Rattle.marks.specs.declared.fault.Fault.{Fault}
use Rattle.marks.specs.declared.fault.Ground.TheVariants.{FullList, NoSuchEntry}
use Rattle.addresses.specs.Mailboxes.{Mailbox, Entry, loose, group}
use Rattle.addresses.specs.Limits.{within}
use Rattle.addresses.specs.Outcomes.{done, left_of, ComesOut}
use Rattle.addresses.specs.Refusals.{list_fault, found, ◌>>=◌}
use Rattle.addresses.specs.Additions.{with_member}
use Rattle.addresses.specs.Places.{Group, as_group, group_at}
use Rattle.additions.specs.Taking.{fitted}
use Rattle.store.specs.Edits.{some_group, has_group, replaced, joined_at}
use Rattle.store.specs.Edits as edits
use Rattle.mailboxes.specs.Answers.{settled}

module _ {E : Type 0} (l w k : List Entry) (o : Result (List Entry) Fault) (p : Result (Unit {0}) E) (same : o ≡ fitted w) (fits : is_ok p ≡ within w) (after : k ≡ cond (is_ok p) w l) where
  judged_by : o ≡ cond (is_ok p) (Ok w) (Err (list_fault FullList 0))
  judged_by = same ∙ ap (λ d. cond d (Ok w) (Err (list_fault FullList 0))) (sym fits)

  pub fitted_leaves : k ≡ left_of l o
  fitted_leaves = after ∙ by p ∙ ap (left_of l) (sym judged_by)
    where
      by : (q : Result (Unit {0}) E) → cond (is_ok q) w l ≡ left_of l (cond (is_ok q) (Ok w) (Err (list_fault FullList 0)))
      by (Ok x) = refl
      by (Err e) = refl

  pub fitted_comes : (r : Result (Unit {0}) Fault) → MatchResult p (λ x. r ≡ Ok x) (λ e. r ≡ Err (list_fault FullList 0)) → ComesOut l o r k
  fitted_comes r told = record { answers = by p told ∙ ap done (sym judged_by); leaves = fitted_leaves }
    where
      by : (q : Result (Unit {0}) E) → MatchResult q (λ x. r ≡ Ok x) (λ e. r ≡ Err (list_fault FullList 0)) → r ≡ done (cond (is_ok q) (Ok w) (Err (list_fault FullList 0)))
      by (Ok x) told = told
      by (Err e) told = told

-- ── the group of a member ──

pub record Home (l : List Entry) (i : ℕ) : Type 0 where
  pub place : Group
  pub there : group_at l i ≡ Ok place
  pub has : has_group l i ≡ true
  pub joined : (m : Mailbox) → joined_at l i m ≡ with_member l i place m

pub home : (l : List Entry) (i : ℕ) → Ok tt ≡ settled (group_at l i) → Home l i
home l i found_it = let h = by (slice_get l i) found_it in record { place = h.0; there = h.1; has = h.2; joined = h.3 }
  where
    by : (o : Option Entry) → Ok tt ≡ settled (found o NoSuchEntry i >>= as_group i)
        → (g : Group) × ((found o NoSuchEntry i >>= as_group i) ≡ Ok g) × (some_group o ≡ true)
        × ((m : Mailbox) → replaced l i (option_map (λ e. edits.with_member e m) o) ≡ with_member l i g m)
    by None e = cc
    by (Some (loose b)) e = cc
    by (Some (group n ms)) e = (record { name = n; members = ms }, refl, refl, λ m. refl)
