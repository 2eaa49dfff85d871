-- Removals, and looks, which are refused alike: how they compute, that a removal takes away just the part named, and that
-- what is left is proper.
--     removed_entry, removed_member      what is left where the part is there
--     look_entry, look_member            what is seen there
--     removed_missing, look_missing      how both are refused where it is missing
--     removals_exact, removals_refused, looks_refused, removals_proper    theorems of specs/EditLaws
-- Assumes nothing.
use Rattle.std.proofs.Common.{◌≡◌, ℕ, ◌↔◌, List, [], ◌∷◌, set, Some, None, Ok, Err, Option, Result, sym, ap, ◌∙◌, subst, ⊎_elim, arith}
use Rattle.std.specs.List.{remove as without, slice_get}
use Rattle.marks.specs.declared.fault.Fault.{Fault}
use Rattle.addresses.specs.Mailboxes.{Mailbox, Entry, group, mailbox_length, mailboxes_in, groups_in, characters_in}
use Rattle.addresses.specs.Proper.{ProperMailbox, ProperGroup, ProperEntry}
use Rattle.addresses.specs.Removals.{removed}
use Rattle.addresses.specs.Looks.{Seen, mailbox_seen, entry_seen, look}
use Rattle.addresses.specs.Changes.{Replaced, Without}
use Rattle.addresses.specs.Missing.{Missing, no_entry, no_group, no_member}
use Rattle.addresses.specs.EditLaws.{RemovalsExact, RemovalsProper, RemovalsRefused, LooksRefused}
use Rattle.addresses.proofs.Outcomes.{err_ok}
use Rattle.addresses.proofs.Placing.{There, part_cases}
use Rattle.addresses.proofs.Replacing.{replaced_set, replaced_without, replaced_nth, set_replaced, without_replaced, replaced_all, replaced_old, replaced_length, replaced_sum}

-- ── how they compute ──

pub removed_entry : (l : List Entry) (i : ℕ) (e : Entry) → slice_get l i ≡ Some e → removed l i None ≡ Ok (without l i)
removed_entry l i e h = rw h

pub removed_member : (l : List Entry) (i j : ℕ) (n : List ℕ) (ms : List Mailbox) (m : Mailbox) → slice_get l i ≡ Some (group n ms) → slice_get ms j ≡ Some m → removed l i (Some j) ≡ Ok (set l i (group n (without ms j)))
removed_member l i j n ms m h g = rw (h, g)

pub look_entry : (l : List Entry) (i : ℕ) (e : Entry) → slice_get l i ≡ Some e → look l i None ≡ Ok (entry_seen e)
look_entry l i e h = rw h

pub look_member : (l : List Entry) (i j : ℕ) (n : List ℕ) (ms : List Mailbox) (m : Mailbox) → slice_get l i ≡ Some (group n ms) → slice_get ms j ≡ Some m → look l i (Some j) ≡ Ok (mailbox_seen m)
look_member l i j n ms m h g = rw (h, g)

pub removed_missing : {l : List Entry} {i : ℕ} {o : Option ℕ} {f : Fault} → Missing l i o f → removed l i o ≡ Err f
removed_missing {o = None} (no_entry h) = rw h
removed_missing {o = Some j} (no_entry h) = rw h
removed_missing (no_group h) = rw h
removed_missing (no_member h g) = rw (h, g)

pub look_missing : {l : List Entry} {i : ℕ} {o : Option ℕ} {f : Fault} → Missing l i o f → look l i o ≡ Err f
look_missing {o = None} (no_entry h) = rw h
look_missing {o = Some j} (no_entry h) = rw h
look_missing (no_group h) = rw h
look_missing (no_member h g) = rw (h, g)

-- ── what is taken away ──

taken : (l : List Entry) (i : ℕ) (o : Option ℕ) (k : List Entry) → There l i o → removed l i o ≡ Ok k → Without l i o k
taken l i None k (x, h) e =
    let f = removed_entry l i x h in
    let same : without l i ≡ k = cc in
    record { gone = x; only = subst (Replaced l i (x ∷ []) []) same (replaced_without l i x h) }
taken l i (Some j) k (n, ms, m, h, g) e =
    let f = removed_member l i j n ms m h g in
    let same : set l i (group n (without ms j)) ≡ k = cc in
    record {
      name = n;
      members = ms;
      left = without ms j;
      gone = m;
      from_members = replaced_without ms j m g;
      only = subst (Replaced l i (group n ms ∷ []) (group n (without ms j) ∷ [])) same (replaced_set l i (group n ms) (group n (without ms j)) h);
    }

takes : (l : List Entry) (i : ℕ) (o : Option ℕ) (k : List Entry) → Without l i o k → removed l i o ≡ Ok k
takes l i None k w =
    removed_entry l i w.gone (replaced_nth l i w.gone w.only) ∙ ap Ok (sym (without_replaced l i w.gone w.only))
takes l i (Some j) k w =
    let old : Entry = group w.name w.members in
    removed_member l i j w.name w.members w.gone (replaced_nth l i old w.only) (replaced_nth w.members j w.gone w.from_members)
    ∙ ap (λ x. Ok (set l i (group w.name x))) (sym (without_replaced w.members j w.gone w.from_members))
    ∙ ap Ok (sym (set_replaced l i old (group w.name w.left) w.only))

pub removals_exact : RemovalsExact
removals_exact l i o k = (
  λ e. ⊎_elim (λ there. taken l i o k there e) (λ (f, gone). err_ok (sym (removed_missing gone) ∙ e)) (part_cases l i o),
  takes l i o k,
)

-- ── what is missing ──

some_removed : (l : List Entry) (i : ℕ) (o : Option ℕ) → There l i o → (k : List Entry) × (removed l i o ≡ Ok k)
some_removed l i None (x, h) = (_, removed_entry l i x h)
some_removed l i (Some j) (n, ms, m, h, g) = (_, removed_member l i j n ms m h g)

some_seen : (l : List Entry) (i : ℕ) (o : Option ℕ) → There l i o → (s : Seen) × (look l i o ≡ Ok s)
some_seen l i None (x, h) = (_, look_entry l i x h)
some_seen l i (Some j) (n, ms, m, h, g) = (_, look_member l i j n ms m h g)

-- a call that gives something where the part is there is refused for what is missing, and for nothing else
refused_for : {X : Type 0} (l : List Entry) (i : ℕ) (o : Option ℕ) (f : Fault) (r : Result X Fault)
    → (There l i o → (x : X) × (r ≡ Ok x)) → ((g : Fault) → Missing l i o g → r ≡ Err g) → (r ≡ Err f) ↔ Missing l i o f
refused_for l i o f r some none = (
  λ e. ⊎_elim (λ there. err_ok (sym e ∙ (some there).1)) (λ (g, gone). let h = none g gone in let same : g ≡ f = cc in subst (Missing l i o) same gone) (part_cases l i o),
  none f,
)

pub removals_refused : RemovalsRefused
removals_refused l i o f = refused_for l i o f (removed l i o) (some_removed l i o) (λ g. removed_missing)

pub looks_refused : LooksRefused
looks_refused l i o f = refused_for l i o f (look l i o) (some_seen l i o) (λ g. look_missing)

-- ── what is left ──

pub removals_proper : RemovalsProper
removals_proper l i None k p w = record {
  entries = replaced_all ProperEntry w.only p.entries tt;
  limits = omega (arith, p.limits, replaced_sum mailboxes_in w.only, replaced_sum groups_in w.only, replaced_sum characters_in w.only);
}
removals_proper l i (Some j) k p w =
    let old = (replaced_old ProperEntry w.only p.entries).0 in
    let here : ProperGroup w.name w.left = record { name = old.name; members = replaced_all ProperMailbox w.from_members old.members tt } in
    record {
      entries = replaced_all ProperEntry w.only p.entries (here, tt);
      limits = omega (
        arith,
        p.limits,
        replaced_length w.from_members,
        replaced_sum mailbox_length w.from_members,
        replaced_sum mailboxes_in w.only,
        replaced_sum groups_in w.only,
        replaced_sum characters_in w.only,
      );
    }
