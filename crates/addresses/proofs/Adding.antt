-- Additions: how `added` computes, and that it accepts just the proper lists.
--     added_mailbox, added_group, added_member    what is judged once the bytes are well-formed and the group is there
--     would_settles           an addition is accepted where the list that it would leave is proper, and only there
--     additions_judged, additions_denied, additions_definite    theorems of specs/EditLaws
-- Assumes nothing.
use Rattle.std.proofs.Common.{◌≡◌, ℕ, ◌⊎◌, List, [], ◌∷◌, ◌++◌, length, set, Some, None, Ok, Err, Option, Result, sym, refl, ap, ◌∙◌, subst, inl, inr, ⊎_elim, arith}
use Rattle.std.proofs.ByRecursion.{All-push}
use Rattle.std.proofs.lemmas.Bool.{leb-true, le-leb}
use Rattle.std.specs.List.{AllByRecursion as Every, slice_get}
use Rattle.marks.specs.declared.fault.Fault.{Fault}
use Rattle.marks.specs.declared.fault.Ground.TheVariants.{IllFormedUtf8, NoSuchEntry, NotAGroup}
use Rattle.addresses.specs.Mailboxes.{Mailbox, Entry, loose, group}
use Rattle.addresses.specs.Written.{written_bytes}
use Rattle.addresses.specs.Proper.{ProperMailbox, ProperGroup, ProperEntry, Proper}
use Rattle.addresses.specs.Refusals.{list_fault, ◌>>=◌, Check, judged}
use Rattle.addresses.specs.Places.{Group, group_at}
use Rattle.addresses.specs.Additions.{Addition, new_mailbox, new_group, new_member, text_of, mailbox_of, mailbox_checks, group_checks, with_mailbox, with_group, with_member, added}
use Rattle.addresses.specs.Would.{Would, Denied, no_entry, no_group, ill_mailbox, ill_group, ill_member}
use Rattle.addresses.specs.EditLaws.{Judged, AdditionsJudged, AdditionsDenied, AdditionsDefinite}
use Rattle.addresses.proofs.Rows.{all_split}
use Rattle.addresses.proofs.Within.{within_true, true_within}
use Rattle.addresses.proofs.Laws.{reads_back, reads_as_proper}
use Rattle.addresses.proofs.Outcomes.{err_ok}
use Rattle.addresses.proofs.Placing.{group_there}
use Rattle.addresses.proofs.Replacing.{replaced_set, replaced_nth, set_replaced, replaced_all, replaced_old, replaced_new}
use Rattle.addresses.proofs.Bytes.{text_well, text_ill, mailbox_well, mailbox_ill, text_cases, mailbox_cases}
use Rattle.addresses.proofs.Checks.{Passes, Settles, judged_settles, settles_same, mailbox_passes, proper_passes}

-- ── how additions compute ──

pub added_mailbox : (l : List Entry) (n : Option (List ℕ)) (a : List ℕ) (m : Mailbox) → mailbox_of n a ≡ Ok m → added l (new_mailbox n a) ≡ judged (mailbox_checks m (with_mailbox l m)) (with_mailbox l m)
added_mailbox l n a m e = ap (λ r. r >>= λ x. judged (mailbox_checks x (with_mailbox l x)) (with_mailbox l x)) e

pub added_group : (l : List Entry) (n name : List ℕ) → text_of n ≡ Ok name → added l (new_group n) ≡ judged (group_checks name (with_group l name)) (with_group l name)
added_group l n name e = ap (λ r. r >>= λ x. judged (group_checks x (with_group l x)) (with_group l x)) e

pub added_member : (l : List Entry) (i : ℕ) (n : Option (List ℕ)) (a : List ℕ) (g : Group) (m : Mailbox) → group_at l i ≡ Ok g → mailbox_of n a ≡ Ok m
    → added l (new_member i n a) ≡ judged (mailbox_checks m (with_member l i g m)) (with_member l i g m)
added_member l i n a g m e f = rw (e, f)

-- ── the list that it would leave ──

-- o is what comes of judging k, and w is k
settled : {o : Result (List Entry) Fault} {w k : List Entry} (cs : List Check) → o ≡ judged cs k → w ≡ k → (Every Passes cs → Proper k) → (Proper k → Every Passes cs) → Settles o w (Proper w)
settled {o} {w} {k} cs e same to from =
    subst (λ x. Settles o x (Proper x)) (sym same)
    (subst (λ x. Settles x k (Proper k)) (sym e) (settles_same (judged cs k) k (Every Passes cs) (Proper k) to from (judged_settles cs k)))

pub would_settles : (l : List Entry) (a : Addition) (w : List Entry) → Proper l → Would l a w → Settles (added l a) w (Proper w)
would_settles l (new_mailbox n a) w p (m, u, e) =
    settled (mailbox_checks m (with_mailbox l m)) (added_mailbox l n a m (mailbox_well n a m u)) e
    (λ h. let q = mailbox_passes n a m (with_mailbox l m) u h in record { entries = All-push ProperEntry l (loose m) p.entries q.0; limits = q.1 })
    (λ q. proper_passes m (with_mailbox l m) (all_split ProperEntry l (loose m ∷ []) q.entries).1.0 q.limits)
would_settles l (new_group n) w p (name, u, e) =
    let k = with_group l name in
    settled (group_checks name k) (added_group l n name (text_well n name u)) e
    (λ h.
    let here : ProperGroup name [] = record { name = record { few = leb-true (length name) 2000 h.0; scalar = u.0 }; members = tt } in
    record { entries = All-push ProperEntry l (group name []) p.entries here; limits = true_within k h.1.0 })
    (λ q.
    let last = (all_split ProperEntry l (group name [] ∷ []) q.entries).1.0 in
    (le-leb (length name) 2000 last.name.few, (within_true k q.limits, tt)))
would_settles l (new_member i n a) w p (m, u, e) =
    let g : Group = record { name = e.name; members = e.members } in
    let k = with_member l i g m in
    let new = group e.name (e.members ++ m ∷ []) in
    let there = replaced_nth l i (group e.name e.members) e.only in
    let r = replaced_set l i (group e.name e.members) new there in
    settled (mailbox_checks m k) (added_member l i n a g m (group_there l i e.name e.members there) (mailbox_well n a m u))
    (set_replaced l i (group e.name e.members) new e.only)
    (λ h.
    let q = mailbox_passes n a m k u h in
    let old = (replaced_old ProperEntry r p.entries).0 in
    let here : ProperGroup e.name (e.members ++ m ∷ []) = record { name = old.name; members = All-push ProperMailbox e.members m old.members q.0 } in
    record { entries = replaced_all ProperEntry r p.entries (here, tt); limits = q.1 })
    (λ q.
    let here = (replaced_new ProperEntry r q.entries).0 in
    proper_passes m k (all_split ProperMailbox e.members (m ∷ []) here.members).1.0 q.limits)

-- ── the theorems ──

pub additions_judged : AdditionsJudged
additions_judged l a w p would = by (added l a) refl (would_settles l a w p would)
  where
    by : (o : Result (List Entry) Fault) → added l a ≡ o → Settles o w (Proper w) → Judged l a w
    by (Ok k) e (same, q) = record {
      exactly = (λ _. q, λ _. e ∙ ap Ok same);
      only = λ j f. let again : j ≡ k = cc in again ∙ same;
      unreadable = (λ (f, x). err_ok (sym x ∙ e), λ u. absurd (u (written_bytes w) (reads_back w q).back));
    }
    by (Err f) e never = record {
      exactly = (λ x. err_ok (sym e ∙ x), λ q. absurd (never q));
      only = λ j x. err_ok (sym e ∙ x);
      unreadable = (λ _ bs r. never (reads_as_proper bs w r), λ _. (f, e));
    }

pub additions_denied : AdditionsDenied
additions_denied l a f (no_entry e) = rw e
additions_denied l a f (no_group e) = rw e
additions_denied l a f (ill_mailbox i) = rw (mailbox_ill i)
additions_denied l a f (ill_group {n} {p} i) = rw (text_ill n p i)
additions_denied l a f (ill_member e i) = rw (e, mailbox_ill i)

some_would : (l : List Entry) (a : Addition) → ((w : List Entry) × Would l a w) ⊎ ((f : Fault) × Denied l a f)
some_would l (new_mailbox n a) =
    ⊎_elim (λ (m, u). inl (with_mailbox l m, (m, u, refl))) (λ (p, i). inr (list_fault IllFormedUtf8 p, ill_mailbox i)) (mailbox_cases n a)
some_would l (new_group n) =
    ⊎_elim (λ (name, u). inl (with_group l name, (name, u, refl))) (λ (p, i). inr (list_fault IllFormedUtf8 p, ill_group i)) (text_cases n)
some_would l (new_member i n a) = by (slice_get l i) refl
  where
    by : (o : Option Entry) → slice_get l i ≡ o → ((w : List Entry) × Would l (new_member i n a) w) ⊎ ((f : Fault) × Denied l (new_member i n a) f)
    by None e = inr (list_fault NoSuchEntry i, no_entry e)
    by (Some (loose m)) e = inr (list_fault NotAGroup i, no_group e)
    by (Some (group name ms)) e =
        ⊎_elim
        (λ (m, u).
        inl (set l i (group name (ms ++ m ∷ [])), (m, u, record { name = name; members = ms; only = replaced_set l i (group name ms) (group name (ms ++ m ∷ [])) e })))
        (λ (p, h). inr (list_fault IllFormedUtf8 p, ill_member e h))
        (mailbox_cases n a)

one_would : (l : List Entry) (a : Addition) (v w : List Entry) → Would l a v → Would l a w → v ≡ w
one_would l (new_mailbox n a) v w (m, t, e) (o, u, f) = cc (mailbox_well n a m t, mailbox_well n a o u)
one_would l (new_group n) v w (m, t, e) (o, u, f) = cc (text_well n m t, text_well n o u)
one_would l (new_member i n a) v w (m, t, e) (o, u, f) =
    let old : Entry = group e.name e.members in
    let now : Entry = group f.name f.members in
    cc (
      mailbox_well n a m t,
      mailbox_well n a o u,
      replaced_nth l i old e.only,
      replaced_nth l i now f.only,
      set_replaced l i old (group e.name (e.members ++ m ∷ [])) e.only,
      set_replaced l i now (group f.name (f.members ++ o ∷ [])) f.only,
    )

never_both : (l : List Entry) (a : Addition) (f : Fault) (w : List Entry) → Denied l a f → Would l a w → ⊥
never_both l a f w (no_entry {i} h) (m, u, e) =
    let z : ◌≡◌ {A = ℕ} 0 1 = cc (replaced_nth l i (group e.name e.members) e.only) in
    omega arith
never_both l a f w (no_group {i} h) (m, u, e) =
    let z : ◌≡◌ {A = ℕ} 0 1 = cc (replaced_nth l i (group e.name e.members) e.only) in
    omega arith
never_both l a f w (ill_mailbox {n = n} {a = b} i) (m, u, e) = err_ok (sym (mailbox_ill i) ∙ mailbox_well n b m u)
never_both l a f w (ill_group {n} {p} i) (m, u, e) = err_ok (sym (text_ill n p i) ∙ text_well n m u)
never_both l a f w (ill_member {n = n} {a = b} h i) (m, u, e) = err_ok (sym (mailbox_ill i) ∙ mailbox_well n b m u)

pub additions_definite : AdditionsDefinite
additions_definite l a = record { some = some_would l a; one = one_would l a; apart = never_both l a }
