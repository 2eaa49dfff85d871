-- What names and addresses give that come as bytes.
--     text_well, name_well, mailbox_well    well-formed bytes give their characters
--     text_ill, mailbox_ill                 ill-formed ones a fault at the byte
--     text_cases, mailbox_cases             they are the one or the other
-- Assumes nothing.
use Rattle.std.proofs.Common.{◌≡◌, ℕ, ◌⊎◌, List, Some, None, Ok, Err, Option, Result, refl, ap, inl, inr, ⊎_elim}
use Rattle.marks.specs.declared.fault.Ground.TheVariants.{IllFormedUtf8}
use Rattle.addresses.specs.Mailboxes.{Mailbox, mailbox}
use Rattle.addresses.specs.WellFormed.{Utf8Of, IllAt, characters_of}
use Rattle.addresses.specs.Refusals.{list_fault, ◌>>=◌}
use Rattle.addresses.specs.Additions.{or_ill, text_of, name_of, mailbox_of}
use Rattle.addresses.specs.Would.{Utf8Name, Utf8Mailbox, IllMailbox, in_name, in_address}
use Rattle.addresses.proofs.Characters.{characters_found}

pub text_well : (bs cs : List ℕ) → Utf8Of bs cs → text_of bs ≡ Ok cs
text_well bs cs u = ap or_ill (((characters_found bs).well_formed cs).1 u)

pub text_ill : (bs : List ℕ) (p : ℕ) → IllAt bs p → text_of bs ≡ Err (list_fault IllFormedUtf8 p)
text_ill bs p i = ap or_ill (((characters_found bs).ill_formed p).1 i)

pub name_well : (n name : Option (List ℕ)) → Utf8Name n name → name_of n ≡ Ok name
name_well None None u = refl
name_well None (Some cs) u = absurd u
name_well (Some bs) None u = absurd u
name_well (Some bs) (Some cs) u = ap (λ r. r >>= λ x. Ok (Some x)) (text_well bs cs u)

pub mailbox_well : (n : Option (List ℕ)) (a : List ℕ) (m : Mailbox) → Utf8Mailbox n a m → mailbox_of n a ≡ Ok m
mailbox_well n a (mailbox name address) (u, v) = rw (name_well n name u, text_well a address v)

pub mailbox_ill : {n : Option (List ℕ)} {a : List ℕ} {p : ℕ} → IllMailbox n a p → mailbox_of n a ≡ Err (list_fault IllFormedUtf8 p)
mailbox_ill (in_name {n} {a} {p} i) = rw (text_ill n p i)
mailbox_ill (in_address {n} {a} {p} (name, u) i) = rw (name_well n name u, text_ill a p i)

pub text_cases : (bs : List ℕ) → ((cs : List ℕ) × Utf8Of bs cs) ⊎ ((p : ℕ) × IllAt bs p)
text_cases bs = by (characters_of bs) refl
  where
    by : (r : Result (List ℕ) ℕ) → characters_of bs ≡ r → ((cs : List ℕ) × Utf8Of bs cs) ⊎ ((p : ℕ) × IllAt bs p)
    by (Ok cs) e = inl (cs, ((characters_found bs).well_formed cs).0 e)
    by (Err p) e = inr (p, ((characters_found bs).ill_formed p).0 e)

pub mailbox_cases : (n : Option (List ℕ)) (a : List ℕ) → ((m : Mailbox) × Utf8Mailbox n a m) ⊎ ((p : ℕ) × IllMailbox n a p)
mailbox_cases None a =
    ⊎_elim (λ (cs, u). inl (mailbox None cs, (tt, u))) (λ (p, i). inr (p, in_address (None, tt) i)) (text_cases a)
mailbox_cases (Some n) a =
    ⊎_elim
    (λ (name, t). ⊎_elim (λ (cs, u). inl (mailbox (Some name) cs, (t, u))) (λ (p, i). inr (p, in_address (Some name, t) i)) (text_cases a))
    (λ (p, i). inr (p, in_name i))
    (text_cases n)
