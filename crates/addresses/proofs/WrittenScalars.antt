-- What a proper list is written as are Unicode scalar values. Assumes nothing.
use Rattle.std.proofs.Common.{◌≡◌, ℕ, true, List, [], ◌∷◌, ◌++◌, Some, None, refl}
use lib.Utf8.{scalar, scalars}
use Rattle.std.proofs.lemmas.Bool.{and_parts, and_from, cond_both}
use Rattle.std.specs.List.{AllByRecursion as Every}
use Rattle.characters.specs.WhiteSpace.{among}
use Rattle.addresses.specs.Signs.{space, quote, colon, semicolon, close_bracket, backslash}
use Rattle.addresses.specs.Mailboxes.{Mailbox, mailbox, Entry, loose, group}
use Rattle.addresses.specs.Bare.{bare}
use Rattle.addresses.specs.Written.{escape, escaped, quoted, bracketed, mailbox_text, behind_first, members_text, entry_text, written}
use Rattle.addresses.specs.Proper.{ProperMailbox, ProperEntry}
use Rattle.addresses.proofs.Rows.{scalars_append}

scalars_escaped : (n : List ℕ) → scalars n ≡ true → scalars (escaped n) ≡ true
scalars_escaped [] e = refl
scalars_escaped (c ∷ n) e =
    let r = and_parts (scalar c) (scalars n) e in
    let one = and_from (scalar c) true r.0 refl in
    scalars_append (escape c) (escaped n)
    (cond_both (among c (backslash ∷ quote ∷ [])) (backslash ∷ c ∷ []) (c ∷ []) (λ x. scalars x ≡ true) (λ _. one) (λ _. one))
    (scalars_escaped n r.1)

scalars_quoted : (n : List ℕ) → scalars n ≡ true → scalars (quoted n) ≡ true
scalars_quoted n e = scalars_append (escaped n) (quote ∷ []) (scalars_escaped n e) refl

scalars_bracketed : (a : List ℕ) → scalars a ≡ true → scalars (bracketed a) ≡ true
scalars_bracketed a e = scalars_append a (close_bracket ∷ []) e refl

scalars_mailbox : (m : Mailbox) → ProperMailbox m → scalars (mailbox_text m) ≡ true
scalars_mailbox (mailbox (Some n) a) p =
    scalars_append (quoted n) (space ∷ bracketed a) (scalars_quoted n p.name.scalar) (scalars_bracketed a p.address.scalar)
scalars_mailbox (mailbox None a) p =
    cond_both (bare a) a (bracketed a) (λ x. scalars x ≡ true) (λ _. p.address.scalar) (λ _. scalars_bracketed a p.address.scalar)

scalars_behind : {X : Type 0} (P : X → Type 0) (f : X → List ℕ) → ((x : X) → P x → scalars (f x) ≡ true) → (xs : List X) → Every P xs → scalars (behind_first f xs) ≡ true
scalars_behind P f h [] p = refl
scalars_behind P f h (x ∷ xs) p = scalars_append (f x) (behind_first f xs) (h x p.0) (scalars_behind P f h xs p.1)

scalars_members : (ms : List Mailbox) → Every ProperMailbox ms → scalars (members_text ms) ≡ true
scalars_members [] p = refl
scalars_members (m ∷ ms) p =
    scalars_append (mailbox_text m) (behind_first mailbox_text ms) (scalars_mailbox m p.0) (scalars_behind ProperMailbox mailbox_text scalars_mailbox ms p.1)

scalars_entry : (e : Entry) → ProperEntry e → scalars (entry_text e) ≡ true
scalars_entry (loose m) p = scalars_mailbox m p
scalars_entry (group n ms) p =
    scalars_append (quoted n ++ colon ∷ members_text ms) (semicolon ∷ [])
    (scalars_append (quoted n) (colon ∷ members_text ms) (scalars_quoted n p.name.scalar) (scalars_members ms p.members))
    refl

pub scalars_written : (l : List Entry) → Every ProperEntry l → scalars (written l) ≡ true
unfolding written
scalars_written [] p = refl
scalars_written (e ∷ l) p =
    scalars_append (entry_text e) (behind_first entry_text l) (scalars_entry e p.0) (scalars_behind ProperEntry entry_text scalars_entry l p.1)
