-- How many bytes a list is written as: 4 for a character, 7 for a mailbox and 7 for a group at most. Assumes nothing.
use Rattle.std.proofs.Common.{◌≡◌, ℕ, ◌+◌, ◌*◌, ◌≤◌, true, eqb, List, [], ◌∷◌, ◌++◌, length, Some, None, sum_by, sym, subst, ⊎_elim, arith}
use lib.Utf8.{encode, encodes}
use Rattle.std.proofs.Math.Bool.{or-false}
use Rattle.std.proofs.lemmas.List.{length-append}
use Rattle.std.proofs.lemmas.List.Sums.{sum_by-cons}
use Rattle.std.proofs.lemmas.Bool.{or_cases, eqb-true, cond_both}
use Rattle.std.proofs.lemmas.Str.{encodes-append, length-encode, len_utf8_bounds}
use Rattle.characters.specs.WhiteSpace.{among}
use Rattle.addresses.specs.Signs.{space, quote, colon, semicolon, close_bracket, backslash}
use Rattle.addresses.specs.Mailboxes.{Mailbox, mailbox, Entry, loose, group, mailbox_length, mailboxes_in, groups_in, characters_in, mailboxes, groups, characters}
use Rattle.addresses.specs.Limits.{Within}
use Rattle.addresses.specs.Bare.{bare}
use Rattle.addresses.specs.Written.{escape, escaped, quoted, bracketed, mailbox_text, behind_first, members_text, entry_text, written}

abbrev bytes : List ℕ → ℕ
bytes cs = length (encodes cs)

bytes_append : (xs ys : List ℕ) → bytes (xs ++ ys) ≡ bytes xs + bytes ys
bytes_append xs ys = rw (encodes-append xs ys) (length-append (encodes xs) (encodes ys))

bytes_cons : (c : ℕ) (xs : List ℕ) → bytes (c ∷ xs) ≤ 4 + bytes xs
bytes_cons c xs = omega (arith, length-append (encode c) (encodes xs), length-encode c, len_utf8_bounds c)

bytes_four : (xs : List ℕ) → bytes xs ≤ 4 * length xs
bytes_four [] = omega arith
bytes_four (c ∷ xs) = omega (arith, bytes_cons c xs, bytes_four xs)

-- a character that is escaped is ASCII, so that two bytes are written of it
escaped_ascii : (c : ℕ) → among c (backslash ∷ quote ∷ []) ≡ true → bytes (backslash ∷ c ∷ []) ≤ 4
unfolding encode
escaped_ascii c e =
    let P : ℕ → Type 0 = λ x. bytes (backslash ∷ x ∷ []) ≤ 4 in
    ⊎_elim (λ h. subst P (sym (eqb-true c backslash h)) (omega arith)) (λ h. subst P (sym (eqb-true c quote (rw or-false at h))) (omega arith))
    (or_cases (eqb c backslash) _ e)

bytes_escape : (c : ℕ) → bytes (escape c) ≤ 4
bytes_escape c = cond_both (among c (backslash ∷ quote ∷ [])) _ _ (λ x. bytes x ≤ 4) (escaped_ascii c) (λ _. omega (arith, bytes_four (c ∷ [])))

bytes_escaped : (n : List ℕ) → bytes (escaped n) ≤ 4 * length n
bytes_escaped [] = omega arith
bytes_escaped (c ∷ n) = omega (arith, bytes_escaped n, bytes_escape c, bytes_append (escape c) (escaped n))

bytes_quoted : (n : List ℕ) → bytes (quoted n) ≤ 4 * length n + 2
unfolding encode
bytes_quoted n = omega (arith, bytes_escaped n, bytes_append (escaped n) (quote ∷ []))

bytes_bracketed : (a : List ℕ) → bytes (bracketed a) ≤ 4 * length a + 2
unfolding encode
bytes_bracketed a = omega (arith, bytes_four a, bytes_append a (close_bracket ∷ []))

bytes_mailbox : (m : Mailbox) → bytes (mailbox_text m) ≤ 4 * mailbox_length m + 5
unfolding encode
bytes_mailbox (mailbox (Some n) a) = omega (arith, bytes_quoted n, bytes_bracketed a, bytes_append (quoted n) (space ∷ bracketed a))
bytes_mailbox (mailbox None a) =
    cond_both (bare a) a (bracketed a) (λ x. bytes x ≤ 4 * (0 + length a) + 5) (λ _. omega (arith, bytes_four a)) (λ _. omega (arith, bytes_bracketed a))

bytes_members : (ms : List Mailbox) → bytes (behind_first mailbox_text ms) ≤ 4 * sum_by mailbox_length ms + 7 * length ms
unfolding encode
bytes_members [] = omega arith
bytes_members (m ∷ ms) =
    omega (arith, bytes_members ms, bytes_mailbox m, bytes_append (mailbox_text m) (behind_first mailbox_text ms), sum_by-cons mailbox_length m ms)

-- with a separator
bytes_entry : (e : Entry) → bytes (entry_text e) + 2 ≤ 4 * characters_in e + 7 * mailboxes_in e + 7 * groups_in e
unfolding encode
bytes_entry (loose m) = omega (arith, bytes_mailbox m)
bytes_entry (group n []) = omega (arith, bytes_quoted n, bytes_append (quoted n ++ colon ∷ []) (semicolon ∷ []), bytes_append (quoted n) (colon ∷ []))
bytes_entry (group n (m ∷ ms)) =
    omega (
      arith,
      bytes_quoted n,
      bytes_members ms,
      bytes_mailbox m,
      bytes_append (quoted n ++ colon ∷ members_text (m ∷ ms)) (semicolon ∷ []),
      bytes_append (quoted n) (colon ∷ members_text (m ∷ ms)),
      bytes_append (mailbox_text m) (behind_first mailbox_text ms),
      sum_by-cons mailbox_length m ms,
    )

bytes_entries : (es : List Entry) → bytes (behind_first entry_text es) ≤ 4 * characters es + 7 * mailboxes es + 7 * groups es
unfolding encode
bytes_entries [] = omega arith
bytes_entries (e ∷ es) =
    omega (
      arith,
      bytes_entries es,
      bytes_entry e,
      bytes_append (entry_text e) (behind_first entry_text es),
      sum_by-cons characters_in e es,
      sum_by-cons mailboxes_in e es,
      sum_by-cons groups_in e es,
    )

pub bytes_written : (l : List Entry) → Within l → bytes (written l) ≤ 35008
unfolding written
bytes_written [] f = omega arith
bytes_written (e ∷ l) f =
    omega (
      arith,
      bytes_entries l,
      bytes_entry e,
      bytes_append (entry_text e) (behind_first entry_text l),
      sum_by-cons characters_in e l,
      sum_by-cons mailboxes_in e l,
      sum_by-cons groups_in e l,
    )
