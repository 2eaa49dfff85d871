-- Where the written text of a proper list leads the reader.
--     Spells cs p q      the characters cs, as Chars, lead from p to q
--     spells_append      one row of characters behind another
--     admits             a mailbox with an `@`, within the limits, is finished
--     bare_spells        a bare address leads from Initial to Unquoted, with nothing but it in hand
--     behind_mailbox, mailbox_spells    the text of a mailbox leads to where the mailbox is finished or is in hand
--     written_spells     the written text leads from the start to where the list is accepted
-- Assumes nothing.
use Rattle.std.proofs.Common.{◌≡◌, ℕ, ◌≤◌, Bool, true, false, cond, not, ◌&&◌, ◌||◌, eqb, ◌⊎◌, List, [], ◌∷◌, ◌++◌, map, length, Some, None, Ok, Err, Option, sym, refl, ap, ◌∙◌, subst, inl, inr}
use mathlib.Core.Bool.{false≢true}
use Rattle.std.proofs.Math.Bool.{or-false}
use Rattle.std.proofs.lemmas.List.{append-nil, append_assoc}
use Rattle.std.proofs.lemmas.Bool.{le-leb, and_parts, and_from, or_parts, not-true, cond-true, cond-false}
use Rattle.std.specs.List.{AllByRecursion as Every}
use Rattle.characters.specs.WhiteSpace.{among, white}
use Rattle.marks.specs.declared.mark.Mark.{Mark}
use Rattle.marks.specs.declared.mark.Mark.TheVariants.{Char}
use Rattle.marks.specs.declared.fault.Ground.TheVariants.{AddressWithoutAt, FullList}
use Rattle.addresses.specs.Signs.{space, quote, open_paren, comma, colon, semicolon, open_bracket, close_bracket, at_sign, backslash}
use Rattle.addresses.specs.Mailboxes.{Mailbox, mailbox, Entry, loose, group}
use Rattle.addresses.specs.Limits.{short, Within, within}
use Rattle.addresses.specs.Trim.{ends_white}
use Rattle.addresses.specs.Bare.{begins, follows, follow, bare}
use Rattle.addresses.specs.Machine.{State, Initial, QuotedName, EscapedChar, AfterQuotedName, BracketedAddr, AfterBracketedAddr, Unquoted, to, finish, finish_and_close, signs, other, act}
use Rattle.addresses.specs.Steps.{SoFar, outside, inside, whole, finished, Standing, at, start, fits, too_long, holds_at, admitted, apply, step, ending}
use Rattle.addresses.specs.Reading.{Leads, stays, moves}
use Rattle.addresses.specs.Written.{escape, escaped, quoted, bracketed, mailbox_text, behind_first, members_text, entry_text, written}
use Rattle.addresses.specs.Proper.{ProperBox, ProperMailbox, ProperEntry, Proper}
use Rattle.addresses.proofs.Rows.{among_push, unlike, short_front}
use Rattle.addresses.proofs.Trimming.{bare_tidy}
use Rattle.addresses.proofs.Within.{within_true, within_front, within_members}
use Rattle.addresses.proofs.Tables.{pick_other}

abbrev pub Spells : List ℕ → Standing → Standing → Type 0
Spells cs p q = Leads (map Char cs) p q

pub spells_append : (xs ys : List ℕ) {p q r : Standing} → Spells xs p q → Spells ys q r → Spells (xs ++ ys) p r
spells_append [] ys stays b = b
spells_append (x ∷ xs) ys (moves e a) b = moves e (spells_append xs ys a b)

spells_assoc : (xs ys zs : List ℕ) {p q : Standing} → Spells (xs ++ (ys ++ zs)) p q → Spells ((xs ++ ys) ++ zs) p q
spells_assoc xs ys zs {p} {q} a = subst (λ cs. Spells cs p q) (sym (append_assoc xs ys zs)) a

-- ── one step ──

goes : (s s' : State) (l : SoFar) (m : Mark) → act s m ≡ to s' → fits s' ≡ true → step (at s l) m ≡ Ok (at s' l)
goes s s' l m e f = ap (apply l) e ∙ cond-true (fits s') (Ok (at s' l)) (Err (too_long s')) f

pub admits : {X : Type 0} (m : Mailbox) (es : List Entry) (x : X) → holds_at m ≡ true → within es ≡ true → admitted m es x ≡ Ok x
admits m es x h f = cond-true (holds_at m) _ (Err AddressWithoutAt) h ∙ cond-true (within es) (Ok x) (Err FullList) f

-- ── a quoted name ──

escape_spells : (c : ℕ) (n : List ℕ) (l : SoFar) → short n ≡ true → short (n ++ c ∷ []) ≡ true → Spells (escape c) (at (QuotedName n) l) (at (QuotedName (n ++ c ∷ [])) l)
escape_spells c n l f f' = by (among c (backslash ∷ quote ∷ [])) refl
  where
    by : (b : Bool) → among c (backslash ∷ quote ∷ []) ≡ b → Spells (cond b (backslash ∷ c ∷ []) (c ∷ [])) (at (QuotedName n) l) (at (QuotedName (n ++ c ∷ [])) l)
    by true e =
        moves (goes (QuotedName n) (EscapedChar n) l (Char backslash) refl f)
        (moves (goes (EscapedChar n) (QuotedName (n ++ c ∷ [])) l (Char c) refl f') stays)
    by false e = moves (goes (QuotedName n) (QuotedName (n ++ c ∷ [])) l (Char c) (pick_other c (signs (QuotedName n)) (other (QuotedName n) c) e) f') stays

-- n is there already
escaped_spells : (n cs : List ℕ) (l : SoFar) → length (n ++ cs) ≤ 2000 → Spells (escaped cs) (at (QuotedName n) l) (at (QuotedName (n ++ cs)) l)
escaped_spells n [] l h = subst (λ xs. Spells [] (at (QuotedName n) l) (at (QuotedName xs) l)) (sym (append-nil n)) stays
escaped_spells n (c ∷ cs) l h =
    let join = append_assoc n (c ∷ []) cs in
    let h' : length ((n ++ c ∷ []) ++ cs) ≤ 2000 = subst (λ xs. length xs ≤ 2000) (sym join) h in
    subst (λ xs. Spells (escaped (c ∷ cs)) (at (QuotedName n) l) (at (QuotedName xs) l)) join
    (spells_append (escape c) (escaped cs) (escape_spells c n l (short_front n (c ∷ cs) h) (short_front (n ++ c ∷ []) cs h')) (escaped_spells (n ++ c ∷ []) cs l h'))

quoted_spells : (n : List ℕ) (l : SoFar) → length n ≤ 2000 → Spells (quoted n) (at Initial l) (at (AfterQuotedName n []) l)
quoted_spells n l h =
    let f = le-leb (length n) 2000 h in
    moves (goes Initial (QuotedName []) l (Char quote) refl refl)
    (spells_append (escaped n) (quote ∷ []) (escaped_spells [] n l h)
    (moves (goes (QuotedName n) (AfterQuotedName n []) l (Char quote) refl (and_from (short n) true f refl)) stays))

-- ── an address in brackets ──

within_brackets : (n : Option (List ℕ)) (a cs : List ℕ) (l : SoFar) → among close_bracket cs ≡ false → length (a ++ cs) ≤ 2000 → Spells cs (at (BracketedAddr n a) l) (at (BracketedAddr n (a ++ cs)) l)
within_brackets n a [] l e h = subst (λ xs. Spells [] (at (BracketedAddr n a) l) (at (BracketedAddr n xs) l)) (sym (append-nil a)) stays
within_brackets n a (c ∷ cs) l e h =
    let join = append_assoc a (c ∷ []) cs in
    let h' : length ((a ++ c ∷ []) ++ cs) ≤ 2000 = subst (λ xs. length xs ≤ 2000) (sym join) h in
    let p = or_parts (eqb close_bracket c) (among close_bracket cs) e in
    let joins = cond-false (eqb c close_bracket) (finish (mailbox n a) AfterBracketedAddr) (to (BracketedAddr n (a ++ c ∷ []))) (unlike close_bracket c p.0) in
    subst (λ xs. Spells (c ∷ cs) (at (BracketedAddr n a) l) (at (BracketedAddr n xs) l)) join
    (moves (goes (BracketedAddr n a) (BracketedAddr n (a ++ c ∷ [])) l (Char c) joins (short_front (a ++ c ∷ []) cs h')) (within_brackets n (a ++ c ∷ []) cs l p.1 h'))

bracketed_spells : (n : Option (List ℕ)) (a : List ℕ) (l : SoFar) → among close_bracket a ≡ false → length a ≤ 2000 → among at_sign a ≡ true → within (whole (finished (mailbox n a) l)) ≡ true
    → Spells (a ++ close_bracket ∷ []) (at (BracketedAddr n []) l) (at AfterBracketedAddr (finished (mailbox n a) l))
bracketed_spells n a l e h k f =
    spells_append a (close_bracket ∷ []) (within_brackets n [] a l e h)
    (moves (admits (mailbox n a) (whole (finished (mailbox n a) l)) (at AfterBracketedAddr (finished (mailbox n a) l)) k f) stays)

-- ── a bare address ──

unquoted_joins : (a : List ℕ) (c : ℕ) → follows (among at_sign a) c ≡ true → act (Unquoted a) (Char c) ≡ to (Unquoted (a ++ c ∷ []))
unquoted_joins a c e =
    let p = and_parts (not (among c (open_bracket ∷ comma ∷ semicolon ∷ open_paren ∷ []))) (not (eqb c colon && not (among at_sign a))) e in
    pick_other c (signs (Unquoted a)) (other (Unquoted a) c) (not-true _ p.0) ∙ cond-false (eqb c colon && not (among at_sign a)) _ _ (not-true _ p.1)

unquoted_spells : (a cs : List ℕ) (l : SoFar) → follow (among at_sign a) cs ≡ true → length (a ++ cs) ≤ 2000 → Spells cs (at (Unquoted a) l) (at (Unquoted (a ++ cs)) l)
unquoted_spells a [] l e h = subst (λ xs. Spells [] (at (Unquoted a) l) (at (Unquoted xs) l)) (sym (append-nil a)) stays
unquoted_spells a (c ∷ cs) l e h =
    let join = append_assoc a (c ∷ []) cs in
    let h' : length ((a ++ c ∷ []) ++ cs) ≤ 2000 = subst (λ xs. length xs ≤ 2000) (sym join) h in
    let p = and_parts (follows (among at_sign a) c) (follow (among at_sign a || eqb at_sign c) cs) e in
    let e' : follow (among at_sign (a ++ c ∷ [])) cs ≡ true = subst (λ b. follow b cs ≡ true) (sym (among_push at_sign c a)) p.1 in
    subst (λ xs. Spells (c ∷ cs) (at (Unquoted a) l) (at (Unquoted xs) l)) join
    (moves (goes (Unquoted a) (Unquoted (a ++ c ∷ [])) l (Char c) (unquoted_joins a c p.0) (short_front (a ++ c ∷ []) cs h')) (unquoted_spells (a ++ c ∷ []) cs l e' h'))

initial_begins : (c : ℕ) → begins c ≡ true → act Initial (Char c) ≡ to (Unquoted (c ∷ []))
initial_begins c e =
    let p = and_parts (not (among c (comma ∷ quote ∷ open_bracket ∷ semicolon ∷ open_paren ∷ []))) (not (white c)) e in
    pick_other c (signs Initial) (other Initial c) (not-true _ p.0) ∙ cond-false (white c) _ _ (not-true _ p.1)

pub bare_spells : (a : List ℕ) (l : SoFar) → bare a ≡ true → length a ≤ 2000 → Spells a (at Initial l) (at (Unquoted a) l)
bare_spells [] l e h = absurd (false≢true e)
bare_spells (c ∷ cs) l e h =
    let p = and_parts (begins c) (follow (eqb at_sign c) cs && not (ends_white (c ∷ cs))) e in
    let q = and_parts (follow (eqb at_sign c) cs) (not (ends_white (c ∷ cs))) p.1 in
    let f : follow (among at_sign (c ∷ [])) cs ≡ true = subst (λ b. follow b cs ≡ true) (sym (or-false (eqb at_sign c))) q.0 in
    moves (goes Initial (Unquoted (c ∷ [])) l (Char c) (initial_begins c p.0) (short_front (c ∷ []) cs h)) (unquoted_spells (c ∷ []) cs l f h)

-- ── a mailbox ──

-- Where a mailbox's text leads. A bare address is in hand there, and finished only by what comes next.
abbrev pub behind_mailbox : Mailbox → SoFar → Standing
behind_mailbox (mailbox (Some n) a) l = at AfterBracketedAddr (finished (mailbox (Some n) a) l)
behind_mailbox (mailbox None a) l = cond (bare a) (at (Unquoted a) l) (at AfterBracketedAddr (finished (mailbox None a) l))

space_white : white space ≡ true
unfolding white
space_white = refl

named_spells : (n a : List ℕ) (l : SoFar) → ProperBox (Some n) a → within (whole (finished (mailbox (Some n) a) l)) ≡ true → Spells (mailbox_text (mailbox (Some n) a)) (at Initial l) (at AfterBracketedAddr (finished (mailbox (Some n) a) l))
named_spells n a l p f =
    let h = le-leb (length n) 2000 p.name.few in
    let waits : act (AfterQuotedName n []) (Char space) ≡ to (AfterQuotedName n (space ∷ [])) = cond-true (white space) _ _ space_white in
    spells_append (quoted n) (space ∷ bracketed a) (quoted_spells n l p.name.few)
    (moves (goes (AfterQuotedName n []) (AfterQuotedName n (space ∷ [])) l (Char space) waits (and_from (short n) true h refl))
    (moves (goes (AfterQuotedName n (space ∷ [])) (BracketedAddr (Some n) []) l (Char open_bracket) refl refl)
    (bracketed_spells (Some n) a l p.writable p.address.few p.has_at f)))

pub mailbox_spells : (m : Mailbox) (l : SoFar) → ProperMailbox m → within (whole (finished m l)) ≡ true → Spells (mailbox_text m) (at Initial l) (behind_mailbox m l)
mailbox_spells (mailbox (Some n) a) l p f = named_spells n a l p f
mailbox_spells (mailbox None a) l p f = by (bare a) refl p.writable
  where
    by : (b : Bool) → bare a ≡ b → (among close_bracket a ≡ false) ⊎ (bare a ≡ true) → Spells (cond b a (bracketed a)) (at Initial l) (cond b (at (Unquoted a) l) (at AfterBracketedAddr (finished (mailbox None a) l)))
    by true e w = bare_spells a l e p.address.few
    by false e (inr w) = absurd (false≢true (sym e ∙ w))
    by false e (inl w) =
        moves (goes Initial (BracketedAddr None []) l (Char open_bracket) refl refl) (bracketed_spells None a l w p.address.few p.has_at f)

-- What may come next, where a bare address is in hand: trimming takes nothing off.
module _ (a : List ℕ) (l : SoFar) (k : among at_sign a ≡ true) (f : within (whole (finished (mailbox None a) l)) ≡ true) where
  bare_comma : bare a ≡ true → step (at (Unquoted a) l) (Char comma) ≡ Ok (at Initial (finished (mailbox None a) l))
  bare_comma e =
      ap (λ b. apply l (finish (mailbox None b) Initial)) (bare_tidy a e)
      ∙ admits (mailbox None a) (whole (finished (mailbox None a) l)) (at Initial (finished (mailbox None a) l)) k f

  bare_semicolon : bare a ≡ true → step (at (Unquoted a) l) (Char semicolon) ≡ Ok (at Initial (outside (whole (finished (mailbox None a) l))))
  bare_semicolon e =
      ap (λ b. apply l (finish_and_close (mailbox None b))) (bare_tidy a e)
      ∙ admits (mailbox None a) (whole (finished (mailbox None a) l)) (at Initial (outside (whole (finished (mailbox None a) l)))) k f

comma_behind : (m : Mailbox) (l : SoFar) → ProperMailbox m → within (whole (finished m l)) ≡ true → step (behind_mailbox m l) (Char comma) ≡ Ok (at Initial (finished m l))
comma_behind (mailbox (Some n) a) l p f = refl
comma_behind (mailbox None a) l p f = by (bare a) refl
  where
    by : (b : Bool) → bare a ≡ b → step (cond b (at (Unquoted a) l) (at AfterBracketedAddr (finished (mailbox None a) l))) (Char comma) ≡ Ok (at Initial (finished (mailbox None a) l))
    by true e = bare_comma a l p.has_at f e
    by false e = refl

semicolon_behind : (m : Mailbox) (l : SoFar) → ProperMailbox m → within (whole (finished m l)) ≡ true → step (behind_mailbox m l) (Char semicolon) ≡ Ok (at Initial (outside (whole (finished m l))))
semicolon_behind (mailbox (Some n) a) l p f = refl
semicolon_behind (mailbox None a) l p f = by (bare a) refl
  where
    by : (b : Bool) → bare a ≡ b → step (cond b (at (Unquoted a) l) (at AfterBracketedAddr (finished (mailbox None a) l))) (Char semicolon) ≡ Ok (at Initial (outside (whole (finished (mailbox None a) l))))
    by true e = bare_semicolon a l p.has_at f e
    by false e = refl

end_behind : (m : Mailbox) (es : List Entry) → ProperMailbox m → within (es ++ loose m ∷ []) ≡ true → ending (behind_mailbox m (outside es)) ≡ Ok (es ++ loose m ∷ [])
end_behind (mailbox (Some n) a) es p f = refl
end_behind (mailbox None a) es p f = by (bare a) refl
  where
    by : (b : Bool) → bare a ≡ b → ending (cond b (at (Unquoted a) (outside es)) (at AfterBracketedAddr (outside (es ++ loose (mailbox None a) ∷ [])))) ≡ Ok (es ++ loose (mailbox None a) ∷ [])
    by true e =
        ap (λ b. admitted (mailbox None b) (es ++ loose (mailbox None b) ∷ []) (es ++ loose (mailbox None b) ∷ [])) (bare_tidy a e)
        ∙ admits (mailbox None a) (es ++ loose (mailbox None a) ∷ []) (es ++ loose (mailbox None a) ∷ []) p.has_at f
    by false e = refl

-- ── a group ──

space_skips : (l : SoFar) → step (at Initial l) (Char space) ≡ Ok (at Initial l)
space_skips l = goes Initial Initial l (Char space) (cond-true (white space) _ _ space_white) refl

-- behind the member m come those that are left, and the semicolon
members_spell : (left : List Mailbox) (m : Mailbox) (ms : List Mailbox) (es : List Entry) (n : List ℕ)
    → ProperMailbox m → Every ProperMailbox left → Within (es ++ group n (ms ++ m ∷ left) ∷ [])
    → Spells (behind_first mailbox_text left ++ semicolon ∷ []) (behind_mailbox m (inside es n ms)) (at Initial (outside (es ++ group n (ms ++ m ∷ left) ∷ [])))
members_spell [] m ms es n p ps f = moves (semicolon_behind m (inside es n ms) p (within_true (es ++ group n (ms ++ m ∷ []) ∷ []) f)) stays
members_spell (x ∷ left) m ms es n p ps f =
    let join = append_assoc ms (m ∷ []) (x ∷ left) in
    let f' : Within (es ++ group n ((ms ++ m ∷ []) ++ x ∷ left) ∷ []) = subst (λ ks. Within (es ++ group n ks ∷ [])) (sym join) f in
    let g' : Within (es ++ group n (((ms ++ m ∷ []) ++ x ∷ []) ++ left) ∷ []) = subst (λ ks. Within (es ++ group n ks ∷ [])) (sym (append_assoc (ms ++ m ∷ []) (x ∷ []) left)) f' in
    let here = within_true (es ++ group n (ms ++ m ∷ []) ∷ []) (within_members es n (ms ++ m ∷ []) (x ∷ left) f') in
    let there = within_true (es ++ group n ((ms ++ m ∷ []) ++ x ∷ []) ∷ []) (within_members es n ((ms ++ m ∷ []) ++ x ∷ []) left g') in
    moves (comma_behind m (inside es n ms) p here)
    (moves (space_skips (inside es n (ms ++ m ∷ [])))
    (spells_assoc (mailbox_text x) (behind_first mailbox_text left) (semicolon ∷ [])
    (spells_append (mailbox_text x) (behind_first mailbox_text left ++ semicolon ∷ []) (mailbox_spells x (inside es n (ms ++ m ∷ [])) ps.0 there)
    (subst (λ ks. Spells (behind_first mailbox_text left ++ semicolon ∷ []) (behind_mailbox x (inside es n (ms ++ m ∷ []))) (at Initial (outside (es ++ group n ks ∷ [])))) join
    (members_spell left x (ms ++ m ∷ []) es n ps.0 ps.1 f')))))

opens : (es : List Entry) (n : List ℕ) → within (es ++ group n [] ∷ []) ≡ true → step (at (AfterQuotedName n []) (outside es)) (Char colon) ≡ Ok (at Initial (inside es n []))
opens es n f = cond-true (within (es ++ group n [] ∷ [])) (Ok (at Initial (inside es n []))) (Err FullList) f

rest_of_group : (n : List ℕ) (ms : List Mailbox) (es : List Entry) → Every ProperMailbox ms → Within (es ++ group n ms ∷ [])
    → Spells (colon ∷ members_text ms ++ semicolon ∷ []) (at (AfterQuotedName n []) (outside es)) (at Initial (outside (es ++ group n ms ∷ [])))
rest_of_group n [] es p f = moves (opens es n (within_true (es ++ group n [] ∷ []) f)) (moves refl stays)
rest_of_group n (m ∷ ms) es p f =
    let none = within_true (es ++ group n [] ∷ []) (within_members es n [] (m ∷ ms) f) in
    let one = within_true (es ++ group n (m ∷ []) ∷ []) (within_members es n (m ∷ []) ms f) in
    moves (opens es n none)
    (moves (space_skips (inside es n []))
    (spells_assoc (mailbox_text m) (behind_first mailbox_text ms) (semicolon ∷ [])
    (spells_append (mailbox_text m) (behind_first mailbox_text ms ++ semicolon ∷ []) (mailbox_spells m (inside es n []) p.0 one)
    (members_spell ms m [] es n p.0 p.1 f))))

-- ── a list ──

abbrev pub behind_entry : Entry → List Entry → Standing
behind_entry (loose m) es = behind_mailbox m (outside es)
behind_entry (group n ms) es = at Initial (outside (es ++ group n ms ∷ []))

pub entry_spells : (e : Entry) (es : List Entry) → ProperEntry e → Within (es ++ e ∷ []) → Spells (entry_text e) (at Initial (outside es)) (behind_entry e es)
entry_spells (loose m) es p f = mailbox_spells m (outside es) p (within_true (es ++ loose m ∷ []) f)
entry_spells (group n ms) es p f =
    spells_assoc (quoted n) (colon ∷ members_text ms) (semicolon ∷ [])
    (spells_append (quoted n) (colon ∷ members_text ms ++ semicolon ∷ []) (quoted_spells n (outside es) p.name.few) (rest_of_group n ms es p.members f))

comma_behind_entry : (e : Entry) (es : List Entry) → ProperEntry e → Within (es ++ e ∷ []) → step (behind_entry e es) (Char comma) ≡ Ok (at Initial (outside (es ++ e ∷ [])))
comma_behind_entry (loose m) es p f = comma_behind m (outside es) p (within_true (es ++ loose m ∷ []) f)
comma_behind_entry (group n ms) es p f = refl

end_behind_entry : (e : Entry) (es : List Entry) → ProperEntry e → Within (es ++ e ∷ []) → ending (behind_entry e es) ≡ Ok (es ++ e ∷ [])
end_behind_entry (loose m) es p f = end_behind m es p (within_true (es ++ loose m ∷ []) f)
end_behind_entry (group n ms) es p f = refl

-- the characters lead from p to where the list l is accepted
abbrev pub GivesList : List ℕ → Standing → List Entry → Type 0
GivesList cs p l = (q : Standing) × Spells cs p q × (ending q ≡ Ok l)

-- behind the entry e come those that are left
entries_spell : (left : List Entry) (e : Entry) (es : List Entry) → ProperEntry e → Every ProperEntry left → Within (es ++ e ∷ left) → GivesList (behind_first entry_text left) (behind_entry e es) (es ++ e ∷ left)
entries_spell [] e es p ps f = (behind_entry e es, stays, end_behind_entry e es p f)
entries_spell (x ∷ left) e es p ps f =
    let join = append_assoc es (e ∷ []) (x ∷ left) in
    let f' : Within ((es ++ e ∷ []) ++ x ∷ left) = subst Within (sym join) f in
    let g' : Within (((es ++ e ∷ []) ++ x ∷ []) ++ left) = subst Within (sym (append_assoc (es ++ e ∷ []) (x ∷ []) left)) f' in
    let here = within_front (es ++ e ∷ []) (x ∷ left) f' in
    let there = within_front ((es ++ e ∷ []) ++ x ∷ []) left g' in
    let (q, a, d) = entries_spell left x (es ++ e ∷ []) ps.0 ps.1 f' in (
      q,
      moves (comma_behind_entry e es p here)
          (moves (space_skips (outside (es ++ e ∷ [])))
          (spells_append (entry_text x) (behind_first entry_text left) (entry_spells x (es ++ e ∷ []) ps.0 there) a)),
      d ∙ ap Ok join,
    )

pub written_spells : (l : List Entry) → Proper l → GivesList (written l) start l
unfolding written
written_spells [] p = (start, stays, refl)
written_spells (e ∷ l) p =
    let (q, a, d) = entries_spell l e [] p.entries.0 p.entries.1 p.limits in
    (q, spells_append (entry_text e) (behind_first entry_text l) (entry_spells e [] p.entries.0 (within_front (e ∷ []) l p.limits)) a, d)
