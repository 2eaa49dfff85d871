-- Whatever is read is proper: what each state keeps of what it has in hand, and that each mark keeps it.
--     Good s            what the state s has in hand could become part of a proper list
--     GoodStanding p    the same of the state, and the list read so far is proper
--     leads_good        proper marks keep it
--     ending_good       what a read accepts is then proper
-- Assumes nothing.
use Rattle.std.proofs.Common.{◌≡◌, ℕ, Bool, true, false, not, ◌&&◌, ◌||◌, eqb, ltb, leb, List, [], ◌∷◌, ◌++◌, map, length, Some, None, Ok, Err, Option, Result, sym, refl, subst, inl, inr, arith}
use lib.Utf8.{scalar, scalars}
use Rattle.std.proofs.Math.Bool.{or-false, or_assoc}
use Rattle.std.proofs.ByRecursion.{All-push}
use Rattle.std.proofs.lemmas.Bool.{leb-true, and_parts, and_from, or_parts, not-true, not_from_false, cond_both}
use Rattle.std.specs.List.{AllByRecursion as Every}
use Rattle.characters.specs.WhiteSpace.{among, white}
use Rattle.characters.proofs.Ranges.{white_scalar}
use Rattle.marks.specs.declared.mark.Mark.{Mark}
use Rattle.marks.specs.declared.mark.Mark.TheVariants.{Char, Blank, LineEnd, Word, WordChar}
use Rattle.marks.specs.declared.fault.Ground.{Ground}
use Rattle.marks.specs.Proper.{proper, all_proper, AllProper}
use Rattle.addresses.specs.Signs.{quote, open_paren, comma, colon, semicolon, open_bracket, close_bracket, at_sign}
use Rattle.addresses.specs.Mailboxes.{Mailbox, mailbox, Entry, loose, group}
use Rattle.addresses.specs.Limits.{short, deepest, within}
use Rattle.addresses.specs.Trim.{trim, ends_white}
use Rattle.addresses.specs.Bare.{begins, follows, follow, bare}
use Rattle.addresses.specs.Machine.{State, Initial, QuotedName, EscapedChar, AfterQuotedName, BracketedAddr, AfterBracketedAddr, Unquoted, NameWithEncodedWord, Comment, CommentEscapedChar, Act, to, finish, finish_and_close, open_group, close_group, close_if_open, refuse, signs, other, at_blank, at_word, at_word_char, act}
use Rattle.addresses.specs.Steps.{SoFar, outside, inside, whole, finished, Standing, at, start, fits, holds_at, admitted, apply, step, ending}
use Rattle.addresses.specs.Reading.{Leads, stays, moves}
use Rattle.addresses.specs.Proper.{Part, PartName, ProperMailbox, ProperGroup, ProperEntry, Proper}
use Rattle.addresses.proofs.Rows.{among_push_false, white_not, scalars_append, scalars_push, all_split}
use Rattle.addresses.proofs.Trimming.{length_trim, scalars_trim, ends_trim, follow_trim, trim_first}
use Rattle.addresses.proofs.Within.{true_within}
use Rattle.addresses.proofs.Tables.{sign, done, pick_each}

-- ── what each state keeps ──

-- an address in Unquoted is bare but for White_Space at its end
abbrev pub Begun : List ℕ → Type 0
Begun [] = ⊥
Begun (c ∷ cs) = (begins c ≡ true) × (follow (eqb at_sign c) cs ≡ true)

abbrev pub Shape : State → Type 0
Shape Initial = Unit {0}
Shape (QuotedName n) = scalars n ≡ true
Shape (EscapedChar n) = scalars n ≡ true
Shape (AfterQuotedName n w) = (scalars n ≡ true) × (scalars w ≡ true)
Shape (BracketedAddr n a) = PartName n × (among close_bracket a ≡ false) × (scalars a ≡ true)
Shape AfterBracketedAddr = Unit {0}
Shape (Unquoted a) = Begun a × (scalars a ≡ true)
Shape (NameWithEncodedWord a) = scalars a ≡ true
Shape (Comment s d) = Shape s × (fits s ≡ true)
Shape (CommentEscapedChar s d) = Shape s × (fits s ≡ true)

abbrev pub Good : State → Type 0
Good s = Shape s × (fits s ≡ true)

-- a mailbox is proper once its address is seen to hold @
abbrev pub Almost : Mailbox → Type 0
Almost m = holds_at m ≡ true → ProperMailbox m

abbrev pub GoodAct : Act → Type 0
GoodAct (to s) = Shape s
GoodAct (finish m s) = Almost m × Good s
GoodAct (finish_and_close m) = Almost m
GoodAct (open_group n) = Part n
GoodAct close_group = Unit {0}
GoodAct close_if_open = Unit {0}
GoodAct (refuse g) = Unit {0}

abbrev pub GoodStanding : Standing → Type 0
GoodStanding (at s l) = Good s × Proper (whole l)

-- ── what becomes of an address in hand ──

part_trim : (a : List ℕ) → short a ≡ true → scalars a ≡ true → Part (trim a)
part_trim a f s = record { few = omega (arith, length_trim a, leb-true (length a) 2000 f); scalar = scalars_trim a s }

begun_bare : (a : List ℕ) → Begun a → bare (trim a) ≡ true
begun_bare [] b = absurd b
begun_bare (c ∷ cs) b =
    let w = not-true (white c) (and_parts (not (among c (comma ∷ quote ∷ open_bracket ∷ semicolon ∷ open_paren ∷ []))) (not (white c)) b.0).1 in
    let e = trim_first c cs w in
    let t : ends_white (c ∷ trim cs) ≡ false = subst (λ xs. ends_white xs ≡ false) e (ends_trim (c ∷ cs)) in
    let whole : bare (c ∷ trim cs) ≡ true = and_from (begins c) _ b.0 (and_from (follow (eqb at_sign c) (trim cs)) _ (follow_trim (eqb at_sign c) cs b.1) (not_from_false _ t)) in
    subst (λ xs. bare xs ≡ true) (sym e) whole

unnamed_almost : (a : List ℕ) → Good (Unquoted a) → Almost (mailbox None (trim a))
unnamed_almost a g h = record { name = tt; address = part_trim a g.1 g.0.1; has_at = h; writable = inr (begun_bare a g.0.0) }

bracketed_almost : (n : Option (List ℕ)) (a : List ℕ) → Good (BracketedAddr n a) → Almost (mailbox n a)
bracketed_almost None a g h =
    record { name = tt; address = record { few = leb-true (length a) 2000 g.1; scalar = g.0.2 }; has_at = h; writable = inl g.0.1 }
bracketed_almost (Some n) a g h =
    record { name = g.0.0; address = record { few = leb-true (length a) 2000 g.1; scalar = g.0.2 }; has_at = h; writable = g.0.1 }

follow_push : (seen : Bool) (cs : List ℕ) (c : ℕ) → follow seen cs ≡ true → follows (seen || among at_sign cs) c ≡ true → follow seen (cs ++ c ∷ []) ≡ true
follow_push seen [] c l s = and_from (follows seen c) true (subst (λ b. follows b c ≡ true) (or-false seen) s) refl
follow_push seen (d ∷ ds) c l s =
    let p = and_parts (follows seen d) (follow (seen || eqb at_sign d) ds) l in
    and_from (follows seen d) _ p.0
    (follow_push (seen || eqb at_sign d) ds c p.1 (subst (λ b. follows b c ≡ true) (sym (or_assoc seen (eqb at_sign d) (among at_sign ds))) s))

begun_push : (a : List ℕ) (c : ℕ) → Begun a → follows (among at_sign a) c ≡ true → Begun (a ++ c ∷ [])
begun_push [] c b s = absurd b
begun_push (x ∷ xs) c b s = (b.0, follow_push (eqb at_sign x) xs c b.1 s)

white_follows : (seen : Bool) (c : ℕ) → white c ≡ true → follows seen c ≡ true
unfolding white
white_follows seen c w =
    rw (white_not c open_bracket w refl, white_not c comma w refl, white_not c semicolon w refl, white_not c open_paren w refl, white_not c colon w refl)

-- ── one mark ──

signs_good : (s : State) → Good s → Every (λ r. GoodAct (done r)) (signs s)
signs_good Initial g = (tt, (refl, ((tt, refl, refl), (tt, ((tt, refl), tt)))))
signs_good (QuotedName n) g = (g.0, ((g.0, refl), tt))
signs_good (EscapedChar n) g = tt
signs_good (AfterQuotedName n w) g =
    let p : Part n = record { few = leb-true (length n) 2000 (and_parts (short n) (short w) g.1).0; scalar = g.0.0 } in
    ((p, refl, refl), (p, (g, (scalars_append n w g.0.0 g.0.1, tt))))
signs_good (BracketedAddr n a) g = ((bracketed_almost n a g, (tt, refl)), tt)
signs_good AfterBracketedAddr g = (tt, (tt, ((tt, refl), tt)))
signs_good (Unquoted a) g =
    ((part_trim a g.1 g.0.1, refl, refl), ((unnamed_almost a g, (tt, refl)), (unnamed_almost a g, (g, tt))))
signs_good (NameWithEncodedWord a) g = let p = part_trim a g.1 g.0 in ((p, refl, refl), (p, (g, tt)))
signs_good (Comment s d) g =
    (cond_both (ltb d deepest) _ _ GoodAct (λ _. g.0) (λ _. tt), (cond_both (leb d 1) _ _ GoodAct (λ _. g.0.0) (λ _. g.0), (g.0, tt)))
signs_good (CommentEscapedChar s d) g = tt

other_good : (s : State) (c : ℕ) → scalar c ≡ true → Good s → among c (map sign (signs s)) ≡ false → GoodAct (other s c)
other_good Initial c k g e =
    cond_both (white c) (to Initial) (to (Unquoted (c ∷ []))) GoodAct (λ _. tt)
    (λ w. ((and_from _ _ (not_from_false _ e) (not_from_false _ w), refl), and_from (scalar c) true k refl))
other_good (QuotedName n) c k g e = scalars_push n c g.0 k
other_good (EscapedChar n) c k g e = scalars_push n c g.0 k
other_good (AfterQuotedName n w) c k g e =
    cond_both (white c) (to (AfterQuotedName n (w ++ c ∷ []))) (to (AfterQuotedName ((n ++ w) ++ c ∷ []) [])) GoodAct
    (λ _. (g.0.0, scalars_push w c g.0.1 k))
    (λ _. (scalars_push (n ++ w) c (scalars_append n w g.0.0 g.0.1) k, refl))
other_good (BracketedAddr n a) c k g e =
    (g.0.0, among_push_false close_bracket c a g.0.1 (or_parts (eqb c close_bracket) false e).0, scalars_push a c g.0.2 k)
other_good AfterBracketedAddr c k g e = cond_both (white c) _ _ GoodAct (λ _. tt) (λ _. tt)
other_good (Unquoted a) c k g e =
    cond_both (eqb c colon && not (among at_sign a)) (open_group (trim a)) (to (Unquoted (a ++ c ∷ []))) GoodAct
    (λ _. part_trim a g.1 g.0.1)
    (λ w. (begun_push a c g.0.0 (and_from _ _ (not_from_false _ e) (not_from_false _ w)), scalars_push a c g.0.1 k))
other_good (NameWithEncodedWord a) c k g e = scalars_push a c g.0 k
other_good (Comment s d) c k g e = g.0
other_good (CommentEscapedChar s d) c k g e = g.0

blank_good : (s : State) (c : ℕ) → white c ≡ true → scalar c ≡ true → Good s → GoodAct (at_blank s c)
unfolding white
blank_good Initial c w k g = tt
blank_good (QuotedName n) c w k g = scalars_push n c g.0 k
blank_good (EscapedChar n) c w k g = scalars_push n c g.0 k
blank_good (AfterQuotedName n b) c w k g = (g.0.0, scalars_push b c g.0.1 k)
blank_good (BracketedAddr n a) c w k g =
    (g.0.0, among_push_false close_bracket c a g.0.1 (white_not c close_bracket w refl), scalars_push a c g.0.2 k)
blank_good AfterBracketedAddr c w k g = tt
blank_good (Unquoted a) c w k g = (begun_push a c g.0.0 (white_follows (among at_sign a) c w), scalars_push a c g.0.1 k)
blank_good (NameWithEncodedWord a) c w k g = scalars_push a c g.0 k
blank_good (Comment s d) c w k g = g.0
blank_good (CommentEscapedChar s d) c w k g = g.0

word_good : (s : State) → Good s → GoodAct (at_word s)
word_good Initial g = refl
word_good (QuotedName n) g = g.0
word_good (EscapedChar n) g = tt
word_good (AfterQuotedName n w) g = (scalars_append n w g.0.0 g.0.1, refl)
word_good (BracketedAddr n a) g = tt
word_good AfterBracketedAddr g = tt
word_good (Unquoted a) g = g.0.1
word_good (NameWithEncodedWord a) g = g.0
word_good (Comment s d) g = g.0
word_good (CommentEscapedChar s d) g = g.0

word_char_good : (s : State) (c : ℕ) → scalar c ≡ true → Good s → GoodAct (at_word_char s c)
word_char_good Initial c k g = tt
word_char_good (QuotedName n) c k g = scalars_push n c g.0 k
word_char_good (EscapedChar n) c k g = tt
word_char_good (AfterQuotedName n w) c k g = (scalars_push n c g.0.0 k, g.0.1)
word_char_good (BracketedAddr n a) c k g = tt
word_char_good AfterBracketedAddr c k g = tt
word_char_good (Unquoted a) c k g = tt
word_char_good (NameWithEncodedWord a) c k g = scalars_push a c g.0 k
word_char_good (Comment s d) c k g = g.0
word_char_good (CommentEscapedChar s d) c k g = tt

act_good : (s : State) (m : Mark) → proper m ≡ true → Good s → GoodAct (act s m)
act_good s (Char c) k g = pick_each GoodAct c (signs s) (other s c) (signs_good s g) (other_good s c k g)
act_good s (Blank c) k g = blank_good s c k (white_scalar c k) g
act_good s LineEnd k g = tt
act_good s Word k g = word_good s g
act_good s (WordChar c) k g = word_char_good s c k g

-- ── the list ──

finished_proper : (m : Mailbox) (l : SoFar) → ProperMailbox m → Every ProperEntry (whole l) → Every ProperEntry (whole (finished m l))
finished_proper m (outside es) p a = All-push ProperEntry es (loose m) a p
finished_proper m (inside es n ms) p a =
    let s = all_split ProperEntry es (group n ms ∷ []) a in
    let g : ProperGroup n (ms ++ m ∷ []) = record { name = s.1.0.name; members = All-push ProperMailbox ms m s.1.0.members p } in
    All-push ProperEntry es (group n (ms ++ m ∷ [])) s.0 g

-- what holds of an outcome, if there is one
abbrev Holds : {X : Type 0} → (X → Type 0) → Result X Ground → Type 0
Holds P (Ok x) = P x
Holds P (Err g) = Unit {0}

admitted_good : {X : Type 0} (P : X → Type 0) (m : Mailbox) (l : SoFar) (x : X) → Almost m → Every ProperEntry (whole l) → (Proper (whole (finished m l)) → P x) → Holds P (admitted m (whole (finished m l)) x)
admitted_good P m l x a p then =
    cond_both (holds_at m) _ _ (Holds P)
    (λ h. cond_both (within (whole (finished m l))) _ _ (Holds P) (λ f. then (record { entries = finished_proper m l (a h) p; limits = true_within _ f })) (λ _. tt))
    (λ _. tt)

apply_good : (l : SoFar) (a : Act) → GoodAct a → Proper (whole l) → Holds GoodStanding (apply l a)
apply_good l (to s) g p = cond_both (fits s) _ _ (Holds GoodStanding) (λ f. ((g, f), p)) (λ _. tt)
apply_good l (finish m s) g p = admitted_good GoodStanding m l _ g.0 p.entries (λ q. (g.1, q))
apply_good l (finish_and_close m) g p = admitted_good GoodStanding m l _ g p.entries (λ q. ((tt, refl), q))
apply_good (outside es) (open_group n) g p =
    let new : ProperGroup n [] = record { name = g; members = tt } in
    cond_both (within (es ++ group n [] ∷ [])) _ _ (Holds GoodStanding)
    (λ f. ((tt, refl), record { entries = All-push ProperEntry es (group n []) p.entries new; limits = true_within _ f }))
    (λ _. tt)
apply_good (inside es n ms) (open_group n') g p = tt
apply_good (outside es) close_group g p = tt
apply_good (inside es n ms) close_group g p = ((tt, refl), p)
apply_good l close_if_open g p = ((tt, refl), p)
apply_good l (refuse k) g p = tt

step_good : (p : Standing) (m : Mark) → proper m ≡ true → GoodStanding p → Holds GoodStanding (step p m)
step_good (at s l) m k g = apply_good l (act s m) (act_good s m k g.0) g.1

pub leads_good : {ms : List Mark} {p q : Standing} → Leads ms p q → AllProper ms → GoodStanding p → GoodStanding q
leads_good stays k g = g
leads_good (moves {m} {ms} {p} {q} e a) k g =
    let h = and_parts (proper m) (all_proper ms) k in
    leads_good a h.1 (subst (Holds GoodStanding) e (step_good p m h.0 g))

-- ── the end ──

ending_holds : (p : Standing) → GoodStanding p → Holds Proper (ending p)
ending_holds (at s (inside es n ms)) g = tt
ending_holds (at Initial (outside es)) g = g.1
ending_holds (at (QuotedName n) (outside es)) g = tt
ending_holds (at (EscapedChar n) (outside es)) g = tt
ending_holds (at (AfterQuotedName n w) (outside es)) g = tt
ending_holds (at (BracketedAddr n a) (outside es)) g = tt
ending_holds (at AfterBracketedAddr (outside es)) g = g.1
ending_holds (at (Unquoted a) (outside es)) g =
    let m = mailbox None (trim a) in
    admitted_good Proper m (outside es) (es ++ loose m ∷ []) (unnamed_almost a g.0) g.1.entries (λ q. q)
ending_holds (at (NameWithEncodedWord a) (outside es)) g = tt
ending_holds (at (Comment s d) (outside es)) g = tt
ending_holds (at (CommentEscapedChar s d) (outside es)) g = tt

pub ending_good : (p : Standing) (l : List Entry) → GoodStanding p → ending p ≡ Ok l → Proper l
ending_good p l g e = subst (Holds Proper) e (ending_holds p g)

pub empty_proper : Proper []
empty_proper = record { entries = tt; limits = omega arith }

pub start_good : GoodStanding start
start_good = ((tt, refl), empty_proper)
