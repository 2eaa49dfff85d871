-- A comma joins: entries that were read before have no part in what is read of the marks behind them.
--     behind l k, behind_all l p   the same list read so far, and the same standing, with the entries l before it
--     held p                       the list read so far, an open group included, at the standing p
--     step_behind, leads_behind    marks lead on in the same way behind entries that were read before, if all of them together
--                                  keep the limits at the end: whatever is once in the list stays there
--     ending_behind                the end accepts in the same way
--     comma_behind_all             where a read could end, a comma goes on from the list that would have been accepted
--     characters_read, reads_characters    a text reads as a list where its characters have the list as their reading
-- Assumes nothing.
use Rattle.std.proofs.Common.{◌≡◌, ℕ, ◌≤◌, true, List, [], ◌∷◌, ◌++◌, map, length, None, Ok, Err, Result, sym, refl, ap, ◌∙◌, subst, arith}
use lib.Utf8.{scalars, encode, encodes}
use Rattle.std.proofs.lemmas.List.{append-nil, append_assoc, map-append, length-map}
use Rattle.std.proofs.lemmas.Bool.{cond-true, cond_both}
use Rattle.std.proofs.lemmas.Str.{encodes-append, length-le-encodes}
use Rattle.marks.specs.declared.mark.Mark.{Mark}
use Rattle.marks.specs.declared.mark.Mark.TheVariants.{Char}
use Rattle.marks.specs.declared.fault.Ground.{Ground}
use Rattle.marks.specs.declared.fault.Ground.TheVariants.{FullList}
use Rattle.marks.specs.Streams.{Stream}
use Rattle.marks.specs.Texts.{text_stream}
use Rattle.addresses.specs.Signs.{comma}
use Rattle.addresses.specs.Mailboxes.{Mailbox, mailbox, Entry, loose, group}
use Rattle.addresses.specs.Limits.{Within, within}
use Rattle.addresses.specs.Trim.{trim}
use Rattle.addresses.specs.Machine.{Initial, QuotedName, EscapedChar, AfterQuotedName, BracketedAddr, AfterBracketedAddr, Unquoted, NameWithEncodedWord, Comment, CommentEscapedChar, Act, to, finish, finish_and_close, open_group, close_group, close_if_open, refuse, act}
use Rattle.addresses.specs.Steps.{SoFar, outside, inside, whole, finished, Standing, at, fits, too_long, holds_at, admitted, apply, step, ending}
use Rattle.addresses.specs.Reading.{reading, Leads, stays, moves, HasReading}
use Rattle.addresses.specs.ReadsAs.{ReadsAs}
use Rattle.addresses.specs.Joins.{CommaJoins, CommaJoinsMarks}
use Rattle.addresses.proofs.Rows.{scalars_append}
use Rattle.addresses.proofs.Runs.{leads_append, has_reading_answer}
use Rattle.addresses.proofs.TextStreams.{text_of_characters, characters_of_text}
use Rattle.addresses.proofs.WrittenLeads.{admits}
use Rattle.addresses.proofs.Within.{within_true, within_front, within_members}
use Rattle.addresses.proofs.Laws.{read_exactly}

-- ── entries that were read before ──

abbrev pub behind : List Entry → SoFar → SoFar
behind l (outside es) = outside (l ++ es)
behind l (inside es n ms) = inside (l ++ es) n ms

abbrev pub behind_all : List Entry → Standing → Standing
behind_all l (at s k) = at s (behind l k)

abbrev pub held : Standing → List Entry
held (at s k) = whole k

whole_behind : (l : List Entry) (k : SoFar) → whole (behind l k) ≡ l ++ whole k
whole_behind l (outside es) = refl
whole_behind l (inside es n ms) = append_assoc l es (group n ms ∷ [])

finished_behind : (l : List Entry) (m : Mailbox) (k : SoFar) → finished m (behind l k) ≡ behind l (finished m k)
finished_behind l m (outside es) = ap outside (append_assoc l es (loose m ∷ []))
finished_behind l m (inside es n ms) = refl

-- what holds of an outcome, if there is one
abbrev Of : {X : Type 0} → (X → Type 0) → Result X Ground → Type 0
Of P (Ok x) = P x
Of P (Err g) = Unit {0}

-- what holds where the mailbox may be finished holds of the outcome
admitted_of : {X : Type 0} (P : X → Type 0) (m : Mailbox) (es : List Entry) (x : X) → (holds_at m ≡ true → within es ≡ true → P x) → Of P (admitted m es x)
admitted_of P m es x then =
    cond_both (holds_at m) _ _ (Of P) (λ h. cond_both (within es) _ _ (Of P) (λ f. then h f) (λ _. tt)) (λ _. tt)

-- ── one mark ──

-- what is in the list before a step is in it afterwards, so that the limits kept then are kept now
within_finished : (m : Mailbox) (k : SoFar) → Within (whole (finished m k)) → Within (whole k)
within_finished m (outside es) w = within_front es (loose m ∷ []) w
within_finished m (inside es n ms) w = within_members es n ms (m ∷ []) w

apply_front : (k : SoFar) (a : Act) → Of (λ q. Within (held q) → Within (whole k)) (apply k a)
apply_front k (to s) = cond_both (fits s) _ _ (Of (λ q. Within (held q) → Within (whole k))) (λ _ w. w) (λ _. tt)
apply_front k (finish m s) =
    admitted_of (λ q. Within (held q) → Within (whole k)) m (whole (finished m k)) (at s (finished m k)) (λ _ _ w. within_finished m k w)
apply_front k (finish_and_close m) =
    admitted_of (λ q. Within (held q) → Within (whole k)) m (whole (finished m k)) (at Initial (outside (whole (finished m k)))) (λ _ _ w. within_finished m k w)
apply_front (outside es) (open_group n) =
    cond_both (within (es ++ group n [] ∷ [])) _ _ (Of (λ q. Within (held q) → Within es)) (λ _ w. within_front es (group n [] ∷ []) w) (λ _. tt)
apply_front (inside es n ms) (open_group n') = tt
apply_front (outside es) close_group = tt
apply_front (inside es n ms) close_group = λ w. w
apply_front k close_if_open = λ w. w
apply_front k (refuse g) = tt

step_front : (p q : Standing) (m : Mark) → step p m ≡ Ok q → Within (held q) → Within (held p)
step_front (at s k) q m e = subst (Of (λ r. Within (held r) → Within (whole k))) e (apply_front k (act s m))

module _ (l : List Entry) where
  -- the act does behind l what it does without
  abbrev Same : SoFar → Act → Standing → Type 0
  Same k a q = Within (held (behind_all l q)) → apply (behind l k) a ≡ Ok (behind_all l q)

  admits_behind : {X : Type 0} (m : Mailbox) (k : SoFar) (x : X) → holds_at m ≡ true → Within (whole (behind l (finished m k))) → admitted m (whole (finished m (behind l k))) x ≡ Ok x
  admits_behind m k x h w =
      admits m (whole (finished m (behind l k))) x h
      (within_true (whole (finished m (behind l k))) (subst (λ j. Within (whole j)) (sym (finished_behind l m k)) w))

  apply_behind : (k : SoFar) (a : Act) → Of (Same k a) (apply k a)
  apply_behind k (to s) = cond_both (fits s) _ _ (Of (Same k (to s))) (λ f w. cond-true (fits s) _ (Err (too_long s)) f) (λ _. tt)
  apply_behind k (finish m s) =
      admitted_of (Same k (finish m s)) m (whole (finished m k)) (at s (finished m k))
      (λ h _ w. admits_behind m k (at s (finished m (behind l k))) h w ∙ ap (λ j. Ok (at s j)) (finished_behind l m k))
  apply_behind k (finish_and_close m) =
      let same = whole_behind l (finished m k) in
      admitted_of (Same k (finish_and_close m)) m (whole (finished m k)) (at Initial (outside (whole (finished m k))))
      (λ h _ w. admits_behind m k (at Initial (outside (whole (finished m (behind l k))))) h (subst Within (sym same) w)
      ∙ ap (λ j. Ok (at Initial (outside (whole j)))) (finished_behind l m k)
      ∙ ap (λ es. Ok (at Initial (outside es))) same)
  apply_behind (outside es) (open_group n) =
      cond_both (within (es ++ group n [] ∷ [])) _ _ (Of (Same (outside es) (open_group n)))
      (λ _ w. cond-true (within ((l ++ es) ++ group n [] ∷ [])) _ (Err FullList) (within_true ((l ++ es) ++ group n [] ∷ []) w))
      (λ _. tt)
  apply_behind (inside es n ms) (open_group n') = tt
  apply_behind (outside es) close_group = tt
  apply_behind (inside es n ms) close_group = λ w. ap (λ j. Ok (at Initial (outside j))) (append_assoc l es (group n ms ∷ []))
  apply_behind k close_if_open = λ w. ap (λ j. Ok (at Initial (outside j))) (whole_behind l k)
  apply_behind k (refuse g) = tt

  pub step_behind : (p q : Standing) (m : Mark) → step p m ≡ Ok q → Within (held (behind_all l q)) → step (behind_all l p) m ≡ Ok (behind_all l q)
  step_behind (at s k) q m e = subst (Of (Same k (act s m))) e (apply_behind k (act s m))

  -- ── rows of marks, and the end ──

  pub leads_behind : {ms : List Mark} {p q : Standing} → Leads ms p q → Within (held (behind_all l q)) → Leads ms (behind_all l p) (behind_all l q) × Within (held (behind_all l p))
  leads_behind stays w = (stays, w)
  leads_behind (moves {m} {ms} {p} {q} {r} e a) w =
      let (b, v) = leads_behind a w in
      let s = step_behind p q m e v in
      (moves s b, step_front (behind_all l p) (behind_all l q) m s v)

  -- a mailbox that the end finishes
  last_behind : (m : Mailbox) (es : List Entry) → holds_at m ≡ true → Within (l ++ (es ++ loose m ∷ []))
      → (admitted m ((l ++ es) ++ loose m ∷ []) ((l ++ es) ++ loose m ∷ []) ≡ Ok (l ++ (es ++ loose m ∷ []))) × Within (l ++ es)
  last_behind m es h w =
      let join = append_assoc l es (loose m ∷ []) in
      let now = (l ++ es) ++ loose m ∷ [] in
      let v : Within now = subst Within (sym join) w in
      (admits m now now h (within_true now v) ∙ ap Ok join, within_front (l ++ es) (loose m ∷ []) v)

  abbrev EndsSame : Standing → List Entry → Type 0
  EndsSame p k = Within (l ++ k) → (ending (behind_all l p) ≡ Ok (l ++ k)) × Within (held (behind_all l p))

  ends_same : (p : Standing) → Of (EndsSame p) (ending p)
  ends_same (at s (inside es n ms)) = tt
  ends_same (at Initial (outside es)) = λ w. (refl, w)
  ends_same (at (QuotedName n) (outside es)) = tt
  ends_same (at (EscapedChar n) (outside es)) = tt
  ends_same (at (AfterQuotedName n w) (outside es)) = tt
  ends_same (at (BracketedAddr n a) (outside es)) = tt
  ends_same (at AfterBracketedAddr (outside es)) = λ w. (refl, w)
  ends_same (at (Unquoted a) (outside es)) =
      let m = mailbox None (trim a) in
      admitted_of (EndsSame (at (Unquoted a) (outside es))) m (es ++ loose m ∷ []) (es ++ loose m ∷ []) (λ h _ w. last_behind m es h w)
  ends_same (at (NameWithEncodedWord a) (outside es)) = tt
  ends_same (at (Comment s d) (outside es)) = tt
  ends_same (at (CommentEscapedChar s d) (outside es)) = tt

  pub ending_behind : (p : Standing) (k : List Entry) → ending p ≡ Ok k → Within (l ++ k) → (ending (behind_all l p) ≡ Ok (l ++ k)) × Within (held (behind_all l p))
  ending_behind p k e = subst (Of (EndsSame p)) e (ends_same p)

-- ── the comma ──

abbrev GoesOn : Standing → List Entry → Type 0
GoesOn p l = step p (Char comma) ≡ Ok (at Initial (outside l))

goes_on : (p : Standing) → Of (GoesOn p) (ending p)
goes_on (at s (inside es n ms)) = tt
goes_on (at Initial (outside es)) = refl
goes_on (at (QuotedName n) (outside es)) = tt
goes_on (at (EscapedChar n) (outside es)) = tt
goes_on (at (AfterQuotedName n w) (outside es)) = tt
goes_on (at (BracketedAddr n a) (outside es)) = tt
goes_on (at AfterBracketedAddr (outside es)) = refl
goes_on (at (Unquoted a) (outside es)) =
    let m = mailbox None (trim a) in
    let now = es ++ loose m ∷ [] in
    admitted_of (GoesOn (at (Unquoted a) (outside es))) m now now (λ h f. admits m now (at Initial (outside now)) h f)
goes_on (at (NameWithEncodedWord a) (outside es)) = tt
goes_on (at (Comment s d) (outside es)) = tt
goes_on (at (CommentEscapedChar s d) (outside es)) = tt

pub comma_behind_all : (p : Standing) (l : List Entry) → ending p ≡ Ok l → step p (Char comma) ≡ Ok (at Initial (outside l))
comma_behind_all p l e = subst (Of (GoesOn p)) e (goes_on p)

-- ── rows of marks, and texts ──

pub comma_joins_marks : CommaJoinsMarks
comma_joins_marks ms ns l k (_, (p, a, e)) (_, (q, b, f)) few w =
    let (ends, v) = ending_behind l q k f w in
    let (c, _) = leads_behind l b v in
    let from : Leads ns (at Initial (outside l)) (behind_all l q) = subst (λ es. Leads ns (at Initial (outside es)) (behind_all l q)) (append-nil l) c in
    (few, (behind_all l q, leads_append a (moves (comma_behind_all p l e) from), ends))

-- a text that reads as a list is that of characters that have it as their reading
pub characters_read : (bs : List ℕ) (l : List Entry) → ReadsAs bs l → (cs : List ℕ) × (scalars cs ≡ true) × (bs ≡ encodes cs) × HasReading (map Char cs) l
characters_read bs l r =
    let c = characters_of_text bs r.ends in
    let (_, has) = (read_exactly (text_stream bs).marks (Ok tt) l).0 r.reads in
    (c.characters, c.scalar, c.bytes, subst (λ ms. HasReading ms l) c.marks has)

-- and the other way round
pub reads_characters : (cs : List ℕ) (l : List Entry) → scalars cs ≡ true → length (encodes cs) ≤ 60000 → HasReading (map Char cs) l → ReadsAs (encodes cs) l
reads_characters cs l scalar few has =
    let given = text_of_characters cs scalar few in
    record {
      ends = ap (λ (s : Stream). s.close) given;
      reads = ap (λ (s : Stream). (reading s.marks (Ok tt)).answer) given ∙ has_reading_answer (map Char cs) l has;
    }

-- a comma is one byte
joined_text : (xs ys : List ℕ) → encodes xs ++ comma ∷ encodes ys ≡ encodes (xs ++ comma ∷ ys)
unfolding encode
joined_text xs ys = sym (encodes-append xs (comma ∷ ys))

pub comma_joins : CommaJoins
comma_joins bs cs l k r s few w =
    let (xs, px, ex, hx) = characters_read bs l r in
    let (ys, py, ey, hy) = characters_read cs k s in
    let joined : bs ++ comma ∷ cs ≡ encodes (xs ++ comma ∷ ys) = cc (joined_text xs ys) in
    let few' : length (encodes (xs ++ comma ∷ ys)) ≤ 60000 = subst (λ (zs : List ℕ). length zs ≤ 60000) joined few in
    let marks = map-append Char xs (comma ∷ ys) in
    let short : length (map Char (xs ++ comma ∷ ys)) ≤ 60000 = omega (arith, length-map (xs ++ comma ∷ ys) Char, length-le-encodes (xs ++ comma ∷ ys)) in
    let has = comma_joins_marks (map Char xs) (map Char ys) l k hx hy (subst (λ (ms : List Mark). length ms ≤ 60000) marks short) w in
    subst (λ zs. ReadsAs zs (l ++ k)) (sym joined)
    (reads_characters (xs ++ comma ∷ ys) (l ++ k) (scalars_append xs (comma ∷ ys) px py) few' (subst (λ ms. HasReading ms (l ++ k)) (sym marks) has))
