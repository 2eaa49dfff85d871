-- One step of the reader, with the limits, and the end.
--     SoFar            the list read so far: outside a group, or inside one, which is then the last entry
--     whole l          that list, an open group included
--     finished m l     the same with the mailbox m finished: a member of the open group, or loose at the end
--     Standing         a state and the list read so far; `start` is where a read begins
--     fits s           what can grow in hand in the state s has not grown too long
--     too_long s       the ground where it has
--     holds_at m       the address of the mailbox m holds @
--     admitted m es x  x, if the mailbox m may be finished, which makes the list es, or else the ground
--     apply l a        where the act a leads from the list l, or the ground on which it is refused
--     step p m         where the mark m leads from p, or the ground
--     ending p         the list that a read accepts whose marks end at p, or the ground
-- Assumes nothing.
use Rattle.std.specs.Prelude.{ℕ, Bool, true, cond, ◌&&◌, List, [], ◌∷◌, ◌++◌, None, Ok, Err, Result}
use Rattle.characters.specs.WhiteSpace.{among}
use Rattle.marks.specs.declared.mark.Mark.{Mark}
use Rattle.marks.specs.declared.fault.Ground.{Ground}
use Rattle.marks.specs.declared.fault.Ground.TheVariants.{AddressWithoutAt, StraySemicolon, NestedGroup, UnclosedGroup, UnfinishedEntry, LongName, LongAddress, FullList}
use Rattle.addresses.specs.Signs.{at_sign}
use Rattle.addresses.specs.Mailboxes.{Mailbox, mailbox, Entry, loose, group}
use Rattle.addresses.specs.Limits.{short, within}
use Rattle.addresses.specs.Trim.{trim}
use Rattle.addresses.specs.Machine.{State, Initial, QuotedName, EscapedChar, AfterQuotedName, BracketedAddr, AfterBracketedAddr, Unquoted, NameWithEncodedWord, Comment, CommentEscapedChar, Act, to, finish, finish_and_close, open_group, close_group, close_if_open, refuse, act}

-- ── the list read so far ──

pub data SoFar : Type 0 where
  outside : List Entry → SoFar
  -- the entries before the open group, its name, and its members so far
  inside : List Entry → List ℕ → List Mailbox → SoFar

abbrev pub whole : SoFar → List Entry
whole (outside es) = es
whole (inside es n ms) = es ++ group n ms ∷ []

abbrev pub finished : Mailbox → SoFar → SoFar
finished m (outside es) = outside (es ++ loose m ∷ [])
finished m (inside es n ms) = inside es n (ms ++ m ∷ [])

pub data Standing : Type 0 where
  at : State → SoFar → Standing

abbrev pub start : Standing
start = at Initial (outside [])

-- ── the limits ──

-- A name is judged where something may join it, and an address likewise. In a comment nothing joins either, and behind `<`
-- nothing joins the name.
abbrev pub fits : State → Bool
fits Initial = true
fits (QuotedName n) = short n
fits (EscapedChar n) = short n
fits (AfterQuotedName n w) = short n && short w
fits (BracketedAddr n a) = short a
fits AfterBracketedAddr = true
fits (Unquoted a) = short a
fits (NameWithEncodedWord a) = short a
fits (Comment s d) = true
fits (CommentEscapedChar s d) = true

-- where nothing can grow, this is never asked
abbrev pub too_long : State → Ground
too_long Initial = LongAddress
too_long (QuotedName n) = LongName
too_long (EscapedChar n) = LongName
too_long (AfterQuotedName n w) = LongName
too_long (BracketedAddr n a) = LongAddress
too_long AfterBracketedAddr = LongAddress
too_long (Unquoted a) = LongAddress
too_long (NameWithEncodedWord a) = LongAddress
too_long (Comment s d) = LongAddress
too_long (CommentEscapedChar s d) = LongAddress

abbrev pub holds_at : Mailbox → Bool
holds_at (mailbox n a) = among at_sign a

abbrev pub admitted : {X : Type 0} → Mailbox → List Entry → X → Result X Ground
admitted m es x = cond (holds_at m) (cond (within es) (Ok x) (Err FullList)) (Err AddressWithoutAt)

-- ── a step ──

abbrev pub apply : SoFar → Act → Result Standing Ground
apply l (to s) = cond (fits s) (Ok (at s l)) (Err (too_long s))
apply l (finish m s) = admitted m (whole (finished m l)) (at s (finished m l))
apply l (finish_and_close m) = admitted m (whole (finished m l)) (at Initial (outside (whole (finished m l))))
apply (outside es) (open_group n) = cond (within (es ++ group n [] ∷ [])) (Ok (at Initial (inside es n []))) (Err FullList)
apply (inside es n ms) (open_group n') = Err NestedGroup
apply (outside es) close_group = Err StraySemicolon
apply (inside es n ms) close_group = Ok (at Initial (outside (es ++ group n ms ∷ [])))
apply l close_if_open = Ok (at Initial (outside (whole l)))
apply l (refuse g) = Err g

abbrev pub step : Standing → Mark → Result Standing Ground
step (at s l) m = apply l (act s m)

-- ── the end ──

abbrev pub ending : Standing → Result (List Entry) Ground
ending (at s (inside es n ms)) = Err UnclosedGroup
ending (at Initial (outside es)) = Ok es
ending (at (QuotedName n) (outside es)) = Err UnfinishedEntry
ending (at (EscapedChar n) (outside es)) = Err UnfinishedEntry
ending (at (AfterQuotedName n w) (outside es)) = Err UnfinishedEntry
ending (at (BracketedAddr n a) (outside es)) = Err UnfinishedEntry
ending (at AfterBracketedAddr (outside es)) = Ok es
ending (at (Unquoted a) (outside es)) =
    let l = es ++ loose (mailbox None (trim a)) ∷ [] in
    admitted (mailbox None (trim a)) l l
ending (at (NameWithEncodedWord a) (outside es)) = Err UnfinishedEntry
ending (at (Comment s d) (outside es)) = Err UnfinishedEntry
ending (at (CommentEscapedChar s d) (outside es)) = Err UnfinishedEntry
