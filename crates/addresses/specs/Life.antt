-- The law of a list's life, over rows of events with their replies.
--     Accepted r, Refused r    the reply r is no refusal, or is one
--     ReadClause               a read is accepted exactly when its source closes with the end and its marks have a reading,
--                              which the list then is; else the list is as before
--     AdditionClause           where there is a list that an addition would leave, it is refused exactly when no text at all
--                              reads as that one, and otherwise leaves it; where there is none, it is refused for what is
--                              wrong first. A refusal leaves the list as before
--     RemovalClause            a removal is accepted exactly when the part that it names is there, and takes away just that
--                              part; else it is refused for what is missing, and the list is as before
--     Happens l e r k          the event e finds the list l, is replied r and leaves k. A writing or a question changes
--                              nothing, and its reply is that of the definitions
--     Life l es rs k           the row of events es finds l, is replied rs and leaves k, each event finding what the one before left
--     WritesItself k           the text written of k reads as k, and every other proper list is written otherwise
--     WholeLife l es rs k      such a row of events, and then such a text
-- Assumes nothing.
use Rattle.std.specs.Prelude.{◌≡◌, ℕ, ◌≤◌, ◌⊎◌, ◌↔◌, List, [], ◌∷◌, length, take, Ok, Option}
use Rattle.marks.specs.declared.mark.Mark.{Mark}
use Rattle.marks.specs.declared.fault.Fault.{Fault}
use Rattle.marks.specs.Gives.{Close}
use Rattle.addresses.specs.Mailboxes.{Entry}
use Rattle.addresses.specs.Reading.{HasReading}
use Rattle.addresses.specs.Written.{written_bytes}
use Rattle.addresses.specs.Proper.{Proper}
use Rattle.addresses.specs.Laws.{ReadBack}
use Rattle.addresses.specs.Additions.{Addition}
use Rattle.addresses.specs.Changes.{Without}
use Rattle.addresses.specs.Missing.{Missing}
use Rattle.addresses.specs.Would.{Would, Denied, Unreadable}
use Rattle.addresses.specs.Writing.{needed, writing, filled}
use Rattle.addresses.specs.Events.{Event, a_read, an_addition, a_removal, a_writing, a_question, Reply, accepted, told, refused, counted, answer_to}

-- ── one event ──

abbrev pub Accepted : Reply → Type 0
Accepted accepted = Unit {0}
Accepted (told v) = Unit {0}
Accepted (refused f) = ⊥

abbrev pub Refused : Reply → Type 0
Refused accepted = ⊥
Refused (told v) = ⊥
Refused (refused f) = Unit {0}

pub record ReadClause (l : List Entry) (ms : List Mark) (x : Close) (r : Reply) (k : List Entry) : Type 0 where
  pub exactly : Accepted r ↔ ((x ≡ Ok tt) × ((j : List Entry) × HasReading ms j))
  pub reads : Accepted r → HasReading ms k
  pub keeps : Refused r → k ≡ l

-- w is the list that the addition would leave
pub record WouldClause (l w : List Entry) (r : Reply) (k : List Entry) : Type 0 where
  pub exactly : Refused r ↔ Unreadable w
  pub leaves : Accepted r → k ≡ w
  pub keeps : Refused r → k ≡ l

pub record AdditionClause (l : List Entry) (a : Addition) (r : Reply) (k : List Entry) : Type 0 where
  pub judged : (w : List Entry) → Would l a w → WouldClause l w r k
  pub denied : (f : Fault) → Denied l a f → (r ≡ refused f) × (k ≡ l)
  pub either : ((w : List Entry) × Would l a w) ⊎ ((f : Fault) × Denied l a f)

pub record RemovalClause (l : List Entry) (i : ℕ) (o : Option ℕ) (r : Reply) (k : List Entry) : Type 0 where
  pub exactly : Accepted r ↔ ((j : List Entry) × Without l i o j)
  pub takes : Accepted r → Without l i o k
  pub missing : (f : Fault) → Missing l i o f → r ≡ refused f
  pub keeps : Refused r → k ≡ l

abbrev pub Happens : List Entry → Event → Reply → List Entry → Type 0
Happens l (a_read ms x) r k = ReadClause l ms x r k
Happens l (an_addition a) r k = AdditionClause l a r k
Happens l (a_removal i o) r k = RemovalClause l i o r k
Happens l (a_writing n) r k = (r ≡ counted (writing l n)) × (k ≡ l)
Happens l (a_question q) r k = (r ≡ answer_to l q) × (k ≡ l)

-- ── rows of events ──

pub data Life : List Entry → List Event → List Reply → List Entry → Type 0 where
  none : {l : List Entry} → Life l [] [] l
  next : {l j k : List Entry} {e : Event} {es : List Event} {r : Reply} {rs : List Reply} → Happens l e r j → Life j es rs k → Life l (e ∷ es) (r ∷ rs) k

pub record WritesItself (k : List Entry) : Type 0 where
  pub reads_back : ReadBack k
  pub otherwise : (j : List Entry) → Proper j → written_bytes j ≡ written_bytes k → j ≡ k
  -- a buffer that suffices gets this text
  pub buffer : (b : List ℕ) → needed k ≤ length b → (writing k (length b) ≡ Ok (needed k)) × (take (needed k) (filled k b) ≡ written_bytes k)

pub record WholeLife (l : List Entry) (es : List Event) (rs : List Reply) (k : List Entry) : Type 0 where
  pub life : Life l es rs k
  pub writes : WritesItself k
