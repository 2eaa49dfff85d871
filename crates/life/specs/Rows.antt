-- Rows of events, performed one after the other.
--     Performed    an event e that found the list l, the source s and the buffer b was answered a, and left the list k, the source
--                  t and the buffer c: the answer, the list, what still waits in the source and what the buffer holds are those
--                  of the model, and the source closes as before
--     Turned       a turn t became u so: its event is the same, its answer and its source are those afterwards
--     Row          a row of turns became another so, each event finding the list and the buffer that the one before left
-- Assumes nothing.
use Rattle.std.specs.Prelude.{◌≡◌, ℕ, List, [], ◌∷◌, length, Result}
use Rattle.marks.specs.declared.mark.Mark.{Mark}
use Rattle.marks.specs.declared.fault.Fault.{Fault}
use Rattle.marks.specs.Gives.{Close}
use Rattle.addresses.specs.Mailboxes.{Entry}
use Rattle.addresses.specs.Events.{reply_to, left_by, filled_by}
use Rattle.life.specs.declared.event.Event.{Event}
use Rattle.life.specs.declared.answer.Answer.{Answer}
use Rattle.life.specs.declared.turn.Turn.{Turn}
use Rattle.life.specs.Asked.{asked, still_waiting}
use Rattle.life.specs.Told.{told}

pub record Performed {S : Type 0} (waiting : S → List Mark) (close : S → Close) (l : List Entry) (b : List ℕ) (e : Event) (s : S) (a : Result Answer Fault) (t : S) (k : List Entry) (c : List ℕ) : Type 0 where
  pub answers : told a ≡ reply_to l (asked waiting close (length b) e s)
  pub leaves : k ≡ left_by l (asked waiting close (length b) e s)
  pub rest : waiting t ≡ still_waiting waiting close e s
  pub closes : close t ≡ close s
  pub buffer : c ≡ filled_by l (asked waiting close (length b) e s) b

pub record Turned {S : Type 0} (waiting : S → List Mark) (close : S → Close) (l : List Entry) (b : List ℕ) (t u : Turn S) (k : List Entry) (c : List ℕ) : Type 0 where
  pub same : u.event ≡ t.event
  pub performed : Performed waiting close l b t.event t.source u.answer u.source k c

pub data Row {S : Type 0} (waiting : S → List Mark) (close : S → Close) : List Entry → List ℕ → List (Turn S) → List (Turn S) → List Entry → List ℕ → Type 0 where
  none : {l : List Entry} {b : List ℕ} → Row waiting close l b [] [] l b
  next : {l j k : List Entry} {b d c : List ℕ} {t u : Turn S} {ts us : List (Turn S)}
      → Turned waiting close l b t u j d → Row waiting close j d ts us k c → Row waiting close l b (t ∷ ts) (u ∷ us) k c
