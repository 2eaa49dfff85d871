-- A read: what it answers of the marks that wait and the close behind them, and which marks wait afterwards.
--     Reading           an answer, the list or the fault, and the marks that are left
--     reader_fault g t  the reader's fault on the ground g at the place t
--     placed t o        the outcome o of the end, where t marks were taken
--     at_close t x p    what a read answers that stands at p, where no mark waits and x closes
--     refused g t ms    the mark behind which ms wait is refused: it is taken, and they are left
--     go_on             the read goes on from where a mark led, or ends in a refusal
--     run t ms x p      the rest of a read that has taken t marks and stands at p, where ms wait and x closes
--     reading ms x      the read of the marks ms and the close x
--     Leads ms p q      taking the marks ms in turn leads from p to q, and no ground comes up
--     HasReading ms l   the marks ms have the list l as their reading within the limits
-- The place of a fault of the reader is the number of marks taken before the refused one, or before the end. Assumes nothing.
use Rattle.std.specs.Prelude.{◌≡◌, ℕ, ◌+◌, ◌≤◌, cond, List, [], ◌∷◌, length, Ok, Err, Result, nat_le}
use Rattle.marks.specs.Faults.{fault_of}
use Rattle.marks.specs.declared.mark.Mark.{Mark}
use Rattle.marks.specs.declared.fault.Fault.{Fault}
use Rattle.marks.specs.declared.fault.Layer.TheVariants.{Reader}
use Rattle.marks.specs.declared.fault.Ground.{Ground}
use Rattle.marks.specs.declared.fault.Ground.TheVariants.{TooManyMarks}
use Rattle.marks.specs.Gives.{Close}
use Rattle.addresses.specs.Mailboxes.{Entry}
use Rattle.addresses.specs.Limits.{most_marks}
use Rattle.addresses.specs.Steps.{Standing, start, step, ending}

pub record Reading : Type 0 where
  pub answer : Result (List Entry) Fault
  pub left : List Mark

abbrev pub reader_fault : Ground → ℕ → Fault
reader_fault g t = fault_of Reader g t

abbrev pub placed : ℕ → Result (List Entry) Ground → Result (List Entry) Fault
placed t (Ok l) = Ok l
placed t (Err g) = Err (reader_fault g t)

-- the fault of a source passes as it came
abbrev pub at_close : ℕ → Close → Standing → Result (List Entry) Fault
at_close t (Ok tt) p = placed t (ending p)
at_close t (Err f) p = Err f

abbrev pub refused : Ground → ℕ → List Mark → Reading
refused g t ms = record { answer = Err (reader_fault g t); left = ms }

abbrev pub go_on : (Standing → Reading) → ℕ → List Mark → Result Standing Ground → Reading
go_on rest t ms (Ok p) = rest p
go_on rest t ms (Err g) = refused g t ms

unfoldable pub run : ℕ → List Mark → Close → Standing → Reading
run t [] x p = record { answer = at_close t x p; left = [] }
run t (m ∷ ms) x p = cond (nat_le most_marks t) (refused TooManyMarks t ms) (go_on (λ q. run (t + 1) ms x q) t ms (step p m))

abbrev pub reading : List Mark → Close → Reading
reading ms x = run 0 ms x start

pub data Leads : List Mark → Standing → Standing → Type 0 where
  stays : {p : Standing} → Leads [] p p
  moves : {m : Mark} {ms : List Mark} {p q r : Standing} → step p m ≡ Ok q → Leads ms q r → Leads (m ∷ ms) p r

abbrev pub HasReading : List Mark → List Entry → Type 0
HasReading ms l = (length ms ≤ most_marks) × ((p : Standing) × Leads ms start p × (ending p ≡ Ok l))
