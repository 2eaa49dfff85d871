-- How a call on a list is refused.
--     list_fault g p    the list's fault on the ground g at the place p
--     r >>= f           f of what r has, unless r is a fault; so that `do` names one step after the other
--     found o g p       what o has, or else that fault
--     b else g          a check: a test, and the ground if it fails
--     judged cs k       k, if all of the checks cs pass, or else the ground of the first that fails, at the place 0
-- Assumes nothing.
use Rattle.std.specs.Prelude.{ℕ, Bool, cond, List, [], ◌∷◌, Some, None, Ok, Err, Option, Result}
use Rattle.marks.specs.Faults.{fault_of}
use Rattle.marks.specs.declared.fault.Fault.{Fault}
use Rattle.marks.specs.declared.fault.Layer.TheVariants as layer
use Rattle.marks.specs.declared.fault.Ground.{Ground}
use Rattle.addresses.specs.Mailboxes.{Entry}

abbrev pub list_fault : Ground → ℕ → Fault
list_fault g p = fault_of layer.List g p

infixl 10 ◌>>=◌
abbrev pub ◌>>=◌ : {X Y : Type 0} → Result X Fault → (X → Result Y Fault) → Result Y Fault
Ok x >>= f = f x
Err e >>= f = Err e

abbrev pub found : {X : Type 0} → Option X → Ground → ℕ → Result X Fault
found (Some x) g p = Ok x
found None g p = Err (list_fault g p)

infixr 68 ◌else◌
pub data Check : Type 0 where
  ◌else◌ : Bool → Ground → Check

abbrev pub judged : List Check → List Entry → Result (List Entry) Fault
judged [] k = Ok k
judged ((b else g) ∷ cs) k = cond b (judged cs k) (Err (list_fault g 0))
