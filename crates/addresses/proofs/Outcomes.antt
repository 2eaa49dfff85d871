-- What comes of a call.
--     err_ok         a fault is no result
--     comes_ok, comes_err    a call that is accepted, or refused, as its definition has it
-- Assumes nothing.
use Rattle.std.proofs.Common.{◌≡◌, List, Ok, Err, Result, sym, ap, ◌∙◌}
use Rattle.marks.specs.declared.fault.Fault.{Fault}
use Rattle.addresses.specs.Mailboxes.{Entry}
use Rattle.addresses.specs.Outcomes.{done, left_of, ComesOut}

pub err_ok : {X Y Z : Type 0} {x : X} {f : Y} → ◌≡◌ {A = Result X Y} (Err f) (Ok x) → Z
err_ok e = cc

pub comes_ok : {l k w : List Entry} {o : Result (List Entry) Fault} {r : Result (Unit {0}) Fault} → o ≡ Ok w → r ≡ Ok tt → k ≡ w → ComesOut l o r k
comes_ok {l} e a b = record { answers = a ∙ sym (ap done e); leaves = b ∙ sym (ap (left_of l) e) }

pub comes_err : {l k : List Entry} {o : Result (List Entry) Fault} {r : Result (Unit {0}) Fault} {f : Fault} → o ≡ Err f → r ≡ Err f → k ≡ l → ComesOut l o r k
comes_err {l} e a b = record { answers = a ∙ sym (ap done e); leaves = b ∙ sym (ap (left_of l) e) }
