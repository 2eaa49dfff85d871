-- The laws of additions and removals.
--     AdditionsJudged    of a proper list: where there is a list that an addition would leave, it is accepted and leaves that
--                         one exactly when that one is proper, and is refused exactly when no text at all reads as it
--     AdditionsDenied    where there is none, the addition is refused for what is wrong first
--     AdditionsDefinite  there is one such list, or something is wrong, and not both
--     RemovalsExact      a removal is accepted and leaves a list exactly when that list is the old one without the part named
--     RemovalsProper     of a proper list it then leaves a proper one
--     RemovalsRefused    a removal is refused exactly when the part is missing, with the fault that says why
--     LooksRefused       and so is a look
-- Assumes nothing.
use Rattle.std.specs.Prelude.{◌≡◌, ℕ, ◌⊎◌, ◌↔◌, List, Ok, Err, Option}
use Rattle.marks.specs.declared.fault.Fault.{Fault}
use Rattle.addresses.specs.Mailboxes.{Entry}
use Rattle.addresses.specs.Proper.{Proper}
use Rattle.addresses.specs.Additions.{Addition, added}
use Rattle.addresses.specs.Removals.{removed}
use Rattle.addresses.specs.Looks.{look}
use Rattle.addresses.specs.Changes.{Without}
use Rattle.addresses.specs.Missing.{Missing}
use Rattle.addresses.specs.Would.{Would, Denied, Unreadable}

-- w is the list that the addition a would leave of l
pub record Judged (l : List Entry) (a : Addition) (w : List Entry) : Type 0 where
  pub exactly : (added l a ≡ Ok w) ↔ Proper w
  pub only : (k : List Entry) → added l a ≡ Ok k → k ≡ w
  pub unreadable : ((f : Fault) × (added l a ≡ Err f)) ↔ Unreadable w

abbrev pub AdditionsJudged : Type 0
AdditionsJudged = (l : List Entry) (a : Addition) (w : List Entry) → Proper l → Would l a w → Judged l a w

abbrev pub AdditionsDenied : Type 0
AdditionsDenied = (l : List Entry) (a : Addition) (f : Fault) → Denied l a f → added l a ≡ Err f

pub record Definite (l : List Entry) (a : Addition) : Type 0 where
  pub some : ((w : List Entry) × Would l a w) ⊎ ((f : Fault) × Denied l a f)
  pub one : (v w : List Entry) → Would l a v → Would l a w → v ≡ w
  pub apart : (f : Fault) (w : List Entry) → Denied l a f → Would l a w → ⊥

abbrev pub AdditionsDefinite : Type 0
AdditionsDefinite = (l : List Entry) (a : Addition) → Definite l a

abbrev pub RemovalsExact : Type 0
RemovalsExact = (l : List Entry) (i : ℕ) (o : Option ℕ) (k : List Entry) → (removed l i o ≡ Ok k) ↔ Without l i o k

abbrev pub RemovalsProper : Type 0
RemovalsProper = (l : List Entry) (i : ℕ) (o : Option ℕ) (k : List Entry) → Proper l → Without l i o k → Proper k

abbrev pub RemovalsRefused : Type 0
RemovalsRefused = (l : List Entry) (i : ℕ) (o : Option ℕ) (f : Fault) → (removed l i o ≡ Err f) ↔ Missing l i o f

abbrev pub LooksRefused : Type 0
LooksRefused = (l : List Entry) (i : ℕ) (o : Option ℕ) (f : Fault) → (look l i o ≡ Err f) ↔ Missing l i o f
