-- Rows of checks.
--     Passes c                       the check c passes
--     judged_passes, judged_fails    what comes of a row of checks
--     Settles o w P                  o is the list w, and P holds; or o is a fault, and P does not hold
--     judged_settles, settles_same   a row of checks settles whether all pass, and whatever is as true
--     mailbox_passes, proper_passes  the checks of a mailbox pass where it is proper and the list within the limits, and only there
-- Assumes nothing.
use Rattle.std.proofs.Common.{◌≡◌, ℕ, ◌≤◌, Bool, true, false, cond, leb, List, [], ◌∷◌, ◌++◌, length, Some, None, Ok, Err, Option, Result, refl, ◌∙◌, arith}
use mathlib.Core.Bool.{false≢true}
use Rattle.std.proofs.lemmas.Bool.{leb-true, le-leb, cond-true, cond-false}
use Rattle.std.specs.List.{AllByRecursion as Every}
use Rattle.marks.specs.declared.fault.Fault.{Fault}
use Rattle.marks.specs.declared.fault.Ground.{Ground}
use Rattle.addresses.specs.Mailboxes.{Mailbox, mailbox, Entry, name_length}
use Rattle.addresses.specs.Limits.{Within}
use Rattle.addresses.specs.Proper.{PartName, ProperMailbox}
use Rattle.addresses.specs.Refusals.{list_fault, Check, ◌else◌, judged}
use Rattle.addresses.specs.Additions.{mailbox_checks}
use Rattle.addresses.specs.Would.{Utf8Name, Utf8Mailbox}
use Rattle.addresses.proofs.Within.{within_true, true_within}
use Rattle.addresses.proofs.Fining.{writable_from, writable_to}

abbrev pub Passes : Check → Type 0
Passes (b else g) = b ≡ true

pub judged_passes : (cs : List Check) (k : List Entry) → Every Passes cs → judged cs k ≡ Ok k
judged_passes [] k p = refl
judged_passes ((b else g) ∷ cs) k p = cond-true b (judged cs k) (Err (list_fault g 0)) p.0 ∙ judged_passes cs k p.1

-- the checks cs pass, and the next one fails
pub judged_fails : (cs : List Check) (b : Bool) (g : Ground) (ds : List Check) (k : List Entry) → Every Passes cs → b ≡ false → judged (cs ++ (b else g) ∷ ds) k ≡ Err (list_fault g 0)
judged_fails [] b g ds k p e = cond-false b (judged ds k) (Err (list_fault g 0)) e
judged_fails ((c else h) ∷ cs) b g ds k p e = cond-true c (judged (cs ++ (b else g) ∷ ds) k) (Err (list_fault h 0)) p.0 ∙ judged_fails cs b g ds k p.1 e

abbrev pub Settles : Result (List Entry) Fault → List Entry → Type 0 → Type 0
Settles (Ok k) w P = (k ≡ w) × P
Settles (Err f) w P = P → ⊥

settles_check : (b : Bool) (o : Result (List Entry) Fault) (f : Fault) (w : List Entry) (P : Type 0) → Settles o w P → Settles (cond b o (Err f)) w ((b ≡ true) × P)
settles_check true (Ok k) f w P s = (s.0, (refl, s.1))
settles_check true (Err g) f w P s = λ p. s p.1
settles_check false o f w P s = λ p. false≢true p.0

pub judged_settles : (cs : List Check) (w : List Entry) → Settles (judged cs w) w (Every Passes cs)
judged_settles [] w = (refl, tt)
judged_settles ((b else g) ∷ cs) w = settles_check b (judged cs w) (list_fault g 0) w (Every Passes cs) (judged_settles cs w)

pub settles_same : (o : Result (List Entry) Fault) (w : List Entry) (P Q : Type 0) → (P → Q) → (Q → P) → Settles o w P → Settles o w Q
settles_same (Ok k) w P Q f g s = (s.0, f s.1)
settles_same (Err x) w P Q f g s = λ q. s (g q)

pub mailbox_passes : (n : Option (List ℕ)) (a : List ℕ) (m : Mailbox) (k : List Entry) → Utf8Mailbox n a m → Every Passes (mailbox_checks m k) → ProperMailbox m × Within k
mailbox_passes n a (mailbox name address) k (t, u) (few, (short, (has, (writes, (fits, _))))) = (
  record {
    name = part n name t few;
    address = record { few = leb-true (length address) 2000 short; scalar = u.0 };
    has_at = has;
    writable = writable_from name address writes;
  },
  true_within k fits,
)
  where
    part : (n name : Option (List ℕ)) → Utf8Name n name → leb (name_length name) 2000 ≡ true → PartName name
    part n None t f = tt
    part None (Some cs) t f = absurd t
    part (Some bs) (Some cs) t f = record { few = leb-true (length cs) 2000 f; scalar = t.0 }

pub proper_passes : (m : Mailbox) (k : List Entry) → ProperMailbox m → Within k → Every Passes (mailbox_checks m k)
proper_passes (mailbox n a) k p f =
    (le-leb (name_length n) 2000 (few n p.name), (le-leb (length a) 2000 p.address.few, (p.has_at, (writable_to n a p.writable, (within_true k f, tt)))))
  where
    few : (n : Option (List ℕ)) → PartName n → name_length n ≤ 2000
    few None p = omega arith
    few (Some n) p = p.few
