-- What refuses a mailbox refuses it whatever would come of it.
--     refused_alike    a mailbox that is finished
--     admits           what a call that finishes it says of the hands, it says of all that they tell
--     refused_last     the last mailbox of the marks
-- Assumes nothing.
use Rattle.std.proofs.Common.{◌≡◌, Bool, true, false, cond, Ok, Err, Result, sym, ap, subst}
use Rattle.marks.specs.declared.fault.Ground.{Ground}
use Rattle.marks.specs.declared.fault.Ground.TheVariants.{AddressWithoutAt, FullList}
use Rattle.addresses.specs.Machine as model
use Rattle.addresses.specs.Steps.{SoFar, outside, inside, at, ending}
use Rattle.reader.specs.Drafts.{is_open}
use Rattle.reader.specs.declared.state.State.TheVariants.{Unquoted}
use Rattle.reader.specs.Parts.{finish_trimmed}
use Rattle.reader.specs.Views.{View, list_to, hand_in, standing, Said, Stepped}

pub refused_alike : {X Y : Type 0} (a b : Bool) (x : X) (y : Y) (g : Ground)
    → cond a (cond b (Ok x) (Err FullList)) (Err AddressWithoutAt) ≡ Err g → cond a (cond b (Ok y) (Err FullList)) (Err AddressWithoutAt) ≡ Err g
refused_alike true true x y g e = cc
refused_alike true false x y g e = let same : FullList ≡ g = cc in ap (λ h. Err h) same
refused_alike false b x y g e = let same : AddressWithoutAt ≡ g = cc in ap (λ h. Err h) same

pub admits : {X T : Type 0} (f : View → X) (a b : Bool) (v w : View) (r : Result T Ground)
    → Stepped (cond a (cond b (Ok v) (Err FullList)) (Err AddressWithoutAt)) r w → Said f (cond a (cond b (Ok (f v)) (Err FullList)) (Err AddressWithoutAt)) r w
admits f true true v w (Ok u) e = let same : v ≡ w = cc in ap (λ x. Ok (f x)) same
admits f true false v w (Ok u) e = cc
admits f false b v w (Ok u) e = cc
admits f a b v w (Err g) e = refused_alike a b v (f v) g e

refused_outside : (l : SoFar) (v : View) (g : Ground) → is_open l ≡ false → finish_trimmed (list_to l v) ≡ Err g → ending (at (model.Unquoted v.addr) l) ≡ Err g
refused_outside (outside es) v g o e = refused_alike _ _ _ _ _ e
refused_outside (inside es n ms) v g o e = cc

pub refused_last : (v : View) (g : Ground) → is_open v.list ≡ false → v.state ≡ Unquoted → finish_trimmed v ≡ Err g → ending (standing v) ≡ Err g
refused_last v g o s e = subst (λ p. ending (at (hand_in p v) v.list) ≡ Err g) (sym s) (refused_outside v.list v g o e)
