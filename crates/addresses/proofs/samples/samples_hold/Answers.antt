-- All of it by computation: each definition is opened, and both sides are the same.
use Rattle.std.proofs.Common.{◌≡◌, ℕ, true, List, [], Some, Ok, Err, Option, Result, refl, ap, ◌∙◌}
use lib.Utf8.{scalars, encode, encodes}
use Rattle.std.proofs.lemmas.Bool.{and_parts}
use Rattle.marks.specs.declared.fault.Fault.{Fault}
use Rattle.characters.specs.Decoding.{decoded}
use Rattle.characters.specs.WhiteSpace.{white}
use Rattle.marks.specs.Spelling.{spelled}
use Rattle.marks.specs.Tables.{tokens_stream}
use Rattle.addresses.specs.Additions.{or_ill, text_of, mailbox_checks, with_mailbox}
use Rattle.addresses.specs.Limits.{short, within}
use Rattle.addresses.specs.Mailboxes.{mailbox, Entry}
use Rattle.addresses.specs.Refusals.{◌>>=◌, judged}
use Rattle.addresses.specs.Samples.{utf8, in_numbers, adding}
use Rattle.addresses.specs.WellFormed.{characters_of, characters_from}
use Rattle.addresses.proofs.Characters.{characters_found}
use Rattle.addresses.specs.Trim.{trim}
use Rattle.addresses.specs.Reading.{run}
use Rattle.addresses.specs.Written.{written}
use Rattle.addresses.specs.Fine.{part}
use Rattle.addresses.proofs.Sampling.{◌then◌}
use Rattle.addresses.proofs.samples.samples_hold.Goals as goal

-- the addition once its name is decoded
abbrev from_name : Result (Option (List ℕ)) Fault → Result (List Entry) Fault
from_name r = do
  m ← r >>= (λ n. text_of (utf8 "a>b@c") >>= (λ a. Ok (mailbox n a)))
  judged (mailbox_checks m (with_mailbox [] m)) (with_mailbox [] m)

decoded_first : (n : List ℕ) → scalars n ≡ true → adding (Some (encodes n)) (utf8 "a>b@c") ≡ from_name (Ok (Some n))
decoded_first n h =
    let whole : characters_of (encodes n) ≡ Ok n = ((characters_found (encodes n)).well_formed n).1 (h, refl) in
    ap (λ r. from_name (or_ill r >>= (λ cs. Ok (Some cs)))) whole

then_judged : (n : List ℕ) → short n ≡ true → in_numbers (from_name (Ok (Some n))) ≡ Err (4, 42, 0)
unfolding encode decoded characters_from
then_judged n h = rw h

named : (n : List ℕ) → part n ≡ true → in_numbers (adding (Some (encodes n)) (utf8 "a>b@c")) ≡ Err (4, 42, 0)
named n h =
    let p = and_parts (short n) (scalars n) h in
    ap in_numbers (decoded_first n p.1) ∙ then_judged n p.0

pub returns : goal.returns
unfolding encode decoded white spelled tokens_stream within trim run written characters_from
returns c =
    (record { ends = refl; reads = refl }, refl)
    then (record { ends = refl; reads = refl }, refl)
    then refl
    then refl
    then (record { ends = refl; reads = refl }, refl)
    then (record { ends = refl; reads = refl }, refl)
    then (record { ends = refl; reads = refl }, refl)
    then (record { ends = refl; reads = refl }, refl)
    then (record { ends = refl; reads = refl }, refl)
    then (refl, refl)
    then refl
    then (refl, refl)
    then refl
    then named
    then (refl, refl)
    then tt
