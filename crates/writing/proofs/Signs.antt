-- What is written before and behind a step are scalar values, and their bytes are the same numbers. Assumes nothing.
use Rattle.std.proofs.Common.{◌≡◌, Bool, true, false, cond, eqb, [], refl}
use lib.Utf8.{scalars, encode, encodes}
use Rattle.addresses.specs.Looks.{Seen, seen_mailbox, seen_group}
use Rattle.writer.specs.Pieces.{entry_lead, member_lead, closing}
use Rattle.writing.specs.Stages.{lead_at, tail_at}
use Rattle.writing.specs.declared.stage.Stage.{Stage}

pub lead_scalars : (s : Stage) → scalars (lead_at s) ≡ true
lead_scalars s = by (eqb s.members 0) s.first
  where
    by : (outside first : Bool) → scalars (cond outside (entry_lead first) (member_lead first)) ≡ true
    by true true = refl
    by true false = refl
    by false true = refl
    by false false = refl

closing_scalars : (ends : Bool) → scalars (cond ends closing []) ≡ true
closing_scalars true = refl
closing_scalars false = refl

pub tail_scalars : (s : Stage) (v : Seen) → scalars (tail_at s v) ≡ true
tail_scalars s (seen_mailbox n a) = closing_scalars (eqb s.members 1)
tail_scalars s (seen_group n k) = closing_scalars (eqb k 0)

leading_bytes : (outside first : Bool) → cond outside (entry_lead first) (member_lead first) ≡ encodes (cond outside (entry_lead first) (member_lead first))
unfolding encode
leading_bytes true true = refl
leading_bytes true false = refl
leading_bytes false true = refl
leading_bytes false false = refl

pub lead_bytes : (s : Stage) → lead_at s ≡ encodes (lead_at s)
lead_bytes s = leading_bytes (eqb s.members 0) s.first

closing_bytes : (ends : Bool) → cond ends closing [] ≡ encodes (cond ends closing [])
unfolding encode
closing_bytes true = refl
closing_bytes false = refl

pub tail_bytes : (s : Stage) (v : Seen) → tail_at s v ≡ encodes (tail_at s v)
tail_bytes s (seen_mailbox n a) = closing_bytes (eqb s.members 1)
tail_bytes s (seen_group n k) = closing_bytes (eqb k 0)
