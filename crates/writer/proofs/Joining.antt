-- How a mailbox is put together from its pieces: its title and its address. Assumes nothing.
use Rattle.std.proofs.Common.{◌≡◌, ℕ, Bool, true, false, cond, not, List, [], ◌∷◌, ◌++◌, Some, None, Option, sym, refl}
use Rattle.std.proofs.lemmas.List.{append_assoc}
use Rattle.addresses.specs.Signs.{space}
use Rattle.addresses.specs.Bare.{bare}
use Rattle.addresses.specs.Mailboxes.{mailbox}
use Rattle.addresses.specs.Written.{quoted, bracketed, mailbox_text}
use Rattle.writer.specs.Pieces.{titled, in_brackets, addressed}

pub mailbox_parts : (n : Option (List ℕ)) (a : List ℕ) → mailbox_text (mailbox n a) ≡ titled n ++ addressed (in_brackets n a) a
mailbox_parts (Some n) a = sym (append_assoc (quoted n) (space ∷ []) (bracketed a))
mailbox_parts None a = by (bare a)
  where
    by : (b : Bool) → cond b a (bracketed a) ≡ cond (not b) (bracketed a) a
    by true = refl
    by false = refl
