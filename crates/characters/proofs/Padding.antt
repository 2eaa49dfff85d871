-- The bytes of a character in a row of four. Assumes nothing.
use Rattle.std.proofs.Common.{◌≡◌, ℕ, true, List, length, Some, sym, ap, ◌∙◌}
use lib.Utf8.{scalar, encode}
use Rattle.std.proofs.lemmas.Bool.{cond-true}
use Rattle.characters.specs.Encoding.{padded, encoded}

pub written : (c : ℕ) (bs : List ℕ) → scalar c ≡ true → encode c ≡ bs → Some (padded bs, length bs) ≡ encoded c
written c bs s e = sym (cond-true _ _ _ s ∙ ap (λ x. Some (padded x, length x)) e)
