-- What a table of signs picks.
--     sign, done     the sign of a row, and what is done at it
--     pick_other     no row has the character
--     pick_each      what holds of what each row does, and of what else is done, holds of what is picked
-- Assumes nothing.
use Rattle.std.proofs.Common.{◌≡◌, ℕ, false, eqb, List, [], ◌∷◌, map, refl, ◌∙◌}
use Rattle.std.proofs.lemmas.Bool.{or_parts, or_from, cond-false, cond_both}
use Rattle.std.specs.List.{AllByRecursion as Every}
use Rattle.characters.specs.WhiteSpace.{among}
use Rattle.addresses.specs.Machine.{Act, Case, ◌⇒◌, pick}

abbrev pub sign : Case → ℕ
sign (k ⇒ a) = k

abbrev pub done : Case → Act
done (k ⇒ a) = a

pub pick_other : (c : ℕ) (rows : List Case) (d : Act) → among c (map sign rows) ≡ false → pick c rows d ≡ d
pick_other c [] d e = refl
pick_other c ((k ⇒ a) ∷ rows) d e =
    let p = or_parts (eqb c k) (among c (map sign rows)) e in
    cond-false (eqb c k) a (pick c rows d) p.0 ∙ pick_other c rows d p.1

pub pick_each : (P : Act → Type 0) (c : ℕ) (rows : List Case) (d : Act) → Every (λ r. P (done r)) rows → (among c (map sign rows) ≡ false → P d) → P (pick c rows d)
pick_each P c [] d g h = h refl
pick_each P c ((k ⇒ a) ∷ rows) d g h =
    cond_both (eqb c k) a (pick c rows d) P (λ _. g.0)
    (λ e. pick_each P c rows d g.1 (λ f. h (or_from (eqb c k) (among c (map sign rows)) e f)))
