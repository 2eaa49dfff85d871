use Rattle.std.proofs.Common.{Some, sym, ap, ◌∙◌, arith}
use Rattle.characters.proofs.Standing.{decoded_ascii_at}
use Rattle.characters.proofs.character.character_at.Goals as goal

pub returns-in-Some : goal.returns-in-Some
returns-in-Some c =
    let (_, _, _, (inside, is), _) = c.in-Some.ensures.lookup in
    ap (λ x. Some (x, 1)) (c.from.ensures ∙ is 0)
    ∙ sym (decoded_ascii_at c.args.text.now c.args.at inside (omega (arith, is 0)))
