use Rattle.std.proofs.Common.{◌≡◌, ℕ, List, length, drop, None, sym, ap, ◌∙◌, subst, arith, length-drop, drop_of_length-le, take_all}
use Rattle.characters.specs.Decoding.{decoded, Front}
use Rattle.characters.proofs.Standing.{decoded_empty, decoding_stands}
use Rattle.characters.proofs.decoding.decode.Goals as goal

pub returns-in_err-get : goal.returns-in_err-get
returns-in_err-get c =
    let bs : List ℕ = drop c.args.at c.args.text.now in
    let none : decoded bs ≡ None = decoded_empty bs (ap length (drop_of_length-le c.args.text.now (omega (arith, c.in_err-get.ensures.lookup)))) in
    rw c.from_residual.ensures (record { answer = sym none; stands = subst (Front bs) none (decoding_stands bs) })

-- the part from `at` to the end is all that follows
pub returns : goal.returns
returns c =
    let bs : List ℕ = drop c.args.at c.args.text.now in
    let ((_, _, part, _), _) = c.in_ok-get.ensures.lookup in
    let is : c.front.result ≡ decoded bs = c.front.ensures ∙ ap decoded (part ∙ take_all _ bs (omega (arith, length-drop c.args.at c.args.text.now))) in
    record { answer = is; stands = subst (Front bs) (sym is) (decoding_stands bs) }
