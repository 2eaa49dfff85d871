use Rattle.std.proofs.Common.{◌≡◌, ℕ, List, Ok, Err, IsUtf8, Bor, Result, sym, ap, ◌∙◌, rules}
use Rattle.std.specs.Result.{MatchResult}
use Rattle.std.specs.Str.{IsValidUpTo, valid_up_to, chars}
use Rattle.marks.specs.declared.fault.Fault.{Fault}
use Rattle.marks.specs.declared.fault.Ground.TheVariants.{IllFormedUtf8}
use Rattle.addresses.specs.Refusals.{list_fault}
use Rattle.addresses.specs.Additions.{or_ill, text_of}
use Rattle.additions.specs.Steps.{text_in}
use Rattle.additions.proofs.Reading.{text_found, ill_found}
use Rattle.additions.proofs.text.as_text.Goals as goal

told : {E : Type 0} (bs : List ℕ) (r : Result (Bor (List ℕ)) E) (up : E → ℕ) (q : Result (Bor (List ℕ)) Fault)
    → MatchResult r (λ s. (s.now ≡ bs) × IsUtf8 bs) (λ e. (¬ IsUtf8 bs) × IsValidUpTo bs (up e))
    → MatchResult r (λ s. q ≡ Ok s) (λ e. q ≡ Err (list_fault IllFormedUtf8 (up e)))
    → text_in q ≡ text_of bs
told bs (Ok s) up q found same = ap text_in same ∙ ap (λ xs. Ok (chars xs)) found.0 ∙ sym (ap or_ill (text_found bs found.1))
told bs (Err e) up q found same = ap text_in same ∙ sym (ap or_ill (ill_found bs (up e) found.1))

pub returns : goal.returns
returns c = told c.args.bytes.now c.from_utf8.result valid_up_to c.map_err.result c.from_utf8.ensures.cases (search rules)
