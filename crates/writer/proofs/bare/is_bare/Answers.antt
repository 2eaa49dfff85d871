use Rattle.std.proofs.Common.{◌≡◌, Bool, true, not, ◌&&◌, sym, ap, ◌∙◌}
use Rattle.characters.specs.WhiteSpace.{white}
use Rattle.addresses.specs.Bare.{bare}
use Rattle.writer.proofs.Bareness.{ends_by_last}
use Rattle.writer.proofs.bare.is_bare.Goals as goal
use Rattle.writer.proofs.bare.is_bare.Goals.{then-may_begin, else-may_begin}

-- tests that pass leave the last one to decide
decides : (x y z : Bool) → x ≡ true → y ≡ true → (x && (y && z)) ≡ z
decides x y z p q = ap (λ b. b && (y && z)) p ∙ ap (λ b. b && z) q

pub returns-then-all_follow : goal.returns-then-all_follow
returns-then-all_follow c =
    let ends = c.is_white_space.ensures.answer ∙ ap (λ x. white x.now) c.unwrap_or-last.ensures
    ∙ sym (ends_by_last c.in-Some.first c.in-Some.rest.now c.last.result c.last.ensures.value) in
    elim c.if-may_begin.branch [
      | then-may_begin w ↦
          ap not ends ∙ sym (decides _ _ _ (sym w.if-may_begin.ensures) (sym w.all_follow.ensures ∙ sym w.value-is ∙ c.if-all_follow.true))
          ∙ sym (ap bare c.in-Some.ensures.cases.0)
      | else-may_begin w ↦ cc
    ]
