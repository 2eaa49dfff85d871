use Rattle.std.proofs.Common.{◌≡◌, ◌<◌, ◌≤◌, length, take, drop, sym, refl, ◌∙◌, arith}
use Rattle.std.proofs.lemmas.List.{length-take-le, length-drop}
use Rattle.std.proofs.lemmas.Result.{err_from_is_err_and}
use Rattle.characters.proofs.Standing.{decoded_sound}
use Rattle.marks.specs.declared.table.TokenTable.{TokenTable}
use Rattle.marks.proofs.TableSteps.{in_part, gives_char, gives_fault, gives_ill}
use Rattle.marks.proofs.table.TokenTable.character.Goals as goal

record Inside (s : TokenTable) : Type 0 where
  short : length s.text.now ≤ 60000
  whole : length (take s.part.end s.text.now) ≡ s.part.end
  before : s.part.at < length (take s.part.end s.text.now)

inside : (s : TokenTable) → s.part.at < s.part.end → Inside s
inside s h =
    let p = in_part (length s.text.now) s.part.end s.part.at s.within h in
    let l = length-take-le s.part.end s.text.now p.1 in
    record { short = p.0; whole = l; before = omega (arith, l) }

pub returns-in_err-mark : goal.returns-in_err-mark
returns-in_err-mark c =
    let s = c.args.self.now in
    let i = inside s c.requires in
    let p = err_from_is_err_and c.from_residual.result c.from_residual.ensures.1 in
    rw (p.1, p.2) (gives_fault s.text.now s.tokens.now i.short s.part s.index i.before c.in-Some.c c.in-Some.length c.in_err-mark.field-0.0 (sym c.character_at.ensures ∙ c.in-Some.is) (sym c.in_err-mark.ensures))

pub overflow_add-self : goal.overflow_add-self
overflow_add-self c =
    let s = c.args.self.now in
    let i = inside s c.requires in
    let d = decoded_sound (drop s.part.at (take s.part.end s.text.now)) c.in-Some.c c.in-Some.length (sym c.character_at.ensures ∙ c.in-Some.is) in
    let p = in_part (length s.text.now) s.part.end s.part.at s.within c.requires in
    omega (arith, i.whole, i.before, d.5, p.0, p.1, length-drop s.part.at (take s.part.end s.text.now))

pub returns : goal.returns
returns c =
    let s = c.args.self.now in
    let i = inside s c.requires in
    gives_char s.text.now s.tokens.now i.short s.part s.index i.before c.in-Some.c c.in-Some.length c.in_ok-mark.mark _ (sym c.character_at.ensures ∙ c.in-Some.is) (sym c.in_ok-mark.ensures) refl

pub returns-in_default : goal.returns-in_default
returns-in_default c =
    let s = c.args.self.now in
    let i = inside s c.requires in
    rw c.fault.ensures (gives_ill s.text.now s.tokens.now i.short s.part s.index i.before (sym c.character_at.ensures ∙ c.in_default.is))
