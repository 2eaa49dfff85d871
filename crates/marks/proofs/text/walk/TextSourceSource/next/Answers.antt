use Rattle.std.proofs.Common.{length, drop, sym, ap, ◌∙◌, arith}
use Rattle.std.proofs.lemmas.List.{length-drop}
use Rattle.characters.proofs.Standing.{decoded_sound}
use Rattle.marks.specs.Gives.{closing}
use Rattle.marks.specs.Streams.{gives_close}
use Rattle.marks.specs.Texts.{close_of, text_from}
use Rattle.marks.proofs.TextSteps.{before_stop, text_char, text_ill, text_close}
use Rattle.marks.proofs.text.walk.TextSourceSource.next.Goals as goal

pub returns-then-self : goal.returns-then-self
returns-then-self c =
    let s = c.args.self.now in
    let all = text_close s.text.now s.at s.end s.stops c.if-self.true in
    gives_close (text_from s.text.now s.at) (text_from s.text.now s.at) (close_of (length s.text.now)) c.closing.result all all
    (c.closing.ensures ∙ ap closing c.close_of.ensures)

pub returns-in_default : goal.returns-in_default
returns-in_default c =
    let s = c.args.self.now in
    let inside = before_stop (length s.text.now) s.end s.at s.stops c.if-self.false in
    rw c.fault.ensures (text_ill s.text.now s.at inside.0 inside.1 (sym c.character_at.ensures ∙ c.in_default.is))

pub overflow_add-self : goal.overflow_add-self
overflow_add-self c =
    let s = c.args.self.now in
    let inside = before_stop (length s.text.now) s.end s.at s.stops c.if-self.false in
    let d = decoded_sound (drop s.at s.text.now) c.in-Some.c c.in-Some.length (sym c.character_at.ensures ∙ c.in-Some.is) in
    omega (arith, inside.0, inside.1, d.5, length-drop s.at s.text.now)

pub returns : goal.returns
returns c =
    let s = c.args.self.now in
    let inside = before_stop (length s.text.now) s.end s.at s.stops c.if-self.false in
    text_char s.text.now s.at c.in-Some.c c.in-Some.length inside.0 (sym c.character_at.ensures ∙ c.in-Some.is)
