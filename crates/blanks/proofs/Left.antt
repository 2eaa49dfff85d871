-- What is ahead of a layer that holds a run, of which the blanks up to a place were given.
--     next_blank    the blank there, and the rest
--     no_blank      where none is left, the mark behind the run, if there is one
-- Assumes nothing.
use Rattle.std.proofs.Common.{◌≡◌, ℕ, ◌+◌, List, [], ◌∷◌, drop, Some, None, Option, slice_get, sym, ap, ◌∙◌, ⊎_elim}
use Rattle.std.proofs.lemmas.List.{drop_more, drop_all}
use Rattle.std.proofs.lemmas.Option.{slice_get_within, get_or_from_slice_get, slice_get_cases, none-some}
use Rattle.marks.specs.declared.mark.Mark.{Mark}
use Rattle.marks.specs.declared.mark.Mark.TheVariants.{Blank}
use Rattle.blanks.specs.declared.held.Held.{Held}
use Rattle.blanks.specs.declared.state.State.TheVariants.{Holding}
use Rattle.blanks.specs.Given.{these, blanks}
use Rattle.blanks.specs.Ahead.{behind_run, ahead}
use Rattle.blanks.proofs.Answers.{stands}

none_left : (cs : List ℕ) (i : ℕ) → slice_get cs i ≡ None → drop i cs ≡ []
none_left cs i e = ⊎_elim (λ there. absurd (none-some there.0 (sym e ∙ there.2))) (λ past. drop_all i cs past.0) (slice_get_cases cs i).1

module _ (h : Held) (i : ℕ) (b : Option Mark) (held : h.state ≡ Holding i b) where
  pub next_blank : (c : ℕ) → slice_get h.run i ≡ Some c → (ws : List Mark) → ahead h ws ≡ these (Blank c ∷ []) (these (blanks (drop (i + 1) h.run)) (behind_run b ws))
  next_blank c e ws =
      stands h ws _ held
      ∙ ap (λ l. these (blanks l) (behind_run b ws)) (drop_more h.run i c (slice_get_within h.run i c e))
      ∙ ap (λ x. these (Blank x ∷ []) (these (blanks (drop (i + 1) h.run)) (behind_run b ws))) (get_or_from_slice_get h.run i c c e)

  pub no_blank : slice_get h.run i ≡ None → (ws : List Mark) → ahead h ws ≡ behind_run b ws
  no_blank e ws = stands h ws _ held ∙ ap (λ l. these (blanks l) (behind_run b ws)) (none_left h.run i e)
