-- What becomes of whole runs: the law of the blank layer.
--     Run r             r is an unbroken row of blanks and line ends, of at most 1,000 marks
--     after_word ms     what is given of ms, which stand directly after a Word or a word character
--     join g h          what g gives and then h, unless a long run ended all
--     RunsTreated       the law
-- Assumes nothing.
use Rattle.std.specs.Prelude.{◌≡◌, ℕ, ◌<◌, ◌≤◌, Bool, true, false, cond, not, ◌&&◌, List, [], ◌∷◌, ◌++◌, map, length, Err}
use Rattle.marks.specs.declared.mark.Mark.{Mark}
use Rattle.marks.specs.declared.mark.Mark.TheVariants.{Char, Blank, LineEnd, Word, WordChar}
use Rattle.marks.specs.Gives.{Close}
use Rattle.marks.specs.Proper.{AllProper}
use Rattle.blanks.specs.Given.{Given, inside, outside, flat, ending, these, run_too_long, giving, given, long_run, closed}

-- may stand in a run
abbrev pub is_blank : Mark → Bool
is_blank (Char c) = false
is_blank (Blank c) = true
is_blank LineEnd = true
is_blank Word = false
is_blank (WordChar c) = false

-- a run may follow it
abbrev pub of_word : Mark → Bool
of_word (Char c) = false
of_word (Blank c) = false
of_word LineEnd = false
of_word Word = true
of_word (WordChar c) = true

abbrev pub all_blank : List Mark → Bool
all_blank [] = true
all_blank (m ∷ ms) = is_blank m && all_blank ms

abbrev pub no_word : List Mark → Bool
no_word [] = true
no_word (m ∷ ms) = not (of_word m) && no_word ms

abbrev pub Run : List Mark → Type 0
Run r = (all_blank r ≡ true) × (length r ≤ 1000)

abbrev pub after_word : List Mark → Given
after_word ms = giving (inside []) ms

abbrev pub join : Given → Given → Given
join g h = cond g.long g (these g.marks h)

pub record RunsTreated : Type 0 where
  -- marks with no Word and no word character among them pass one by one, each line end as a space
  pub wordless : (ms : List Mark) → no_word ms ≡ true → giving outside ms ≡ ending (map flat ms)
  -- so they do before the first of these too
  pub wordless_before : (ms ns : List Mark) → no_word ms ≡ true → giving outside (ms ++ ns) ≡ these (map flat ms) (giving outside ns)
  -- at each Word or word character w a row may be cut: what came before w has no part in what follows it
  pub cut : (ms ns : List Mark) (w : Mark) → of_word w ≡ true → giving outside (ms ++ w ∷ ns) ≡ join (giving outside (ms ++ w ∷ [])) (after_word ns)
  -- a run before a Word is dropped
  pub dropped : (r ms : List Mark) → Run r → after_word (r ++ Word ∷ ms) ≡ these (Word ∷ []) (after_word ms)
  -- any other run is given whole, each line end as a space: before a character, before a word character that no Word
  -- began, and before the close below, be that the end or a fault
  pub before_char : (r ms : List Mark) (c : ℕ) → Run r → after_word (r ++ Char c ∷ ms) ≡ these (map flat r) (these (Char c ∷ []) (giving outside ms))
  pub before_word_char : (r ms : List Mark) (c : ℕ) → Run r → after_word (r ++ WordChar c ∷ ms) ≡ these (map flat r) (these (WordChar c ∷ []) (after_word ms))
  pub before_close : (r : List Mark) → Run r → after_word r ≡ ending (map flat r)
  -- of a longer run nothing is given, nor of what follows it, whatever that is
  pub too_long : (r ms : List Mark) → all_blank r ≡ true → 1000 < length r → after_word (r ++ ms) ≡ run_too_long
  -- and its fault is the close, with the number of the marks that were given before it
  pub fault : (ms r ns : List Mark) (w : Mark) (c : Close) → of_word w ≡ true → (giving outside (ms ++ w ∷ [])).long ≡ false → all_blank r ≡ true → 1000 < length r → closed (ms ++ w ∷ (r ++ ns)) c ≡ Err (long_run (length (given (ms ++ w ∷ []))))
  -- of proper marks proper ones are given
  pub proper : (ms : List Mark) → AllProper ms → AllProper (given ms)
