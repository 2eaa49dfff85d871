-- The law of whole runs. Assumes nothing.
use Rattle.std.proofs.Common.{◌≡◌, ℕ, ◌+◌, ◌<◌, ◌≤◌, Bool, true, false, cond, not, ltb, List, [], ◌∷◌, ◌++◌, map, length, Some, sym, refl, ap, ◌∙◌, ⊎_elim, append_assoc, append-nil, arith, Err}
use Rattle.std.proofs.lemmas.Bool.{and_parts, cases_lt}
use Rattle.std.proofs.lemmas.List.{length_push}
use Rattle.marks.specs.declared.mark.Mark.{Mark}
use Rattle.marks.specs.declared.mark.Mark.TheVariants.{Char, Blank, LineEnd, Word, WordChar}
use Rattle.blanks.specs.Given.{Given, Place, inside, outside, after, flat, ending, these, run_too_long, blanks, giving, given, long_run}
use Rattle.blanks.specs.Runs.{is_blank, of_word, all_blank, no_word, after_word, join, RunsTreated}
use Rattle.blanks.specs.Keeps.{giving_proper}
use Rattle.blanks.specs.OneMark.{code}
use Rattle.blanks.proofs.Reading.{goes_on, too_many, as_blank}

outside_after : (m : Mark) → not (of_word m) ≡ true → after m ≡ outside
outside_after (Char c) e = refl
outside_after (Blank c) e = refl
outside_after LineEnd e = refl
outside_after Word e = cc
outside_after (WordChar c) e = cc

wordless : (ms ns : List Mark) → no_word ms ≡ true → giving outside (ms ++ ns) ≡ these (map flat ms) (giving outside ns)
wordless [] ns p = refl
wordless (m ∷ ms) ns p =
    let h = and_parts (not (of_word m)) (no_word ms) p in
    ap (λ q. these (flat m ∷ []) (giving q (ms ++ ns))) (outside_after m h.0) ∙ ap (these (flat m ∷ [])) (wordless ms ns h.1)

-- the code point of a mark of a run
abbrev point : Mark → ℕ
point (Char c) = c
point (Blank c) = c
point LineEnd = 0x20
point Word = 0
point (WordChar c) = c

has_point : (m : Mark) → is_blank m ≡ true → (code m ≡ Some (point m)) × (Blank (point m) ≡ flat m)
has_point (Char c) e = cc
has_point (Blank c) e = (refl, refl)
has_point LineEnd e = (refl, refl)
has_point Word e = cc
has_point (WordChar c) e = cc

flattened : (r : List Mark) → all_blank r ≡ true → blanks (map point r) ≡ map flat r
flattened [] p = refl
flattened (m ∷ r) p =
    let h = and_parts (is_blank m) (all_blank r) p in
    let here = (has_point m h.0).1 in
    let rest = flattened r h.1 in
    cc

-- a run within the limit is read, with the blanks cs before it
reads : (cs : List ℕ) (r ms : List Mark) → all_blank r ≡ true → length cs + length r ≤ 1000 → giving (inside cs) (r ++ ms) ≡ giving (inside (cs ++ map point r)) ms
reads cs [] ms p h = ap (λ l. giving (inside l) ms) (sym (append-nil cs))
reads cs (m ∷ r) ms p h =
    let b = and_parts (is_blank m) (all_blank r) p in
    let more : length (cs ++ point m ∷ []) ≡ length cs + 1 = length_push cs (point m) in
    as_blank m (point m) cs (r ++ ms) (has_point m b.0).0
    ∙ goes_on cs (point m) (r ++ ms) (omega arith)
    ∙ reads (cs ++ point m ∷ []) r ms b.1 (omega arith)
    ∙ ap (λ l. giving (inside l) ms) (append_assoc cs (point m ∷ []) (map point r))

passes_limit : (cs : List ℕ) (r ms : List Mark) → all_blank r ≡ true → length cs ≤ 1000 → 1000 < length cs + length r → giving (inside cs) (r ++ ms) ≡ run_too_long
passes_limit cs [] ms p k h = absurd (omega arith)
passes_limit cs (m ∷ r) ms p k h =
    let b = and_parts (is_blank m) (all_blank r) p in
    let more : length (cs ++ point m ∷ []) ≡ length cs + 1 = length_push cs (point m) in
    as_blank m (point m) cs (r ++ ms) (has_point m b.0).0
    ∙ ⊎_elim
    (λ (lt : length cs < 1000). goes_on cs (point m) (r ++ ms) lt ∙ passes_limit (cs ++ point m ∷ []) r ms b.1 (omega arith) (omega arith))
    (λ (ge : 1000 ≤ length cs). too_many cs (point m) (r ++ ms) ge)
    (cases_lt (length cs) 1000)

these_join : (ms : List Mark) (g h : Given) → these ms (join g h) ≡ join (these ms g) h
these_join ms g h =
    elim g.long as (λ b. these ms (cond b (record { marks = g.marks; long = b }) (these g.marks h)) ≡ cond b (record { marks = ms ++ g.marks; long = b }) (these (ms ++ g.marks) h))
    [ true ↦ refl | false ↦ ap (λ l. record { marks = l; long = h.long }) (sym (append_assoc ms g.marks h.marks)) ]

cond_join : (b : Bool) (x g h : Given) → x ≡ join g h → cond b x run_too_long ≡ join (cond b g run_too_long) h
cond_join true x g h e = e
cond_join false x g h e = refl

cut : (p : Place) (ms ns : List Mark) (w : Mark) → of_word w ≡ true → giving p (ms ++ w ∷ ns) ≡ join (giving p (ms ++ w ∷ [])) (after_word ns)
cut p [] ns (Char c) e = cc
cut p [] ns (Blank c) e = cc
cut p [] ns LineEnd e = cc
cut outside [] ns Word e = refl
cut outside [] ns (WordChar c) e = refl
cut (inside cs) [] ns Word e = refl
cut (inside cs) [] ns (WordChar c) e = these_join (blanks cs) (ending (WordChar c ∷ [])) (after_word ns)
cut outside (m ∷ ms) ns w e =
    ap (these (flat m ∷ [])) (cut (after m) ms ns w e) ∙ these_join (flat m ∷ []) (giving (after m) (ms ++ w ∷ [])) (after_word ns)
cut (inside cs) (Char c ∷ ms) ns w e =
    ap (λ g. these (blanks cs) (these (Char c ∷ []) g)) (cut outside ms ns w e)
    ∙ ap (these (blanks cs)) (these_join (Char c ∷ []) (giving outside (ms ++ w ∷ [])) (after_word ns))
    ∙ these_join (blanks cs) (these (Char c ∷ []) (giving outside (ms ++ w ∷ []))) (after_word ns)
cut (inside cs) (Blank c ∷ ms) ns w e =
    cond_join (ltb (length cs) 1000) (giving (inside (cs ++ c ∷ [])) (ms ++ w ∷ ns)) (giving (inside (cs ++ c ∷ [])) (ms ++ w ∷ [])) (after_word ns) (cut (inside (cs ++ c ∷ [])) ms ns w e)
cut (inside cs) (LineEnd ∷ ms) ns w e =
    cond_join (ltb (length cs) 1000) (giving (inside (cs ++ 0x20 ∷ [])) (ms ++ w ∷ ns)) (giving (inside (cs ++ 0x20 ∷ [])) (ms ++ w ∷ [])) (after_word ns) (cut (inside (cs ++ 0x20 ∷ [])) ms ns w e)
cut (inside cs) (Word ∷ ms) ns w e =
    ap (these (Word ∷ [])) (cut (inside []) ms ns w e) ∙ these_join (Word ∷ []) (giving (inside []) (ms ++ w ∷ [])) (after_word ns)
cut (inside cs) (WordChar c ∷ ms) ns w e =
    ap (λ g. these (blanks cs) (these (WordChar c ∷ []) g)) (cut (inside []) ms ns w e)
    ∙ ap (these (blanks cs)) (these_join (WordChar c ∷ []) (giving (inside []) (ms ++ w ∷ [])) (after_word ns))
    ∙ these_join (blanks cs) (these (WordChar c ∷ []) (giving (inside []) (ms ++ w ∷ []))) (after_word ns)

-- of a row with a long run
ends_long : (ms r ns : List Mark) (w : Mark) → of_word w ≡ true → (giving outside (ms ++ w ∷ [])).long ≡ false → all_blank r ≡ true → 1000 < length r → giving outside (ms ++ w ∷ (r ++ ns)) ≡ record { marks = given (ms ++ w ∷ []); long = true }
ends_long ms r ns w e f p h =
    cut outside ms (r ++ ns) w e
    ∙ ap (join (giving outside (ms ++ w ∷ []))) (passes_limit [] r ns p (omega arith) (omega arith))
    ∙ ap (λ b. cond b (giving outside (ms ++ w ∷ [])) (these (given (ms ++ w ∷ [])) run_too_long)) f
    ∙ ap (λ l. record { marks = l; long = true }) (append-nil (given (ms ++ w ∷ [])))

pub runs_treated : RunsTreated
runs_treated = record {
  wordless = λ ms p. ap (giving outside) (sym (append-nil ms)) ∙ wordless ms [] p ∙ ap ending (append-nil (map flat ms));
  wordless_before = wordless;
  cut = cut outside;
  dropped = λ r ms p. reads [] r (Word ∷ ms) p.0 (omega arith);
  before_char = λ r ms c p. reads [] r (Char c ∷ ms) p.0 (omega arith) ∙ ap (λ l. these l (these (Char c ∷ []) (giving outside ms))) (flattened r p.0);
  before_word_char = λ r ms c p. reads [] r (WordChar c ∷ ms) p.0 (omega arith) ∙ ap (λ l. these l (these (WordChar c ∷ []) (after_word ms))) (flattened r p.0);
  before_close = λ r p. ap after_word (sym (append-nil r)) ∙ reads [] r [] p.0 (omega arith) ∙ ap ending (flattened r p.0);
  too_long = λ r ms p h. passes_limit [] r ms p (omega arith) (omega arith);
  fault = λ ms r ns w c e f p h. ap (λ (g : Given). cond g.long (Err (long_run (length g.marks))) c) (ends_long ms r ns w e f p h);
  proper = λ ms p. giving_proper outside ms refl p;
}
