-- Rows of commas, which read as the empty list, where texts and rows of marks are longest: by induction, since the checker
-- would take too long over 60,000 marks one by one.
--     commas_text    60,000 bytes of them are read
--     commas_long    60,001 bytes are refused
--     commas_many    of 60,001 marks of them the last is refused
-- Assumes nothing.
use Rattle.std.proofs.Common.{◌≡◌, ℕ, zero, suc, ◌+◌, ◌<◌, ◌≤◌, true, List, [], ◌∷◌, map, length, replicate, Err, sym, refl, ap, ◌∙◌, subst, arith, Ok}
use lib.Utf8.{scalars, encode, encodes}
use Rattle.std.proofs.lemmas.List.{length-replicate, replicate-append-replicate}
use Rattle.marks.specs.declared.mark.Mark.{Mark}
use Rattle.marks.specs.declared.mark.Mark.TheVariants.{Char}
use Rattle.marks.specs.Streams.{Stream}
use Rattle.marks.proofs.TextLaw.{text_law}
use Rattle.addresses.specs.Signs.{comma}
use Rattle.addresses.specs.Steps.{start}
use Rattle.addresses.specs.Reading.{Reading, reading, run, Leads, stays, moves, HasReading}
use Rattle.addresses.specs.ReadsAs.{ReadsAs}
use Rattle.addresses.specs.Samples.{from_text, from_marks, answer_to, in_numbers}
use Rattle.addresses.proofs.Runs.{run_leads, run_full}
use Rattle.addresses.proofs.Joining.{reads_characters}

commas_lead : (n : ℕ) → Leads (replicate n (Char comma)) start start
commas_lead zero = stays
commas_lead (suc n) = moves refl (commas_lead n)

commas_scalar : (n : ℕ) → scalars (replicate n comma) ≡ true
commas_scalar zero = refl
commas_scalar (suc n) = commas_scalar n

commas_bytes : (n : ℕ) → encodes (replicate n comma) ≡ replicate n comma
unfolding encode
commas_bytes zero = refl
commas_bytes (suc n) = ap (λ bs. comma ∷ bs) (commas_bytes n)

commas_marks : (n : ℕ) → map Char (replicate n comma) ≡ replicate n (Char comma)
commas_marks zero = refl
commas_marks (suc n) = ap (λ ms. Char comma ∷ ms) (commas_marks n)

commas_read : (n : ℕ) → n ≤ 60000 → ReadsAs (replicate n comma) []
commas_read n few =
    let has : HasReading (replicate n (Char comma)) [] = (omega (arith, length-replicate n (Char comma)), (start, commas_lead n, refl)) in
    subst (λ bs. ReadsAs bs []) (commas_bytes n)
    (reads_characters (replicate n comma) [] (commas_scalar n)
    (subst (λ (bs : List ℕ). length bs ≤ 60000) (sym (commas_bytes n)) (omega (arith, length-replicate n comma)))
    (subst (λ ms. HasReading ms []) (sym (commas_marks n)) has))

commas_refused : (n : ℕ) → 60000 < n → in_numbers (answer_to (from_text (replicate n comma))) ≡ Err (1, 40, 60000)
unfolding run
commas_refused n many =
    ap (λ (s : Stream). in_numbers (reading s.marks s.close).answer) ((text_law (replicate n comma)).long (omega (arith, length-replicate n comma)))

commas_full : (n : ℕ) → n ≡ 60000 → in_numbers (answer_to (from_marks (replicate (n + 1) (Char comma)))) ≡ Err (3, 22, 60000)
commas_full n e =
    let ms = replicate n (Char comma) in
    let long : n ≡ length ms = sym (length-replicate n (Char comma)) in
    ap (λ (ns : List Mark). in_numbers (reading ns (Ok tt)).answer) (sym (replicate-append-replicate n 1 (Char comma)))
    ∙ ap (λ (r : Reading). in_numbers r.answer) (run_leads 0 (Char comma ∷ []) (Ok tt) (commas_lead n) (omega arith))
    ∙ ap (λ (r : Reading). in_numbers r.answer) (run_full (0 + length ms) (Char comma) [] (Ok tt) start (omega arith))
    ∙ ap (λ k. Err (3, 22, k)) (omega arith)

pub commas_text : ReadsAs (replicate 60000 comma) []
commas_text = commas_read 60000 (omega arith)

pub commas_long : in_numbers (answer_to (from_text (replicate 60001 comma))) ≡ Err (1, 40, 60000)
commas_long = commas_refused 60001 (omega arith)

pub commas_many : in_numbers (answer_to (from_marks (replicate 60001 (Char comma)))) ≡ Err (3, 22, 60000)
commas_many = commas_full 60000 refl
