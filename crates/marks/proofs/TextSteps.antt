-- What a text source gives, one answer at a time. Assumes nothing.
use Rattle.std.proofs.Common.{◌≡◌, ℕ, ◌+◌, ◌<◌, ◌≤◌, leb, List, [], ◌∷◌, length, drop, Some, None, Ok, Err, sym, refl, ap, ◌∙◌, ⊎_elim, arith}
use Rattle.std.proofs.lemmas.Bool.{cond-true, cond-false, le-leb, lt-leb, cases_lt}
use Rattle.characters.specs.Decoding.{decoded}
use Rattle.marks.specs.declared.mark.Mark.TheVariants.{Char}
use Rattle.marks.specs.Faults.{ill_formed, long_text}
use Rattle.marks.specs.Streams.{Stream, Next, closed, broken, ended, begins, gives_mark, gives_close}
use Rattle.marks.specs.Spells.{spelled_end, spelled_ill, spelled_char}
use Rattle.marks.specs.Texts.{readable, close_of, unless_long, as_char, text_from}

-- what stands before a stop is read, and then the text is short enough
pub before_stop : (n m at : ℕ) → m ≡ readable n → at < m → (n ≤ 60000) × (at < n)
before_stop n m at e h =
    ⊎_elim
    (λ (long : 60000 < n). absurd (omega (arith, e, cond-false (leb n 60000) n 0 (lt-leb n 60000 long))))
    (λ (short : n ≤ 60000). let same : m ≡ n = e ∙ cond-true (leb n 60000) n 0 (le-leb n 60000 short) in (short, omega arith))
    (cases_lt 60000 n)

pub short_text : (bs : List ℕ) (s : Stream) → length bs ≤ 60000 → unless_long bs s ≡ s
short_text bs s h = cond-true (leb (length bs) 60000) s (broken long_text) (le-leb (length bs) 60000 h)

pub text_char : (bs : List ℕ) (p c n : ℕ) → length bs ≤ 60000 → decoded (drop p bs) ≡ Some (c, n) → Next (text_from bs p) (Ok (Some (Char c))) (text_from bs (p + n))
text_char bs p c n short e =
    gives_mark (text_from bs p) (text_from bs (p + n)) (Char c)
    (short_text bs _ short ∙ spelled_char as_char p bs c n e ∙ ap (begins (Char c ∷ [])) (sym (short_text bs _ short)))

pub text_ill : (bs : List ℕ) (p : ℕ) → length bs ≤ 60000 → p < length bs → decoded (drop p bs) ≡ None → Next (text_from bs p) (Err (ill_formed p)) (text_from bs p)
text_ill bs p short inside e =
    let s = short_text bs _ short ∙ spelled_ill as_char p bs inside e in
    gives_close (text_from bs p) (text_from bs p) (Err (ill_formed p)) (Err (ill_formed p)) s s refl

-- where all is read that is read of a text, it closes as its length says
pub at_stop : (bs : List ℕ) (s : Stream) → (length bs ≤ 60000 → s ≡ ended) → unless_long bs s ≡ closed (close_of (length bs))
at_stop bs s h =
    ⊎_elim
    (λ (long : 60000 < length bs).
    cond-false (leb (length bs) 60000) s (broken long_text) (lt-leb (length bs) 60000 long)
    ∙ ap closed (sym (cond-false (leb (length bs) 60000) (Ok tt) (Err long_text) (lt-leb (length bs) 60000 long))))
    (λ (short : length bs ≤ 60000).
    short_text bs s short ∙ h short
    ∙ ap closed (sym (cond-true (leb (length bs) 60000) (Ok tt) (Err long_text) (le-leb (length bs) 60000 short))))
    (cases_lt 60000 (length bs))

pub stopped_at : (n m at : ℕ) → m ≡ readable n → m ≤ at → n ≤ 60000 → n ≤ at
stopped_at n m at e h short = let same : m ≡ n = e ∙ cond-true (leb n 60000) n 0 (le-leb n 60000 short) in omega arith

pub text_close : (bs : List ℕ) (p m : ℕ) → m ≡ readable (length bs) → m ≤ p → text_from bs p ≡ closed (close_of (length bs))
text_close bs p m e h = at_stop bs _ (λ short. spelled_end as_char p bs (stopped_at (length bs) m p e h short))
