-- What a token table gives, one answer at a time. Assumes nothing.
use Rattle.std.proofs.Common.{◌≡◌, ℕ, ◌+◌, ◌<◌, ◌≤◌, leb, List, [], ◌∷◌, length, get_or, slice_get, take, drop, Some, None, Ok, Err, Option, sym, refl, ap, ◌∙◌, ⊎_elim, arith}
use Rattle.std.proofs.lemmas.List.{drop_more, drop_all, length-take}
use Rattle.std.proofs.lemmas.Bool.{cond-true, le-leb, cases_lt}
use Rattle.std.proofs.lemmas.Option.{slice_get_within, get_or_from_slice_get}
use Rattle.characters.specs.Decoding.{decoded}
use Rattle.marks.specs.declared.mark.Mark.{Mark}
use Rattle.marks.specs.declared.mark.Mark.TheVariants.{LineEnd}
use Rattle.marks.specs.declared.fault.Fault.{Fault}
use Rattle.marks.specs.declared.part.Part.{Part}
use Rattle.marks.specs.declared.token.Token.{Token}
use Rattle.marks.specs.Faults.{ill_formed}
use Rattle.marks.specs.Parts.{opened, as_mark, lead, led, rest_of, given_by}
use Rattle.marks.specs.Spelling.{first}
use Rattle.marks.specs.Spells.{spelled_end, spelled_ill, spelled_char}
use Rattle.marks.specs.Streams.{Stream, Moves, Next, closed, broken, ended, begins, follows, gives_mark, gives_close, follows_begins}
use Rattle.marks.specs.Tables.{token_stream, tokens_stream, table_from}
use Rattle.marks.specs.Texts.{readable, close_of}
use Rattle.marks.proofs.TextSteps.{short_text, at_stop, before_stop}

-- the tokens from the i-th on
abbrev behind : List ℕ → List Token → ℕ → Stream
behind text ts i = tokens_stream text i (drop i ts)

-- the part that is open is read to its end
pub read_out : (text : List ℕ) (p : Part) → p.end ≤ p.at → rest_of text p ≡ ended
read_out text p h = spelled_end (as_mark p.kind p.token) p.at (take p.end text) (omega (arith, length-take p.end text))

pub next_token : (text : List ℕ) (ts : List Token) (i : ℕ) (d : Token) → slice_get ts i ≡ Some d → behind text ts i ≡ follows (token_stream text i d) (behind text ts (i + 1))
unfolding tokens_stream
next_token text ts i d h =
    let is : get_or ts i d ≡ d = get_or_from_slice_get ts i d d h in
    ap (tokens_stream text i) (drop_more ts i d (slice_get_within ts i d h))
    ∙ ap (λ x. follows (token_stream text i x) (behind text ts (i + 1))) is

pub no_token : (text : List ℕ) (ts : List Token) (i : ℕ) → length ts ≤ i → behind text ts i ≡ ended
unfolding tokens_stream
no_token text ts i h = ap (tokens_stream text i) (drop_all i ts h)

-- a token is opened only where the text is short enough
pub before_limit : (text : List ℕ) (ts : List Token) (i : ℕ) (d : Token) → (60000 < length text → length ts ≡ 0) → slice_get ts i ≡ Some d → (length text ≤ 60000) × (i < length ts)
before_limit text ts i d none h =
    let inside = slice_get_within ts i d h in
    ⊎_elim (λ (long : 60000 < length text). absurd (omega (arith, none long, inside))) (λ (short : length text ≤ 60000). (short, inside)) (cases_lt 60000 (length text))

-- so is a character read
pub in_part : (n end at : ℕ) → end ≤ readable n → at < end → (n ≤ 60000) × (end ≤ n)
in_part n end at h k =
    let b = before_stop n (readable n) at refl (omega arith) in
    (b.0, omega (arith, h, cond-true (leb n 60000) n 0 (le-leb n 60000 b.0)))

module _ (text : List ℕ) (ts : List Token) (short : length text ≤ 60000) where
  -- where the open part is read out, the next token comes
  at_token : (p : Part) (i : ℕ) (d : Token) → p.end ≤ p.at → slice_get ts i ≡ Some d → table_from text ts p i ≡ follows (given_by text (opened (length text) d i)) (behind text ts (i + 1))
  at_token p i d h k =
      short_text text _ short ∙ ap (λ s. follows s (behind text ts i)) (read_out text p h) ∙ next_token text ts i d k

  at_part : (p : Part) (i : ℕ) → table_from text ts p i ≡ follows (rest_of text p) (behind text ts i)
  at_part p i = short_text text _ short

  line_end_comes : (p : Part) (i : ℕ) (d : Token) → p.end ≤ p.at → slice_get ts i ≡ Some d → opened (length text) d i ≡ Ok None → table_from text ts p i ≡ begins (LineEnd ∷ []) (table_from text ts p (i + 1))
  line_end_comes p i d h k e =
      at_token p i d h k ∙ ap (λ r. follows (given_by text r) (behind text ts (i + 1))) e
      ∙ ap (begins (LineEnd ∷ [])) (sym (at_part p (i + 1) ∙ ap (λ s. follows s (behind text ts (i + 1))) (read_out text p h)))

  led_follows : (o : Option Mark) (s t : Stream) → follows (led o s) t ≡ led o (follows s t)
  led_follows None s t = refl
  led_follows (Some m) s t = follows_begins (m ∷ []) s t

  part_comes : (p q : Part) (i : ℕ) (d : Token) → p.end ≤ p.at → slice_get ts i ≡ Some d → opened (length text) d i ≡ Ok (Some q) → table_from text ts p i ≡ led (lead q.kind) (table_from text ts q (i + 1))
  part_comes p q i d h k e =
      at_token p i d h k ∙ ap (λ r. follows (given_by text r) (behind text ts (i + 1))) e
      ∙ led_follows (lead q.kind) (rest_of text q) (behind text ts (i + 1)) ∙ ap (led (lead q.kind)) (sym (at_part q (i + 1)))

  pub moves_line_end : (p : Part) (i : ℕ) (d : Token) → p.end ≤ p.at → slice_get ts i ≡ Some d → opened (length text) d i ≡ Ok None → Moves (table_from text ts p i) (Ok (Some LineEnd)) (table_from text ts p (i + 1))
  moves_line_end p i d h k e = line_end_comes p i d h k e

  led_moves : (o : Option Mark) (s t : Stream) → s ≡ led o t → Moves s (Ok o) t
  led_moves None s t e = e
  led_moves (Some m) s t e = e

  pub moves_part : (p q : Part) (i : ℕ) (d : Token) (o : Option Mark) → p.end ≤ p.at → slice_get ts i ≡ Some d → opened (length text) d i ≡ Ok (Some q) → o ≡ lead q.kind → Moves (table_from text ts p i) (Ok o) (table_from text ts q (i + 1))
  moves_part p q i d o h k e l =
      led_moves o _ _ (part_comes p q i d h k e ∙ ap (λ x. led x (table_from text ts q (i + 1))) (sym l))

  pub moves_fault : (p : Part) (i : ℕ) (d : Token) (f : Fault) → p.end ≤ p.at → slice_get ts i ≡ Some d → opened (length text) d i ≡ Err f → Moves (table_from text ts p i) (Err f) (table_from text ts p i)
  moves_fault p i d f h k e =
      let s = at_token p i d h k ∙ ap (λ r. follows (given_by text r) (behind text ts (i + 1))) e in (s, s)

  -- a character of the open part
  module _ (p : Part) (i : ℕ) (inside : p.at < length (take p.end text)) where
    pub gives_char : (c n : ℕ) (m : Mark) (q : Part) → decoded (drop p.at (take p.end text)) ≡ Some (c, n) → as_mark p.kind p.token c ≡ Ok m → q ≡ record { kind = p.kind; token = p.token; at = p.at + n; end = p.end } → Next (table_from text ts p i) (Ok (Some m)) (table_from text ts q i)
    gives_char c n m q e f g =
        gives_mark (table_from text ts p i) (table_from text ts q i) m
        (at_part p i ∙ ap (λ s. follows s (behind text ts i)) (spelled_char (as_mark p.kind p.token) p.at (take p.end text) c n e ∙ ap (λ r. first r (rest_of text moved)) f)
        ∙ follows_begins (m ∷ []) (rest_of text moved) (behind text ts i) ∙ ap (begins (m ∷ [])) (sym (ap (λ x. table_from text ts x i) g ∙ at_part moved i)))
      where
        moved : Part
        moved = record { kind = p.kind; token = p.token; at = p.at + n; end = p.end }

    breaks : (f : Fault) → rest_of text p ≡ broken f → Next (table_from text ts p i) (Err f) (table_from text ts p i)
    breaks f e =
        let s = at_part p i ∙ ap (λ x. follows x (behind text ts i)) e in
        gives_close (table_from text ts p i) (table_from text ts p i) (Err f) (Err f) s s refl

    pub gives_fault : (c n : ℕ) (f : Fault) → decoded (drop p.at (take p.end text)) ≡ Some (c, n) → as_mark p.kind p.token c ≡ Err f → Next (table_from text ts p i) (Err f) (table_from text ts p i)
    gives_fault c n f e g = breaks f (spelled_char (as_mark p.kind p.token) p.at (take p.end text) c n e ∙ ap (λ r. first r (rest_of text (record { kind = p.kind; token = p.token; at = p.at + n; end = p.end }))) g)

    pub gives_ill : decoded (drop p.at (take p.end text)) ≡ None → Next (table_from text ts p i) (Err (ill_formed p.at)) (table_from text ts p i)
    gives_ill e = breaks (ill_formed p.at) (spelled_ill (as_mark p.kind p.token) p.at (take p.end text) inside e)

pub table_close : (text : List ℕ) (ts : List Token) (p : Part) (i : ℕ) → length ts ≤ i → p.end ≤ p.at → table_from text ts p i ≡ closed (close_of (length text))
table_close text ts p i h k =
    at_stop text _ (λ short. ap (λ s. follows s (behind text ts i)) (read_out text p k) ∙ no_token text ts i h)
