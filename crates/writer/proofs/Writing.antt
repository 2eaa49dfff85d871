-- A text written piece by piece from the front of a buffer, and its length counted before. Assumes nothing.
--     Goes                      what is left to lay, laid now, gives the whole
--     Writes b text c q rest    of the characters text, all but rest stand in c, which was b, before the place q
--     writes_from, writes_put, writes_bytes, writes_all    how it begins, how it goes on with the next characters, and how it ends
--     put_behind, bytes_behind  what a put of the next characters answers
--     put_fits, bytes_fit       that it is not refused
--     Counts text total rest    total is the length of what stands before rest, and saturates
--     counts_from, counts_on, counts_bytes, counts_all    the same of it
use Rattle.std.proofs.Common.{◌≡◌, ℕ, ◌+◌, ◌^◌, ◌<◌, ◌≤◌, true, List, [], ◌++◌, length, drop, Some, None, sym, refl, ap, ◌∙◌, subst, zero-add, arith}
use lib.Utf8.{scalars, encodes}
use Rattle.std.proofs.lemmas.Bool.{le-leb, cond-true}
use Rattle.std.proofs.lemmas.Str.{encodes-append}
use Rattle.std.proofs.lemmas.List.{length-append}
use Rattle.addresses.specs.Mailboxes.{Entry}
use Rattle.addresses.specs.Written.{written, written_bytes}
use Rattle.addresses.specs.Writing.{needed, filled}
use Rattle.writer.specs.Sizes.{byte_length, capped}
use Rattle.writer.specs.Placing.{spelt, laid, behind, placed, Lays}
use Rattle.writer.specs.Texts.{byte_append, scalars_both}
use Rattle.writer.specs.Laying.{laid_none, laid_then, length_laid}
use Rattle.writer.proofs.Placed.{spelt_scalars}

pub record Goes (b : List ℕ) (at : ℕ) (t : List ℕ) (c : List ℕ) (q : ℕ) (rest : List ℕ) : Type 0 where
  pub whole : laid c q rest ≡ laid b at t
  pub end : q + length rest ≡ at + length t

pub goes_from : (b : List ℕ) (at : ℕ) (t : List ℕ) → Goes b at t b at t
goes_from b at t = record { whole = refl; end = refl }

pub goes_on : (b : List ℕ) (at : ℕ) (t c : List ℕ) (q : ℕ) (u rest d : List ℕ) (r : ℕ) → Goes b at t c q (u ++ rest) → Lays c q u d r → Goes b at t d r rest
goes_on b at t c q u rest d r g l =
    record {
      whole =
          ap (λ x. laid x r rest) l.bytes ∙ ap (λ k. laid (laid c q u) k rest) l.place ∙ laid_then c q u rest (omega (arith, l.inside)) ∙ g.whole;
      end = omega (arith, l.place, g.end, length-append u rest);
    }

pub goes_to : (b : List ℕ) (at : ℕ) (t c : List ℕ) (q : ℕ) → Goes b at t c q [] → at + length t ≤ length b → Lays b at t c q
goes_to b at t c q g h = record { bytes = sym (laid_none c q) ∙ g.whole; place = omega (arith, g.end); inside = h }

pub record Writes (b text c : List ℕ) (q : ℕ) (rest : List ℕ) : Type 0 where
  pub goes : Goes b 0 (encodes text) c q (encodes rest)
  pub scalar : scalars rest ≡ true
  pub room : byte_length text ≤ length b
  pub same : length c ≡ length b

pub writes_from : (b text : List ℕ) → scalars text ≡ true → byte_length text ≤ length b → Writes b text b 0 text
writes_from b text s h = record { goes = goes_from b 0 (encodes text); scalar = s; room = h; same = refl }

-- ── the next characters are put ──

module _ (b text c : List ℕ) (q : ℕ) (cs rest : List ℕ) (w : Writes b text c q (cs ++ rest)) where
  fits : q + byte_length cs ≤ length c
  fits = omega (arith, w.goes.end, byte_append cs rest, w.room, w.same)

  -- there is room for them: what the put answers
  pub bytes_behind : (t : List ℕ) → t ≡ encodes cs → behind (length c) q (Some t) ≡ Some (q + byte_length cs)
  bytes_behind t e = ap (λ x. behind (length c) q (Some x)) e ∙ cond-true _ _ _ (le-leb _ _ fits)

  spelt_all : spelt cs ≡ Some (encodes cs)
  spelt_all = spelt_scalars cs (scalars_both cs rest w.scalar).0

  pub put_behind : behind (length c) q (spelt cs) ≡ Some (q + byte_length cs)
  put_behind = ap (behind (length c) q) spelt_all ∙ bytes_behind (encodes cs) refl

  -- so that it is not refused
  pub bytes_fit : (t : List ℕ) → t ≡ encodes cs → None ≡ behind (length c) q (Some t) → ⊥
  bytes_fit t e h = let never : None ≡ Some (q + byte_length cs) = h ∙ bytes_behind t e in let z : ◌≡◌ {A = ℕ} 0 1 = cc in omega arith

  pub put_fits : None ≡ behind (length c) q (spelt cs) → ⊥
  put_fits h = bytes_fit (encodes cs) refl (h ∙ ap (behind (length c) q) spelt_all)

  -- what it leaves, if they are put as bytes
  pub writes_bytes : (t d : List ℕ) (p : ℕ) → t ≡ encodes cs → Some p ≡ behind (length c) q (Some t) → d ≡ placed c q (Some t) → Writes b text d p rest
  writes_bytes t d p e answer buffer =
      let there : Some p ≡ Some (q + byte_length cs) = answer ∙ bytes_behind t e in
      let place : p ≡ q + byte_length cs = cc in
      let now : d ≡ laid c q (encodes cs) = buffer ∙ ap (λ x. placed c q (Some x)) e ∙ cond-true _ _ _ (le-leb _ _ fits) in
      let lays : Lays c q (encodes cs) d p = record { bytes = now; place = place; inside = fits } in
      let before : Goes b 0 (encodes text) c q (encodes cs ++ encodes rest) = subst (Goes b 0 (encodes text) c q) (encodes-append cs rest) w.goes in
      record {
        goes = goes_on b 0 (encodes text) c q (encodes cs) (encodes rest) d p before lays;
        scalar = (scalars_both cs rest w.scalar).1;
        room = w.room;
        same = ap length now ∙ length_laid c q (encodes cs) fits ∙ w.same;
      }

  -- and if they are put as characters
  pub writes_put : (d : List ℕ) (p : ℕ) → Some p ≡ behind (length c) q (spelt cs) → d ≡ placed c q (spelt cs) → Writes b text d p rest
  writes_put d p answer buffer =
      writes_bytes (encodes cs) d p refl (answer ∙ ap (behind (length c) q) spelt_all) (buffer ∙ ap (placed c q) spelt_all)

-- the buffer holds the list, and the place is the number of its bytes
pub writes_all : (b : List ℕ) (l : List Entry) (c : List ℕ) (q : ℕ) → Writes b (written l) c q [] → (c ≡ filled l b) × (q ≡ needed l)
writes_all b l c q w =
    let lays = goes_to b 0 (encodes (written l)) c q w.goes (omega (arith, w.room)) in (
      lays.bytes ∙ ap (λ k. written_bytes l ++ drop k b) (zero-add (needed l)) ∙ sym (cond-true _ _ _ (le-leb _ _ w.room)),
      omega (arith, lays.place),
    )

-- ── the length before ──

abbrev pub Counts : List ℕ → ℕ → List ℕ → Type 0
Counts text total rest = capped (total + byte_length rest) ≡ capped (byte_length text)

pub counts_from : (text : List ℕ) → Counts text 0 text
counts_from text = ap capped (zero-add (byte_length text))

-- the total after a `saturating_add` of the length of the next characters, as a function answers it
pub counts_on : (text : List ℕ) (total : ℕ) (cs rest : List ℕ) (n next : ℕ) → Counts text total (cs ++ rest) → n ≡ capped (byte_length cs)
    → next ≡ capped (total + n) → Counts text next rest
counts_on text total cs rest n next k e f = omega (arith, k, e, f, byte_append cs rest)

-- and of the length of their bytes
pub counts_bytes : (text : List ℕ) (total : ℕ) (cs rest t : List ℕ) (next : ℕ) → Counts text total (cs ++ rest) → t ≡ encodes cs
    → next ≡ capped (total + length t) → Counts text next rest
counts_bytes text total cs rest t next k e f = omega (arith, k, ap length e, f, byte_append cs rest)

pub counts_all : (text : List ℕ) (total : ℕ) → total < 2 ^ 64 → byte_length text < 2 ^ 64 → Counts text total [] → total ≡ byte_length text
counts_all text total h g k = omega (arith, k)
