-- Further samples, at the corners of the rules.
--     departures    where RFC 5322 and RFC 2047 decide otherwise than the Rust crate mailparse
--     misread       where a rule is easily misread
--     grounds       a small input for each ground that comes of a mark, a byte or a token
--     counts        the most comments in one another, groups, mailboxes and blanks of a run, and one more
--     lengths       the longest name, address and row of blanks behind a name, and one more
--     fullest       the most characters in one list, and one more
--     longest       the most bytes and marks, and one more
-- Assumes nothing.
use Rattle.std.specs.Prelude.{ℕ, List, [], ◌∷◌, ◌++◌, map, replicate, Some, None, codes}
use Rattle.std.proofs.Math.Utf8.{encodes}
use Rattle.std.specs.List.{flat_map, AllByRecursion as Every}
use Rattle.marks.specs.declared.mark.Mark.TheVariants.{Char, LineEnd, WordChar}
use Rattle.addresses.specs.Signs.{quote, open_paren, close_paren, comma, open_bracket, close_bracket}
use Rattle.addresses.specs.Mailboxes.{Entry, mailbox, loose, group}
use Rattle.addresses.specs.Samples.{utf8, alone, token, text_at, blanks_at, word_at, from_text, from_tokens, from_marks, Sample, ◌read_as◌, ◌refused_with◌, Holds, row}

abbrev pub departures : List Sample
departures =
    -- a comma may stand alone
    from_text (utf8 ",") read_as []
    ∷ from_text (utf8 ",@") read_as alone None (codes "@")
    -- comments nest
    ∷ from_text (utf8 "(()") refused_with (3, 18, 3)
    ∷ from_text (utf8 "(())") read_as []
    -- a group has to be closed, also where its colon is the last mark
    ∷ from_text (utf8 "a:") refused_with (3, 13, 2)
    -- blanks behind a quoted name have no part in a later one
    ∷ from_text (utf8 "\"\" :;\"\"a:;") read_as (group [] [] ∷ group (codes "a") [] ∷ [])
    -- a run between two words vanishes, any other is kept, and an empty text does not come between
    ∷ from_tokens (utf8 "A  B<@>") (word_at 0 1 ∷ blanks_at 1 1 ∷ blanks_at 2 1 ∷ word_at 3 1 ∷ text_at 4 3 ∷ []) read_as alone (Some (codes "AB")) (codes "@")
    ∷ from_tokens (utf8 "A  B<@>") (word_at 0 1 ∷ blanks_at 1 1 ∷ blanks_at 2 1 ∷ text_at 3 4 ∷ []) read_as alone (Some (codes "A  B")) (codes "@")
    ∷ from_tokens (utf8 "A B<@>") (word_at 0 1 ∷ blanks_at 1 1 ∷ text_at 2 0 ∷ word_at 2 1 ∷ text_at 3 3 ∷ []) read_as alone (Some (codes "AB")) (codes "@")
    ∷ []

abbrev pub misread : List Sample
misread =
    -- only an @ before the colon counts
    from_text (utf8 "a:b@c;") read_as (group (codes "a") (mailbox None (codes "b@c") ∷ []) ∷ [])
    -- an address in brackets is not trimmed
    ∷ row "< a@b >" (alone None (codes " a@b ")) "< a@b >"
    -- another is, of U+00A0 too
    ∷ from_text (encodes (codes "a@b" ++ 0xa0 ∷ [])) read_as alone None (codes "a@b")
    -- an empty name is no absent one
    ∷ row "\"\" <a@b>" (alone (Some []) (codes "a@b")) "\"\" <a@b>"
    ∷ row "<a@b>" (alone None (codes "a@b")) "a@b"
    -- outside a group, a semicolon behind a mailbox is like a comma
    ∷ from_text (utf8 "a@b;c@d") read_as (loose (mailbox None (codes "a@b")) ∷ loose (mailbox None (codes "c@d")) ∷ [])
    -- a run that no Word follows is kept, and a White_Space Char belongs to none
    ∷ from_tokens (utf8 "A B<@>") (word_at 0 1 ∷ blanks_at 1 1 ∷ text_at 2 4 ∷ []) read_as alone (Some (codes "A B")) (codes "@")
    ∷ from_tokens (utf8 "A B<@>") (word_at 0 1 ∷ text_at 1 1 ∷ word_at 2 1 ∷ text_at 3 3 ∷ []) read_as alone (Some (codes "A B")) (codes "@")
    ∷ []

abbrev pub grounds : List Sample
grounds =
    from_text (utf8 "a,") refused_with (3, 10, 1)
    ∷ from_text (utf8 "a") refused_with (3, 10, 1)
    ∷ from_text (utf8 "<@>,;") refused_with (3, 11, 4)
    ∷ from_text (utf8 "a:b:") refused_with (3, 12, 3)
    ∷ from_text (utf8 "a:@") refused_with (3, 13, 3)
    ∷ from_tokens (utf8 "\"\\A") (text_at 0 2 ∷ word_at 2 1 ∷ []) refused_with (3, 14, 2)
    ∷ from_tokens (utf8 "<A") (text_at 0 1 ∷ word_at 1 1 ∷ []) refused_with (3, 15, 1)
    ∷ from_tokens (utf8 "<@>A") (text_at 0 3 ∷ word_at 3 1 ∷ []) refused_with (3, 16, 3)
    ∷ from_text (utf8 "<@>x") refused_with (3, 17, 3)
    ∷ from_text (utf8 "\"a") refused_with (3, 18, 2)
    ∷ from_text (0x40 ∷ 0xff ∷ []) refused_with (1, 24, 1)
    ∷ from_tokens (utf8 "@") (text_at 0 1 ∷ text_at 1 1 ∷ []) refused_with (1, 30, 1)
    ∷ from_tokens (utf8 "@") (text_at 0 1 ∷ token 5 0 1 ∷ []) refused_with (1, 31, 1)
    ∷ from_tokens (utf8 "@") (text_at 0 1 ∷ blanks_at 0 1 ∷ []) refused_with (1, 32, 1)
    ∷ from_marks (LineEnd ∷ []) refused_with (3, 33, 0)
    ∷ from_marks (WordChar 0x41 ∷ []) refused_with (3, 34, 0)
    ∷ []

abbrev pub counts : List Sample
counts =
    -- comments of depth 100, and of 101
    from_text (replicate 100 open_paren ++ replicate 100 close_paren) read_as []
    ∷ from_text (replicate 101 open_paren) refused_with (3, 19, 100)
    -- 64 groups, and 65
    ∷ from_text (flat_map utf8 (replicate 64 "a:;")) read_as replicate 64 (group (codes "a") [])
    ∷ from_text (flat_map utf8 (replicate 65 "a:;")) refused_with (3, 23, 193)
    -- 256 mailboxes, and 257
    ∷ from_text (flat_map utf8 (replicate 256 "@,")) read_as replicate 256 (loose (mailbox None (codes "@")))
    ∷ from_text (flat_map utf8 (replicate 257 "@,")) refused_with (3, 23, 513)
    -- runs of 1,000 marks, and of 1,001
    ∷ from_tokens (utf8 "A B<@>") (word_at 0 1 ∷ replicate 1000 (blanks_at 1 1) ++ (word_at 2 1 ∷ text_at 3 3 ∷ [])) read_as alone (Some (codes "AB")) (codes "@")
    ∷ from_tokens (utf8 "A B<@>") (word_at 0 1 ∷ replicate 1001 (blanks_at 1 1) ++ (word_at 2 1 ∷ text_at 3 3 ∷ [])) refused_with (2, 35, 2)
    ∷ []

-- Unnamed mailboxes with addresses of so many @, and their text, with a comma behind each. Where thousands of one sign stand,
-- its number does and not its name, which spares the checker to look that up each time.
abbrev pub of_ats : List ℕ → List Entry
of_ats ns = map (λ n. loose (mailbox None (replicate n 0x40))) ns

abbrev pub ats : List ℕ → List ℕ
ats ns = flat_map (λ n. replicate n 0x40 ++ 0x2c ∷ []) ns

abbrev pub lengths : List Sample
lengths =
    -- a name of 2,000 characters, and of 2,001
    from_text (quote ∷ replicate 2000 0x61 ++ utf8 "\" <a@b>") read_as alone (Some (replicate 2000 0x61)) (codes "a@b")
    ∷ from_text (quote ∷ replicate 2001 0x61 ++ utf8 "\" <a@b>") refused_with (3, 20, 2001)
    -- an address of so many
    ∷ from_text (open_bracket ∷ replicate 2000 0x40 ++ close_bracket ∷ []) read_as of_ats (2000 ∷ [])
    ∷ from_text (open_bracket ∷ replicate 2001 0x40 ++ close_bracket ∷ []) refused_with (3, 21, 2001)
    ∷ from_text (replicate 2000 0x40) read_as of_ats (2000 ∷ [])
    ∷ from_text (replicate 2001 0x40) refused_with (3, 21, 2000)
    -- so many blanks that wait behind a quoted name
    ∷ from_text (utf8 "\"\"" ++ replicate 2000 0x20 ++ utf8 "<@>") read_as alone (Some []) (codes "@")
    ∷ from_text (utf8 "\"\"" ++ replicate 2001 0x20 ++ utf8 "<@>") refused_with (3, 20, 2002)
    ∷ []

abbrev pub fullest : List Sample
fullest =
    from_text (ats (2000 ∷ 2000 ∷ 2000 ∷ 2000 ∷ 192 ∷ [])) read_as of_ats (2000 ∷ 2000 ∷ 2000 ∷ 2000 ∷ 192 ∷ [])
    ∷ from_text (ats (2000 ∷ 2000 ∷ 2000 ∷ 2000 ∷ 193 ∷ [])) refused_with (3, 23, 8197)
    ∷ []

abbrev pub longest : List Sample
longest =
    from_text (replicate 60000 comma) read_as []
    ∷ from_text (replicate 60001 comma) refused_with (1, 40, 60000)
    ∷ from_marks (replicate 60001 (Char comma)) refused_with (3, 22, 60000)
    ∷ []

pub record CornersHold : Type 0 where
  pub of_departures : Every Holds departures
  pub of_misread : Every Holds misread
  pub of_grounds : Every Holds grounds
  pub of_counts : Every Holds counts
  pub of_lengths : Every Holds lengths
  pub of_fullest : Every Holds fullest
  pub of_longest : Every Holds longest
