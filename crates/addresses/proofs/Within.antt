-- The limits of a list: the test is the statement, and what is within the limits stays so when less is kept.
--     within_true, true_within    `within` against `Within`
--     within_front                the first entries of a list
--     within_members              the first members of its last group
-- Assumes nothing.
use Rattle.std.proofs.Common.{◌≡◌, ℕ, true, ◌&&◌, leb, List, [], ◌∷◌, ◌++◌, arith}
use Rattle.std.proofs.lemmas.List.{length-append}
use Rattle.std.proofs.lemmas.List.Sums.{sum_by-append, sum_by_push}
use Rattle.std.proofs.lemmas.Bool.{le-leb, leb-true, and_parts, and_from}
use Rattle.addresses.specs.Mailboxes.{Mailbox, Entry, group, mailbox_length, mailboxes_in, groups_in, characters_in, mailboxes, groups, characters}
use Rattle.addresses.specs.Limits.{Within, within}

pub within_true : (l : List Entry) → Within l → within l ≡ true
unfolding within
within_true l (m, g, c) =
    and_from (leb (mailboxes l) 256) _ (le-leb (mailboxes l) 256 m)
    (and_from (leb (groups l) 64) (leb (characters l) 8192) (le-leb (groups l) 64 g) (le-leb (characters l) 8192 c))

pub true_within : (l : List Entry) → within l ≡ true → Within l
unfolding within
true_within l e =
    let p = and_parts (leb (mailboxes l) 256) (leb (groups l) 64 && leb (characters l) 8192) e in
    let q = and_parts (leb (groups l) 64) (leb (characters l) 8192) p.1 in
    (leb-true (mailboxes l) 256 p.0, leb-true (groups l) 64 q.0, leb-true (characters l) 8192 q.1)

pub within_front : (es fs : List Entry) → Within (es ++ fs) → Within es
within_front es fs h = omega (arith, sum_by-append mailboxes_in es fs, sum_by-append groups_in es fs, sum_by-append characters_in es fs)

pub within_members : (es : List Entry) (n : List ℕ) (ms ks : List Mailbox) → Within (es ++ group n (ms ++ ks) ∷ []) → Within (es ++ group n ms ∷ [])
within_members es n ms ks h =
    omega (
      arith,
      length-append ms ks,
      sum_by-append mailbox_length ms ks,
      sum_by_push mailboxes_in es (group n (ms ++ ks)),
      sum_by_push groups_in es (group n (ms ++ ks)),
      sum_by_push characters_in es (group n (ms ++ ks)),
      sum_by_push mailboxes_in es (group n ms),
      sum_by_push groups_in es (group n ms),
      sum_by_push characters_in es (group n ms),
    )
