-- What is changed of a list, in words that name what stands before and behind, and by no computation.
--     Replaced xs i old new ys    ys is xs with the row new in the place of the row old that begins at i, and nothing else
--     Enlarged l i m k            k is l with the mailbox m at the end of the group that is its entry i
--     WithoutEntry l i k          k is l without its entry i
--     WithoutMember l i j k       k is l without the member j of the group that is its entry i
--     Without l i o k             the one or the other, by what is named
-- Assumes nothing.
use Rattle.std.specs.Prelude.{◌≡◌, ℕ, List, [], ◌∷◌, ◌++◌, length, Some, None, Option}
use Rattle.addresses.specs.Mailboxes.{Mailbox, Entry, group}

pub record Replaced {X : Type 0} (xs : List X) (i : ℕ) (old new ys : List X) : Type 0 where
  pub before : List X
  pub behind : List X
  pub place : length before ≡ i
  pub was : xs ≡ before ++ (old ++ behind)
  pub is : ys ≡ before ++ (new ++ behind)

pub record Enlarged (l : List Entry) (i : ℕ) (m : Mailbox) (k : List Entry) : Type 0 where
  pub name : List ℕ
  pub members : List Mailbox
  pub only : Replaced l i (group name members ∷ []) (group name (members ++ m ∷ []) ∷ []) k

pub record WithoutEntry (l : List Entry) (i : ℕ) (k : List Entry) : Type 0 where
  pub gone : Entry
  pub only : Replaced l i (gone ∷ []) [] k

pub record WithoutMember (l : List Entry) (i j : ℕ) (k : List Entry) : Type 0 where
  pub name : List ℕ
  pub members : List Mailbox
  pub left : List Mailbox
  pub gone : Mailbox
  pub from_members : Replaced members j (gone ∷ []) [] left
  pub only : Replaced l i (group name members ∷ []) (group name left ∷ []) k

abbrev pub Without : List Entry → ℕ → Option ℕ → List Entry → Type 0
Without l i None k = WithoutEntry l i k
Without l i (Some j) k = WithoutMember l i j k
