-- What the reader's fields stand for.
--     View              what a reader has in hand, with no word on memory
--     state_to, ...     the same with one field changed
--     display_name b v  the name in hand, if b, or none
--     resting s v       what v stands for outside comments, in the state s
--     hand_in s v       what it stands for in the state s
--     hand v            what it stands for
--     standing v        the same with the list read so far
--     Said f o r v      a call that o answers was answered r, and left v; of an Ok, o says f v, and of an Err the ground
--     Took, Ended, Stepped    the same where o is a step of the model, its end, and a part of a step
-- Assumes nothing.
use Rattle.std.specs.Prelude.{◌≡◌, ℕ, Bool, cond, List, Some, None, Ok, Err, Option, Result}
use Rattle.marks.specs.declared.fault.Ground.{Ground}
use Rattle.addresses.specs.Machine as model
use Rattle.addresses.specs.Mailboxes.{Entry}
use Rattle.addresses.specs.Steps.{SoFar, whole, Standing, at}
use Rattle.reader.specs.declared.state.State.{State}
use Rattle.reader.specs.declared.state.State.TheVariants.{Initial, QuotedName, EscapedChar, AfterQuotedName, BracketedAddr, AfterBracketedAddr, Unquoted, NameWithEncodedWord, Comment, CommentEscapedChar}

pub record View : Type 0 where
  pub state : State
  -- of an open comment: the state that it began in, and its depth
  pub back : State
  pub depth : ℕ
  pub name : List ℕ
  pub blanks : List ℕ
  pub addr : List ℕ
  pub list : SoFar

abbrev pub state_to : State → View → View
state_to x v = record { state = x; back = v.back; depth = v.depth; name = v.name; blanks = v.blanks; addr = v.addr; list = v.list }

abbrev pub comment_to : State → ℕ → View → View
comment_to x d v = record { state = v.state; back = x; depth = d; name = v.name; blanks = v.blanks; addr = v.addr; list = v.list }

abbrev pub name_to : List ℕ → View → View
name_to x v = record { state = v.state; back = v.back; depth = v.depth; name = x; blanks = v.blanks; addr = v.addr; list = v.list }

abbrev pub blanks_to : List ℕ → View → View
blanks_to x v = record { state = v.state; back = v.back; depth = v.depth; name = v.name; blanks = x; addr = v.addr; list = v.list }

abbrev pub addr_to : List ℕ → View → View
addr_to x v = record { state = v.state; back = v.back; depth = v.depth; name = v.name; blanks = v.blanks; addr = x; list = v.list }

abbrev pub list_to : SoFar → View → View
list_to x v = record { state = v.state; back = v.back; depth = v.depth; name = v.name; blanks = v.blanks; addr = v.addr; list = x }

abbrev pub display_name : Bool → View → Option (List ℕ)
display_name b v = cond b (Some v.name) None

abbrev pub resting : State → View → model.State
resting Initial v = model.Initial
resting QuotedName v = model.QuotedName v.name
resting EscapedChar v = model.EscapedChar v.name
resting AfterQuotedName v = model.AfterQuotedName v.name v.blanks
resting (BracketedAddr b) v = model.BracketedAddr (display_name b v) v.addr
resting AfterBracketedAddr v = model.AfterBracketedAddr
resting Unquoted v = model.Unquoted v.addr
resting NameWithEncodedWord v = model.NameWithEncodedWord v.addr
resting Comment v = model.Initial
resting CommentEscapedChar v = model.Initial

abbrev pub hand_in : State → View → model.State
hand_in Comment v = model.Comment (resting v.back v) v.depth
hand_in CommentEscapedChar v = model.CommentEscapedChar (resting v.back v) v.depth
hand_in s v = resting s v

abbrev pub hand : View → model.State
hand v = hand_in v.state v

abbrev pub standing : View → Standing
standing v = at (hand v) v.list

abbrev pub Said : {X T : Type 0} → (View → X) → Result X Ground → Result T Ground → View → Type 0
Said f o (Ok u) v = o ≡ Ok (f v)
Said f o (Err g) v = o ≡ Err g

abbrev pub Took : {T : Type 0} → Result Standing Ground → Result T Ground → View → Type 0
Took o r v = Said standing o r v

abbrev pub Ended : {T : Type 0} → Result (List Entry) Ground → Result T Ground → View → Type 0
Ended o r v = Said (λ w. whole w.list) o r v

abbrev pub Stepped : {T : Type 0} → Result View Ground → Result T Ground → View → Type 0
Stepped o r v = Said (λ w. w) o r v
