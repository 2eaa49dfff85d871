-- The parts of a step, on what a reader has in hand.
--     with_name, with_blank, with_addr    a character joins the name, the waiting blanks or the address
--     begin_quoted, ...                   a name, an address or a comment begins
--     name_by_addr                        the trimmed address becomes the name
--     keep_blanks                         the waiting blanks join the name, which may grow too long
--     close_any                           the group, if one is open, is closed, and an entry may begin
--     finish_as n s                       the mailbox of the name n and the address in hand is finished, and then the state is s
--     finish_named b s                    the same with the name in hand, if b, or none
--     finish_trimmed                      the mailbox of the trimmed address is finished, with no name
-- Assumes nothing.
use Rattle.std.specs.Prelude.{ℕ, Bool, cond, List, [], ◌∷◌, ◌++◌, None, Ok, Err, Option, Result}
use Rattle.marks.specs.declared.fault.Ground.{Ground}
use Rattle.marks.specs.declared.fault.Ground.TheVariants.{LongName}
use Rattle.addresses.specs.Limits.{short}
use Rattle.addresses.specs.Mailboxes.{mailbox}
use Rattle.addresses.specs.Steps.{outside, whole, finished, admitted}
use Rattle.addresses.specs.Trim.{trim}
use Rattle.reader.specs.declared.state.State.{State}
use Rattle.reader.specs.declared.state.State.TheVariants.{Initial, QuotedName, BracketedAddr, Unquoted, NameWithEncodedWord, Comment}
use Rattle.reader.specs.Views.{View, display_name, state_to, comment_to, name_to, blanks_to, addr_to, list_to}

abbrev pub with_name : ℕ → View → View
with_name c v = name_to (v.name ++ c ∷ []) v

abbrev pub with_blank : ℕ → View → View
with_blank c v = blanks_to (v.blanks ++ c ∷ []) v

abbrev pub with_addr : ℕ → View → View
with_addr c v = addr_to (v.addr ++ c ∷ []) v

abbrev pub begin_quoted : View → View
begin_quoted v = state_to QuotedName (name_to [] v)

abbrev pub begin_bracketed : Bool → View → View
begin_bracketed b v = state_to (BracketedAddr b) (addr_to [] v)

abbrev pub begin_addr : ℕ → View → View
begin_addr c v = state_to Unquoted (addr_to (c ∷ []) v)

abbrev pub begin_word : View → View
begin_word v = state_to NameWithEncodedWord (addr_to [] v)

abbrev pub begin_comment : View → View
begin_comment v = state_to Comment (comment_to v.state 1 v)

-- what is left in its place is not looked at
abbrev pub name_by_addr : View → View
name_by_addr v = name_to (trim v.addr) (addr_to v.name v)

abbrev pub keep_blanks : View → Result View Ground
keep_blanks v = cond (short (v.name ++ v.blanks)) (Ok (blanks_to [] (name_to (v.name ++ v.blanks) v))) (Err LongName)

abbrev pub close_any : View → View
close_any v = state_to Initial (list_to (outside (whole v.list)) v)

abbrev pub finish_as : Option (List ℕ) → State → View → Result View Ground
finish_as n s v =
    let m = mailbox n v.addr in
    admitted m (whole (finished m v.list)) (state_to s (list_to (finished m v.list) v))

abbrev pub finish_named : Bool → State → View → Result View Ground
finish_named b s v = finish_as (display_name b v) s v

abbrev pub finish_trimmed : View → Result View Ground
finish_trimmed v = finish_as None Initial (addr_to (trim v.addr) v)
