-- What a reader holds, and what its calls do, on what its fields stand for.
--     view p            what the reader p has in hand
--     read_list p       the list that it has read
-- Of a call at the reader p that was answered r and left the reader q, these say:
--     Answered a r q    it is a read, which the model answers by a: the list that q then has, or the fault
--     Takes m p r q     it takes the mark m, as a step of the model does
--     Ends p r q        it takes the end of the marks
--     Acts a p r q      it does the act a
--     ActsAt s c p r q, ActsElse s c p r q    it does what a Char c does in the state s; and where c is none of its signs
--     Joins f p r q     it goes to what f makes of the hands, unless they grow too long
--     Tries f p r q     it does the part f of a step, which may be refused
--     Becomes f p q     the same of a part that is never refused
-- Assumes nothing.
use Rattle.std.specs.Prelude.{◌≡◌, ℕ, List, Ok, Err, Result}
use Rattle.marks.specs.declared.mark.Mark.{Mark}
use Rattle.marks.specs.declared.mark.Mark.TheVariants.{Char}
use Rattle.marks.specs.declared.fault.Fault.{Fault}
use Rattle.marks.specs.declared.fault.Ground.{Ground}
use Rattle.addresses.specs.Mailboxes.{Entry}
use Rattle.addresses.specs.Machine.{Act, to, act, other}
use Rattle.addresses.specs.Steps.{whole, apply, step, ending}
use Rattle.reader.specs.declared.state.State.{State}
use Rattle.reader.specs.declared.machine.Reader.{Reader}
use Rattle.reader.specs.Views.{View, hand_in, hand, standing, Took, Ended, Stepped}

abbrev pub view : Reader → View
view p = record {
  state = p.state;
  back = p.nesting.began_in;
  depth = p.nesting.depth;
  name = p.name;
  blanks = p.blanks;
  addr = p.addr;
  list = p.draft;
}

abbrev pub read_list : Reader → List Entry
read_list p = whole (view p).list

abbrev pub Answered : {T : Type 0} → Result (List Entry) Fault → Result T Fault → Reader → Type 0
Answered a (Ok u) q = a ≡ Ok (read_list q)
Answered a (Err f) q = a ≡ Err f

abbrev pub Takes : {T : Type 0} → Mark → Reader → Result T Ground → Reader → Type 0
Takes m p r q = Took (step (standing (view p)) m) r (view q)

abbrev pub Ends : {T : Type 0} → Reader → Result T Ground → Reader → Type 0
Ends p r q = Ended (ending (standing (view p))) r (view q)

abbrev pub Acts : {T : Type 0} → Act → Reader → Result T Ground → Reader → Type 0
Acts a p r q = Took (apply (view p).list a) r (view q)

abbrev pub ActsAt : {T : Type 0} → State → ℕ → Reader → Result T Ground → Reader → Type 0
ActsAt s c p r q = Acts (act (hand_in s (view p)) (Char c)) p r q

abbrev pub ActsElse : {T : Type 0} → State → ℕ → Reader → Result T Ground → Reader → Type 0
ActsElse s c p r q = Acts (other (hand_in s (view p)) c) p r q

abbrev pub Joins : {T : Type 0} → (View → View) → Reader → Result T Ground → Reader → Type 0
Joins f p r q = Acts (to (hand (f (view p)))) p r q

abbrev pub Tries : {T : Type 0} → (View → Result View Ground) → Reader → Result T Ground → Reader → Type 0
Tries f p r q = Stepped (f (view p)) r (view q)

abbrev pub Becomes : (View → View) → Reader → Reader → Type 0
Becomes f p q = view q ≡ f (view p)
