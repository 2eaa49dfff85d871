-- The law of a list's life allows no other list than that of the definitions. Assumes nothing.
use Rattle.std.proofs.Common.{◌≡◌, ℕ, ◌⊎◌, List, Ok, Err, Option, Result, sym, refl, ap, ◌∙◌, subst, inl, inr, ⊎_elim}
use Rattle.marks.specs.declared.mark.Mark.{Mark}
use Rattle.marks.specs.declared.fault.Fault.{Fault}
use Rattle.marks.specs.Gives.{Close}
use Rattle.addresses.specs.Mailboxes.{Entry}
use Rattle.addresses.specs.Reading.{reading}
use Rattle.addresses.specs.Written.{written_bytes}
use Rattle.addresses.specs.Proper.{Proper}
use Rattle.addresses.specs.Additions.{Addition, added}
use Rattle.addresses.specs.Removals.{removed}
use Rattle.addresses.specs.Outcomes.{left_of}
use Rattle.addresses.specs.Events.{Event, a_read, an_addition, a_removal, a_writing, a_question, Reply, accepted, told, refused, left_by}
use Rattle.addresses.specs.Life.{Accepted, Refused, ReadClause, WouldClause, AdditionClause, RemovalClause, Happens, none, next}
use Rattle.addresses.specs.LifeLaws.{list_after, LifeDecides}
use Rattle.addresses.proofs.Laws.{read_exactly, reads_back, reads_as_proper}
use Rattle.addresses.proofs.Outcomes.{err_ok}
use Rattle.addresses.proofs.Checks.{Settles}
use Rattle.addresses.proofs.Adding.{would_settles, additions_denied}
use Rattle.addresses.proofs.Removing.{removals_exact}
use Rattle.addresses.proofs.Living.{event_law}

either_way : (r : Reply) → Accepted r ⊎ Refused r
either_way accepted = inl tt
either_way (told v) = inl tt
either_way (refused f) = inr tt

read_left : (l : List Entry) (ms : List Mark) (x : Close) (r : Reply) (k : List Entry) → ReadClause l ms x r k → k ≡ left_of l (reading ms x).answer
read_left l ms x r k c = by (reading ms x).answer refl
  where
    by : (o : Result (List Entry) Fault) → (reading ms x).answer ≡ o → k ≡ left_of l o
    by (Ok j) e =
        let (ends, has) = (read_exactly ms x j).0 e in
        let again = (read_exactly ms x k).1 (ends, c.reads (c.exactly.1 (ends, (j, has)))) in
        cc
    by (Err f) e =
        ⊎_elim (λ a. let (ends, (j, has)) = c.exactly.0 a in err_ok (sym e ∙ (read_exactly ms x j).1 (ends, has))) (λ b. c.keeps b) (either_way r)

would_left : (l w : List Entry) (r : Reply) (k : List Entry) (o : Result (List Entry) Fault) → Settles o w (Proper w) → WouldClause l w r k → k ≡ left_of l o
would_left l w r k (Ok j) (same, q) c =
    ⊎_elim (λ a. c.leaves a ∙ sym same) (λ b. absurd (c.exactly.0 b (written_bytes w) (reads_back w q).back)) (either_way r)
would_left l w r k (Err f) never c = c.keeps (c.exactly.1 (λ bs t. never (reads_as_proper bs w t)))

addition_left : (l : List Entry) (a : Addition) (r : Reply) (k : List Entry) → Proper l → AdditionClause l a r k → k ≡ left_of l (added l a)
addition_left l a r k p c =
    ⊎_elim
    (λ (w, would). would_left l w r k (added l a) (would_settles l a w p would) (c.judged w would))
    (λ (f, d). (c.denied f d).1 ∙ sym (ap (left_of l) (additions_denied l a f d)))
    c.either

removal_left : (l : List Entry) (i : ℕ) (o : Option ℕ) (r : Reply) (k : List Entry) → RemovalClause l i o r k → k ≡ left_of l (removed l i o)
removal_left l i o r k c = by (removed l i o) refl
  where
    by : (v : Result (List Entry) Fault) → removed l i o ≡ v → k ≡ left_of l v
    by (Ok j) e = let again = (removals_exact l i o k).1 (c.takes (c.exactly.1 (j, (removals_exact l i o j).0 e))) in cc
    by (Err f) e = ⊎_elim (λ a. let (j, less) = c.exactly.0 a in err_ok (sym e ∙ (removals_exact l i o j).1 less)) (λ b. c.keeps b) (either_way r)

pub happens_left : (l : List Entry) (e : Event) (r : Reply) (k : List Entry) → Proper l → Happens l e r k → k ≡ left_by l e
happens_left l (a_read ms x) r k p h = read_left l ms x r k h
happens_left l (an_addition a) r k p h = addition_left l a r k p h
happens_left l (a_removal i o) r k p h = removal_left l i o r k h
happens_left l (a_writing n) r k p h = h.1
happens_left l (a_question q) r k p h = h.1

pub life_decides : LifeDecides
life_decides l es rs k p fit none = refl
life_decides l es rs k p fit (next {j = j} {e = e} {es = more} h life) =
    let here = happens_left l e _ j p h in
    let proper : Proper j = subst Proper (sym here) (event_law l e p fit.0).proper in
    life_decides j more _ k proper fit.1 life ∙ ap (λ x. list_after x more) here
