-- The life of a list, from what comes of each event.
--     Lawful l e o     an event whose definition comes to o keeps the law; `read_happens`, `addition_happens` and
--                      `removal_happens` show it of the events that can change a list
--     event_law        the step of a list's life
--     happens_as       the same, where a reply and a list are known to be those of the definitions
--     life_more        one more event at the end of a row
--     life_goes_on     rows of events from any proper list on
--     writes_itself    what is written of a proper list
--     empty_proper     a list that is made is proper
--     life_law         the law
-- Assumes nothing.
use Rattle.std.proofs.Common.{◌≡◌, ℕ, leb, List, [], ◌∷◌, ◌++◌, length, take, drop, Ok, Err, Option, Result, sym, refl, ap, ◌∙◌, subst, ⊎_elim}
use Rattle.std.proofs.lemmas.List.{take_at}
use Rattle.std.proofs.lemmas.Bool.{cond-true, le-leb}
use Rattle.std.specs.List.{AllByRecursion as Every}
use Rattle.marks.specs.declared.mark.Mark.{Mark}
use Rattle.marks.specs.declared.fault.Fault.{Fault}
use Rattle.marks.specs.Gives.{Close}
use Rattle.marks.specs.Proper.{AllProper}
use Rattle.addresses.specs.Mailboxes.{Entry}
use Rattle.addresses.specs.Reading.{reading}
use Rattle.addresses.specs.Written.{written_bytes}
use Rattle.addresses.specs.Proper.{Proper}
use Rattle.addresses.specs.Additions.{Addition, added}
use Rattle.addresses.specs.Removals.{removed}
use Rattle.addresses.specs.Writing.{needed}
use Rattle.addresses.specs.Outcomes.{left_of}
use Rattle.addresses.specs.Events.{Event, a_read, an_addition, a_removal, a_writing, a_question, Reply, refused, changed, reply_to, left_by}
use Rattle.addresses.specs.Life.{WouldClause, Happens, Life, none, next, WritesItself}
use Rattle.addresses.specs.LifeLaws.{ProperEvent, replies, list_after, KeepsLaw, EventLaw, LifeLaw}
use Rattle.addresses.proofs.Laws.{read_exactly, read_is_proper, reads_back, reads_as_proper, one_list}
use Rattle.addresses.proofs.Outcomes.{err_ok}
pub use Rattle.addresses.proofs.ReadProper.{empty_proper}
use Rattle.addresses.proofs.Checks.{Settles}
use Rattle.addresses.proofs.Adding.{would_settles, additions_denied, additions_definite}
use Rattle.addresses.proofs.Removing.{removals_exact, removals_refused, removals_proper}

-- ── one event ──

-- an event whose definition comes to o is replied and leaves what the law says, and the list that it leaves is proper
abbrev pub Lawful : List Entry → Event → Result (List Entry) Fault → Type 0
Lawful l e o = Happens l e (changed o) (left_of l o) × Proper (left_of l o)

pub read_happens : (l : List Entry) (ms : List Mark) (x : Close) → Proper l → AllProper ms → Lawful l (a_read ms x) (reading ms x).answer
read_happens l ms x p marks = by (reading ms x).answer refl
  where
    by : (o : Result (List Entry) Fault) → (reading ms x).answer ≡ o → Lawful l (a_read ms x) o
    by (Ok k) e =
        let (ends, has) = (read_exactly ms x k).0 e in
        (record { exactly = (λ _. (ends, (k, has)), λ _. tt); reads = λ _. has; keeps = λ b. absurd b }, read_is_proper ms x k marks e)
    by (Err f) e = (record { exactly = (λ b. absurd b, λ (ends, (j, has)). err_ok (sym e ∙ (read_exactly ms x j).1 (ends, has))); reads = λ b. absurd b; keeps = λ _. refl }, p)

would_clause : (l w : List Entry) (o : Result (List Entry) Fault) → Settles o w (Proper w) → WouldClause l w (changed o) (left_of l o)
would_clause l w (Ok k) (same, q) = record { exactly = (λ b. absurd b, λ u. u (written_bytes w) (reads_back w q).back); leaves = λ _. same; keeps = λ b. absurd b }
would_clause l w (Err f) never = record { exactly = (λ _ bs r. never (reads_as_proper bs w r), λ _. tt); leaves = λ b. absurd b; keeps = λ _. refl }

denied_clause : (l : List Entry) (f : Fault) (o : Result (List Entry) Fault) → o ≡ Err f → (changed o ≡ refused f) × (left_of l o ≡ l)
denied_clause l f o e = (ap changed e, ap (left_of l) e)

settled_proper : (l w : List Entry) (o : Result (List Entry) Fault) → Proper l → Settles o w (Proper w) → Proper (left_of l o)
settled_proper l w (Ok k) p (same, q) = subst Proper (sym same) q
settled_proper l w (Err f) p never = p

pub addition_happens : (l : List Entry) (a : Addition) → Proper l → Lawful l (an_addition a) (added l a)
addition_happens l a p = (
  record {
    judged = λ w would. would_clause l w (added l a) (would_settles l a w p would);
    denied = λ f d. denied_clause l f (added l a) (additions_denied l a f d);
    either = (additions_definite l a).some;
  },
  ⊎_elim (λ (w, would). settled_proper l w (added l a) p (would_settles l a w p would)) (λ (f, d). subst Proper (sym (ap (left_of l) (additions_denied l a f d))) p) (additions_definite l a).some,
)

pub removal_happens : (l : List Entry) (i : ℕ) (o : Option ℕ) → Proper l → Lawful l (a_removal i o) (removed l i o)
removal_happens l i o p = by (removed l i o) refl
  where
    by : (r : Result (List Entry) Fault) → removed l i o ≡ r → Lawful l (a_removal i o) r
    by (Ok k) e =
        let less = (removals_exact l i o k).0 e in
        (record { exactly = (λ _. (k, less), λ _. tt); takes = λ _. less; missing = λ f gone. err_ok (sym ((removals_refused l i o f).1 gone) ∙ e); keeps = λ b. absurd b }, removals_proper l i o k p less)
    by (Err f) e = (
      record {
        exactly = (λ b. absurd b, λ (j, less). err_ok (sym e ∙ (removals_exact l i o j).1 less));
        takes = λ b. absurd b;
        missing = λ g gone. ap changed (sym e ∙ (removals_refused l i o g).1 gone);
        keeps = λ _. refl;
      },
      p,
    )

keeps : (l : List Entry) (e : Event) → Happens l e (reply_to l e) (left_by l e) × Proper (left_by l e) → KeepsLaw l e
keeps l e s = record { happens = s.0; proper = s.1 }

pub event_law : EventLaw
event_law l (a_read ms x) p fit = keeps l (a_read ms x) (read_happens l ms x p fit)
event_law l (an_addition a) p fit = keeps l (an_addition a) (addition_happens l a p)
event_law l (a_removal i o) p fit = keeps l (a_removal i o) (removal_happens l i o p)
event_law l (a_writing n) p fit = keeps l (a_writing n) ((refl, refl), p)
event_law l (a_question q) p fit = keeps l (a_question q) ((refl, refl), p)

pub happens_as : (l : List Entry) (e : Event) (r : Reply) (k : List Entry) → Proper l → ProperEvent e → r ≡ reply_to l e → k ≡ left_by l e → Happens l e r k
happens_as l e r k p fit same left =
    subst (λ x. Happens l e x k) (sym same) (subst (λ x. Happens l e (reply_to l e) x) (sym left) (event_law l e p fit).happens)

-- ── rows of events ──

pub life_more : {l j k : List Entry} {es : List Event} {rs : List Reply} (e : Event) (r : Reply) → Life l es rs j → Happens j e r k → Life l (es ++ e ∷ []) (rs ++ r ∷ []) k
life_more e r none h = next h none
life_more e r (next g life) h = next g (life_more e r life h)

pub life_goes_on : (l : List Entry) (es : List Event) → Proper l → Every ProperEvent es → Life l es (replies l es) (list_after l es) × Proper (list_after l es)
life_goes_on l [] p fit = (none, p)
life_goes_on l (e ∷ es) p fit =
    let here = event_law l e p fit.0 in
    let rest = life_goes_on (left_by l e) es here.proper fit.1 in
    (next here.happens rest.0, rest.1)

-- ── what is written ──

pub writes_itself : (k : List Entry) → Proper k → WritesItself k
writes_itself k p = record {
  reads_back = reads_back k p;
  otherwise = λ j q e. one_list j k q p e;
  buffer = λ b room.
      let fits = le-leb (needed k) (length b) room in (
        cond-true (leb (needed k) (length b)) (Ok (needed k)) _ fits,
        ap (take (needed k)) (cond-true (leb (needed k) (length b)) (written_bytes k ++ drop (needed k) b) b fits) ∙ take_at (written_bytes k) (drop (needed k) b) (needed k) refl,
      );
}

pub life_law : LifeLaw
life_law es fit =
    let (life, proper) = life_goes_on [] es empty_proper fit in
    record { life = life; writes = writes_itself (list_after [] es) proper }
