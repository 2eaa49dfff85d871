-- How a read goes on: `run` one mark at a time, and what it has to do with `Leads`.
--     run_on, run_refused, run_full, run_end    what one more mark does to a read, and the close
--     leads_append, leads_split        rows of marks, one behind the other
--     leads_once                       marks lead to one place
--     run_leads                        marks that lead somewhere are taken, and the read goes on from there
--     accepted                         a read that is accepted has taken all marks, and they lead to where the list is accepted
--     has_reading_answer               the other way round
-- Assumes nothing.
use Rattle.std.proofs.Common.{◌≡◌, ℕ, ◌+◌, ◌<◌, ◌≤◌, Bool, true, false, cond, leb, List, [], ◌∷◌, ◌++◌, length, Ok, Err, Result, sym, refl, ap, ◌∙◌, subst, arith}
use Rattle.std.proofs.lemmas.List.{append-nil}
use Rattle.std.proofs.lemmas.Bool.{cond-true, cond-false, le-leb, lt-leb, leb-false}
use Rattle.marks.specs.declared.mark.Mark.{Mark}
use Rattle.marks.specs.declared.fault.Ground.{Ground}
use Rattle.marks.specs.declared.fault.Ground.TheVariants.{TooManyMarks}
use Rattle.marks.specs.Gives.{Close}
use Rattle.addresses.specs.Mailboxes.{Entry}
use Rattle.addresses.specs.Limits.{most_marks}
use Rattle.addresses.specs.Steps.{Standing, start, step, ending}
use Rattle.addresses.specs.Reading.{Reading, placed, at_close, refused, go_on, run, reading, Leads, stays, moves, HasReading}

-- ── one more mark ──

pub run_on : (t : ℕ) (m : Mark) (ms : List Mark) (x : Close) (p q : Standing) → t < most_marks → step p m ≡ Ok q → run t (m ∷ ms) x p ≡ run (t + 1) ms x q
unfolding run
run_on t m ms x p q few e =
    let rest : Standing → Reading = λ r. run (t + 1) ms x r in
    cond-false (leb most_marks t) (refused TooManyMarks t ms) (go_on rest t ms (step p m)) (lt-leb most_marks t few)
    ∙ ap (go_on rest t ms) e

pub run_refused : (t : ℕ) (m : Mark) (ms : List Mark) (x : Close) (p : Standing) (g : Ground) → t < most_marks → step p m ≡ Err g → run t (m ∷ ms) x p ≡ refused g t ms
unfolding run
run_refused t m ms x p g few e =
    let rest : Standing → Reading = λ r. run (t + 1) ms x r in
    cond-false (leb most_marks t) (refused TooManyMarks t ms) (go_on rest t ms (step p m)) (lt-leb most_marks t few)
    ∙ ap (go_on rest t ms) e

pub run_full : (t : ℕ) (m : Mark) (ms : List Mark) (x : Close) (p : Standing) → most_marks ≤ t → run t (m ∷ ms) x p ≡ refused TooManyMarks t ms
unfolding run
run_full t m ms x p many = cond-true (leb most_marks t) (refused TooManyMarks t ms) _ (le-leb most_marks t many)

pub run_end : (t : ℕ) (x : Close) (p : Standing) → run t [] x p ≡ record { answer = at_close t x p; left = [] }
unfolding run
run_end t x p = refl

-- ── rows of marks ──

pub leads_append : {ms ns : List Mark} {p q r : Standing} → Leads ms p q → Leads ns q r → Leads (ms ++ ns) p r
leads_append stays b = b
leads_append (moves e a) b = moves e (leads_append a b)

pub leads_split : (ms ns : List Mark) {p r : Standing} → Leads (ms ++ ns) p r → (q : Standing) × Leads ms p q × Leads ns q r
leads_split [] ns {p} a = (p, stays, a)
leads_split (m ∷ ms) ns (moves e a) = let s = leads_split ms ns a in (s.0, moves e s.1, s.2)

pub leads_once : {ms : List Mark} {p q r : Standing} → Leads ms p q → Leads ms p r → q ≡ r
leads_once stays stays = refl
leads_once {r = r} (moves {ms = ms} {q = q} e a) (moves {q = q'} f b) = let same : q' ≡ q = cc in leads_once a (subst (λ s. Leads ms s r) same b)

pub run_leads : {ms : List Mark} {p q : Standing} (t : ℕ) (ns : List Mark) (x : Close) → Leads ms p q → t + length ms ≤ most_marks → run t (ms ++ ns) x p ≡ run (t + length ms) ns x q
run_leads {p = p} t ns x stays few = ap (λ k. run k ns x p) (omega arith)
run_leads t ns x (moves {m} {ms} {p} {q} {r} e a) few =
    run_on t m (ms ++ ns) x p q (omega arith) e
    ∙ run_leads (t + 1) ns x a (omega arith)
    ∙ ap (λ k. run k ns x r) (omega arith)

-- ── accepted reads ──

pub record Accepted (t : ℕ) (ms : List Mark) (x : Close) (p : Standing) (l : List Entry) : Type 0 where
  pub ends : x ≡ Ok tt
  pub few : t + length ms ≤ most_marks
  pub last : Standing
  pub leads : Leads ms p last
  pub list : ending last ≡ Ok l
  pub takes_all : (run t ms x p).left ≡ []

placed_list : (t : ℕ) (o : Result (List Entry) Ground) (l : List Entry) → placed t o ≡ Ok l → o ≡ Ok l
placed_list t (Ok k) l e = cc
placed_list t (Err g) l e = cc

at_end : (t : ℕ) (x : Close) (p : Standing) (l : List Entry) → t ≤ most_marks → at_close t x p ≡ Ok l → Accepted t [] x p l
at_end t (Ok tt) p l h e = record {
  ends = refl;
  few = omega arith;
  last = p;
  leads = stays;
  list = placed_list t (ending p) l e;
  takes_all = ap (λ r. r.left) (run_end t (Ok tt) p);
}
at_end t (Err f) p l h e = cc

one_more : (t : ℕ) (m : Mark) (ms : List Mark) (x : Close) (p : Standing) (l : List Entry) (o : Result Standing Ground)
    → t < most_marks → step p m ≡ o → (go_on (λ q. run (t + 1) ms x q) t ms o).answer ≡ Ok l
    → ((q : Standing) → (run (t + 1) ms x q).answer ≡ Ok l → Accepted (t + 1) ms x q l) → Accepted t (m ∷ ms) x p l
one_more t m ms x p l (Ok q) few s e then =
    let a = then q e in
    record {
      ends = a.ends;
      few = omega (arith, a.few);
      last = a.last;
      leads = moves s a.leads;
      list = a.list;
      takes_all = ap (λ r. r.left) (run_on t m ms x p q few s) ∙ a.takes_all;
    }
one_more t m ms x p l (Err g) few s e then = cc

pub accepted : (t : ℕ) (ms : List Mark) (x : Close) (p : Standing) (l : List Entry) → t ≤ most_marks → (run t ms x p).answer ≡ Ok l → Accepted t ms x p l
unfolding run
accepted t [] x p l h e = at_end t x p l h e
accepted t (m ∷ ms) x p l h e = by (leb most_marks t) refl e (λ few q a. accepted (t + 1) ms x q l few a)
  where
    by : (b : Bool) → leb most_marks t ≡ b → (cond b (refused TooManyMarks t ms) (go_on (λ q. run (t + 1) ms x q) t ms (step p m))).answer ≡ Ok l
        → (t + 1 ≤ most_marks → (q : Standing) → (run (t + 1) ms x q).answer ≡ Ok l → Accepted (t + 1) ms x q l) → Accepted t (m ∷ ms) x p l
    by true f a then = cc
    by false f a then = let few = leb-false most_marks t f in one_more t m ms x p l (step p m) few refl a (then (omega arith))

pub has_reading_answer : (ms : List Mark) (l : List Entry) → HasReading ms l → (reading ms (Ok tt)).answer ≡ Ok l
has_reading_answer ms l (few, (p, a, e)) =
    let all = ap (λ ns. (run 0 ns (Ok tt) start).answer) (sym (append-nil ms)) in
    all
    ∙ ap (λ r. r.answer) (run_leads 0 [] (Ok tt) a (omega arith))
    ∙ ap (λ r. r.answer) (run_end (0 + length ms) (Ok tt) p)
    ∙ ap (placed (0 + length ms)) e
