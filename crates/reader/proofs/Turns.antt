-- One turn of a read: what the source answers, and what the model's read makes of it.
--     Here w c t ws x p    the read w, whose source closes with c, has taken t marks and stands at p, where ws wait and x closes
--     Done w c a ws x      it answers a, ws are left, and x still closes
--     fills                a mark comes behind the last that may come
--     goes_on, refuses     a mark is taken, or refused
--     passes               the source closes with a fault
--     ends                 it closes with the end
-- Assumes nothing.
use Rattle.std.proofs.Common.{◌≡◌, ℕ, ◌+◌, ◌<◌, ◌≤◌, List, [], ◌∷◌, Some, None, Ok, Err, Option, Result, MatchResult, IsErrAnd, sym, refl, ap, ◌∙◌, subst, arith}
use Rattle.marks.specs.declared.mark.Mark.{Mark}
use Rattle.marks.specs.declared.fault.Fault.{Fault}
use Rattle.marks.specs.declared.fault.Ground.{Ground}
use Rattle.marks.specs.declared.fault.Ground.TheVariants.{TooManyMarks}
use Rattle.marks.specs.Gives.{Close, Gives}
use Rattle.marks.proofs.Waits.{took, ended, broke}
use Rattle.addresses.specs.Limits.{most_marks}
use Rattle.addresses.specs.Mailboxes.{Entry}
use Rattle.addresses.specs.Reading.{Reading, reader_fault, placed, at_close, run}
use Rattle.addresses.specs.Steps.{Standing, step, ending}
use Rattle.reader.specs.declared.machine.Reader.{Reader}
use Rattle.reader.specs.Readers.{view, Answered}
use Rattle.reader.specs.Views.{View, standing, Took, Ended}
use Rattle.addresses.proofs.Runs.{run_on, run_refused, run_full, run_end}

pub record Here (w : Reading) (c : Close) (t : ℕ) (ws : List Mark) (x : Close) (p : Standing) : Type 0 where
  pub rest : w ≡ run t ws x p
  pub same : x ≡ c
  pub few : t ≤ most_marks

pub record Done (w : Reading) (c : Close) (a : Result (List Entry) Fault) (ws : List Mark) (x : Close) : Type 0 where
  pub answer : w.answer ≡ a
  pub rest : ws ≡ w.left
  pub same : x ≡ c

module _ {w : Reading} {c : Close} {t : ℕ} {ws : List Mark} {x : Close} {p : Standing} (h : Here w c t ws x p) {r : Result (Option Mark) Fault} {ws' : List Mark} {x' : Close} (g : Gives ws x r ws' x') where
  first : (o : Option Mark) (m : Mark) → r ≡ Ok o → o ≡ Some m → w ≡ run t (m ∷ ws') x p
  first o m e s = h.rest ∙ ap (λ l. run t l x p) (took g o m e s)

  done : (a : Result (List Entry) Fault) → w ≡ record { answer = a; left = ws' } → Done w c a ws' x'
  done a e = record { answer = ap (λ y. y.answer) e; rest = sym (ap (λ y. y.left) e); same = g.keeps ∙ h.same }

  pub fills : (o : Option Mark) (m : Mark) (f : Fault) → r ≡ Ok o → o ≡ Some m → most_marks ≤ t → f ≡ reader_fault TooManyMarks t → Done w c (Err f) ws' x'
  fills o m f e s many is = done (Err f) (first o m e s ∙ run_full t m ws' x p many ∙ ap (λ y. record { answer = Err y; left = ws' }) (sym is))

  -- the mark is taken or refused, as `k` says, and a refusal is placed, as `d` says
  module _ {o : Option Mark} {m : Mark} {d : Result (Unit {0}) Fault} {P : Ground → Fault → Type 0} (v : View) (k : Result (Unit {0}) Ground)
      (e : r ≡ Ok o) (s : o ≡ Some m) (few : t < most_marks) (took : Took (step p m) k v)
      (judged : MatchResult k (λ u. d ≡ Ok u) (λ b. IsErrAnd d (P b))) (place : (b : Ground) (f : Fault) → P b f → f ≡ reader_fault b t) where
    pub goes_on : (u : Unit {0}) → d ≡ Ok u → Here w c (t + 1) ws' x' (standing v)
    goes_on u is = let q = standing v in record {
      rest = first o m e s ∙ run_on t m ws' x p q few (accepted k took judged) ∙ ap (λ y. run (t + 1) ws' y q) (sym g.keeps);
      same = g.keeps ∙ h.same;
      few = omega (arith, few);
    }
      where
        accepted : (k : Result (Unit {0}) Ground) → Took (step p m) k v → MatchResult k (λ u. d ≡ Ok u) (λ b. IsErrAnd d (P b)) → step p m ≡ Ok (standing v)
        accepted (Ok u) a j = a
        accepted (Err b) a j = absurd (subst (λ y. IsErrAnd y (P b)) is j)

    pub refuses : (f : Fault) → d ≡ Err f → Done w c (Err f) ws' x'
    refuses f is = refused k took judged
      where
        refused : (k : Result (Unit {0}) Ground) → Took (step p m) k v → MatchResult k (λ u. d ≡ Ok u) (λ b. IsErrAnd d (P b)) → Done w c (Err f) ws' x'
        refused (Ok u) a j = cc
        refused (Err b) a j =
            let there = place b f (subst (λ y. IsErrAnd y (P b)) is j) in
            done (Err f) (first o m e s ∙ run_refused t m ws' x p b few a ∙ ap (λ y. record { answer = Err y; left = ws' }) (sym there))

  -- no mark waits
  last : (y : Close) (a : Result (List Entry) Fault) → ws ≡ [] → ws' ≡ [] → x ≡ y → at_close t y p ≡ a → Done w c a ws' x'
  last y a e e' k b =
      done a (h.rest ∙ ap (λ l. run t l x p) e ∙ run_end t x p ∙ ap (λ z. record { answer = at_close t z p; left = [] }) k
      ∙ ap (λ z. record { answer = z; left = [] }) b ∙ ap (λ l. record { answer = a; left = l }) (sym e'))

  pub passes : (f : Fault) → r ≡ Err f → Done w c (Err f) ws' x'
  passes f e = let b = broke g f e in last (Err f) (Err f) b.0 b.1 b.2 refl

  -- what the end is answered, as `k` says, and a refusal is placed, as `d` says
  pub ends : {o : Option Mark} {P : Ground → Fault → Type 0} (q : Reader) (k : Result (Unit {0}) Ground) (d : Result (Unit {0}) Fault)
      → r ≡ Ok o → o ≡ None → Ended (ending p) k (view q) → MatchResult k (λ u. d ≡ Ok u) (λ b. IsErrAnd d (P b))
      → ((b : Ground) (f : Fault) → P b f → f ≡ reader_fault b t) → Answered w.answer d q × (ws' ≡ w.left) × (x' ≡ c)
  ends {o = o} q (Ok u) (Ok v) e s a j place = let n = ended g o e s in let z = last (Ok tt) _ n.0 n.1 n.2 (ap (placed t) a) in (z.answer, z.rest, z.same)
  ends {o = o} q (Ok u) (Err f) e s a j place = cc
  ends {o = o} q (Err b) (Ok v) e s a j place = absurd j
  ends {o = o} q (Err b) (Err f) e s a j place =
      let n = ended g o e s in
      let z = last (Ok tt) (Err f) n.0 n.1 n.2 (ap (placed t) a ∙ ap (λ y. Err y) (sym (place b f j))) in
      (z.answer, z.rest, z.same)
