-- Rows of turns, and the life of a list that they are.
--     row_more        one more turn at the end of a row
--     turn_row, turn_left, turns_all    a loop over the turns ys, which were xs at first, of which i are done
--     row_life        a row of turns that finds a proper list is a life of it
-- Assumes nothing.
use Rattle.std.proofs.Common.{◌≡◌, ℕ, suc, ◌+◌, ◌<◌, ◌≤◌, leb, List, [], ◌∷◌, ◌++◌, map, length, get_or, take, drop, set, sym, refl, ap, ◌∙◌, subst, add-one, arith, length-drop}
use Rattle.std.proofs.lemmas.List.{take_more, take_more_set, take_all, drop_more, drop-set-lt, length-append}
use Rattle.std.proofs.lemmas.Bool.{cond_both, leb-true}
use Rattle.marks.specs.declared.mark.Mark.{Mark}
use Rattle.marks.specs.Gives.{Close}
use Rattle.marks.specs.Proper.{AllProper}
use Rattle.marks.specs.TextsProper.{text_proper}
use Rattle.addresses.specs.Mailboxes.{Entry}
use Rattle.addresses.specs.Proper.{Proper}
use Rattle.addresses.specs.Written.{written_bytes}
use Rattle.addresses.specs.Writing.{needed}
use Rattle.addresses.specs.Events as model
use Rattle.addresses.specs.Events.{left_by, filled_by}
use Rattle.addresses.specs.Life.{Happens, Life}
use Rattle.addresses.specs.Life as law
use Rattle.addresses.specs.LifeLaws.{ProperEvent}
use Rattle.addresses.proofs.Living.{event_law, happens_as}
use Rattle.life.specs.declared.event.Event.{Event}
use Rattle.life.specs.declared.event.Event.TheVariants as event
use Rattle.life.specs.declared.turn.Turn.{Turn}
use Rattle.life.specs.Asked.{asked}
use Rattle.life.specs.Turns.{asked_in, told_in}
use Rattle.life.specs.Rows.{Turned, Row, none, next}

-- a writing keeps the length of its buffer, and nothing else touches it
room_kept : (l : List Entry) (e : model.Event) (b : List ℕ) → length (filled_by l e b) ≡ length b
room_kept l (model.a_read ms x) b = refl
room_kept l (model.an_addition a) b = refl
room_kept l (model.a_removal i o) b = refl
room_kept l (model.a_writing n) b =
    let t = written_bytes l in
    cond_both (leb (needed l) (length b)) (t ++ drop (needed l) b) b (λ x. length x ≡ length b)
    (λ h. omega (arith, leb-true (needed l) (length b) h, length-append t (drop (needed l) b), length-drop (needed l) b)) (λ _. refl)
room_kept l (model.a_question q) b = refl

module _ {S : Type 0} (waiting : S → List Mark) (close : S → Close) where
  row_more : {l j k : List Entry} {b d c : List ℕ} {ts us : List (Turn S)} {t u : Turn S} → Row waiting close l b ts us j d → Turned waiting close j d t u k c
      → Row waiting close l b (ts ++ t ∷ []) (us ++ u ∷ []) k c
  row_more none s = next s none
  row_more (next r row) s = next r (row_more row s)

  -- the i-th turn is done, and becomes y
  module _ {l j k : List Entry} {b d c : List ℕ} (xs ys : List (Turn S)) (i : ℕ) (z y : Turn S) (short : i < length xs) (same : length ys ≡ length xs)
      (row : Row waiting close l b (take i xs) (take i ys) j d) (left : drop i ys ≡ drop i xs) (step : Turned waiting close j d (get_or ys i z) y k c) where
    here : get_or ys i z ∷ drop (i + 1) ys ≡ get_or xs i z ∷ drop (i + 1) xs
    here = sym (drop_more ys i z (omega arith)) ∙ left ∙ drop_more xs i z short

    pub turn_left : drop (i + 1) (set ys i y) ≡ drop (i + 1) xs
    turn_left =
        let h = here in
        let t : drop (i + 1) ys ≡ drop (i + 1) xs = cc in
        let P : ℕ → Type 0 = λ n. drop n (set ys i y) ≡ drop n ys in
        subst P (sym (add-one i)) (drop-set-lt (suc i) ys i y (omega arith)) ∙ t

    pub turn_row : Row waiting close l b (take (i + 1) xs) (take (i + 1) (set ys i y)) k c
    turn_row =
        let h = here in
        let item : get_or ys i z ≡ get_or xs i z = cc in
        let P : List (Turn S) → Type 0 = λ ts. Row waiting close l b ts (take (i + 1) (set ys i y)) k c in
        let Q : List (Turn S) → Type 0 = λ us. Row waiting close l b (take i xs ++ get_or ys i z ∷ []) us k c in
        subst P (ap (λ x. take i xs ++ x ∷ []) item ∙ sym (take_more xs i z short)) (subst Q (sym (take_more_set ys i y (omega arith))) (row_more row step))

  pub turns_all : {l j : List Entry} {b d : List ℕ} (xs ys : List (Turn S)) (i : ℕ) → length xs ≤ i → length ys ≡ length xs → Row waiting close l b (take i xs) (take i ys) j d
      → Row waiting close l b xs ys j d
  turns_all {l} {j} {b} {d} xs ys i long same row =
      let P : List (Turn S) → Type 0 = λ x. Row waiting close l b x ys j d in
      let Q : List (Turn S) → Type 0 = λ y. Row waiting close l b (take i xs) y j d in
      subst P (take_all i xs long) (subst Q (take_all i ys (omega arith)) row)

  -- what any source gives is proper
  module _ (proper : (s : S) → AllProper (waiting s)) where
    asked_proper : (n : ℕ) (e : Event) (s : S) → ProperEvent (asked waiting close n e s)
    asked_proper n event.Read s = proper s
    asked_proper n (event.ReadText t) s = text_proper t.now 0
    asked_proper n (event.Add a) s = tt
    asked_proper n (event.Remove p) s = tt
    asked_proper n event.Write s = tt
    asked_proper n event.CountMailboxes s = tt
    asked_proper n event.CountEntries s = tt
    asked_proper n (event.Look p) s = tt

    pub row_life : (n : ℕ) {l k : List Entry} {b c : List ℕ} {ts us : List (Turn S)} → Proper l → length b ≡ n → Row waiting close l b ts us k c
        → Life l (map (asked_in waiting close n) ts) (map told_in us) k
    row_life n p e none = law.none
    row_life n {l} {k} {b} p e (next {j = j} {t = t} {u = u} s row) =
        let q = asked waiting close (length b) t.event t.source in
        let fit = asked_proper (length b) t.event t.source in
        let done = s.performed in
        let happens = happens_as l q (told_in u) j p fit done.answers done.leaves in
        let still = subst Proper (sym done.leaves) (event_law l q p fit).proper in
        law.next (subst (λ m. Happens l (asked_in waiting close m t) (told_in u) j) e happens)
        (row_life n still (ap length done.buffer ∙ room_kept l q b ∙ e) row)
