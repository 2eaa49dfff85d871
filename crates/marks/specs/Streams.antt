-- Streams: what a source gives from here on, as one value.
--     Stream          the marks that come, and the close behind them
--     closed c        no mark, and the close c
--     begins ms s     the marks ms, and then s
--     follows s t     s, and then t, unless s breaks
--     Moves s r t     where s is to come, r is answered, and then t is to come; no mark may be answered, and t is then the same
-- The lemmas turn such a step into what `next` owes. Assumes nothing.
use Rattle.std.specs.Prelude.{◌≡◌, List, [], ◌∷◌, ◌++◌, Some, None, Ok, Err, Option, Result, refl}
use Rattle.std.proofs.Common.{sym, ap, subst, append_assoc, append-nil}
use Rattle.marks.specs.declared.mark.Mark.{Mark}
use Rattle.marks.specs.declared.fault.Fault.{Fault}
use Rattle.marks.specs.Gives.{Close, closing, Gives}
use Rattle.marks.specs.Proper.{AllProper, proper-++}

pub record Stream : Type 0 where
  pub marks : List Mark
  pub close : Close

abbrev pub closed : Close → Stream
closed c = record { marks = []; close = c }

abbrev pub ended : Stream
ended = closed (Ok tt)

abbrev pub broken : Fault → Stream
broken f = closed (Err f)

abbrev pub begins : List Mark → Stream → Stream
begins ms s = record { marks = ms ++ s.marks; close = s.close }

abbrev pub behind : List Mark → Close → Stream → Stream
behind ms (Ok tt) t = begins ms t
behind ms (Err f) t = record { marks = ms; close = Err f }

abbrev pub follows : Stream → Stream → Stream
follows s t = behind s.marks s.close t

abbrev pub Moves : Stream → Result (Option Mark) Fault → Stream → Type 0
Moves s (Ok (Some m)) t = s ≡ begins (m ∷ []) t
Moves s (Ok None) t = s ≡ t
Moves s (Err f) t = (s ≡ broken f) × (t ≡ broken f)

-- `next` of a source whose stream is s before and t after
abbrev pub Next : Stream → Result (Option Mark) Fault → Stream → Type 0
Next s r t = Gives s.marks s.close r t.marks t.close

pub gives_mark : (s t : Stream) (m : Mark) → s ≡ begins (m ∷ []) t → Next s (Ok (Some m)) t
gives_mark s t m e = subst (λ (u : Stream). Next u (Ok (Some m)) t) (sym e) (record { answers = refl; leaves = refl; keeps = refl })

pub gives_close : (s t : Stream) (c : Close) (r : Result (Option Mark) Fault) → s ≡ closed c → t ≡ closed c → r ≡ closing c → Next s r t
gives_close s t c r e f g =
    subst (λ (u : Stream). Next u r t) (sym e) (subst (λ (u : Stream). Next (closed c) r u) (sym f) (record { answers = g; leaves = refl; keeps = refl }))

-- a step that only changes how the stream is held
pub same_then : (s t u : Stream) (r : Result (Option Mark) Fault) → s ≡ t → Next t r u → Next s r u
same_then s t u r e n = subst (λ (v : Stream). Next v r u) (sym e) n

pub follows_begins : (ms : List Mark) (s t : Stream) → follows (begins ms s) t ≡ begins ms (follows s t)
follows_begins ms s t = by s.close
  where
    by : (c : Close) → behind (ms ++ s.marks) c t ≡ begins ms (behind s.marks c t)
    by (Ok tt) = ap (λ l. record { marks = l; close = t.close }) (append_assoc ms s.marks t.marks)
    by (Err f) = refl

pub follows_assoc : (s t u : Stream) → follows (follows s t) u ≡ follows s (follows t u)
follows_assoc s t u = by s.close
  where
    by : (c : Close) → follows (behind s.marks c t) u ≡ behind s.marks c (follows t u)
    by (Ok tt) = follows_begins s.marks t u
    by (Err f) = refl

pub follows_ended : (s : Stream) → follows s ended ≡ s
follows_ended s = by s.close refl
  where
    by : (c : Close) → s.close ≡ c → behind s.marks c ended ≡ s
    by (Ok tt) e = (λ i. record { marks = append-nil s.marks i; close = sym e i })
    by (Err f) e = (λ i. record { marks = s.marks; close = sym e i })

pub follows_proper : (s t : Stream) → AllProper s.marks → AllProper t.marks → AllProper (follows s t).marks
follows_proper s t p q = by s.close
  where
    by : (c : Close) → AllProper (behind s.marks c t).marks
    by (Ok tt) = proper-++ s.marks t.marks p q
    by (Err f) = p
