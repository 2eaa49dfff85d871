-- Texts given to a sink one behind the other. Assumes nothing.
--     takes_behind     a text that was taken, and another behind it that is taken or refused
--     takes_short      a text whose beginning is refused, as the exit of a `?` answers it
--     takes_escaped    what stands inside quotes, as the sink takes it that stands behind the one for that
--     Left took s text t rest    the text is being given to the sink s, which is now t: the rest of it is left
--     left_all, left_more, left_short    at first, and behind the next characters, taken or refused
use Rattle.std.proofs.Common.{◌≡◌, ℕ, List, [], ◌++◌, Ok, Err, Result, sym, ap, ◌∙◌, subst}
use Rattle.std.proofs.lemmas.List.{append_assoc}
use Rattle.std.specs.Borrow.{MutBor}
use Rattle.std.specs.Result.{IsErr}
use Rattle.addresses.specs.Written.{escaped}
use Rattle.writer.specs.Sinks.{Takes, SinkLaws}
use Rattle.writer.specs.declared.sink.Refused.{Refused}

abbrev pub Left : {S : Type 0} → (S → List ℕ → S → Type 0) → S → List ℕ → S → List ℕ → Type 0
Left took s text t rest = (done : List ℕ) × (text ≡ done ++ rest) × took s done t

module _ {S : Type 0} {took : S → List ℕ → S → Type 0} {refuses : S → List ℕ → Type 0} (laws : SinkLaws took refuses) where
  pub takes_behind : (s t u : S) (cs ds : List ℕ) (r : Result (Unit {0}) Refused) → took s cs t → Takes took refuses t ds r u → Takes took refuses s (cs ++ ds) r u
  takes_behind s t u cs ds (Ok _) h k = laws.behind s t u cs ds h k
  takes_behind s t u cs ds (Err _) h k = laws.late s t cs ds h k

  pub takes_short : (s t : S) (cs ds : List ℕ) (r : Result (Unit {0}) Refused) → IsErr r → refuses s cs → Takes took refuses s (cs ++ ds) r t
  takes_short s t cs ds (Ok _) e h = cc
  takes_short s t cs ds (Err _) e h = laws.short s cs ds h

  pub takes_escaped : {X : Type 0} (sink : X → MutBor S) (x y : X) (cs ds : List ℕ) (r : Result (Unit {0}) Refused) → ds ≡ escaped cs → (sink y).ghost_name ≡ (sink x).ghost_name
      → Takes took refuses (sink x).now ds r (sink y).now
      → Takes (λ a es b. took (sink a).now (escaped es) (sink b).now × ((sink b).ghost_name ≡ (sink a).ghost_name)) (λ a es. refuses (sink a).now (escaped es)) x cs r y
  takes_escaped sink x y cs ds (Ok _) e f h = (subst (λ z. took (sink x).now z (sink y).now) e h, f)
  takes_escaped sink x y cs ds (Err _) e f h = subst (refuses (sink x).now) e h

  -- ── in a loop ──

  pub left_all : (s : S) (text rest : List ℕ) → rest ≡ text → Left took s text s rest
  left_all s text rest e = ([], sym e, laws.nothing s)

  module _ (s t u : S) (text rest cs more : List ℕ) (e : rest ≡ cs ++ more) where
    pub left_more : Left took s text t rest → took t cs u → Left took s text u more
    left_more (done, whole, h) k = (done ++ cs, whole ∙ ap (λ x. done ++ x) e ∙ sym (append_assoc done cs more), laws.behind s t u done cs h k)

    pub left_short : (r : Result (Unit {0}) Refused) → IsErr r → Left took s text t rest → refuses t cs → Takes took refuses s text r u
    left_short r i (done, whole, h) k =
        subst (λ x. Takes took refuses s x r u) (sym (whole ∙ ap (λ x. done ++ x) e)) (takes_behind s t u done (cs ++ more) r h (takes_short t u cs more r i k))
