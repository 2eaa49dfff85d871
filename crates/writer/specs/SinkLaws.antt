-- The laws of each sink, proved: a counter, a room, a page, and the sink that puts backslashes before another one. Assumes nothing.
use Rattle.std.proofs.Common.{◌≡◌, ℕ, List, [], ◌∷◌, ◌++◌, sym, refl, ap, ◌∙◌, subst, arith}
use Rattle.std.specs.Borrow.{MutBor}
use Rattle.std.proofs.lemmas.Bool.{and_from}
use Rattle.std.proofs.lemmas.Str.{encodes-append}
use Rattle.std.proofs.lemmas.List.{append_assoc}
use lib.Utf8.{encodes}
use Rattle.addresses.specs.Written.{escape, escaped}
use Rattle.writer.specs.Placing.{Lays}
use Rattle.writer.specs.Sinks.{SinkLaws}
use Rattle.writer.specs.Taking.{Counted, TooMany, Spared, NoRoom, Written, Unwritten}
use Rattle.writer.specs.Texts.{byte_append, scalars_append, scalars_both}
use Rattle.writer.specs.Laying.{lays_none, lays_then, lays_inside}

pub counter_laws : SinkLaws Counted TooMany
counter_laws = record {
  nothing = λ s. omega arith;
  behind = λ s t u cs ds h k. omega (arith, byte_append cs ds);
  short = λ s cs ds h k. h (omega (arith, byte_append cs ds));
  late = λ s t cs ds h k j. k (omega (arith, byte_append cs ds));
}

pub room_laws : SinkLaws Spared NoRoom
room_laws = record {
  nothing = λ s. (refl, omega arith);
  behind = λ s t u cs ds h k. (scalars_append cs ds ∙ and_from _ _ h.0 k.0, omega (arith, byte_append cs ds));
  short = λ s cs ds h e k. h (scalars_both cs ds e).0 (omega (arith, byte_append cs ds));
  late = λ s t cs ds h k e j. k (scalars_both cs ds e).1 (omega (arith, byte_append cs ds));
}

pub page_laws : SinkLaws Written Unwritten
page_laws = record {
  nothing = λ s. (refl, refl, λ h. lays_none s.buffer.now s.place h);
  behind = λ s t u cs ds h k. (
    scalars_append cs ds ∙ and_from _ _ h.0 k.0,
    k.1 ∙ h.1,
    λ i.
        let first = h.2 i in
        let next = k.2 (lays_inside _ _ _ _ _ first).0 in
        subst (λ x. Lays s.buffer.now s.place x u.buffer.now u.place) (sym (encodes-append cs ds)) (lays_then _ _ (encodes cs) (encodes ds) _ _ _ _ first next),
  );
  short = λ s cs ds h i e k. h i (scalars_both cs ds e).0 (omega (arith, byte_append cs ds));
  late = λ s t cs ds h k i e j.
      let first = h.2 i in
      let inside = lays_inside _ _ _ _ _ first in
      k inside.0 (scalars_both cs ds e).1 (omega (arith, byte_append cs ds, first.place));
}

escaped_append : (cs ds : List ℕ) → escaped (cs ++ ds) ≡ escaped cs ++ escaped ds
escaped_append [] ds = refl
escaped_append (c ∷ cs) ds = ap (λ x. escape c ++ x) (escaped_append cs ds) ∙ sym (append_assoc (escape c) (escaped cs) (escaped ds))

-- it reaches the other sink by a reference
pub escaping_laws : {X S : Type 0} (sink : X → MutBor S) {took : S → List ℕ → S → Type 0} {refuses : S → List ℕ → Type 0} → SinkLaws took refuses
    → SinkLaws (λ s cs t. took (sink s).now (escaped cs) (sink t).now × ((sink t).ghost_name ≡ (sink s).ghost_name)) (λ s cs. refuses (sink s).now (escaped cs))
escaping_laws sink {took} {refuses} laws = record {
  nothing = λ s. (laws.nothing (sink s).now, refl);
  behind = λ s t u cs ds h k. (
    subst (λ x. took (sink s).now x (sink u).now) (sym (escaped_append cs ds)) (laws.behind _ _ _ (escaped cs) (escaped ds) h.0 k.0),
    k.1 ∙ h.1,
  );
  short = λ s cs ds h. subst (refuses (sink s).now) (sym (escaped_append cs ds)) (laws.short _ (escaped cs) (escaped ds) h);
  late = λ s t cs ds h k. subst (refuses (sink s).now) (sym (escaped_append cs ds)) (laws.late _ _ (escaped cs) (escaped ds) h.0 k);
}
