use Rattle.std.proofs.Common.{◌≡◌, ℕ, ◌<◌, ◌≤◌, ◌∷◌, [], ◌++◌, List, length, nat_le, false, sym, ap, ◌∙◌, arith}
use Rattle.std.proofs.lemmas.Iterator.{YieldsList-from_chars}
use Rattle.std.proofs.lemmas.Iterator.Consumers.{YieldsList-turn, YieldsList-end}
use Rattle.std.proofs.lemmas.List.{map-id, length-append}
use Rattle.std.proofs.lemmas.Bool.{leb-true, leb-false, lt-leb}
use Rattle.std.proofs.lemmas.Result.{err_from_is_err_and}
use Rattle.std.specs.Str.{chars}
use Rattle.addresses.specs.Limits.{short}
use Rattle.additions.proofs.row.fill.Goals as goal

-- where a part with one character more is too long for a row of 2,000 or more, so is the whole
too_long : (n : ℕ) (row ys cs : List ℕ) (c : ℕ) → row ≡ ys → length ys < length cs → false ≡ nat_le (length (row ++ c ∷ [])) n → 2000 ≤ n → false ≡ short cs
too_long n row ys cs c same more e wide =
    sym (lt-leb (length cs) 2000 (omega (arith, ap length same, length-append row (c ∷ []), leb-false (length (row ++ c ∷ [])) n (sym e))))

pub returns-in_err-push-clause-room : goal.returns-in_err-push-clause-room
returns-in_err-push-clause-room c =
    let t = YieldsList-turn (YieldsList-from_chars c.args.text.now c.utf8.text cc) c.loop-c.yielded _ c.loop-c.yielded_by _ _ c.in-Some.c c.in-Some.is c.next.ensures.steps in
    let full = too_long _ c.loop-c.row c.loop-c.yielded (chars c.args.text.now) c.from.result c.loop-c.invariant.0 t.0 c.in_err-push.ensures.room (omega arith) in
    let p = err_from_is_err_and c.from_residual.result c.from_residual.ensures.1 in
    rw p.1 full

pub returns : goal.returns
returns c =
    let t = YieldsList-end (YieldsList-from_chars c.args.text.now c.utf8.text cc) c.loop-c.yielded _ c.loop-c.yielded_by _ _ c.in-None.is c.next.ensures.steps in
    let all = sym (map-id c.loop-c.yielded) ∙ t.0 in
    record { room = sym (c.loop-c.invariant.1) ∙ ap short all; after = c.loop-c.invariant.0 ∙ all; few = omega (arith, ap length c.loop-c.invariant.0, leb-true (length c.loop-c.yielded) 2000 c.loop-c.invariant.1) }
