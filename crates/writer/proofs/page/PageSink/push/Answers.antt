use Rattle.std.proofs.Common.{◌+◌, leb, [], ◌++◌, length, take, set, sym, refl, ap, ◌∙◌, subst, arith}
use Rattle.std.proofs.lemmas.Bool.{and_from, cond-true, leb-true}
use Rattle.std.proofs.lemmas.Option.{cond_some}
use Rattle.std.proofs.lemmas.List.{append-nil}
use Rattle.std.proofs.lemmas.Str.{encode_ascii}
use lib.Utf8.{encode, low_scalar}
use Rattle.writer.specs.Placing.{Lays}
use Rattle.writer.specs.Laying.{set_laid}
use Rattle.writer.proofs.Encoded.{found_inside, found_bytes, found_length, found_scalar}
use Rattle.writer.proofs.page.PageSink.push.Goals as goal

pub returns-then-self-clause-takes : goal.returns-then-self-clause-takes
returns-then-self-clause-takes c =
    let s = c.args.self.now in
    let bytes = s.buffer.now in
    let one = ap (λ x. x ++ []) (encode_ascii c.args.c c.if-c-lt128.true) in (
      and_from _ _ (low_scalar c.args.c (omega arith)) refl,
      refl,
      λ h. subst (λ x. Lays bytes s.place x (set bytes s.place c.args.c) (s.place + 1)) (sym one)
          (record { bytes = set_laid bytes s.place c.args.c c.if-self.true; place = refl; inside = omega arith }),
    )

pub slice_bounds-bytes-end : goal.slice_bounds-bytes-end
slice_bounds-bytes-end c =
    let found = c.in-Some.found in
    let e = c.in-Some.ensures in
    found_inside c.args.c found (found_scalar c.args.c found e) e

pub slice_bounds-put_bytes-end-2 : goal.slice_bounds-put_bytes-end-2
slice_bounds-put_bytes-end-2 c =
    let found = c.in-Some.found in
    let e = c.in-Some.ensures in
    found_length c.args.c found (found_scalar c.args.c found e) e

pub returns-clause-takes : goal.returns-clause-takes
returns-clause-takes c =
    let s = c.args.self.now in
    let b = s.buffer.now in
    let found = c.in-Some.found in
    let e = c.in-Some.ensures in
    let character = found_scalar c.args.c found e in
    let end = s.place + length (take found.1 found.0) in
    let put = c.put_bytes.ensures in
    let there = cond_some (leb end (length b)) end c.in_ok-self.field-0 (sym put.answer ∙ c.in_ok-self.ensures.ok_part) in
    let bytes = found_bytes c.args.c found character e ∙ sym (append-nil (encode c.args.c)) in (
      and_from _ _ character refl,
      refl,
      λ h. subst (λ x. Lays b s.place x c.put_bytes.new.out c.in_ok-self.field-0) bytes
          (record { bytes = put.buffer ∙ cond-true _ _ _ there.0; place = sym there.1; inside = leb-true _ _ there.0 }),
    )
