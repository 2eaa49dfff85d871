use Rattle.std.proofs.Common.{◌≡◌, ◌+◌, ◌/◌, true, [], ◌∷◌, arith}
use lib.Utf8.{scalar, low_scalar}
use Rattle.std.proofs.lemmas.Bool.Decides.{nat_tests}
use Rattle.characters.proofs.Padding.{written}
use Rattle.characters.proofs.Standing.{encode_one, encode_two, encode_three, encode_four}
use Rattle.characters.proofs.encoding.encode.Goals as goal

pub returns-then-c-lt128 : goal.returns-then-c-lt128
returns-then-c-lt128 c = written c.args.c _ (low_scalar c.args.c (omega arith)) (encode_one c.args.c c.if-c-lt128.true)

pub returns-then-c-lt2048 : goal.returns-then-c-lt2048
returns-then-c-lt2048 c =
    let bytes = encode_two c.args.c c.if-c-lt128.false c.if-c-lt2048.true in
    written c.args.c ((192 + c.args.c / 64) ∷ c.tail.result ∷ []) (low_scalar c.args.c (omega arith)) (cc)

pub returns-then-c-lt65536 : goal.returns-then-c-lt65536
returns-then-c-lt65536 c =
    let bytes = encode_three c.args.c c.if-c-lt2048.false c.if-c-lt65536.true in
    let apart = c.if-c-lt57344.either in
    let s : scalar c.args.c ≡ true = grind (arith, nat_tests) in
    written c.args.c ((224 + c.args.c / 4096) ∷ c.tail-then-c-lt65536.result ∷ c.tail-then-c-lt65536-2.result ∷ []) s (cc)

pub returns : goal.returns
returns c =
    let bytes = encode_four c.args.c c.if-c-lt65536.false in
    let s : scalar c.args.c ≡ true = grind (arith, nat_tests) in
    written c.args.c ((240 + c.args.c / 262144) ∷ c.tail-2.result ∷ c.tail-3.result ∷ c.tail-4.result ∷ []) s (cc)
