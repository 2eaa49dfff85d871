use Rattle.std.proofs.Common.{◌≡◌, suc, ◌-◌, None, sym, ap, ◌∙◌, arith}
use Rattle.characters.specs.Decoding.{six, bits, checked}
use Rattle.characters.proofs.Standing.{bits_missing}
use Rattle.characters.proofs.decoding.long.Goals as goal

pub returns-in_err-c : goal.returns-in_err-c
returns-in_err-c c =
    let bs = c.args.bytes.now in
    let next : suc (c.loop-k.k - 1) ≡ c.loop-k.k = omega arith in
    let missing : six bs (suc (c.loop-k.k - 1)) ≡ None = ap (six bs) next ∙ sym c.continuation.ensures ∙ c.in_err-c.was in
    c.from_residual.ensures
    ∙ ap (checked c.args.length c.args.least) (sym (bits_missing c.args.high bs (c.loop-k.k - 1) (c.args.length - 1) c.loop-k.c c.loop-k.invariant.0 missing (omega arith)))

pub returns : goal.returns
returns c =
    let end : c.loop-k.k - 1 ≡ c.args.length - 1 = omega arith in
    c.character.ensures
    ∙ ap (checked c.args.length c.args.least) (sym c.loop-k.invariant.0 ∙ ap (bits c.args.high c.args.bytes.now) end)
