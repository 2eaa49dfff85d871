use Rattle.std.proofs.Common.{◌≡◌, ℕ, ◌-◌, ◌<◌, List, get_or, slice_get, Some, sym, ap, ◌∙◌, arith}
use lib.Count.{count_leading_zeros}
use Rattle.std.proofs.lemmas.Option.{get_or_from_slice_get}
use Rattle.characters.specs.Decoding.{of_two, of_three, of_four}
use Rattle.characters.proofs.Leading.{Led, led}
use Rattle.characters.proofs.Standing.{decoded_empty, decoded_first, lead_one, lead_two, lead_three, lead_four, lead_none}
use Rattle.characters.proofs.decoding.front.Goals as goal

led_first : (bs : List ℕ) (b n : ℕ) → Some b ≡ slice_get bs 0 → get_or bs 0 0 < 256 → n ≡ count_leading_zeros 8 (255 - b) → Led b n
led_first bs b n e h l = led b n (omega (arith, get_or_from_slice_get bs 0 b 0 (sym e))) l

pub returns-in_err-first : goal.returns-in_err-first
returns-in_err-first c = c.from_residual.ensures ∙ sym (decoded_empty c.args.bytes.now (omega (arith, c.in_err-first.ensures.item)))

pub overflow_sub-from : goal.overflow_sub-from
overflow_sub-from c = let range = (led_first _ _ _ c.in_ok-first.ensures.value (c.type_inv.bytes 0).fits c.leading_ones.ensures).two c.in-2.is in omega arith

pub long-requires : goal.long-requires
long-requires c = let range = (led_first _ _ _ c.in_ok-first.ensures.value (c.type_inv.bytes 0).fits c.leading_ones.ensures).two c.in-2.is in omega arith

pub overflow_sub-from-in-3 : goal.overflow_sub-from-in-3
overflow_sub-from-in-3 c = let range = (led_first _ _ _ c.in_ok-first.ensures.value (c.type_inv.bytes 0).fits c.leading_ones.ensures).three c.in-3.is in omega arith

pub long-requires-in-3 : goal.long-requires-in-3
long-requires-in-3 c = let range = (led_first _ _ _ c.in_ok-first.ensures.value (c.type_inv.bytes 0).fits c.leading_ones.ensures).three c.in-3.is in omega arith

pub overflow_sub-from-in-4 : goal.overflow_sub-from-in-4
overflow_sub-from-in-4 c = let range = (led_first _ _ _ c.in_ok-first.ensures.value (c.type_inv.bytes 0).fits c.leading_ones.ensures).four c.in-4.is in omega arith

pub long-requires-in-4 : goal.long-requires-in-4
long-requires-in-4 c = let range = (led_first _ _ _ c.in_ok-first.ensures.value (c.type_inv.bytes 0).fits c.leading_ones.ensures).four c.in-4.is in omega arith

pub returns-in-0 : goal.returns-in-0
returns-in-0 c =
    let range = (led_first _ _ _ c.in_ok-first.ensures.value (c.type_inv.bytes 0).fits c.leading_ones.ensures).one c.in-0.is in
    let first = decoded_first c.args.bytes.now _ (sym c.in_ok-first.ensures.value) in
    let shown = lead_one _ c.args.bytes.now range in
    ap (λ b. Some (b, 1)) c.from.ensures ∙ sym (first ∙ shown)

pub returns-in-2 : goal.returns-in-2
returns-in-2 c =
    let range = (led_first _ _ _ c.in_ok-first.ensures.value (c.type_inv.bytes 0).fits c.leading_ones.ensures).two c.in-2.is in
    let first = decoded_first c.args.bytes.now _ (sym c.in_ok-first.ensures.value) in
    let shown = lead_two _ c.args.bytes.now range.0 range.1 in
    c.long.ensures ∙ ap (λ b. of_two (b - 192) c.args.bytes.now) c.from-in-2.ensures ∙ sym (first ∙ shown)

pub returns-in-3 : goal.returns-in-3
returns-in-3 c =
    let range = (led_first _ _ _ c.in_ok-first.ensures.value (c.type_inv.bytes 0).fits c.leading_ones.ensures).three c.in-3.is in
    let first = decoded_first c.args.bytes.now _ (sym c.in_ok-first.ensures.value) in
    let shown = lead_three _ c.args.bytes.now range.0 range.1 in
    c.long-in-3.ensures ∙ ap (λ b. of_three (b - 224) c.args.bytes.now) c.from-in-3.ensures ∙ sym (first ∙ shown)

pub returns-in-4 : goal.returns-in-4
returns-in-4 c =
    let range = (led_first _ _ _ c.in_ok-first.ensures.value (c.type_inv.bytes 0).fits c.leading_ones.ensures).four c.in-4.is in
    let first = decoded_first c.args.bytes.now _ (sym c.in_ok-first.ensures.value) in
    let shown = lead_four _ c.args.bytes.now range.0 range.1 in
    c.long-in-4.ensures ∙ ap (λ b. of_four (b - 240) c.args.bytes.now) c.from-in-4.ensures ∙ sym (first ∙ shown)

pub returns-in_default : goal.returns-in_default
returns-in_default c =
    let range = (led_first _ _ _ c.in_ok-first.ensures.value (c.type_inv.bytes 0).fits c.leading_ones.ensures).none (λ e. omega arith) (λ e. omega arith) (λ e. omega arith) (λ e. omega arith) in
    let first = decoded_first c.args.bytes.now _ (sym c.in_ok-first.ensures.value) in
    let shown = lead_none _ c.args.bytes.now range.0 range.1 in
    sym (first ∙ shown)
